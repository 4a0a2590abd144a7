-- one command after another
use Rattle.std.proofs.Common.{ap, ◌∙◌}
use Rattle.std.proofs.lemmas.Result.{IfOk-weaker}
use Rattle.clap.specs.Simple.{app_of_fields}
use Rattle.vt_cli.proofs.venti.venti.Goals as goal

pub returns : goal.returns
returns c =
    let named = IfOk-weaker c.bin_name-program.result _ _
    (λ it is. ap app_of_fields is.0 ∙ c.program.ensures) c.bin_name-program.ensures in
    let one = c.with_command-program.ensures _ _ named c.session.ensures.app in
    let two = c.with_command-program-2.ensures _ _ one c.fmtarenas.ensures.app in
    let three = c.with_command-program-3.ensures _ _ two c.fmtisect.ensures.app in
    let four = c.with_command-program-4.ensures _ _ three c.fmtbloom.ensures.app in
    let five = c.with_command-program-5.ensures _ _ four c.fmtindex.ensures.app in
    let six = c.with_command-program-6.ensures _ _ five c.buildindex.ensures.app in
    let seven = c.with_command-program-7.ensures _ _ six c.checkarenas.ensures.app in
    let eight = c.with_command-program-8.ensures _ _ seven c.read.ensures.app in
    let nine = c.with_command-program-9.ensures _ _ eight c.write.ensures.app in
    let ten = c.with_command-program-10.ensures _ _ nine c.rehearse.ensures.app in
    let eleven = c.with_command-program-11.ensures _ _ ten c.vac.ensures.app in
    c.with_command.ensures _ _ eleven c.vacfs.ensures.app
