-- the size isn't one of all commands
use Rattle.std.proofs.Common.{◌≡◌, false, rules, ◌∙◌}
use Rattle.std.proofs.lemmas.Result.{IfOk-weaker}
use Rattle.vt_cli.proofs.Globals.{or_not}
use Rattle.vt_cli.proofs.venti.with_size.Goals as goal

pub returns-clause-local : goal.returns-clause-local
returns-clause-local c =
    let local : c.help.result.global ≡ false = search rules in
    IfOk-weaker c.arg.result _ _ (λ it adds. adds.globals ∙ or_not _ _ local) c.arg.ensures
