-- by what clap answers at the program's command line
use Rattle.std.proofs.Common.{◌≡◌, ◌⊎◌, List, ap, sym, ◌∙◌, subst, map}
use Rattle.std.proofs.lemmas.Result.{IfOk-weaker}
use Rattle.clap.specs.Words.{App, Text, fault_of, is_simple, is_simple_and_free, kind_of, subcommand_of, IsAmong}
use Rattle.clap.specs.declared.error.kind.ErrorKind.TheVariants.{OutOfMemory}
use Rattle.vt_cli.specs.Words.{said_by, IsSpoken}
use Rattle.vt_cli.proofs.Asking.{is_simple_here, is_free_here, spoken_asks, unspoken_asks}
use Rattle.vt_cli.proofs.asked.ask.Goals as goal

pub returns-in-Ok : goal.returns-in-Ok
returns-in-Ok g c =
    let is = c.in_ok-venti.ensures in
    let words : List Text = map g.S.AsStr.text c.args.words.now in
    let none = ap (λ (a : App). fault_of a words) (sym is)
    ∙ c.in-Ok.ensures.kinds (ap is_simple_and_free is ∙ is_free_here) in
    let met = (c.in-Ok.ensures.matches (ap is_simple is ∙ is_simple_here)).1
    ∙ ap (λ (a : App). subcommand_of a words) is in
    IfOk-weaker c.spoken.result _ _ (λ asked said. spoken_asks words asked none
    (subst (λ m. IsSpoken (said_by m) asked) met said)) c.spoken.ensures

pub returns-in-Err : goal.returns-in-Err
returns-in-Err g c =
    let is = c.in_ok-venti.ensures in
    let words : List Text = map g.S.AsStr.text c.args.words.now in
    let kind = kind_of c.in-Err.error in
    let has = subst (λ (a : App). (kind ≡ OutOfMemory) ⊎ IsAmong kind (fault_of a words)) is
    (c.in-Err.ensures.kinds (ap is_simple_and_free is ∙ is_free_here)) in
    IfOk-weaker c.unspoken.result _ _ (λ asked said. unspoken_asks words kind asked has said)
    c.unspoken.ensures
