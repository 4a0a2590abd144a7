-- one command more
use Rattle.std.proofs.Common.{◌≡◌, ap, ap₂, ◌∙◌, subst}
use Rattle.std.specs.Prelude.{IfOk}
use Rattle.std.proofs.lemmas.Result.{IfOk-weaker}
use Rattle.clap.specs.Words.{App, Shape, app_of, with_subcommand}
use Rattle.vt_cli.proofs.venti.with_command.Goals as goal

abbrev top : App → Shape
top a = a.top

pub returns : goal.returns
returns c = λ app sub whole part.
    let one = subst (λ r. IfOk r (λ it. app_of it ≡ app)) c.in-Ok.is whole in
    let two = subst (λ r. IfOk r (λ it. app_of it ≡ sub)) c.in-Ok-command.is part in
    IfOk-weaker c.add.result _ _
    (λ it adds. adds ∙ ap₂ with_subcommand one (ap top two)) c.add.ensures
