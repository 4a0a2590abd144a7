use Rattle.std.proofs.Common.{Err, sym, subst}
use Rattle.nine_wire.specs.declared.message.Request.{Request}
use Rattle.nine_wire.specs.Views.{message_of}
use Rattle.nine_view.specs.declared.error.AnswerError.TheVariants.{Refused}
use Rattle.nine_view.specs.declared.request_error.RequestError.TheVariants.{VersionExpected}
use Rattle.nine_view.specs.Answers.{Answer, answer_first}
use Rattle.nine_view.specs.Handling.{SettlesSo}
use Rattle.nine_view.proofs.Asking.{not_first}
use Rattle.nine_view.proofs.Settled.{refused_here}
use Rattle.nine_view.proofs.view.View.answer_first.Goals as goal

pub returns-in-Version : goal.returns-in-Version
returns-in-Version c =
    subst (λ (r : Request). SettlesSo c.args.tag c.args.self.now c.version.new.self
    c.version.new.out c.version.result (answer_first c.args.self.now (message_of r)))
    (sym c.in-Version.is) c.version.ensures

pub returns-in_default : goal.returns-in_default
returns-in_default c =
    rw c.into.ensures (subst (λ (a : Answer). SettlesSo c.args.tag c.args.self.now
    c.args.self.now c.args.out.now (Err (Refused VersionExpected)) a)
    (sym (not_first c.args.self.now c.args.request.now c.in_default.not-Version))
    (refused_here c.args.tag c.args.self.now c.args.out.now VersionExpected))
