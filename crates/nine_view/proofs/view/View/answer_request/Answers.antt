use Rattle.std.proofs.Common.{◌≡◌, ℕ, Option, Some, None, sym, ◌∙◌, ap, subst}
use Rattle.std.specs.Prelude.{IfSome}
use Rattle.nine_wire.specs.Messages.{TMessage}
use Rattle.nine_wire.specs.Views.{message_of}
use Rattle.nine_view.specs.Answers.{answer_request}
use Rattle.nine_view.specs.Handling.{Handles}
use Rattle.nine_view.specs.Kept.{IsMessageSize}
use Rattle.nine_view.specs.Known.{ViewState}
use Rattle.nine_view.proofs.Handled.{settles}
use Rattle.nine_view.proofs.view.View.answer_request.Goals as goal

pub answer_agreed-requires-clause-least : goal.answer_agreed-requires-clause-least
answer_agreed-requires-clause-least g c =
    (subst (λ (o : Option ℕ). IfSome o IsMessageSize) c.in-Some.is c.self.invariant.1.msize).least

pub returns-in-Some : goal.returns-in-Some
returns-in-Some g c =
    let known : ViewState = c.args.self.now in
    let m : TMessage = message_of c.args.request.now in
    let agreed : known.msize ≡ Some c.in-Some.msize =
    ap (λ (k : ViewState). k.msize) (sym c.self.view_is) ∙ c.in-Some.is in
    subst (λ (o : Option ℕ). Handles g.B.Blocks.does g.B.Blocks.holds g.B.Scorer.score_of
    c.args.blocks.now c.answer_agreed.new.blocks c.args.tag known c.answer_agreed.new.self
    c.answer_agreed.new.out c.answer_agreed.result (answer_request known o m)) (sym agreed)
    c.answer_agreed.ensures

pub returns-in-None : goal.returns-in-None
returns-in-None g c =
    let known : ViewState = c.args.self.now in
    let m : TMessage = message_of c.args.request.now in
    let none : known.msize ≡ None =
    ap (λ (k : ViewState). k.msize) (sym c.self.view_is) ∙ c.in-None.is in
    subst (λ (o : Option ℕ). Handles g.B.Blocks.does g.B.Blocks.holds g.B.Scorer.score_of
    c.args.blocks.now c.args.blocks.now c.args.tag known c.answer_first.new.self
    c.answer_first.new.out c.answer_first.result (answer_request known o m)) (sym none)
    (settles g.B.Blocks.does g.B.Blocks.holds g.B.Scorer.score_of c.args.blocks.now c.args.tag known
    c.answer_first.new.self c.answer_first.new.out c.answer_first.result _ c.answer_first.ensures)
