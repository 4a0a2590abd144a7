use Rattle.std.proofs.Common.{◌≡◌, ◌≤◌, ℕ, Result, Err, refl, sym, ◌∙◌, ap, subst, arith}
use Rattle.std.specs.Prelude.{IsErrOf}
use Rattle.nine_wire.specs.declared.message.NineError.{NineError}
use Rattle.nine_wire.specs.declared.message.NineError.TheVariants.{Bad, Unknown}
use Rattle.nine_wire.specs.Messages.{RMessage}
use Rattle.nine_wire.specs.Views.{message_of}
use Rattle.nine_view.specs.declared.request_error.RequestError.TheVariants.{BadMessage, UnknownMessage}
use Rattle.nine_view.specs.Answers.{misspelled, request, unknown}
use Rattle.nine_view.specs.Handling.{Says, SaysSo}
use Rattle.nine_view.proofs.Replied.{misread, replied}
use Rattle.nine_view.proofs.view.View.answer.Goals as goal

pub returns-in-Ok-clause-replies : goal.returns-in-Ok-clause-replies
returns-in-Ok-clause-replies g c =
    let spells = c.in-Ok.ensures.ok in
    let says = subst (λ (n : ℕ). (reply : RMessage)
    → SaysSo c.in-Ok.tag n c.answer_request-answer.new.out c.answer_request-answer.result reply
    → Says c.in-Ok.tag n c.said.new.out c.said.result.len reply) c.limit-limit.ensures.is
    c.said.ensures.said in
    replied g.B.Blocks.does g.B.Blocks.holds g.B.Scorer.score_of c.args.blocks.now c.args.self.now
    c.args.message.now c.in-Ok.tag (request (message_of c.in-Ok.request))
    (record {
      type = spells.type;
      parameters = spells.parameters;
      frame = spells.frame;
      is = spells.body;
    })
    c.said.new.out c.said.result.len c.said.result.failure c.answer_request-answer.new.blocks
    c.answer_request-answer.new.self c.answer_request-answer.new.out c.answer_request-answer.result
    c.answer_request-answer.ensures
    says
    c.said.ensures.failure

pub returns-in-Err-Unknown-clause-replies : goal.returns-in-Err-Unknown-clause-replies
returns-in-Err-Unknown-clause-replies g c =
    let tag : ℕ = c.in-Err-Unknown.tag in
    let is : c.decode.result ≡ Err (Unknown tag) =
    c.in-Err-Unknown.is ∙ ap (λ (b : NineError). Err b) c.in-Err-Unknown.field-0-is in
    let bad = (c.decode.ensures.unknown tag).0
    (subst (λ (r : Result _ NineError). IsErrOf r (Unknown tag)) (sym is) refl) in
    misread g.B.Blocks.does g.B.Blocks.holds g.B.Scorer.score_of c.args.blocks.now c.args.self.now
    c.args.message.now tag unknown
    (record {
      type = bad.type;
      parameters = bad.parameters;
      frame = bad.frame;
      is = bad.unknown;
    })
    c.refuse.new.out c.refuse.result.len c.refuse.result.failure UnknownMessage refl
    (subst (λ (n : ℕ). 256 ≤ n) c.limit-limit.ensures.is c.limit-limit.ensures.least)
    (rw c.in-Err-Unknown.field-0-is at c.refuse.ensures.says) c.refuse.ensures.failure

pub returns-in-Err-Bad-clause-replies : goal.returns-in-Err-Bad-clause-replies
returns-in-Err-Bad-clause-replies g c =
    let tag : ℕ = c.in-Err-Bad.tag in
    let is : c.decode.result ≡ Err (Bad tag) =
    c.in-Err-Bad.is ∙ ap (λ (b : NineError). Err b) c.in-Err-Bad.field-0-is in
    let bad = (c.decode.ensures.bad tag).0
    (subst (λ (r : Result _ NineError). IsErrOf r (Bad tag)) (sym is) refl) in
    misread g.B.Blocks.does g.B.Blocks.holds g.B.Scorer.score_of c.args.blocks.now c.args.self.now
    c.args.message.now tag misspelled
    (record {
      type = bad.type;
      parameters = bad.parameters;
      frame = bad.frame;
      is = (bad.known, bad.none);
    })
    c.refuse-in-Err-Bad.new.out c.refuse-in-Err-Bad.result.len c.refuse-in-Err-Bad.result.failure BadMessage refl
    (subst (λ (n : ℕ). 256 ≤ n) c.limit-limit.ensures.is c.limit-limit.ensures.least)
    (rw c.in-Err-Bad.field-0-is at c.refuse-in-Err-Bad.ensures.says)
    c.refuse-in-Err-Bad.ensures.failure

pub returns-in-Ok-clause-short : goal.returns-in-Ok-clause-short
returns-in-Ok-clause-short g c =
    let says = subst (λ (n : ℕ). (reply : RMessage)
    → SaysSo c.in-Ok.tag n c.answer_request-answer.new.out c.answer_request-answer.result reply
    → Says c.in-Ok.tag n c.said.new.out c.said.result.len reply) c.limit-limit.ensures.is
    c.said.ensures.said in
    let so = c.answer_request-answer.ensures in
    (says so.reply so.says).short

pub returns-in-Err-Unknown-clause-short : goal.returns-in-Err-Unknown-clause-short
returns-in-Err-Unknown-clause-short g c =
    let short = c.refuse.ensures.says.short in
    let least = subst (λ (n : ℕ). 256 ≤ n) c.limit-limit.ensures.is c.limit-limit.ensures.least in
    omega arith

pub returns-in-Err-Bad-clause-short : goal.returns-in-Err-Bad-clause-short
returns-in-Err-Bad-clause-short g c =
    let short = c.refuse-in-Err-Bad.ensures.says.short in
    let least = subst (λ (n : ℕ). 256 ≤ n) c.limit-limit.ensures.is c.limit-limit.ensures.least in
    omega arith
