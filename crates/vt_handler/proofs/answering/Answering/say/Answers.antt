-- no turn at the end, and else one
use Rattle.std.proofs.Common.{◌≡◌, List, ℕ, ◌∙◌, ap, sym, append-nil}
use Rattle.std.specs.Option.{option_or}
use Rattle.vt_base.specs.Operations.{operation_of, result_of}
use Rattle.vt_base.specs.Protocol.{r_error, r_hello}
use Rattle.vt_wire.specs.Rules.{rule_words}
use Rattle.vt_handler.proofs.Doing.{does_asked, does_one}
use Rattle.vt_handler.proofs.Items.{asked_item, no_item, ping_item, same_reply, settled_item}
use Rattle.vt_handler.proofs.answering.Answering.say.Goals as goal
use Rattle.vt_handler.proofs.answering.Answering.say.Goals.{in-Block-1, in-Score-1}

pub returns-in-End-clause-answers : goal.returns-in-End-clause-answers
returns-in-End-clause-answers g c h hold =
    rw c.in-End.is (no_item g.T.Store c.args.store.now h c.args.self.now.failure _ hold
    (sym (append-nil c.args.self.now.waiting)))

pub returns-in-Refused-clause-answers : goal.returns-in-Refused-clause-answers
returns-in-Refused-clause-answers g c h hold =
    let words : List ℕ = rule_words c.in-Refused.rule in
    let is : c.as_bytes-text.result.now ≡ words =
    c.as_bytes-text.ensures.value ∙ c.rule_text.ensures in
    rw (c.in-Refused.is, ← c.self.view_is) (settled_item g.T.Store c.args.store.now h
    c.self.inside.failure _ c.in-Refused.tag (r_error words) hold (rw is at c.push.ensures))

pub returns-in-Refused-clause-says : goal.returns-in-Refused-clause-says
returns-in-Refused-clause-says g c =
    let words : List ℕ = rule_words c.in-Refused.rule in
    let is : c.as_bytes-text.result.now ≡ words =
    c.as_bytes-text.ensures.value ∙ c.rule_text.ensures in
    rw (c.in-Refused.is, ← c.self.view_is) (r_error words, rw is at c.push.ensures)

pub returns-in-Hello-clause-answers : goal.returns-in-Hello-clause-answers
returns-in-Hello-clause-answers g c h hold =
    rw (c.in-Hello.is, ← c.self.view_is) (settled_item g.T.Store c.args.store.now h
    c.self.inside.failure _ c.in-Hello.tag r_hello hold c.push-in-Hello.ensures)

pub returns-in-Ping-clause-answers : goal.returns-in-Ping-clause-answers
returns-in-Ping-clause-answers g c h hold =
    rw (c.in-Ping.is, ← c.self.view_is) (ping_item g.T.Store c.args.store.now h
    c.self.inside.failure _ c.in-Ping.tag hold c.push-in-Ping.ensures)

pub returns-in-Ask-clause-answers : goal.returns-in-Ask-clause-answers
returns-in-Ask-clause-answers g c h hold =
    let is : c.match-said.self ≡ record {
      waiting = c.push-in-Ask.new.self;
      failure = c.or-self-inside.result;
    } = elim c.match-said.branch [ in-Block-1 w ↦ w.self-is | in-Score-1 w ↦ w.self-is ] in
    let said = c.ask-said.result in
    rw (c.in-Ask.is, is, ← c.self.view_is) (asked_item g.T.Store c.args.store.now
    c.ask-said.new.self h c.self.inside.failure c.or-self-inside.result _ c.in-Ask.tag
    c.ask-said.ensures.goes_on (operation_of c.in-Ask.operation) (result_of said)
    (c.ask-said.ensures.serves h hold)
    (does_asked g.T.Store c.args.store.now c.ask-said.new.self c.in-Ask.operation (result_of said)
    c.ask-said.ensures.once)
    (c.or-self-inside.ensures ∙ ap (option_or c.self.inside.failure) c.failure_of.ensures)
    (rw (c.reply.ensures.says ∙ sym (same_reply said)) at c.push-in-Ask.ensures))

pub returns-in-Ask-clause-does : goal.returns-in-Ask-clause-does
returns-in-Ask-clause-does g c =
    let is : c.match-said.self ≡ record {
      waiting = c.push-in-Ask.new.self;
      failure = c.or-self-inside.result;
    } = elim c.match-said.branch [ in-Block-1 w ↦ w.self-is | in-Score-1 w ↦ w.self-is ] in
    let said = c.ask-said.result in
    rw (is, ← c.self.view_is) (does_one g.T.Store c.args.store.now c.ask-said.new.self
    (operation_of c.in-Ask.operation) (result_of said) c.self.inside.failure
    c.or-self-inside.result
    (does_asked g.T.Store c.args.store.now c.ask-said.new.self c.in-Ask.operation (result_of said)
    c.ask-said.ensures.once)
    (c.or-self-inside.ensures ∙ ap (option_or c.self.inside.failure) c.failure_of.ensures))
