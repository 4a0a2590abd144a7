use Rattle.std.proofs.Common.{◌≢◌, ⊎_elim, List, ℕ, refl, ◌∙◌, ap, subst}
use Rattle.vt_base.specs.Protocol.{sync, write}
use Rattle.vt_base.specs.declared.operation.Operation.TheVariants as asks
use Rattle.vt_core.specs.declared.event.Out.{Out}
use Rattle.vt_core.specs.Steps.{Steps}
use Rattle.vt_rehearse.specs.Rehearsal.{AsksForOperation, asked_by}
use Rattle.vt_rehearse.specs.Words.{word_of}
use Rattle.vt_rehearse.proofs.Asking.{may_give, not_given, write_answered, write_at_once}
use Rattle.vt_rehearse.proofs.writing.ask_to_write.Goals as goal

pub returns-clause-right : goal.returns-clause-right
returns-clause-right g c other =
    let score = g.S.Scorer.score_of in
    let old = c.args.stage.now in
    let new = c.step_apart.new.self in
    let a = c.in-Said.answer in
    let alike = c.requires.alike in
    let request = asks.Write 13 c.as_slice.result in
    let is_for : AsksForOperation (write 13 (word_of c.args.word)) request = ap (λ (b : List ℕ). write 13 b) (c.as_slice.ensures ∙ c.new-block.ensures) in
    ⊎_elim
    (λ none. absurd (other none))
    (λ wrote. (
      wrote.is_held,
      record {
        request = request;
        is_for = is_for;
        said = a.said;
        tells = record { at = a.at; steps = c.in-Said.ensures.steps };
        as_listed = wrote.is;
      },
      refl,
      record { history = wrote.next; store = wrote.goes; free = wrote.free ∙ alike.free; list = wrote.words; filled = wrote.filled },
    ))
    (write_answered score g.D.Disk c.requires.memory c.requires.apart c.args.word c.requires.word c.args.session request a alike.history old.listed alike.list old.core new.core alike.store c.in-Said.ensures.steps alike.filled is_for)

pub unreachable-requires : goal.unreachable-requires
unreachable-requires g c =
    let score = g.S.Scorer.score_of in
    let old = c.args.stage.now in
    let new = c.step_apart.new.self in
    let alike = c.requires.alike in
    let request = asks.Write 13 c.as_slice.result in
    let is_for : AsksForOperation (write 13 (word_of c.args.word)) request = ap (λ (b : List ℕ). write 13 b) (c.as_slice.ensures ∙ c.new-block.ensures) in
    let other : write 13 (word_of c.args.word) ≢ sync = λ same. absurd (cc) in
    not_given c.step_apart.result
    (may_give score g.D.Disk c.requires.memory c.args.session request (write 13 (word_of c.args.word)) c.step_apart.result alike.history old.core new.core other is_for alike.store alike.free c.step_apart.ensures.steps)
    c.in_default.not-Said
    (λ again. write_at_once score g.D.Disk c.requires.memory c.requires.apart c.args.word c.requires.word c.args.session c.requires.session request alike.history old.listed alike.list old.core new.core alike.store alike.free
    c.dirty_entries_differ.ensures is_for (subst (λ (out : Out). Steps score g.D.Disk (asked_by c.args.session request) out old.core new.core) again c.step_apart.ensures.steps))
