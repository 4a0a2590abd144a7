use Rattle.std.proofs.Common.{⊎_elim, List, ℕ, refl, ◌∙◌, ap}
use Rattle.vt_base.specs.declared.TheConstants.{MAX_BLOCK}
use Rattle.vt_base.specs.Protocol.{read}
use Rattle.vt_base.specs.declared.operation.Operation.TheVariants as asks
use Rattle.vt_rehearse.specs.Rehearsal.{AsksForOperation}
use Rattle.vt_rehearse.specs.Words.{word_of}
use Rattle.vt_rehearse.proofs.Asking.{read_answered, read_stays}
use Rattle.vt_rehearse.proofs.Staged.{alike_still}
use Rattle.vt_rehearse.proofs.reading.ask_to_read.Goals as goal

pub returns-clause-right : goal.returns-clause-right
returns-clause-right g c other =
    let score = g.S.Scorer.score_of in
    let old = c.args.stage.now in
    let new = c.step_apart.new.self in
    let a = c.in-Said.answer in
    let request = asks.Read c.score.result 13 MAX_BLOCK in
    let is_for : AsksForOperation (read (score (word_of c.args.word)) 13 MAX_BLOCK) request = ap (λ (s : List ℕ). read s 13 MAX_BLOCK) (c.score.ensures ∙ ap score (c.as_slice.ensures ∙ c.new-block.ensures)) in
    ⊎_elim
    (λ none. absurd (other none))
    (λ found. (
      found.is_found,
      record {
        request = request;
        is_for = is_for;
        said = a.said;
        tells = record { at = a.at; steps = c.in-Said.ensures.steps };
        as_listed = found.as_listed;
      },
      refl,
    ))
    (read_answered score g.D.Disk c.requires.memory c.requires.apart c.args.word c.requires.word c.args.session request a c.requires.alike.history old.listed c.requires.alike.list old.core new.core
    c.requires.alike.store c.in-Said.ensures.steps is_for)

pub returns-clause-alike : goal.returns-clause-alike
returns-clause-alike g c =
    let score = g.S.Scorer.score_of in
    let old = c.args.stage.now in
    let new = c.step_apart.new.self in
    let request = asks.Read c.score.result 13 MAX_BLOCK in
    let is_for : AsksForOperation (read (score (word_of c.args.word)) 13 MAX_BLOCK) request = ap (λ (s : List ℕ). read s 13 MAX_BLOCK) (c.score.ensures ∙ ap score (c.as_slice.ensures ∙ c.new-block.ensures)) in
    alike_still score g.D.Disk c.requires.memory old new c.requires.alike
    (read_stays score g.D.Disk c.requires.memory c.requires.apart c.args.word c.requires.word c.args.session request c.in-Said.answer c.requires.alike.history old.listed c.requires.alike.list old.core new.core
    c.requires.alike.store c.in-Said.ensures.steps is_for)
    (ap (λ s. s.listed) c.step_apart.ensures.same)
