-- A queued block stands in the queue, and a committed one in its arena.
use Rattle.std.proofs.Common.{◌≡◌, ◌⊎◌, ◌+◌, ℕ, List, Result, MatchResult, sym, ◌∙◌, ap, subst, arith, Ok, Err}
use Rattle.std.specs.Prelude.{slice_get}
use Rattle.std.proofs.lemmas.Option.{slice_get_within, same_Some}
use Rattle.std.proofs.lemmas.Result.{err_from_is_err_and}
use Rattle.vt_clump.specs.Clumps.{stored_of}
use Rattle.vt_model.specs.History.{Accepted}
use Rattle.vt_arena.specs.declared.error.ReadBad.{ReadBad}
use Rattle.vt_arena.specs.declared.error.ReadBad.TheVariants.{Fault, NoMemory}
use Rattle.vt_log.specs.Log.{LogState, setup_of_log}
use Rattle.vt_log.specs.Logs.{accepted_in}
use Rattle.vt_log.specs.Queue.{IsFirstAt, spot_of}
use Rattle.vt_log.specs.Reading.{ReadsBlockAs}
use Rattle.vt_log.specs.Whole.{IsWholeLog}
use Rattle.vt_log.proofs.AnswersRead.{nowhere_in, no_other, queued_gives, queued_block, unread, reads_block, reads_other, not_free, answers_queued, answers_nowhere, answers_there}
use Rattle.vt_log.proofs.Differ.{answer_two}
use Rattle.vt_log.proofs.StoredAt.{place_once, queued_as, stored_at}
use Rattle.vt_log.proofs.log.Log.read.Goals as goal

pub returns-in-Some-clause-block : goal.returns-in-Some-clause-block
returns-in-Some-clause-block g c h i e tells sound at placed kind score =
    let places : IsFirstAt c.args.self.now.queue.places c.args.place c.in-Some.index =
    subst (λ (l : LogState _). IsFirstAt l.queue.places c.args.place c.in-Some.index)
    c.self.view_is c.in-Some.ensures.found in
    let p = c.packed.result.now in
    let q = queued_as g.S.Scorer.score_of g.D.Disk
    c.args.self.now h sound c.in-Some.index p c.packed.ensures in
    let same : i ≡ c.args.self.now.durable + c.in-Some.index =
    place_once (setup_of_log c.args.self.now) h i (c.args.self.now.durable + c.in-Some.index)
    (spot_of c.args.place) placed (sound.places c.in-Some.index c.args.place places.at) in
    let block : e ≡ accepted_in q.arena (stored_of p) =
    same_Some e (accepted_in q.arena (stored_of p)) (sym at ∙ ap (slice_get h) same ∙ q.block) in
    let bytes : (stored_of p).block ≡ e.block.bytes =
    sym (ap (λ (x : Accepted). x.block.bytes) block) in
    queued_block c.args.key.now p e.block.bytes c.copy_queued.result
    (q.packed.kind ∙ sym (ap (λ (x : Accepted). x.block.kind) block) ∙ sym kind)
    (q.packed.score ∙ q.packed.stored.scored ∙ ap g.S.Scorer.score_of bytes ∙ sym score)
    (q.bytes ∙ bytes) c.copy_queued.ensures.block c.copy_queued.ensures.other

pub returns-in-Some-clause-answer : goal.returns-in-Some-clause-answer
returns-in-Some-clause-answer g c =
    answers_queued g.S.Scorer.score_of g.D.Disk c.args.self.now c.args.place
    c.args.key.now c.copy_queued.result c.in-Some.index c.packed.result.now
    (subst (λ (l : LogState _). IsFirstAt l.queue.places c.args.place c.in-Some.index)
    c.self.view_is c.in-Some.ensures.found)
    c.packed.ensures
    (queued_gives c.args.key.now c.packed.result.now c.copy_queued.result c.copy_queued.ensures.key
    c.copy_queued.ensures.block c.copy_queued.ensures.other)

pub returns-then-place-arenas-clause-block : goal.returns-then-place-arenas-clause-block
returns-then-place-arenas-clause-block g c h i e tells sound at placed kind score =
    let nowhere = nowhere_in _ c.args.self.now c.args.place c.self.view_is
    c.in_default.ensures.none in
    let it = stored_at g.S.Scorer.score_of g.D.Disk
    c.args.self.now h sound i e c.args.place at placed nowhere
    (λ disk. g.met.D.Disk.read_is_image disk tells) in
    absurd (omega (
      arith,
      c.if-place-arenas.true,
      c.arenas-arenas.ensures,
      slice_get_within c.args.self.now.layout c.args.place.arena it.is.r it.is.at.arena,
    ))

pub returns-then-place-arenas-clause-answer : goal.returns-then-place-arenas-clause-answer
returns-then-place-arenas-clause-answer g c =
    answers_nowhere g.S.Scorer.score_of g.D.Disk c.args.self.now c.args.place
    c.args.key.now _
    (nowhere_in _ c.args.self.now c.args.place c.self.view_is c.in_default.ensures.none)
    (omega (arith, c.if-place-arenas.true, c.arenas-arenas.ensures))
    (cc)

pub returns-then-place-arenas-clause-cost : goal.returns-then-place-arenas-clause-cost
returns-then-place-arenas-clause-cost g c r nowhere at has =
    absurd (omega (
      arith,
      c.if-place-arenas.true,
      c.arenas-arenas.ensures,
      slice_get_within c.args.self.now.layout c.args.place.arena r at,
    ))

pub returns-in_err-clump-clause-block : goal.returns-in_err-clump-clause-block
returns-in_err-clump-clause-block g c h i e tells sound at placed kind score =
    let nowhere = nowhere_in _ c.args.self.now c.args.place c.self.view_is
    c.in_default.ensures.none in
    let it = stored_at g.S.Scorer.score_of g.D.Disk
    c.args.self.now h sound i e c.args.place at placed nowhere
    (λ disk. g.met.D.Disk.read_is_image disk tells) in
    let handed = err_from_is_err_and c.from_residual.result c.from_residual.ensures.1 in
    subst (λ (result : Result (List ℕ) ReadBad). MatchResult result (λ block. block ≡ e.block.bytes)
    (λ bad. (bad ≡ Fault) ⊎ (bad ≡ NoMemory)))
    (sym (handed.1 ∙ ap (λ (b : ReadBad). Err b) handed.2))
    (c.in_err-clump.ensures.committed it.is.r it.is.device it.content it.before it.behind
    it.stored tells it.is.at it.is.content it.is.stand it.split it.offset)

pub returns-in_err-clump-clause-answer : goal.returns-in_err-clump-clause-answer
returns-in_err-clump-clause-answer g c =
    let nowhere = nowhere_in _ c.args.self.now c.args.place c.self.view_is
    c.in_default.ensures.none in
    let bad = c.in_err-clump.field-0.0 in
    let handed = err_from_is_err_and c.from_residual.result c.from_residual.ensures.1 in
    let is : c.from_residual.result ≡ Err bad = handed.1 ∙ ap (λ (b : ReadBad). Err b) handed.2 in
    answers_there g.S.Scorer.score_of g.D.Disk c.args.self.now c.args.place
    c.args.key.now c.from_residual.result nowhere
    (omega (arith, c.if-place-arenas.false, c.arenas-arenas.ensures))
    (λ r at none. let it = c.in_err-clump.ensures.outside r at none in cc (is, it.0))
    (λ r disk at has.
    let it = c.in_err-clump.ensures.stored r disk at has in (
      it.0,
      it.1,
      subst (ReadsBlockAs g.S.Scorer.score_of c.args.key.now it.0) (sym is)
          (unread g.S.Scorer.score_of c.args.key.now it.0 bad it.2),
    ))

pub returns-in_err-clump-clause-differ : goal.returns-in_err-clump-clause-differ
returns-in_err-clump-clause-differ g c some =
    let nowhere = nowhere_in _ c.args.self.now c.args.place c.self.view_is
    c.in_default.ensures.none in
    answer_two g.S.Scorer.score_of g.D.Disk c.args.self.now
    c.args.place c.args.key.now c.from_residual.result
    (subst (IsWholeLog g.D.Disk) c.self.view_is c.self.invariant) nowhere
    (omega (arith, c.if-place-arenas.false, c.arenas-arenas.ensures))
    (returns-in_err-clump-clause-answer g c)

pub returns-in_err-check_key-clause-block : goal.returns-in_err-check_key-clause-block
returns-in_err-check_key-clause-block g c h i e tells sound at placed kind score =
    let nowhere = nowhere_in _ c.args.self.now c.args.place c.self.view_is
    c.in_default.ensures.none in
    let it = stored_at g.S.Scorer.score_of g.D.Disk
    c.args.self.now h sound i e c.args.place at placed nowhere
    (λ disk. g.met.D.Disk.read_is_image disk tells) in
    let read = c.in_ok-clump.ensures.committed it.is.r it.is.device it.content it.before
    it.behind it.stored tells it.is.at it.is.content it.is.stand it.split it.offset in
    let clump = c.in_ok-clump.clump in
    absurd (no_other c.args.key.now clump.kind clump.score.0 c.in_err-check_key.field-0.0
    (read.kind ∙ sym (ap (λ (x : Accepted). x.block.kind) it.block) ∙ sym kind)
    (read.score ∙ it.scored
    ∙ ap g.S.Scorer.score_of (sym (ap (λ (x : Accepted). x.block.bytes) it.block)) ∙ sym score)
    c.in_err-check_key.ensures.other)

pub returns-in_err-check_key-clause-answer : goal.returns-in_err-check_key-clause-answer
returns-in_err-check_key-clause-answer g c =
    let nowhere = nowhere_in _ c.args.self.now c.args.place c.self.view_is
    c.in_default.ensures.none in
    let bad = c.in_err-check_key.field-0.0 in
    let result = c.from_residual-in_err-check_key.result in
    let handed = err_from_is_err_and result c.from_residual-in_err-check_key.ensures.1 in
    let is : result ≡ Err bad = handed.1 ∙ ap (λ (b : ReadBad). Err b) handed.2 in
    answers_there g.S.Scorer.score_of g.D.Disk c.args.self.now c.args.place
    c.args.key.now result nowhere
    (omega (arith, c.if-place-arenas.false, c.arenas-arenas.ensures))
    (λ r at none. let it = c.in_ok-clump.ensures.outside r at none in absurd (cc (it.0)))
    (λ r disk at has.
    let it = c.in_ok-clump.ensures.stored r disk at has in (
      it.0,
      it.1,
      subst (ReadsBlockAs g.S.Scorer.score_of c.args.key.now it.0) (sym is)
          (reads_other g.S.Scorer.score_of c.args.key.now it.0 c.in_ok-clump.clump bad it.2
          c.in_err-check_key.ensures.other),
    ))

pub returns-in_err-check_key-clause-free : goal.returns-in_err-check_key-clause-free
returns-in_err-check_key-clause-free g c free =
    let nowhere = nowhere_in _ c.args.self.now c.args.place c.self.view_is
    c.in_default.ensures.none in
    absurd (not_free c.args.self.now c.args.place nowhere
    (omega (arith, c.if-place-arenas.false, c.arenas-arenas.ensures))
    (λ r at none. let it = c.in_ok-clump.ensures.outside r at none in absurd (cc (it.0))) free)

pub returns-clause-block : goal.returns-clause-block
returns-clause-block g c h i e tells sound at placed kind score =
    let nowhere = nowhere_in _ c.args.self.now c.args.place c.self.view_is
    c.in_default.ensures.none in
    let it = stored_at g.S.Scorer.score_of g.D.Disk
    c.args.self.now h sound i e c.args.place at placed nowhere
    (λ disk. g.met.D.Disk.read_is_image disk tells) in
    let read = c.in_ok-clump.ensures.committed it.is.r it.is.device it.content it.before
    it.behind it.stored tells it.is.at it.is.content it.is.stand it.split it.offset in
    read.bytes ∙ sym (ap (λ (x : Accepted). x.block.bytes) it.block)

pub returns-clause-answer : goal.returns-clause-answer
returns-clause-answer g c =
    let nowhere = nowhere_in _ c.args.self.now c.args.place c.self.view_is
    c.in_default.ensures.none in
    let clump = c.in_ok-clump.clump in
    answers_there g.S.Scorer.score_of g.D.Disk c.args.self.now c.args.place
    c.args.key.now (Ok clump.bytes) nowhere
    (omega (arith, c.if-place-arenas.false, c.arenas-arenas.ensures))
    (λ r at none. let it = c.in_ok-clump.ensures.outside r at none in absurd (cc (it.0)))
    (λ r disk at has.
    let it = c.in_ok-clump.ensures.stored r disk at has in (
      it.0,
      it.1,
      reads_block g.S.Scorer.score_of c.args.key.now it.0 clump it.2
          c.in_ok-check_key.ensures.same.0 c.in_ok-check_key.ensures.same.1,
    ))

pub returns-clause-free : goal.returns-clause-free
returns-clause-free g c free =
    let nowhere = nowhere_in _ c.args.self.now c.args.place c.self.view_is
    c.in_default.ensures.none in
    absurd (not_free c.args.self.now c.args.place nowhere
    (omega (arith, c.if-place-arenas.false, c.arenas-arenas.ensures))
    (λ r at none. let it = c.in_ok-clump.ensures.outside r at none in absurd (cc (it.0))) free)
