use Rattle.std.proofs.Common.{◌≡◌, ℕ, List, ◌++◌, length, Err, Result, refl, ◌∙◌, sym, ap, subst}
use Rattle.std.proofs.lemmas.Result.{err_from_is_err_and}
use Rattle.vt_disk.specs.Calls.{MadeCalls}
use Rattle.vt_clump.specs.Spelling.{BeginsWithClump, size_in, stored_in}
use Rattle.vt_clump.proofs.ReadBack.{begins_stored, begins_good, read_as}
use Rattle.vt_clump.specs.declared.reading.Clump.{Clump}
use Rattle.vt_arena.specs.declared.error.ReadBad.{ReadBad}
use Rattle.vt_arena.specs.Reading.{ReadsClumpAs, clump_at, reads_for}
use Rattle.vt_arena.proofs.Clumps.{reads_nothing, reads_refusal, begins_there, good_len, good_stored}
use Rattle.vt_arena.proofs.reading.read.Goals as goal

pub returns-in_err-header-clause-answer : goal.returns-in_err-header-clause-answer
returns-in_err-header-clause-answer g c header =
    let bytes : List ℕ = clump_at c.args.region c.args.offset (g.D.Disk.bytes c.args.disk.now) in
    let handed = err_from_is_err_and c.from_residual.result c.from_residual.ensures.1 in
    let bad : ReadBad = c.in_err-header.field-0.0 in
    let is : c.from_residual.result ≡ Err bad = handed.1 ∙ ap (λ (b : ReadBad). Err b) handed.2 in (
      bytes,
      (λ told. refl),
      subst (λ (r : Result Clump ReadBad). ReadsClumpAs g.S.Scorer.score_of bytes r) (sym is) (reads_nothing g.S.Scorer.score_of bytes bad c.in_err-header.ensures.refused),
    )

pub returns-in-Ok-clause-whole : goal.returns-in-Ok-clause-whole
returns-in-Ok-clause-whole g c =
    let known = c.in_ok-header.ensures.header in (
      stored_in (c.in_ok-header.header ++ c.in_ok-header.block),
      good_stored g.S.Scorer.score_of c.in_ok-header.header c.in_ok-header.block known.0 known.1 c.in-Ok.ensures.refused,
      c.in-Ok.ensures.read,
    )

pub returns-in-Ok-clause-committed : goal.returns-in-Ok-clause-committed
returns-in-Ok-clause-committed g c old before behind s told content blocks split at =
    let bytes : List ℕ = c.in_ok-header.header ++ c.in_ok-header.block in
    let begins : BeginsWithClump g.S.Scorer.score_of s bytes =
    begins_there g.S.Scorer.score_of c.args.region old before behind s
    (g.D.Disk.bytes c.args.disk.now) bytes c.args.offset content blocks split at (c.in_ok-header.ensures.read told) in
    read_as (stored_in bytes) s c.in-Ok.clump (begins_stored g.S.Scorer.score_of s bytes begins) c.in-Ok.ensures.read

pub returns-in-Ok-clause-calls : goal.returns-in-Ok-clause-calls
returns-in-Ok-clause-calls g c =
    let known = c.in_ok-header.ensures.header in
    let len : size_in c.in_ok-header.header ≡ length c.in-Ok.clump.bytes =
    good_len g.S.Scorer.score_of c.in_ok-header.header c.in_ok-header.block known.0 known.1 c.in-Ok.ensures.refused
    ∙ ap (λ (l : List ℕ). length l) (sym c.in-Ok.ensures.read.bytes) in
    subst (λ (n : ℕ). MadeCalls g.D.Disk (reads_for c.args.size n) c.args.disk.now c.read_clump.new.disk) len c.in_ok-header.ensures.calls

pub returns-in-Err-clause-answer : goal.returns-in-Err-clause-answer
returns-in-Err-clause-answer g c header =
    let bytes : List ℕ = c.in_ok-header.header ++ c.in_ok-header.block in (
      bytes,
      c.in_ok-header.ensures.read,
      reads_refusal g.S.Scorer.score_of bytes c.in-Err.bad c.refusal.result c.in-Err.ensures.refused c.refusal.ensures.damaged c.refusal.ensures.memory,
    )

pub returns-in-Err-clause-committed : goal.returns-in-Err-clause-committed
returns-in-Err-clause-committed g c old before behind s told content blocks split at =
    let bytes : List ℕ = c.in_ok-header.header ++ c.in_ok-header.block in
    let begins : BeginsWithClump g.S.Scorer.score_of s bytes =
    begins_there g.S.Scorer.score_of c.args.region old before behind s
    (g.D.Disk.bytes c.args.disk.now) bytes c.args.offset content blocks split at (c.in_ok-header.ensures.read told) in
    absurd (cc (begins_good g.S.Scorer.score_of s bytes begins, c.in-Err.ensures.refused))
