use Rattle.std.proofs.Common.{◌≡◌, ◌+◌, ℕ, List, sym, ap, ◌∙◌, subst, arith}
use Rattle.vt_base.specs.declared.place.Entry.{Entry}
use Rattle.vt_model.specs.Places.{bucket_count, bucket_of}
use Rattle.vt_rebuild.specs.Gathering.{HasGathered}
use Rattle.vt_rebuild.proofs.Gathers.{entry_is, gathers_it, passes_it}
use Rattle.vt_rebuild.proofs.Walks.{gives_info, versions_stay, walk_fails, walk_on}
use Rattle.vt_rebuild.proofs.gathering.gather.Goals as goal
use Rattle.vt_rebuild.proofs.gathering.gather.Goals.{else-first-bucket-via-then-first-bucket+else-bucket-end, else-first-bucket-via-else-first-bucket}

pub returns-in_err-info-clause-keeps : goal.returns-in_err-info-clause-keeps
returns-in_err-info-clause-keeps g c =
    (walk_fails g.S.Scorer.score_of g.D.Disk c.args.log.now c.loop-tail.log c.next_back.new.log c.loop-tail.tail c.next_back.new.tail _
    c.loop-tail.invariant.0 c.in_err-info.ensures).0

pub returns-in_err-take_in-clause-keeps : goal.returns-in_err-take_in-clause-keeps
returns-in_err-take_in-clause-keeps g c =
    (walk_on g.S.Scorer.score_of g.D.Disk c.args.log.now c.loop-tail.log c.next_back.new.log c.loop-tail.tail c.next_back.new.tail c.in_ok-info.info
    c.loop-tail.invariant.0 c.in_ok-info.ensures).keeps

pub loop-tail-preserved-then-bucket-end : goal.loop-tail-preserved-then-bucket-end
loop-tail-preserved-then-bucket-end g c =
    let score = g.S.Scorer.score_of in
    let left : ℕ = c.next_back.new.tail.left in
    let was = c.loop-tail.invariant in (
      walk_on score g.D.Disk c.args.log.now c.loop-tail.log c.next_back.new.log c.loop-tail.tail c.next_back.new.tail c.in_ok-info.info was.0 c.in_ok-info.ensures,
      λ setup h tells sound versions buckets.
          let info = gives_info score g.D.Disk c.args.log.now c.loop-tail.log c.next_back.new.log c.loop-tail.tail c.next_back.new.tail c.in_ok-info.info was.0
          c.in_ok-info.ensures h tells sound in
          let before : HasGathered score setup h c.args.first c.args.end (left + 1) c.loop-tail.entries.items =
          subst (λ (m : ℕ). HasGathered score setup h c.args.first c.args.end m c.loop-tail.entries.items) (sym c.in_ok-info.ensures.left) (was.1 setup h tells sound versions buckets) in
          subst (λ (es : List Entry). HasGathered score setup h c.args.first c.args.end left es) (sym c.in_ok-take_in.ensures.taken)
          (gathers_it score setup h c.args.first c.args.end left c.loop-tail.entries.items before c.in_ok-info.info
          (entry_is score setup c.loop-tail.log h left c.in_ok-info.info (versions_stay score g.D.Disk setup c.args.log.now c.loop-tail.log was.0.keeps versions) info)),
    )

pub loop-tail-preserved : goal.loop-tail-preserved
loop-tail-preserved g c =
    let score = g.S.Scorer.score_of in
    let left : ℕ = c.next_back.new.tail.left in
    let was = c.loop-tail.invariant in (
      walk_on score g.D.Disk c.args.log.now c.loop-tail.log c.next_back.new.log c.loop-tail.tail c.next_back.new.tail c.in_ok-info.info was.0 c.in_ok-info.ensures,
      λ setup h tells sound versions buckets.
          let info = gives_info score g.D.Disk c.args.log.now c.loop-tail.log c.next_back.new.log c.loop-tail.tail c.next_back.new.tail c.in_ok-info.info was.0
          c.in_ok-info.ensures h tells sound in
          let before : HasGathered score setup h c.args.first c.args.end (left + 1) c.loop-tail.entries.items =
          subst (λ (m : ℕ). HasGathered score setup h c.args.first c.args.end m c.loop-tail.entries.items) (sym c.in_ok-info.ensures.left) (was.1 setup h tells sound versions buckets) in
          let bucket : c.bucket_number-bucket.result ≡ bucket_of (bucket_count setup) c.in_ok-info.info.key.score.0 =
          c.bucket_number-bucket.ensures.bucket ∙ ap (λ (n : ℕ). bucket_of n c.in_ok-info.info.key.score.0) (sym buckets) in
          passes_it score setup h c.args.first c.args.end left c.loop-tail.entries.items before c.in_ok-info.info
          (entry_is score setup c.loop-tail.log h left c.in_ok-info.info (versions_stay score g.D.Disk setup c.args.log.now c.loop-tail.log was.0.keeps versions) info)
          (λ least below. elim c.else-first-bucket.branch [
            | else-first-bucket-via-then-first-bucket+else-bucket-end w ↦ omega (arith, bucket, least, below, w.if-bucket-end.false)
            | else-first-bucket-via-else-first-bucket w ↦ omega (arith, bucket, least, below, w.if-first-bucket.false)
          ]),
    )

pub returns-clause-gathered : goal.returns-clause-gathered
returns-clause-gathered g c = λ setup h tells sound versions buckets.
    let none : c.loop-tail.tail.left ≡ 0 = omega (arith, c.loop-tail-test.false, c.left.ensures) in
    subst (λ (m : ℕ). HasGathered g.S.Scorer.score_of setup h c.args.first c.args.end m c.loop-tail.entries.items) none
    (c.loop-tail.invariant.1 setup h tells sound versions buckets)
