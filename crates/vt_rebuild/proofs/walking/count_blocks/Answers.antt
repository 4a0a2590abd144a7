use Rattle.std.proofs.Common.{◌≡◌, ◌+◌, ◌-◌, ◌^◌, ◌≤◌, ℕ, List, length, length-set, drop, get_or, set, refl, sym, ap, ◌∙◌, subst, arith}
use Rattle.std.specs.Prelude.{min}
use Rattle.vt_model.specs.Places.{bucket_of}
use Rattle.vt_rebuild.specs.Walking.{AreCounted}
use Rattle.vt_rebuild.proofs.Counting.{counted_more, none_counted}
use Rattle.vt_rebuild.proofs.Walks.{begin_walk, gives_info, walk_fails, walk_on}
use Rattle.vt_rebuild.proofs.walking.count_blocks.Goals as goal

pub returns-in_err-info-clause-keeps : goal.returns-in_err-info-clause-keeps
returns-in_err-info-clause-keeps g c =
    (walk_fails g.S.Scorer.score_of g.D.Disk c.args.log.now c.loop-tail.log c.next_back.new.log c.loop-tail.tail c.next_back.new.tail _
    c.loop-tail.invariant.0 c.in_err-info.ensures).0

pub loop-tail-init : goal.loop-tail-init
loop-tail-init g c =
    let score = g.S.Scorer.score_of in
    let total : ℕ = length c.args.counts.now in
    let left : ℕ = c.tail-tail.result.left in
    let began = c.tail-tail.ensures in (
      begin_walk score g.D.Disk c.args.log.now c.tail-tail.result began.tail began.all began.behind,
      refl,
      λ h tells sound.
          let past : length h ≤ left = omega (arith, began.all, sound.front) in
          subst (λ (counts : List ℕ). AreCounted score total (drop left h) counts) (sym c.requires.zeros) (none_counted score total h left past),
    )

pub loop-tail-preserved : goal.loop-tail-preserved
loop-tail-preserved g c =
    let score = g.S.Scorer.score_of in
    let total : ℕ = length c.args.counts.now in
    let counts : List ℕ = c.loop-tail.counts in
    let b : ℕ = c.bucket_number.result in
    let left : ℕ = c.next_back.new.tail.left in
    let was = c.loop-tail.invariant in (
      walk_on score g.D.Disk c.args.log.now c.loop-tail.log c.next_back.new.log c.loop-tail.tail c.next_back.new.tail c.in_ok-info.info was.0 c.in_ok-info.ensures,
      length-set counts b c.saturating_add.result ∙ was.1,
      λ h tells sound.
          let info = gives_info score g.D.Disk c.args.log.now c.loop-tail.log c.next_back.new.log c.loop-tail.tail c.next_back.new.tail c.in_ok-info.info was.0
          c.in_ok-info.ensures h tells sound in
          let before : AreCounted score total (drop (left + 1) h) counts =
          subst (λ (m : ℕ). AreCounted score total (drop m h) counts) (sym c.in_ok-info.ensures.left) (was.2 h tells sound) in
          let bucket : bucket_of total (score info.block.block.bytes) ≡ b = sym (c.bucket_number.ensures.bucket ∙ ap (bucket_of total) info.score) in
          let count : c.saturating_add.result ≡ min (get_or counts b 0 + 1) (2 ^ 16 - 1) = c.saturating_add.ensures in
          subst (λ (v : ℕ). AreCounted score total (drop left h) (set counts b v)) (sym count)
          (counted_more score total h left b info.block counts info.at bucket was.1 (c.bucket_number.ensures.range c.requires.some) before),
    )

pub returns-clause-counted : goal.returns-clause-counted
returns-clause-counted g c = λ h tells sound.
    let none : c.loop-tail.tail.left ≡ 0 = omega (arith, c.loop-tail-test.false, c.left.ensures) in
    subst (λ (m : ℕ). AreCounted g.S.Scorer.score_of (length c.args.counts.now) (drop m h) c.loop-tail.counts) none (c.loop-tail.invariant.2 h tells sound)
