use Rattle.std.proofs.Common.{◌≡◌, ℕ, true, false, Some, sym, ◌∙◌, subst, arith, below_more}
use Rattle.std.specs.Prelude.{slice_get}
use Rattle.std.proofs.lemmas.Option.{same_Some}
use Rattle.vt_isect.specs.Layout.{InRange}
use Rattle.vt_model.specs.Places.{section_of_score}
use Rattle.vt_shard.specs.Shard.{ShardState, HasScore}
use Rattle.vt_core.specs.Core.{CoreState, setup_of}
use Rattle.vt_core.specs.View.{state_of}
use Rattle.vt_core.proofs.AddWork.{has_is, one_has}
use Rattle.vt_recover.proofs.Places.{there_is}
use Rattle.vt_core.proofs.store.Core.shard_of.Goals as goal

pub loop-i-init : goal.loop-i-init
loop-i-init g c = λ j below. absurd (omega (arith, below))

pub loop-i-preserved : goal.loop-i-preserved
loop-i-preserved g c = below_more _ _ c.loop-i.invariant (λ s at has.
    let k : CoreState g.row.D.Denot = state_of c.self.inside in
    let v : ShardState g.row.D.Denot = c.index-shard.result.now in
    let here : slice_get k.shards c.loop-i.i ≡ Some v = there_is k.shards c.loop-i.i v v (omega arith) (sym c.index-shard.ensures) in
    let same : v ≡ s = same_Some v s (sym here ∙ at) in
    let both : false ≡ true = sym c.if-has_bucket.false ∙ c.has_bucket.ensures.1
    (subst (λ (n : ℕ). InRange v.section.head v.section.buckets n) (sym c.bucket_of.ensures) (subst (λ (t : ShardState g.row.D.Denot). HasScore t c.args.score.now.0) (sym same) has)) in
    absurd (cc))

pub returns-then-has_bucket-clause-shard : goal.returns-then-has_bucket-clause-shard
returns-then-has_bucket-clause-shard g c =
    let k : CoreState g.row.D.Denot = state_of c.self.inside in
    let i : ℕ = c.loop-i.i in
    let v : ShardState g.row.D.Denot = c.index-shard.result.now in
    let here : slice_get k.shards i ≡ Some v = there_is k.shards i v v (omega arith) (sym c.index-shard.ensures) in
    let has : HasScore v c.args.score.now.0 = subst (λ (n : ℕ). InRange v.section.head v.section.buckets n) c.bucket_of.ensures (c.has_bucket.ensures.0 c.if-has_bucket.true) in
    subst (λ (m : CoreState g.row.D.Denot). i ≡ section_of_score (setup_of m) c.args.score.now.0) c.self.view_is
    (sym (has_is g.D.Disk k c.self.invariant.0 c.sections_have_ranges.ensures i v c.args.score.now.0 here has))

pub returns-then-has_bucket-clause-has : goal.returns-then-has_bucket-clause-has
returns-then-has_bucket-clause-has g c = λ s at.
    let k : CoreState g.row.D.Denot = state_of c.self.inside in
    let i : ℕ = c.loop-i.i in
    let v : ShardState g.row.D.Denot = c.index-shard.result.now in
    let here : slice_get k.shards i ≡ Some v = there_is k.shards i v v (omega arith) (sym c.index-shard.ensures) in
    let has : HasScore v c.args.score.now.0 = subst (λ (n : ℕ). InRange v.section.head v.section.buckets n) c.bucket_of.ensures (c.has_bucket.ensures.0 c.if-has_bucket.true) in
    let same : v ≡ s = same_Some v s (sym here ∙ subst (λ (m : CoreState g.row.D.Denot). slice_get m.shards i ≡ Some s) (sym c.self.view_is) at) in
    subst (λ (t : ShardState g.row.D.Denot). HasScore t c.args.score.now.0) same has

pub unreachable-requires : goal.unreachable-requires
unreachable-requires g c =
    let k : CoreState g.row.D.Denot = state_of c.self.inside in
    one_has g.D.Disk k c.self.invariant.0 c.sections_have_ranges.ensures (c.buckets_are_in_range.ensures.bucket, c.buckets_are_in_range.ensures.section) c.args.score.now.0 c.is_of_bytes.ensures
    (λ j below. c.loop-i.invariant j (omega arith))
