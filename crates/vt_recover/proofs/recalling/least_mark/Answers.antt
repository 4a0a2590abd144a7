use Rattle.std.proofs.Common.{◌≡◌, ◌≢◌, ◌≤◌, ℕ, Option, Some, MatchOption, ⊎_elim, sym, ◌∙◌, ap, subst, arith}
use Rattle.std.specs.Prelude.{slice_get}
use Rattle.std.proofs.lemmas.Option.{get_or_from_slice_get}
use Rattle.vt_bloom.specs.Bloom.{BloomState}
use Rattle.vt_shard.specs.Shard.{ShardState}
use Rattle.vt_recover.proofs.Places.{within_get, one_or_other, there_is}
use Rattle.vt_recover.proofs.recalling.least_mark.Goals as goal

pub loop-shard-preserved : goal.loop-shard-preserved
loop-shard-preserved g c =
    let index : ℕ = c.loop-shard.shard-index in (
      λ i s below at. ⊎_elim
          (λ (here : i ≡ index).
          let there : slice_get c.args.shards.now index ≡ Some s = ap (λ (n : ℕ). slice_get c.args.shards.now n) (sym here) ∙ at in
          let same : c.shard-item.result ≡ s = c.shard-item.is ∙ get_or_from_slice_get c.args.shards.now index s c.shard-item.result there in
          omega (arith, c.min-least.ensures, c.mark.ensures, ap (λ (x : ShardState g.row.D.Denot). x.section.head.mark) same))
          (λ (other : i ≢ index). let it = c.loop-shard.invariant.0 i s (omega (arith, below, other)) at in omega (arith, c.min-least.ensures, it))
          (one_or_other i index),
      λ b is. let it = c.loop-shard.invariant.1 b is in omega (arith, c.min-least.ensures, it),
      λ n covered.
          let here : slice_get c.args.shards.now index ≡ Some c.shard-item.result =
          there_is c.args.shards.now index c.shard-item.result c.shard-item.result (omega (arith, c.loop-shard-test.true)) (sym c.shard-item.is) in
          omega (arith, c.min-least.ensures, c.mark.ensures, c.loop-shard.invariant.2 n covered, covered.shards_are index c.shard-item.result here),
    )

pub returns-clause-marks : goal.returns-clause-marks
returns-clause-marks g c = λ i s at. c.loop-shard.invariant.0 i s (omega (arith, c.loop-shard-test.false, within_get c.args.shards.now i s at)) at

pub returns-clause-greatest : goal.returns-clause-greatest
returns-clause-greatest g c = c.loop-shard.invariant.2

pub returns-clause-filter : goal.returns-clause-filter
returns-clause-filter g c =
    subst (λ (o : Option (BloomState g.row.D.Denot)). MatchOption o (c.loop-shard.least ≡ 0) (λ b. c.loop-shard.least ≤ b.mark)) (sym c.in-Some.is)
    (c.loop-shard.invariant.1 c.in-Some.bloom c.in-Some.is)
