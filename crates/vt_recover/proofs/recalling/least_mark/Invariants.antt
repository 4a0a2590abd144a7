use Rattle.std.proofs.Common.{◌≡◌, ◌<◌, ◌≤◌, ℕ, Some}
use Rattle.std.specs.Prelude.{slice_get}
use Rattle.vt_bloom.specs.Bloom.{BloomState}
use Rattle.vt_shard.specs.Shard.{ShardState}
use Rattle.vt_recover.proofs.recalling.least_mark.Given as goal
use Rattle.vt_recover.specs.Marks.{AreCovered}

-- it is at most each mark so far, and no less than what all marks cover
abbrev pub invariant-loop-shard : goal.invariant-loop-shard
invariant-loop-shard g l =
    ((i : ℕ) (s : ShardState g.row.D.Denot) → i < l.shard-index → slice_get l.shards i ≡ Some s → l.least ≤ s.section.head.mark)
    × ((b : BloomState g.row.D.Denot) → l.bloom ≡ Some b → l.least ≤ b.mark)
    × ((n : ℕ) → AreCovered l.shards l.bloom n → n ≤ l.least)
