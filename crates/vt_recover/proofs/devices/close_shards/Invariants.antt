use Rattle.std.proofs.Common.{◌≡◌, ◌+◌, ◌≤◌, ◌++◌, length, map, reverse, vec_capacity}
use Rattle.vt_recover.proofs.devices.close_shards.Given as goal

-- the devices of the shards that are left, and those that wait, are those that there were
abbrev pub invariant-loop-shard : goal.invariant-loop-shard
invariant-loop-shard g l = record {
  devices : map (λ s. s.section.disk) l.shards.items ++ reverse l.waiting.items
      ≡ map (λ s. s.section.disk) l.initial.shards.items ++ reverse l.initial.waiting.items;
  room : length l.waiting.items + length l.shards.items ≤ vec_capacity l.waiting;
}

abbrev pub decreases-loop-shard : goal.decreases-loop-shard
decreases-loop-shard g l = length l.shards.items
