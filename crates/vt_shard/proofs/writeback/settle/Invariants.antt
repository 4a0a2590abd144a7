use Rattle.std.proofs.Common.{◌≡◌, [], take}
use Rattle.vt_shard.specs.Writeback.{SettlesAll}
use Rattle.vt_shard.proofs.writeback.settle.Given as goal

abbrev pub invariant-loop-entry : goal.invariant-loop-entry
invariant-loop-entry l = SettlesAll l.below (take l.entry-index l.entries) l.initial.index l.index
    × (l.entries ≡ [] → l.index ≡ l.initial.index)
