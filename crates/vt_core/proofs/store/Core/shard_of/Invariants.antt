use Rattle.std.proofs.Common.{ℕ, ◌<◌}
use Rattle.vt_core.specs.View.{state_of}
use Rattle.vt_core.proofs.AddWork.{LacksScore}
use Rattle.vt_core.proofs.store.Core.shard_of.Given as goal

-- none so far has it
abbrev pub invariant-loop-i : goal.invariant-loop-i
invariant-loop-i g l = (j : ℕ) → j < l.i → LacksScore (state_of l.self-inside).shards j l.score.0
