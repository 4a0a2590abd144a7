use Rattle.std.proofs.Common.{◌≢◌, ◌<◌, ℕ, Some, slice_get}
use Rattle.vt_log.proofs.queue.Queue.find.Given as goal

-- none of the places before it is the one
abbrev pub invariant-loop-index : goal.invariant-loop-index
invariant-loop-index l = (i : ℕ) → i < l.index → slice_get l.self-inside.places.items i ≢ Some l.place
