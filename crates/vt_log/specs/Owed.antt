-- How many device calls a log still owes its queue.
use Rattle.std.specs.Prelude.{ℕ, ◌+◌, ◌-◌, ◌*◌, ◌==◌, if◌then◌else◌, List, [], ◌∷◌, length}
use Rattle.vt_arena.specs.Arena.{ArenaState, commit_calls, calls_made}
use Rattle.vt_log.specs.declared.queue.Waiting.{Waiting}
use Rattle.vt_log.specs.Log.{LogState}

-- How many device calls are left of the commit of an arena that is staged or under way, if there is
-- one.
abbrev pub calls_left : ArenaState → ℕ
calls_left a =
    if a.next.sealed then commit_calls a - calls_made a
    else if length a.staged == 0 then 0
    else commit_calls a - calls_made a

-- the four calls of a head's change that are owed beside those of the blocks, where the arena has
-- to be sealed first for the block that waits longest
abbrev pub seal_calls : (arena : ℕ) → List Waiting → ℕ
seal_calls arena [] = 0
seal_calls arena (w ∷ rest) = if w.arena == arena then 0 else 4

-- the calls of `advance` that are left at most, until it is idle: six for each block that isn't
-- staged
abbrev pub owed : {D : Type 0} → LogState D → ℕ
owed l =
    calls_left l.arena + 6 * length l.queue.waiting
    + (if l.arena.next.sealed then 0 else seal_calls l.committing l.queue.waiting)
