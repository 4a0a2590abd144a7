-- Walking a log from its last block to the first.
use Rattle.std.specs.Prelude.{◌≡◌, ⊤, ℕ, ◌+◌, ◌-◌, ◌<◌, ◌≤◌, min, IsTrue, Option, Some, None, Result, Ok, Err, List, All, length, sum_by, take, slice_get, slice_index}
use Rattle.vt_base.specs.declared.place.Info.{Info}
use Rattle.vt_base.specs.declared.place.Place.{Place}
use Rattle.vt_clump.specs.declared.packed.Packed.{Packed}
use Rattle.vt_model.specs.History.{Accepted, History}
use Rattle.vt_model.specs.Places.{lengths_in, place_of}
use Rattle.vt_arena.specs.declared.error.BackBad.{BackBad}
use Rattle.vt_arena.specs.declared.error.BackBad.TheVariants.{Fault, Damaged}
use Rattle.vt_arena.specs.declared.head.Found.{Found}
use Rattle.vt_arena.specs.declared.head.ArenaHead.{ArenaHead}
use Rattle.vt_arena.specs.Directory.{IsInfoOf, IsOnClump, before_in, entry_in, first_bad_walked, moved_before, walks_headers}
use Rattle.vt_arena.specs.Places.{block_room, last_sectors}
use Rattle.vt_arena.specs.declared.directory.At.{At}
use Rattle.vt_log.specs.Log.{LogState, setup_of_log, queued}
use Rattle.vt_log.specs.Queue.{spot_of}

-- where a walk stands: how many blocks are left, and how many of them are queued; the arena of the
-- others that come next, and what is left of it
pub record TailState : Type 0 where
  pub left : ℕ
  pub queued : ℕ
  pub arena : ℕ
  pub at : At

-- the walk is one of this log
pub record IsTailOf {D : Type 0} (l : LogState D) (t : TailState) : Type 0 where
  pub queue : t.queued ≤ queued l
  pub arena : t.arena ≤ length l.heads
  pub end : length l.heads ≤ t.arena → t.at ≡ record { index = 0; end = 0; sectors = 0 }
  pub head : (found : Found) → slice_get l.heads t.arena ≡ Some found
      → (t.at.index ≤ found.head.clumps) × (t.at.end ≤ found.head.used)
      × IsOnClump found.head t.at
  pub left : t.left
      ≡ t.queued + t.at.index + sum_by (λ found. found.head.clumps) (take t.arena l.heads)

-- The walk has so many blocks of the history before it: the queued ones among them and, of an
-- arena, as many as come before these.
pub record IsTailBehind {D : Type 0} (l : LogState D) (h : History) (n : ℕ) (t : TailState)
    : Type 0 where
  pub left : t.left ≡ n
  pub most : n ≤ length h
  pub queue : t.queued ≡ n - l.durable
  pub index : t.at.index ≡ length (lengths_in t.arena (take (min n l.durable) h))
  pub end : t.at.end ≡ sum_by (block_room (slice_index l.versions t.arena))
      (lengths_in t.arena (take (min n l.durable) h))
  pub sectors : (found : Found) → slice_get l.heads t.arena ≡ Some found
      → IsTrue (walks_headers found.head)
      → t.at.sectors ≡ last_sectors 0 (lengths_in t.arena (take (min n l.durable) h))
  pub arenas : All (λ e. e.arena ≤ t.arena) (take (min n l.durable) h)

-- block i of the history is this one
pub record IsInfoInLog {D : Type 0} (score_of : List ℕ
    → List ℕ) (l : LogState D) (h : History) (i : ℕ)
    (info : Info) : Type 0 where
  pub block : Accepted
  pub at : slice_get h i ≡ Some block
  pub kind : info.key.kind ≡ block.block.kind
  pub score : info.key.score.0 ≡ score_of block.block.bytes
  pub size : info.size ≡ length block.block.bytes
  pub place : place_of (setup_of_log l) h i ≡ Some (spot_of info.place)
  pub number : info.number ≡ i

-- where n blocks are before the walk, it gives the last of them, and has one less before it; where
-- there is none it gives none
abbrev pub StepsBack : {D : Type 0} → (score_of : List ℕ → List ℕ) → LogState D → History
    → (n : ℕ) → (new : TailState) → Option Info → Type 0
StepsBack score_of l h n new (Some info) =
    (m : ℕ) × (m + 1 ≡ n) × IsInfoInLog score_of l h m info × IsTailBehind l h m new
StepsBack score_of l h n new None = n ≡ 0

-- the next entry that a walk reads where no queued block is left, in this arena: from its own arena
-- on down, the first that has one left
pub record IsNextEntry (heads : List Found) (t : TailState) (arena : ℕ) (at : At) : Type 0 where
  pub some : 0 < at.index
  pub here : 0 < t.at.index → (arena ≡ t.arena) × (at ≡ t.at)
  pub below : t.at.index ≡ 0 → (arena < t.arena) × ((found : Found)
      → slice_get heads arena ≡ Some found
      → at ≡ record {
        index = found.head.clumps;
        end = found.head.used;
        sectors = found.head.last;
      })
  pub first : t.at.index ≡ 0 → (i : ℕ) (found : Found) → arena < i → i < t.arena
      → slice_get heads i ≡ Some found → found.head.clumps ≡ 0

-- what is given of an entry or a header of an arena with this head, where one block less is left
-- then
abbrev pub GivesEntry : (arena left : ℕ) → ArenaHead → At → (bytes : List ℕ)
    → Result (Option Info) BackBad → Type 0
GivesEntry arena left head at bytes (Ok None) = ⊥
GivesEntry arena left head at bytes (Ok (Some info)) =
    (first_bad_walked head at bytes ≡ None) × (info.number + 1 ≡ left)
    × IsInfoOf (record head { number = arena }) at (entry_in head bytes)
    (record info { number = at.index - 1 })
GivesEntry arena left head at bytes (Err Fault) = ⊤
GivesEntry arena left head at bytes (Err (Damaged want found)) =
    first_bad_walked head at bytes ≡ Some (Damaged want found)

-- where the walk stands then: before the entry, or at it where none is given
abbrev pub MovesBack : (arena : ℕ) → ArenaHead → At → (bytes : List ℕ) → (new : TailState)
    → Result (Option Info) BackBad → Type 0
MovesBack arena head at bytes new (Ok None) = ⊥
MovesBack arena head at bytes new (Ok (Some info)) =
    (new.arena ≡ arena) × (new.queued ≡ 0) × (new.at.index + 1 ≡ at.index)
    × (new.at.end + block_room head.version info.size ≡ at.end)
    × (new.at ≡ moved_before head at (entry_in head bytes) (before_in head bytes))
MovesBack arena head at bytes new (Err bad) =
    (new.arena ≡ arena) × (new.queued ≡ 0) × (new.at ≡ at)

-- what is given of a queued clump
pub record IsQueued (p : Packed) (place : Place) (left : ℕ) (info : Info) : Type 0 where
  pub kind : info.key.kind ≡ p.kind
  pub score : info.key.score ≡ p.score
  pub size : info.size ≡ p.len
  pub place_is : info.place ≡ place
  pub number : info.number + 1 ≡ left
