-- What an arena in memory keeps, whatever the disk holds.
use Rattle.std.specs.Prelude.{◌≡◌, ℕ, ◌+◌, ◌-◌, ◌*◌, ◌≤◌, IsSome, false, None, List, length, take, drop, reverse, replicate, MatchOption, sum_by, vec_capacity}
use Rattle.std.specs.List.{flat_map}
use Rattle.std.specs.Option.{ForSome}
use Rattle.vt_twin.specs.Twin.{twin_calls_made}
use Rattle.vt_clump.specs.declared.packed.Packed.{Packed}
use Rattle.vt_model.specs.declared.TheConstants.{DIRECTORY_ENTRY_LEN, WRITTEN_VERSION}
use Rattle.vt_arena.specs.declared.TheConstants.{FRAME_LEN, FIELDS_LEN, STAGED_MAX}
use Rattle.vt_arena.specs.declared.arena.Arena.TheInside.{Inside}
use Rattle.vt_arena.specs.Arena.{ArenaState, commit_pieces}
use Rattle.vt_arena.specs.Layout.{entry_bytes}
use Rattle.vt_arena.specs.Places.{IsArenaLen, block_room, directory_room, arena_room}

-- as its calls see it
abbrev pub state_of : Inside → ArenaState
state_of a = record {
  number = a.number;
  len = a.len;
  twin = a.twin;
  head = a.head;
  next = a.next;
  staged = a.staged.items;
  written = a.written;
  failed = a.failed;
}

-- what staged clumps take
abbrev pub staged_room : List Packed → ℕ
staged_room staged = sum_by (λ p. block_room WRITTEN_VERSION p.len) staged

-- The directory of staged clumps, in which the last entry stands first.
abbrev pub staged_directory : List Packed → List ℕ
staged_directory staged =
    flat_map (λ p. entry_bytes p.kind p.len p.score.0) (reverse staged)

-- at the end of a buffer for as many as may be staged stands the directory of these
abbrev pub HasDirectory : (staged : List Packed) → (buffer : List ℕ) → Type 0
HasDirectory staged buffer =
    (length buffer ≡ STAGED_MAX * DIRECTORY_ENTRY_LEN)
    × (drop ((STAGED_MAX - length staged) * DIRECTORY_ENTRY_LEN) buffer
    ≡ staged_directory staged)

-- a buffer for a head's frame, zero behind the fields
abbrev pub IsBuffer : List ℕ → Type 0
IsBuffer frame =
    (length frame ≡ FRAME_LEN) × (drop FIELDS_LEN frame ≡ replicate (FRAME_LEN - FIELDS_LEN) 0)

-- The invariant of an arena in memory: its head, what is staged and its buffers fit each other and
-- the region.
pub record IsWholeArena (a : Inside) : Type 0 where
  pub frame_len : a.twin.frame_len ≡ FRAME_LEN
  pub runs : a.failed ≡ false → a.twin.failed ≡ false
  pub len_is : IsArenaLen a.len
  -- there is room for what is committed; the next head counts that and what is staged, and there is
  -- room for it too
  pub fit : a.head.used + directory_room a.head.version a.head.clumps ≤ arena_room a.len
  pub room : a.next.used + directory_room a.next.version a.next.clumps ≤ arena_room a.len
  pub used : a.next.used ≡ a.head.used + staged_room a.staged.items
  pub clumps : a.next.clumps ≡ a.head.clumps + length a.staged.items
  pub few : length a.staged.items ≤ STAGED_MAX
  pub capacity : STAGED_MAX ≤ vec_capacity a.staged
  -- how far the commit under way has come
  pub written_most : a.written ≤ commit_pieces (length a.staged.items)
  pub end_is : a.end ≡ a.head.used + staged_room (take a.written a.staged.items)
  -- the one buffer is here, or is the frame of the head's change
  pub buffer : a.twin.change ≡ None → MatchOption a.buffer ⊥ IsBuffer
  pub frame : ForSome a.twin.change (λ it. IsBuffer it.frame)
  pub head_calls_is : a.head_calls ≡ twin_calls_made a.twin
  pub head_calls_most : a.head_calls ≤ 3
  pub begun : IsSome a.twin.change → a.written ≡ commit_pieces (length a.staged.items)
  -- what was staged is ready to be written as a directory
  pub directory : HasDirectory a.staged.items a.directory.items
