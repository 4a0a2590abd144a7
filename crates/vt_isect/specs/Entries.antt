-- A list of entries as its calls see it.
use Rattle.std.specs.Prelude.{◌≡◌, ℕ, ◌+◌, ◌^◌, nat_le, if◌then◌else◌, Option, Some, None, List, []}
use Rattle.std.specs.Option.{option_map_or}
use Rattle.std.specs.List.Sorted.{IsNonDecreasingBy, IsPermutation}
use Rattle.vt_base.specs.declared.place.Entry.{Entry}
use Rattle.vt_model.specs.Places.{bucket_of}

-- the entries, and how many their memory has room for
pub record EntriesState : Type 0 where
  pub items : List Entry
  pub room : ℕ

-- the entries, or none where there is no list
abbrev pub listed_entries : Option EntriesState → List Entry
listed_entries entries = option_map_or (λ list. list.items) entries []

-- When a bucket has its turn in a writeback that begins behind one: those of higher numbers come
-- first, in the order of their numbers, and then the others.
abbrev pub turn : (behind : Option ℕ) → (n : ℕ) → ℕ
turn None n = n
turn (Some last) n = if nat_le n last then n + 2 ^ 32 else n

-- the entries stand in the order of their buckets' turns, where there are so many buckets
abbrev pub IsOrdered : (total : ℕ) → (behind : Option ℕ) → List Entry → Type 0
IsOrdered total behind entries =
    IsNonDecreasingBy (λ entry. turn behind (bucket_of total entry.key.score.0)) entries

-- The entries are the same, in the same memory, and stand in the order of their buckets' turns.
pub record Orders (total : ℕ) (behind : Option ℕ) (old new : EntriesState) : Type 0 where
  pub same : IsPermutation old.items new.items
  pub room : new.room ≡ old.room
  pub ordered : IsOrdered total behind new.items
