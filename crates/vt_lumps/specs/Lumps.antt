-- The blocks that a cache keeps, by their keys.
use Rattle.std.specs.Prelude.{ℕ, ◌-◌, List, Option, length, take}
use Rattle.std.specs.Map.{lookup}
use Rattle.lru.specs.LruCache.{LruCache, lru_cache, promoted, put_entries}
use Rattle.vt_base.specs.Key.{same_key}
use Rattle.vt_base.specs.declared.key.Key.{Key}

-- the blocks with their keys, the most recently used first, and how many there may be
abbrev pub LumpsState : Type 0
LumpsState = LruCache Key (List ℕ)

-- the bytes of this key's block, if it is kept
abbrev pub cached_bytes : Key → LumpsState → Option (List ℕ)
cached_bytes key s = lookup (same_key key) s.entries

-- the block of this key was used: it goes first
abbrev pub used : Key → LumpsState → LumpsState
used key s = lru_cache (promoted (same_key key) s.entries) s.cap

-- this block is kept: it goes first, in place of what its key had or, where there is none and no
-- room, of the last
abbrev pub with_lump : Key → (bytes : List ℕ) → LumpsState → LumpsState
with_lump key bytes s = lru_cache (put_entries same_key s key bytes) s.cap

-- without the least recently used block
abbrev pub without_last : LumpsState → LumpsState
without_last s = lru_cache (take (length s.entries - 1) s.entries) s.cap
