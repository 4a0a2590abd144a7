-- How entries are kept: each under its own key.
use Rattle.std.specs.Prelude.{◌≡◌, ◌≤◌, ◌+◌, ℕ, List, [], map, take}
use Rattle.std.specs.List.{AllByRecursion}
use Rattle.vt_base.specs.Key.{same_key}
use Rattle.vt_base.specs.Kind.{IsKind}
use Rattle.vt_base.specs.declared.key.Key.{Key}
use Rattle.vt_base.specs.declared.place.Entry.{Entry}
use Rattle.vt_base.specs.declared.place.Info.{Info}
use Rattle.indexmap.specs.IndexMap.{IndexMap, index_map_len, spare, values, IsUnique}
use Rattle.lru.specs.LruCache.{LruCache}

-- the first ones are dirty
abbrev pub dirty_infos : {S : Type 0} → IndexMap Key Info S → (dirty : ℕ) → List Info
dirty_infos infos dirty = take dirty (values infos)

-- the clean entries, the one used last first
abbrev pub clean_entries : LruCache Key Entry → List Entry
clean_entries clean = map (λ pair. pair.1) clean.entries

-- The invariant of the index cache: each entry stands under its own key, and there are no more of
-- either sort than there is room for.
pub record IsWell {S : Type 0} (room : ℕ) (infos : IndexMap Key Info S) (dirty : ℕ)
    (blank : IndexMap Key Info S) (clean : LruCache Key Entry) : Type 0 where
  pub info_keys : AllByRecursion (λ (pair : Key × Info). pair.1.key ≡ pair.0) infos.entries
  pub entry_keys : AllByRecursion (λ (pair : Key × Entry). pair.1.key ≡ pair.0) clean.entries
  -- each has one of the types of blocks
  pub info_kinds : AllByRecursion (λ (pair : Key × Info). IsKind pair.0.kind) infos.entries
  pub entry_kinds : AllByRecursion (λ (pair : Key × Entry). IsKind pair.0.kind) clean.entries
  pub within : dirty ≤ index_map_len infos
  pub fits : dirty ≤ room
  -- as many fit with no allocation, where the settled ones go
  pub room_is : room ≤ index_map_len infos + spare infos
  pub blank_empty : blank.entries ≡ []
  pub blank_room : room ≤ spare blank
  pub unique : IsUnique same_key infos
