-- The entries of the index that are kept in memory (Quinlan and Dorward 2002, the index cache).
use Rattle.std.specs.Prelude.{◌≡◌, ◌⊎◌, ℕ, ◌-◌, Bool, cond, nat_lt, Option, None, IsPermutation, List, [], ◌∷◌, map, take}
use Rattle.std.specs.List.{Contains, filter, find}
use Rattle.std.specs.Option.{option_map, option_map_or, option_or}
use Rattle.vt_base.specs.Key.{same_key}
use Rattle.vt_base.specs.declared.key.Key.{Key}
use Rattle.vt_base.specs.declared.place.Entry.{Entry}
use Rattle.vt_base.specs.declared.place.Info.{Info}

-- Dirty entries are those that aren't written back to their buckets, each with its block's number;
-- clean ones were, the most recently used first. There is room for so many of each.
pub record IndexState : Type 0 where
  pub dirty : List Info
  pub room : ℕ
  pub clean : List Entry
  pub clean_room : ℕ

-- the index entry of a directory entry
abbrev pub entry_of : Info → Entry
entry_of info = record { key = info.key; size = info.size; place = info.place }

-- ---- looking up

-- whether the dirty entry is of this key
abbrev pub is_info_of : Key → Info → Bool
is_info_of key info = same_key key info.key

-- whether the clean entry is of this key
abbrev pub is_entry_of : Key → Entry → Bool
is_entry_of key entry = same_key key entry.key

-- the dirty entry of this key, if there is one
abbrev pub dirty_info : Key → IndexState → Option Info
dirty_info key s = find (is_info_of key) s.dirty

-- the clean entry of this key, if there is one
abbrev pub clean_entry : Key → IndexState → Option Entry
clean_entry key s = find (is_entry_of key) s.clean

-- the entry of a key: the dirty one or, where there is none, the clean one
abbrev pub cached_entry : Key → IndexState → Option Entry
cached_entry key s = option_or (option_map entry_of (dirty_info key s)) (clean_entry key s)

-- the entry is kept, as a dirty or a clean one
abbrev pub IsCached : IndexState → Entry → Type 0
IsCached s entry =
    ((info : Info) × Contains s.dirty info × (entry_of info ≡ entry)) ⊎ Contains s.clean entry

-- without the first that passes
abbrev pub without_first : {X : Type 0} → (X → Bool) → List X → List X
without_first test [] = []
without_first test (x ∷ xs) = cond (test x) xs (x ∷ without_first test xs)

-- the first that passes goes to the front
abbrev pub recent : {X : Type 0} → (X → Bool) → List X → List X
recent test xs = option_map_or (λ x. x ∷ without_first test xs) (find test xs) xs

-- the entry of a key was looked up: where it is a clean one, it was used
abbrev pub after_look_up : Key → IndexState → IndexState
after_look_up key s = record s {
  clean = option_map_or (λ _. s.clean) (dirty_info key s) (recent (is_entry_of key) s.clean);
}

-- ---- writing back

-- Whether the block of an entry is below this number.
abbrev pub is_below : (below : ℕ) → Info → Bool
is_below below info = nat_lt info.number below

-- the entries of the dirty ones below a number
abbrev pub entries_below : (below : ℕ) → List Info → List Entry
entries_below below dirty = map entry_of (filter (is_below below) dirty)

-- An entry becomes clean: it goes first, in place of one of its key or, where there is none and no
-- room, of the last.
abbrev pub with_clean : Entry → (room : ℕ) → List Entry → List Entry
with_clean entry room clean =
    option_map_or (λ _. entry ∷ without_first (is_entry_of entry.key) clean)
    (find (is_entry_of entry.key) clean) (entry ∷ take (room - 1) clean)

-- A dirty entry was written back. It becomes clean, or is dropped where there is no memory for it;
-- the others stay dirty, in any order.
pub record SettlesEntry (info : Info) (old new : IndexState) : Type 0 where
  pub dirty : IsPermutation old.dirty (info ∷ new.dirty)
  pub gone : dirty_info info.key new ≡ None
  pub clean : (new.clean ≡ with_clean (entry_of info) old.clean_room old.clean)
      ⊎ (new.clean ≡ old.clean)
  pub room : new.room ≡ old.room
  pub clean_room : new.clean_room ≡ old.clean_room
