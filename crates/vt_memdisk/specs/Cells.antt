-- What a disk in memory may leave after a crash.
use Rattle.std.specs.Prelude.{◌≡◌, ℕ, ◌<◌, Bool, true, false, List, [], ◌∷◌, length, drop, slice_index, slice_index_or, ◌==◌, if◌then◌else◌, nat_lt}
use Rattle.vt_base.specs.Bytes.{AreBytes}
use Rattle.vt_disk.specs.Disk.{Touches}

-- whether byte i was touched since the last sync
abbrev pub is_pending : List Bool → ℕ → Bool
is_pending pending i = slice_index_or pending i false

-- nothing is pending
abbrev pub NonePending : List Bool → Type 0
NonePending pending = (i : ℕ) → is_pending pending i ≡ false

-- the synced bytes, with any bytes where one is pending
pub record IsCombination (synced : List ℕ) (pending : List Bool) (c : List ℕ) : Type 0 where
  pub fits : AreBytes c
  pub same_length : length c ≡ length synced
  pub settled : (i : ℕ) → is_pending pending i ≡ false → slice_index c i ≡ slice_index synced i

-- after a write of n bytes from `start` on, what it touches is pending too
pub record MarksPending (start n : ℕ) (old new : List Bool) : Type 0 where
  pub same_length : length new ≡ length old
  pub touched : (i : ℕ) → i < length old → Touches start n i → is_pending new i ≡ true
  pub others : (i : ℕ) → ¬ Touches start n i → is_pending new i ≡ is_pending old i

-- what a choice makes of a pending byte: itself if it is a byte, 257 the written one, all else the
-- synced one
abbrev pub chosen_byte : (choice synced written : ℕ) → ℕ
chosen_byte choice synced written =
    if nat_lt choice 256 then choice else if choice == 257 then written else synced

-- the first choice left, or the synced byte where none is
abbrev pub first_choice : List ℕ → ℕ
first_choice [] = 256
first_choice (c ∷ choice) = c

-- a byte after the crash
abbrev pub byte_after : Bool → (synced written : ℕ) → (choice : List ℕ) → ℕ
byte_after pending synced written choice =
    if pending then chosen_byte (first_choice choice) synced written else synced

-- the pending bytes, in ascending position, take the choices one after the other
abbrev pub chosen : List Bool → (synced written choice : List ℕ) → List ℕ
chosen (p ∷ pending) (s ∷ synced) (w ∷ written) choice =
    byte_after p s w choice ∷ chosen pending synced written (if p then drop 1 choice else choice)
chosen pending synced written choice = []
