-- What the calls of a disk do to its bytes, and what a crash may leave of them. Venti asks of a
-- disk that it stores blocks and syncs them (Quinlan and Dorward 2002); what a crash may leave
-- between two syncs is this project's model.
use Rattle.std.specs.Prelude.{◌≡◌, ◌⊎◌, ℕ, ◌+◌, ◌%◌, ◌<◌, ◌≤◌, List, ◌++◌, length, take, drop, slice_index}
pub use Rattle.vt_base.specs.Faults.{IsOneMore}
use Rattle.vt_disk.specs.declared.TheConstants.{SECTOR_LEN}

-- Which bytes a write of n bytes from `start` on touches: until the next sync, a crash may leave
-- anything there.
unfoldable pub Touches : (start n : ℕ) → ℕ → Type 0
Touches start n i = (start ≤ i) × (i < start + n)

-- a place between two sectors
abbrev pub IsAligned : ℕ → Type 0
IsAligned place = place % SECTOR_LEN ≡ 0

-- the n bytes from `start` on
abbrev pub part : {A : Type 0} → (start n : ℕ) → List A → List A
part start n file = take n (drop start file)

-- the file with this chunk from `start` on
abbrev pub with_bytes : {A : Type 0} → (start : ℕ) → (chunk file : List A) → List A
with_bytes start chunk file = take start file ++ chunk ++ drop (start + length chunk) file

-- The file has the same length, and the same bytes but where P holds.
pub record SameBut (P : ℕ → Type 0) (old new : List ℕ) : Type 0 where
  pub same_length : length new ≡ length old
  pub others : (i : ℕ) → ¬ P i → slice_index new i ≡ slice_index old i

-- A disk has images, the files that a crash may leave. These are all among those.
abbrev pub AreAmong : (these those : List ℕ → Type 0) → Type 0
AreAmong these those = (c : List ℕ) → these c → those c

-- a crash leaves nothing but this
abbrev pub Only : List ℕ → (images : List ℕ → Type 0) → Type 0
Only file images = (c : List ℕ) → images c → c ≡ file

-- each new image is an old one, with any bytes where P holds
abbrev pub ChangesAt : (P : ℕ → Type 0) → (old new : List ℕ → Type 0) → Type 0
ChangesAt P old new = (c : List ℕ) → new c → (d : List ℕ) × old d × SameBut P d c

-- what a crash may leave at a moment within a call: what it may leave before the call or after it
abbrev pub WithinCall : (before after : List ℕ → Type 0) → List ℕ → Type 0
WithinCall before after c = before c ⊎ after c
