-- What an open file holds, and what calls leave of it.
use Rattle.std.specs.Prelude.{◌≡◌, ℕ, Bool, IsTrue, List, length}
use Rattle.vt_disk.specs.Disk.{Touches, SameBut, AreAmong, ChangesAt}

-- It holds what it held, a crash leaves no more of it, and still nobody else changes it.
pub record StaysHeld (kept : Bool) (old new : List ℕ) (before after : List ℕ → Type 0) : Type 0 where
  pub alone : IsTrue kept
  pub bytes : new ≡ old
  pub images : AreAmong after before

-- A write of n bytes, which may have failed, changed what it touches alone, a crash may leave what it
-- might leave before, and still nobody else changes the file.
pub record Overwrites (start n : ℕ) (kept : Bool) (old new : List ℕ)
    (before after : List ℕ → Type 0) : Type 0 where
  pub alone : IsTrue kept
  pub others : SameBut (Touches start n) old new
  pub images : ChangesAt (Touches start n) before after
  pub keeps : AreAmong before after

-- a crash leaves so many bytes
abbrev pub HaveLength : (len : ℕ) (images : List ℕ → Type 0) → Type 0
HaveLength len images = (c : List ℕ) → images c → length c ≡ len
