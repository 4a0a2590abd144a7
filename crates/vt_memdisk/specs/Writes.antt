-- What a crash makes of writes that were not synced.
use Rattle.std.specs.Prelude.{◌≡◌, ℕ, Bool, List, [], ◌∷◌, Contains, length}
use Rattle.vt_disk.specs.Disk.{Touches, SameBut}
use Rattle.vt_memdisk.specs.Cells.{NonePending, MarksPending}

-- a write of `len` bytes from `start` on
pub record Written : Type 0 where
  pub start : ℕ
  pub len : ℕ

-- What is left of a file: the writes, in any order and each any number of times, put something
-- where they touch, be it their bytes, some of them, or any others. A write that never does is
-- lost.
pub data LeftBy (writes : List Written) (file : List ℕ) : List ℕ → Type 0 where
  lost : LeftBy writes file file
  torn : (w : Written) (c d : List ℕ) → Contains writes w → LeftBy writes file c
      → SameBut (Touches w.start w.len) c d → LeftBy writes file d

-- what the writes, one after the other, make pending
abbrev pub Pends : List Written → (old new : List Bool) → Type 0
Pends [] old new = new ≡ old
Pends (w ∷ writes) old new =
    (mid : List Bool) × MarksPending w.start w.len old mid × Pends writes mid new

-- these are the writes since the last sync, which left nothing pending
abbrev pub AreUnsynced : List Written → (synced : List ℕ) (pending : List Bool) → Type 0
AreUnsynced writes synced pending = (none : List Bool) × (length none ≡ length synced)
    × NonePending none × Pends writes none pending
