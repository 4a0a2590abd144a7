-- What a file as a disk tells: just what its file tells.
use Rattle.std.specs.Prelude.{◌≡◌, ℕ, ◌-◌, ◌^◌, min, Bool, true, false, IsTrue, List, [], length}
use Rattle.std.proofs.Common.{sym}
use Rattle.std.proofs.lemmas.Bool.{true≢false}
use Rattle.vt_base.specs.Bytes.{AreBytes}
use Rattle.vt_host.specs.Calls.{FileCall}

-- the bytes, where they are told
abbrev pub told : (tells : Bool) (bytes : List ℕ) → List ℕ
told false bytes = []
told true bytes = bytes

-- what a crash may leave of a file of this length: where it isn't told, anything
abbrev pub images_told : (tells : Bool) (len : ℕ) (images : List ℕ → Type 0) → List ℕ → Type 0
images_told tells len images c = (length c ≡ len) × AreBytes c × (IsTrue tells → images c)

-- a count of calls, which stands still at the end of its type
abbrev pub call_count : List FileCall → ℕ
call_count calls = min (length calls) (2 ^ 64 - 1)

-- a crash may leave what a read gives
pub read_is_told : (tells : Bool) (len : ℕ) (bytes : List ℕ) (images : List ℕ → Type 0) → IsTrue tells
    → length bytes ≡ len → AreBytes bytes → images bytes
    → images_told tells len images (told tells bytes)
read_is_told true len bytes images tells sized are image = (sized, are, λ _. image)
read_is_told false len bytes images tells sized are image = absurd (true≢false (sym tells))
