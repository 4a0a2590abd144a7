-- What a file as a disk tells before a call and after it.
use Rattle.std.proofs.Common.{◌≡◌, ℕ, ◌+◌, Bool, true, false, List, [], ◌∷◌, ◌++◌, length, refl, sym, ◌∙◌, ap, arith, length-append}
use Rattle.std.specs.Prelude.{IsTrue, Result, Ok, Err, OnOk}
use Rattle.vt_base.specs.Bytes.{AreBytes}
use Rattle.vt_base.specs.Faults.{IsOneMore}
use Rattle.vt_disk.specs.Disk.{Touches, SameBut, AreAmong, ChangesAt, Only, part, with_bytes}
use Rattle.vt_disk.proofs.Bytes.{same_refl}
use Rattle.vt_host.specs.Calls.{FileCall}
use Rattle.vt_host.specs.Held.{HaveLength}
use Rattle.vt_host.specs.ToldDisks.{told, images_told, call_count}
use Rattle.vt_host.specs.Untold.{untold}

pub told_same : (t : Bool) (old new : List ℕ) → (IsTrue t → new ≡ old) → told t new ≡ told t old
told_same true old new same = same refl
told_same false old new same = refl

pub images_among : (t : Bool) (old new : ℕ) (before after : List ℕ → Type 0) → new ≡ old
    → (IsTrue t → AreAmong after before)
    → AreAmong (images_told t new after) (images_told t old before)
images_among t old new before after same among c image =
    (image.0 ∙ same, image.1, λ tells. among tells c (image.2 tells))

pub images_change : (t : Bool) (P : ℕ → Type 0) (old new : ℕ) (before after : List ℕ → Type 0)
    → new ≡ old → (IsTrue t → ChangesAt P before after)
    → (IsTrue t → (d : List ℕ) → before d → AreBytes d)
    → ChangesAt P (images_told t old before) (images_told t new after)
images_change true P old new before after same changes are c image =
    let from = changes refl c (image.2 refl) in (
      from.0,
      (sym (SameBut.same_length from.2) ∙ image.0 ∙ same, are refl from.0 from.1, λ _. from.1),
      from.2,
    )
images_change false P old new before after same changes are c image =
    (c, (image.0 ∙ same, image.1, λ tells. untold tells), same_refl P c)

-- a crash leaves as many bytes as before
pub length_among : (len : ℕ) (before after : List ℕ → Type 0) → HaveLength len before
    → AreAmong after before → HaveLength len after
length_among len before after sized among c image = sized c (among c image)

pub length_changes : (P : ℕ → Type 0) (len : ℕ) (before after : List ℕ → Type 0)
    → HaveLength len before → ChangesAt P before after → HaveLength len after
length_changes P len before after sized changes c image =
    let from = changes c image in SameBut.same_length from.2 ∙ sized from.0 from.1

-- behind a sync, as many as a read gives
pub length_settled : (len : ℕ) (bytes : List ℕ) (images : List ℕ → Type 0) → length bytes ≡ len
    → Only bytes images → HaveLength len images
length_settled len bytes images sized settled c image =
    ap (λ (l : List ℕ). length l) (settled c image) ∙ sized

-- a call is counted
pub counted : (old new : List FileCall) (call : FileCall) → new ≡ old ++ call ∷ []
    → IsOneMore (call_count old) (call_count new)
counted old new call added = let longer : length new ≡ length old + 1
    = ap (λ (calls : List FileCall). length calls) added ∙ length-append old (call ∷ []) in
    omega (arith, longer)

module _ {T E : Type 0} where
  pub read_told : (r : Result T E) (t : Bool) (start n : ℕ) (bytes buf : List ℕ)
      → OnOk r (IsTrue t → buf ≡ part start n bytes)
      → OnOk r (IsTrue t → buf ≡ part start n (told t bytes))
  read_told (Ok x) true start n bytes buf read = read
  read_told (Ok x) false start n bytes buf read = λ tells. untold tells
  read_told (Err e) t start n bytes buf read = tt

  pub written_told : (r : Result T E) (t : Bool) (start : ℕ) (chunk old new : List ℕ)
      → OnOk r (IsTrue t → new ≡ with_bytes start chunk old)
      → OnOk r (IsTrue t → told t new ≡ with_bytes start chunk (told t old))
  written_told (Ok x) true start chunk old new written = written
  written_told (Ok x) false start chunk old new written = λ tells. untold tells
  written_told (Err e) t start chunk old new written = tt

  pub settled_told : (r : Result T E) (t : Bool) (len : ℕ) (bytes : List ℕ)
      (images : List ℕ → Type 0) → OnOk r (IsTrue t → Only bytes images)
      → OnOk r (IsTrue t → Only (told t bytes) (images_told t len images))
  settled_told (Ok x) true len bytes images settled =
      λ tells c image. settled tells c (image.2 tells)
  settled_told (Ok x) false len bytes images settled = λ tells. untold tells
  settled_told (Err e) t len bytes images settled = tt

pub others_told : (t : Bool) (start n : ℕ) (old new : List ℕ)
    → (IsTrue t → SameBut (Touches start n) old new)
    → IsTrue t → SameBut (Touches start n) (told t old) (told t new)
others_told true start n old new others = others
others_told false start n old new others = λ tells. untold tells
