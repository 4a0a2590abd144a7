-- Losing, tearing and reordering writes leads to the combinations of synced and pending bytes, and
-- to all of them.
use Rattle.std.proofs.Common.{◌≡◌, ℕ, zero, suc, ◌<◌, Bool, false, List, [], ◌∷◌, length, get_or, refl, sym, ◌∙◌, subst, arith, ⊎_elim}
use Rattle.std.specs.Prelude.{Contains}
use Rattle.std.proofs.lemmas.Bool.{cases_lt, true≢false}
use Rattle.std.proofs.lemmas.List.{get_or_past}
use Rattle.vt_base.specs.Bytes.{AreBytes}
use Rattle.vt_disk.specs.Disk.{Touches}
use Rattle.vt_memdisk.specs.Cells.{is_pending, IsCombination, MarksPending}
use Rattle.vt_memdisk.specs.Writes.{Written, LeftBy, lost, torn, Pends, AreUnsynced}
use Rattle.vt_memdisk.proofs.Combinations.{only_synced, restored, before, before_same, free_before}

left_then : (writes : List Written) (a b c : List ℕ) → LeftBy writes a b → LeftBy writes b c
    → LeftBy writes a c
left_then writes a b c first lost = first
left_then writes a b c first (torn w d e has left same) = torn w d c has
    (left_then writes a b d first left) same

left_wider : (w : Written) (writes : List Written) (a b : List ℕ) → LeftBy writes a b
    → LeftBy (w ∷ writes) a b
left_wider w writes a b lost = lost
left_wider w writes a b (torn v c d has left same) = torn v c b
    (suc has.0, omega (arith, has.1), has.2) (left_wider w writes a c left) same

-- an image is left by the writes of one from before them
image_left : (writes : List Written) (synced : List ℕ) (old new : List Bool) → AreBytes synced
    → length old ≡ length synced → Pends writes old new
    → (c : List ℕ) → IsCombination synced new c → (d : List ℕ) × IsCombination synced old d
    × LeftBy writes d c
image_left [] synced old new fits lengths pends c is =
    (c, subst (λ pending. IsCombination synced pending c) pends is, lost)
image_left (w ∷ writes) synced old new fits lengths pends c is =
    let mid = pends.0 in
    let marks : MarksPending w.start w.len old mid = pends.1 in
    let later = image_left writes synced mid new fits (marks.same_length ∙ lengths) pends.2 c is in
    let d : List ℕ = later.0 in (
      restored synced old d,
      before w.start w.len synced old mid fits lengths marks d later.1,
      left_then (w ∷ writes) (restored synced old d) d c
          (torn w (restored synced old d) d (0, omega arith, refl) lost
          (before_same w.start w.len synced old mid fits lengths marks d later.1))
          (left_wider w writes d c later.2),
    )

-- what isn't pending after the writes was not before them, and none touched it
free_first : (writes : List Written) (old new : List Bool) → Pends writes old new → (i : ℕ)
    → is_pending new i ≡ false → is_pending old i ≡ false
free_first [] old new pends i free = subst (λ pending. is_pending pending i ≡ false) pends free
free_first (w ∷ writes) old new pends i free = free_before w.start w.len old pends.0 pends.1 i
    (free_first writes pends.0 new pends.2 i free)

none_touched : (writes : List Written) (old new : List Bool) → Pends writes old new → (i : ℕ)
    → i < length old → is_pending new i ≡ false
    → (w : Written) → Contains writes w → ¬ Touches w.start w.len i
none_touched [] old new pends i inside free w has here = omega (arith, has.1)
none_touched (v ∷ writes) old new pends i inside free w (zero, below, is) here =
    let marks : MarksPending v.start v.len old pends.0 = pends.1 in
    true≢false (sym (marks.touched i inside
    (subst (λ u. Touches (Written.start u) (Written.len u) i) (sym is) here))
    ∙ free_first writes pends.0 new pends.2 i free)
none_touched (v ∷ writes) old new pends i inside free w (suc k, below, is) here =
    let marks : MarksPending v.start v.len old pends.0 = pends.1 in
    none_touched writes pends.0 new pends.2 i (omega (arith, marks.same_length)) free w
    (k, omega arith, is) here

left_length : (writes : List Written) (a b : List ℕ) → LeftBy writes a b → length b ≡ length a
left_length writes a b lost = refl
left_length writes a b (torn w c d has left same) = same.same_length ∙ left_length writes a c left

left_same : (writes : List Written) (i : ℕ)
    → ((w : Written) → Contains writes w → ¬ Touches w.start w.len i) → (a b : List ℕ)
    → LeftBy writes a b → get_or b i 0 ≡ get_or a i 0
left_same writes i free a b lost = refl
left_same writes i free a b (torn w c d has left same) = same.others i (free w has)
    ∙ left_same writes i free a c left

pub left_is_image : (writes : List Written) (synced : List ℕ) (pending : List Bool)
    → AreUnsynced writes synced pending → (file : List ℕ) → AreBytes file
    → LeftBy writes synced file → IsCombination synced pending file
left_is_image writes synced pending unsynced file fits left = record {
  fits = fits;
  same_length = left_length writes synced file left;
  settled = λ i free. ⊎_elim
      (λ inside. left_same writes i (none_touched writes unsynced.0 pending unsynced.3 i
      (omega (arith, unsynced.1)) free) synced file left)
      (λ past. get_or_past file i 0 (omega (arith, left_length writes synced file left))
      ∙ sym (get_or_past synced i 0 past))
      (cases_lt i (length synced));
}

pub image_is_left : (writes : List Written) (synced : List ℕ) (pending : List Bool)
    → AreBytes synced → AreUnsynced writes synced pending → (file : List ℕ)
    → IsCombination synced pending file → LeftBy writes synced file
image_is_left writes synced pending fits unsynced file is =
    let from = image_left writes synced unsynced.0 pending fits unsynced.1 unsynced.3 file is in
    subst (λ d. LeftBy writes d file)
    (only_synced synced synced unsynced.0 unsynced.2 refl from.0 from.1) from.2
