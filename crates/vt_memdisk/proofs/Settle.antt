-- What settling a range makes of the synced bytes and of the pending ones.
use Rattle.std.proofs.Common.{◌≡◌, ◌⊎◌, inl, inr, ℕ, ◌+◌, ◌-◌, ◌*◌, ◌/◌, ◌<◌, ◌≤◌, min, Bool, false, List, length, drop, get_or, replicate, sym, ◌∙◌, ap, subst, arith, ⊎_elim, length-take-le, length-drop}
use Rattle.std.proofs.lemmas.Bool.{cases_lt, cases_eq}
use Rattle.std.proofs.lemmas.List.{get_or-take, get_or-drop, get_or-replicate, length-replicate}
use Rattle.vt_base.specs.Bytes.{AreBytes}
use Rattle.vt_disk.specs.Disk.{part, with_bytes}
use Rattle.vt_disk.proofs.Bytes.{with_bytes_below, with_bytes_within, with_bytes_above}
use Rattle.vt_memdisk.specs.Cells.{is_pending}
use Rattle.vt_memdisk.specs.Sectors.{AreInverse}

-- in a range or outside it
range_cases : (start n i : ℕ) → ((start ≤ i) × (i < start + n)) ⊎ ((i < start) ⊎ (start + n ≤ i))
range_cases start n i = ⊎_elim
    (λ below. inr (inl below))
    (λ above. ⊎_elim (λ within. inl (above, within)) (λ behind. inr (inr behind))
    (cases_lt i (start + n)))
    (cases_lt i start)

module _ {A : Type 0} (start n : ℕ) (chunk file : List A) (size : length chunk ≡ n)
    (within : start + n ≤ length file) (d : A) where
  fits : start + length chunk ≤ length file
  fits = omega arith

  outside : (i : ℕ) → (i < start) ⊎ (start + n ≤ i) → get_or (with_bytes start chunk file) i d
      ≡ get_or file i d
  outside i not_in = ⊎_elim
      (λ below. with_bytes_below start chunk file fits d i below)
      (λ behind. with_bytes_above start chunk file fits d i (omega arith))
      not_in

  inside : (i : ℕ) → (start ≤ i) × (i < start + n) → get_or (with_bytes start chunk file) i d
      ≡ get_or chunk (i - start) d
  inside i in_range = with_bytes_within start chunk file fits d i in_range.0
      (omega (arith, in_range.1))

module _ (start n : ℕ) (content synced : List ℕ) (pending : List Bool)
    (within : start + n ≤ length content)
    (synced_length : length synced ≡ length content)
    (pending_length : length pending ≡ length content) where
  part_length : length (part start n content) ≡ n
  part_length = length-take-le n (drop start content) (omega (arith, length-drop start content))

  synced_inside : (i : ℕ) → (start ≤ i) × (i < start + n)
      → get_or (with_bytes start (part start n content) synced) i 0 ≡ get_or content i 0
  synced_inside i in_range =
      inside start n (part start n content) synced part_length (omega arith) 0 i in_range
      ∙ get_or-take n (drop start content) (i - start) 0 (omega (arith, in_range.0, in_range.1))
      ∙ get_or-drop start content (i - start) 0
      ∙ ap (λ (k : ℕ). get_or content k 0) (omega (arith, in_range.0))

  synced_outside : (i : ℕ) → (i < start) ⊎ (start + n ≤ i)
      → get_or (with_bytes start (part start n content) synced) i 0 ≡ get_or synced i 0
  synced_outside = outside start n (part start n content) synced part_length (omega arith) 0

  pub none_inside : (i : ℕ) → (start ≤ i) × (i < start + n)
      → is_pending (with_bytes start (replicate n false) pending) i ≡ false
  none_inside i in_range =
      inside start n (replicate n false) pending (length-replicate n false)
      (omega arith) false i in_range
      ∙ get_or-replicate n (i - start) false false (omega (arith, in_range.0, in_range.1))

  pub pending_outside : (i : ℕ) → (i < start) ⊎ (start + n ≤ i)
      → is_pending (with_bytes start (replicate n false) pending) i ≡ is_pending pending i
  pending_outside = outside start n (replicate n false) pending (length-replicate n false)
      (omega arith) false

  pub synced_fits : AreBytes content → AreBytes synced
      → AreBytes (with_bytes start (part start n content) synced)
  synced_fits content_fits old_fits i = ⊎_elim
      (λ in_range. subst (λ b. b < 256) (sym (synced_inside i in_range)) (content_fits i))
      (λ not_in. subst (λ b. b < 256) (sym (synced_outside i not_in)) (old_fits i))
      (range_cases start n i)

  pub still_same : ((i : ℕ) → is_pending pending i ≡ false → get_or content i 0 ≡ get_or synced i 0)
      → (i : ℕ) → is_pending (with_bytes start (replicate n false) pending) i ≡ false
      → get_or content i 0 ≡ get_or (with_bytes start (part start n content) synced) i 0
  still_same settled i free = ⊎_elim
      (λ in_range. sym (synced_inside i in_range))
      (λ not_in. settled i (sym (pending_outside i not_in) ∙ free) ∙ sym (synced_outside i not_in))
      (range_cases start n i)

  -- what is in the last dirty sector is settled; what isn't was clean or is dirty still
  pub still_clean : (order place : List ℕ) (count sector : ℕ) → AreInverse order place
      → length place ≡ length content / 512 + 1 → 0 < count → sector < length place
      → get_or place sector 0 ≡ count - 1 → start ≡ sector * 512 → n
      ≡ min 512 (length content - start)
      → ((i : ℕ) → i < length content → count ≤ get_or place (i / 512) 0 → is_pending pending i
      ≡ false)
      → (i : ℕ) → i < length content → count - 1 ≤ get_or place (i / 512) 0
      → is_pending (with_bytes start (replicate n false) pending) i ≡ false
  still_clean order place count sector inverse sectors some in_order last start_is n_is clean i here
      above = ⊎_elim
      (λ in_range. none_inside i in_range)
      (λ not_in. pending_outside i not_in ∙ clean i here
      (⊎_elim
      (λ same. absurd (⊎_elim (λ (below : i < start). omega (arith, sector_of same))
      (λ (behind : start + n ≤ i). omega (arith, sector_of same)) not_in))
      (λ other. omega arith)
      (cases_eq (get_or place (i / 512) 0) (count - 1))))
      (range_cases start n i)
    where
      -- one sector stands at a place
      sector_of : get_or place (i / 512) 0 ≡ count - 1 → i / 512 ≡ sector
      sector_of same =
          sym (inverse.number_at_place (i / 512) (omega (arith, inverse.same_length)))
          ∙ ap (λ (k : ℕ). get_or order k 0) (same ∙ sym last)
          ∙ inverse.number_at_place sector (omega (arith, inverse.same_length))
