-- What marking the range of a write makes of the pending bytes and the dirty sectors.
use Rattle.std.proofs.Common.{◌≡◌, ℕ, ◌+◌, ◌-◌, ◌/◌, ◌<◌, ◌≤◌, Bool, true, false, List, length, get_or, replicate, ◌∙◌, arith, ⊎_elim}
use Rattle.std.proofs.lemmas.Bool.{cases_lt}
use Rattle.std.proofs.lemmas.List.{get_or-replicate, length-replicate}
use Rattle.vt_disk.specs.Disk.{Touches, with_bytes}
use Rattle.vt_disk.proofs.Bytes.{touches_written, touches_cases, length-with_bytes, with_bytes_below, with_bytes_within, with_bytes_above}
use Rattle.vt_memdisk.specs.Cells.{is_pending, MarksPending}
use Rattle.vt_memdisk.specs.Sectors.{IsAmongFirst}

touched_range : (start n i : ℕ) → Touches start n i → (start ≤ i) × (i < start + n)
unfolding Touches
touched_range start n i here = here

-- the range of a write is set pending
pub marks_set : (start n : ℕ) (old new : List Bool) → start + n ≤ length old → new
    ≡ with_bytes start (replicate n true) old → MarksPending start n old new
marks_set start n old new within is =
    let size : length (replicate n true) ≡ n = length-replicate n true in
    let fits : start + length (replicate n true) ≤ length old = omega arith in
    rw is (record {
      same_length = length-with_bytes start (replicate n true) old fits;
      touched = λ i inside here.
          let in_range : (start ≤ i) × (i < start + n) = touched_range start n i here in
          with_bytes_within start (replicate n true) old fits false i in_range.0 (omega arith)
          ∙ get_or-replicate n (i - start) true false (omega arith);
      others = λ i untouched. ⊎_elim
          (λ below. with_bytes_below start (replicate n true) old fits false i below)
          (λ above. ⊎_elim
          (λ inside. absurd (untouched (touches_written start n i above inside)))
          (λ behind. with_bytes_above start (replicate n true) old fits false i (omega arith))
          (cases_lt i (start + n)))
          (cases_lt i start);
    })

-- the sectors of what is pending are dirty
pub still_clean : (start n size count count' : ℕ) (old new : List Bool) (place place' : List ℕ)
    → length place ≡ size / 512 + 1
    → ((i : ℕ) → i < size → count ≤ get_or place (i / 512) 0 → is_pending old i ≡ false)
    → MarksPending start n old new
    → ((s : ℕ) → start / 512 ≤ s → s ≤ (start + n) / 512 → IsAmongFirst place' count' s)
    → ((s : ℕ) → s < length place → IsAmongFirst place count s → IsAmongFirst place' count' s)
    → (i : ℕ) → i < size → count' ≤ get_or place' (i / 512) 0 → is_pending new i ≡ false
still_clean start n size count count' old new place place' sectors clean marks added kept i inside
    above = ⊎_elim
    (λ here.
    let in_range : (start ≤ i) × (i < start + n) = touched_range start n i here in
    absurd (omega (
      arith,
      in_range.0,
      in_range.1,
      added (i / 512) (omega (arith, in_range.0))
          (omega (arith, in_range.1)),
    )))
    (λ untouched. marks.others i untouched
    ∙ ⊎_elim
    (λ dirty. absurd (omega (arith, kept (i / 512) (omega arith) dirty)))
    (λ free. clean i inside free)
    (cases_lt (get_or place (i / 512) 0) count))
    (touches_cases start n i)
