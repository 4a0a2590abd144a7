-- The combinations of pending bytes before and after a write.
use Rattle.std.proofs.Common.{◌≡◌, ℕ, zero, suc, ◌+◌, ◌<◌, ◌≤◌, Bool, true, false, cond, List, [], ◌∷◌, length, get_or, refl, sym, ◌∙◌, ap, subst, arith, ⊎_elim}
use Rattle.std.specs.Prelude.{Result, Ok, Err, OnOk, OnErr}
use Rattle.std.proofs.lemmas.Bool.{cases_Bool, cases_lt, true≢false}
use Rattle.std.proofs.lemmas.List.{ext_get_or, get_or_past}
use Rattle.vt_base.specs.Bytes.{AreBytes}
use Rattle.vt_disk.specs.Disk.{Touches, SameBut, ChangesAt, AreAmong, with_bytes}
use Rattle.vt_disk.proofs.Bytes.{touches_cases, same_but_written, length-with_bytes, same_refl}
use Rattle.vt_memdisk.specs.Cells.{is_pending, NonePending, IsCombination, MarksPending}

-- the pending bytes of c, and the synced ones elsewhere
pub restored : List ℕ → List Bool → List ℕ → List ℕ
restored [] pending c = []
restored (s ∷ synced) [] c = s ∷ restored synced [] c
restored (s ∷ synced) (p ∷ pending) [] = s ∷ restored synced pending []
restored (s ∷ synced) (p ∷ pending) (x ∷ c) = cond p x s ∷ restored synced pending c

length-restored : (synced : List ℕ) (pending : List Bool) (c : List ℕ)
    → length (restored synced pending c) ≡ length synced
unfolding restored
length-restored [] pending c = refl
length-restored (s ∷ synced) [] c = ap suc (length-restored synced [] c)
length-restored (s ∷ synced) (p ∷ pending) [] = ap suc (length-restored synced pending [])
length-restored (s ∷ synced) (p ∷ pending) (x ∷ c) = ap suc (length-restored synced pending c)

restored_settled : (synced : List ℕ) (pending : List Bool) (c : List ℕ) (i : ℕ)
    → get_or pending i false ≡ false → get_or (restored synced pending c) i 0 ≡ get_or synced i 0
unfolding restored
restored_settled [] pending c i free = refl
restored_settled (s ∷ synced) [] c zero free = refl
restored_settled (s ∷ synced) [] c (suc i) free = restored_settled synced [] c i refl
restored_settled (s ∷ synced) (p ∷ pending) [] zero free = refl
restored_settled (s ∷ synced) (p ∷ pending) [] (suc i) free =
    restored_settled synced pending [] i free
restored_settled (s ∷ synced) (p ∷ pending) (x ∷ c) zero free = ap (λ (b : Bool). cond b x s) free
restored_settled (s ∷ synced) (p ∷ pending) (x ∷ c) (suc i) free =
    restored_settled synced pending c i free

restored_pending : (synced : List ℕ) (pending : List Bool) (c : List ℕ) (i : ℕ) → length c
    ≡ length synced → get_or pending i false ≡ true → get_or (restored synced pending c) i 0
    ≡ get_or c i 0
unfolding restored
restored_pending [] pending [] i same held = refl
restored_pending [] pending (x ∷ c) i same held = absurd (omega (arith, same))
restored_pending (s ∷ synced) [] c i same held = absurd (true≢false (sym held))
restored_pending (s ∷ synced) (p ∷ pending) [] i same held = absurd (omega (arith, same))
restored_pending (s ∷ synced) (p ∷ pending) (x ∷ c) zero same held = ap
    (λ (b : Bool). cond b x s) held
restored_pending (s ∷ synced) (p ∷ pending) (x ∷ c) (suc i) same held =
    restored_pending synced pending c i (omega (arith, same)) held

-- what isn't pending after a write wasn't before it
pub free_before : (start n : ℕ) (old new : List Bool) → MarksPending start n old new → (i : ℕ)
    → is_pending new i ≡ false → is_pending old i ≡ false
free_before start n old new marks i free = ⊎_elim
    (λ here. ⊎_elim
    (λ inside. absurd (true≢false (sym (marks.touched i inside here) ∙ free)))
    (λ past. get_or_past old i false past)
    (cases_lt i (length old)))
    (λ untouched. sym (marks.others i untouched) ∙ free)
    (touches_cases start n i)

module _ (start n : ℕ) (synced : List ℕ) (old new : List Bool) (fits : AreBytes synced)
    (lengths : length old ≡ length synced) (marks : MarksPending start n old new) where
  pub before : (c : List ℕ) → IsCombination synced new c
      → IsCombination synced old (restored synced old c)
  before c is = record {
    fits = λ i. ⊎_elim
        (λ held. subst (λ b. b < 256) (sym (restored_pending synced old c i is.same_length held))
        (is.fits i))
        (λ free. subst (λ b. b < 256) (sym (restored_settled synced old c i free)) (fits i))
        (cases_Bool (is_pending old i));
    same_length = length-restored synced old c;
    settled = λ i free. restored_settled synced old c i free;
  }

  pub before_same : (c : List ℕ) → IsCombination synced new c
      → SameBut (Touches start n) (restored synced old c) c
  before_same c is = record {
    same_length = is.same_length ∙ sym (length-restored synced old c);
    others = λ i untouched. ⊎_elim
        (λ held. sym (restored_pending synced old c i is.same_length held))
        (λ free. is.settled i (marks.others i untouched ∙ free)
        ∙ sym (restored_settled synced old c i free))
        (cases_Bool (is_pending old i));
  }

  pub tears : ChangesAt (Touches start n) (IsCombination synced old) (IsCombination synced new)
  tears c is = (restored synced old c, before c is, before_same c is)

  pub keeps : AreAmong (IsCombination synced old) (IsCombination synced new)
  keeps c is = record {
    fits = is.fits;
    same_length = is.same_length;
    settled = λ i free. is.settled i (free_before start n old new marks i free);
  }

  -- what isn't pending after the write reads as it was synced
  pub still_settled : (content : List ℕ) (chunk : List ℕ) → length chunk ≡ n → length content
      ≡ length synced → start + n ≤ length content
      → ((i : ℕ) → is_pending old i ≡ false → get_or content i 0 ≡ get_or synced i 0)
      → (i : ℕ) → is_pending new i ≡ false → get_or (with_bytes start chunk content) i 0
      ≡ get_or synced i 0
  still_settled content chunk is_n content_length within settled i free =
      let room : start + length chunk ≤ length content = omega arith in
      ⊎_elim
      (λ inside.
      let untouched : ¬ Touches start n i = λ here. true≢false
      (sym (marks.touched i (omega arith) here) ∙ free) in
      let same : get_or (with_bytes start chunk content) i 0 ≡ get_or content i 0 =
      SameBut.others (same_but_written start chunk content room) i
      (subst (λ k. ¬ Touches start k i) (sym is_n) untouched) in
      same ∙ settled i (free_before start n old new marks i free))
      (λ past. get_or_past (with_bytes start chunk content) i 0
      (omega (arith, length-with_bytes start chunk content room))
      ∙ sym (get_or_past synced i 0 past))
      (cases_lt i (length synced))

-- a write of a disk in memory changes what it touches alone, and where it fails nothing
pub others_stay : {T E : Type 0} (result : Result T E) (start : ℕ) (chunk old new : List ℕ)
    → start + length chunk ≤ length old
    → OnOk result (new ≡ with_bytes start chunk old) → OnErr result (new ≡ old)
    → SameBut (Touches start (length chunk)) old new
others_stay (Ok v) start chunk old new fits written failed = subst
    (SameBut (Touches start (length chunk)) old) (sym written)
    (same_but_written start chunk old fits)
others_stay (Err e) start chunk old new fits written failed = subst
    (SameBut (Touches start (length chunk)) old) (sym failed)
    (same_refl (Touches start (length chunk)) old)

-- where nothing is pending, the synced bytes are all that a crash leaves
pub only_synced : (synced content : List ℕ) (pending : List Bool) → NonePending pending → synced
    ≡ content → (c : List ℕ) → IsCombination synced pending c → c ≡ content
only_synced synced content pending none same c is = ext_get_or 0 c synced is.same_length
    (λ i _. is.settled i (none i)) ∙ same
