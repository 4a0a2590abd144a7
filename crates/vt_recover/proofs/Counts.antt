-- Counts of all devices, of which one rises.
use Rattle.std.proofs.Common.{◌≡◌, ◌≢◌, ℕ, zero, suc, ◌<◌, List, [], ◌∷◌, ◌++◌, length, refl, sym, ap, subst, arith, length-append}
use Rattle.std.specs.Prelude.{slice_set, slice_index}
use Rattle.std.proofs.Math.ListN.{get_or-append}
use Rattle.vt_base.specs.Faults.{HasRisen}
use Rattle.vt_log.specs.Faults.{OneHasRisen}
use Rattle.vt_recover.proofs.Places.{length-set}

same_count : (xs ys zs : List ℕ) (i : ℕ) → length ys ≡ length xs → slice_index ys i ≡ slice_index xs i → slice_index (ys ++ zs) i ≡ slice_index (xs ++ zs) i
same_count [] [] zs i many same = refl
same_count [] (y ∷ ys) zs i many same = absurd (omega (arith, many))
same_count (x ∷ xs) [] zs i many same = absurd (omega (arith, many))
same_count (x ∷ xs) (y ∷ ys) zs zero many same = same
same_count (x ∷ xs) (y ∷ ys) zs (suc i) many same = same_count xs ys zs i (omega (arith, many)) same

pub risen_front : (xs ys zs : List ℕ) → OneHasRisen xs ys → OneHasRisen (xs ++ zs) (ys ++ zs)
risen_front xs ys zs it =
    let old : slice_index (xs ++ zs) it.which ≡ slice_index xs it.which = get_or-append xs zs 0 it.which it.within in
    let below : it.which < length ys = omega (arith, it.within, it.many) in
    let new : slice_index (ys ++ zs) it.which ≡ slice_index ys it.which = get_or-append ys zs 0 it.which below in
    record {
      many = omega (arith, length-append ys zs, length-append xs zs, it.many);
      which = it.which;
      within = omega (arith, length-append xs zs, it.within);
      rose = subst (λ (n : ℕ). HasRisen n (slice_index (ys ++ zs) it.which)) (sym old) (subst (λ (n : ℕ). HasRisen (slice_index xs it.which) n) (sym new) it.rose);
      others = λ i other. same_count xs ys zs i it.many (it.others i other);
    }

risen_next : (z : ℕ) (xs ys : List ℕ) → OneHasRisen xs ys → OneHasRisen (z ∷ xs) (z ∷ ys)
risen_next z xs ys it = record {
  many = omega (arith, it.many);
  which = suc it.which;
  within = omega (arith, it.within);
  rose = it.rose;
  others = others_next;
}
  where
    others_next : (j : ℕ) → j ≢ suc it.which → slice_index (z ∷ ys) j ≡ slice_index (z ∷ xs) j
    others_next zero other = refl
    others_next (suc j) other = it.others j (λ e. other (ap (λ (n : ℕ). suc n) e))

pub risen_behind : (zs xs ys : List ℕ) → OneHasRisen xs ys → OneHasRisen (zs ++ xs) (zs ++ ys)
risen_behind [] xs ys it = it
risen_behind (z ∷ zs) xs ys it = risen_next z (zs ++ xs) (zs ++ ys) (risen_behind zs xs ys it)

index_other : (xs : List ℕ) (i j x : ℕ) → j ≢ i → slice_index (slice_set xs i x) j ≡ slice_index xs j
index_other [] i j x other = refl
index_other (y ∷ xs) zero zero x other = absurd (other refl)
index_other (y ∷ xs) zero (suc j) x other = refl
index_other (y ∷ xs) (suc i) zero x other = refl
index_other (y ∷ xs) (suc i) (suc j) x other = index_other xs i j x (λ e. other (ap (λ (n : ℕ). suc n) e))

index_set : (xs : List ℕ) (i x : ℕ) → i < length xs → slice_index (slice_set xs i x) i ≡ x
index_set [] i x below = absurd (omega (arith, below))
index_set (y ∷ xs) zero x below = refl
index_set (y ∷ xs) (suc i) x below = index_set xs i x (omega (arith, below))

-- one count rises
pub risen_set : (xs : List ℕ) (i x : ℕ) → i < length xs → HasRisen (slice_index xs i) x → OneHasRisen xs (slice_set xs i x)
risen_set xs i x below rose = record {
  many = length-set xs i x;
  which = i;
  within = below;
  rose = subst (λ (n : ℕ). HasRisen (slice_index xs i) n) (sym (index_set xs i x below)) rose;
  others = λ j other. index_other xs i j x other;
}
