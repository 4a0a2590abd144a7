-- What the pairs of bits in bytes tell.
use Rattle.std.proofs.Common.{◌≡◌, ℕ, zero, suc, ◌+◌, ◌*◌, ◌-◌, ◌<◌, ◌≤◌, List, [], ◌∷◌, ◌++◌, map, length, get_or, replicate, Option, Some, None, refl, ap, subst, arith}
use Rattle.std.specs.Prelude.{slice_get, slice_set}
use Rattle.vt_isect.specs.Remembered.{pairs_of, told_by, told_in}

pub told_none : (pair : ℕ) → pair < 2 → told_by pair ≡ None
told_none zero low = refl
told_none (suc zero) low = refl
told_none (suc (suc number)) low = absurd (omega (arith, low))

pub told_some : (pair : ℕ) → 2 ≤ pair → told_by pair ≡ Some (pair - 2)
told_some zero high = absurd (omega (arith, high))
told_some (suc zero) high = absurd (omega (arith, high))
told_some (suc (suc number)) high = ap (λ (n : ℕ). Some n) (let e : number ≡ suc (suc number) - 2 = omega arith in e)

pub told_many : (bytes : List ℕ) → length (told_in bytes) ≡ 4 * length bytes
unfolding told_in
told_many [] = refl
told_many (byte ∷ bytes) = omega (arith, told_many bytes)

pub told_nothing : (n j : ℕ) → j < 4 * n → slice_get (told_in (replicate {A = ℕ} n 0)) j ≡ Some None
unfolding told_in
told_nothing zero j within = absurd (omega (arith, within))
told_nothing (suc n) zero within = refl
told_nothing (suc n) (suc zero) within = refl
told_nothing (suc n) (suc (suc zero)) within = refl
told_nothing (suc n) (suc (suc (suc zero))) within = refl
told_nothing (suc n) (suc (suc (suc (suc j)))) within = told_nothing n j (omega (arith, within))

-- ---- a pair is read

first_get : (byte : ℕ) (bytes : List ℕ) (r : ℕ) → r < 4 → slice_get (told_in (byte ∷ bytes)) r ≡ Some (told_by (get_or (pairs_of byte) r 0))
unfolding told_in
first_get byte bytes zero low = refl
first_get byte bytes (suc zero) low = refl
first_get byte bytes (suc (suc zero)) low = refl
first_get byte bytes (suc (suc (suc zero))) low = refl
first_get byte bytes (suc (suc (suc (suc r)))) low = absurd (omega (arith, low))

pub told_get : (bytes : List ℕ) (q r i : ℕ) → r < 4 → i ≡ 4 * q + r → q < length bytes
    → slice_get (told_in bytes) i ≡ Some (told_by (get_or (pairs_of (get_or bytes q 0)) r 0))
unfolding told_in
told_get [] q r i low is within = absurd (omega (arith, within))
told_get (byte ∷ bytes) zero r i low is within =
    subst (λ (n : ℕ). slice_get (told_in (byte ∷ bytes)) n ≡ Some (told_by (get_or (pairs_of byte) r 0))) (let e : r ≡ i = omega (arith, is) in e)
    (first_get byte bytes r low)
told_get (byte ∷ bytes) (suc q) r i low is within =
    subst (λ (n : ℕ). slice_get (told_in (byte ∷ bytes)) n ≡ Some (told_by (get_or (pairs_of (get_or bytes q 0)) r 0)))
    (let e : suc (suc (suc (suc (4 * q + r)))) ≡ i = omega (arith, is) in e)
    (told_get bytes q r (4 * q + r) low refl (omega (arith, within)))

-- ---- and set

first_set : (old byte : ℕ) (bytes : List ℕ) (r pair : ℕ) → r < 4 → pairs_of byte ≡ slice_set (pairs_of old) r pair
    → told_in (byte ∷ bytes) ≡ slice_set (told_in (old ∷ bytes)) r (told_by pair)
unfolding told_in
first_set old byte bytes zero pair low is = ap (λ (l : List ℕ). map told_by l ++ told_in bytes) is
first_set old byte bytes (suc zero) pair low is = ap (λ (l : List ℕ). map told_by l ++ told_in bytes) is
first_set old byte bytes (suc (suc zero)) pair low is = ap (λ (l : List ℕ). map told_by l ++ told_in bytes) is
first_set old byte bytes (suc (suc (suc zero))) pair low is = ap (λ (l : List ℕ). map told_by l ++ told_in bytes) is
first_set old byte bytes (suc (suc (suc (suc r)))) pair low is = absurd (omega (arith, low))

pub told_set : (bytes : List ℕ) (q r i byte pair : ℕ) → r < 4 → i ≡ 4 * q + r → q < length bytes
    → pairs_of byte ≡ slice_set (pairs_of (get_or bytes q 0)) r pair
    → told_in (slice_set bytes q byte) ≡ slice_set (told_in bytes) i (told_by pair)
unfolding told_in
told_set [] q r i byte pair low is within set = absurd (omega (arith, within))
told_set (old ∷ bytes) zero r i byte pair low is within set =
    subst (λ (n : ℕ). told_in (byte ∷ bytes) ≡ slice_set (told_in (old ∷ bytes)) n (told_by pair)) (let e : r ≡ i = omega (arith, is) in e)
    (first_set old byte bytes r pair low set)
told_set (old ∷ bytes) (suc q) r i byte pair low is within set =
    subst (λ (n : ℕ). told_in (old ∷ slice_set bytes q byte) ≡ slice_set (told_in (old ∷ bytes)) n (told_by pair))
    (let e : suc (suc (suc (suc (4 * q + r)))) ≡ i = omega (arith, is) in e)
    (ap (λ (l : List (Option ℕ)). map told_by (pairs_of old) ++ l) (told_set bytes q r (4 * q + r) byte pair low refl (omega (arith, within)) set))
