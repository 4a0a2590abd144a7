-- What stands from a place on begins with the field there, and goes on behind it.
use Rattle.std.specs.Prelude.{◌≡◌, ℕ, ◌+◌, ◌<◌, ◌≤◌, List, ◌∷◌, ◌++◌, length, take, drop, slice_index}
use Rattle.std.proofs.Common.{sym, ap, subst, ◌∙◌, arith, add-one, length-drop, drop-cons, take-append-drop}
use Rattle.std.proofs.lemmas.List.{drop-drop, get_or-drop}
use Rattle.byteorder.specs.Endian.{big_number, big_bytes}
use Rattle.vt_base.specs.NumberFields.{big_bytes-number}

-- a field of n bytes
pub drop-field : (a n : ℕ) (xs : List ℕ) → drop a xs ≡ take n (drop a xs) ++ drop (a + n) xs
drop-field a n xs =
    sym (take-append-drop n (drop a xs))
    ∙ ap (λ (l : List ℕ). take n (drop a xs) ++ l) (drop-drop n a xs)

-- a field of one byte
pub drop-byte : (a : ℕ) (xs : List ℕ) → a < length xs
    → drop a xs ≡ slice_index xs a ∷ drop (a + 1) xs
drop-byte a xs within = rw add-one (drop-cons xs a 0 within)

-- a number field of n bytes
pub drop-number : (a n : ℕ) (xs : List ℕ) → a + n ≤ length xs → ((i : ℕ) → slice_index xs i < 256)
    → drop a xs ≡ big_bytes n (big_number n (drop a xs)) ++ drop (a + n) xs
drop-number a n xs fits are =
    let behind : (i : ℕ) → slice_index (drop a xs) i < 256 =
    λ i. subst (λ (b : ℕ). b < 256) (sym (get_or-drop a xs i 0)) (are (a + i)) in
    let field : big_bytes n (big_number n (drop a xs)) ≡ take n (drop a xs) =
    big_bytes-number n (drop a xs) (omega (arith, length-drop a xs)) behind in
    drop-field a n xs ∙ ap (λ (l : List ℕ). l ++ drop (a + n) xs) (sym field)
