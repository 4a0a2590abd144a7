-- What puts leave, one behind another.
use Rattle.std.proofs.Common.{◌≡◌, ⊎_elim, ℕ, zero, suc, ◌+◌, ◌<◌, List, [], ◌∷◌, ◌++◌, length, map, take, refl, sym, ◌∙◌, ap, arith, append_assoc, append-nil, get_or}
use Rattle.std.proofs.Math.Seq.{take-append-add, take-append_seam}
use Rattle.std.proofs.lemmas.Bool.{cases_lt}
use Rattle.std.proofs.lemmas.List.{take-append-le, take_all, take_more}
use Rattle.std.specs.List.{concat}
use Rattle.vt_out.specs.Streams.{AppendsPrefix}

-- a front of a piece is one of the piece and what would follow it
front_of : (n : ℕ) (p rest : List ℕ) → (k : ℕ) × (take n p ≡ take k (p ++ rest))
front_of n p rest = ⊎_elim
    (λ less. (length p, take_all n p (omega (arith, less)) ∙ sym (take-append_seam p rest)))
    (λ most. (n, sym (take-append-le n p rest (omega (arith, most)))))
    (cases_lt (length p) n)

-- a front of what follows other bytes, of which a put failed
pub front_behind : (old xs p rest new : List ℕ) → AppendsPrefix (old ++ xs) new p → AppendsPrefix old new (xs ++ (p ++ rest))
front_behind old xs p rest new front =
    let k = front_of front.0 p rest in (
      length xs + k.0,
      front.1 ∙ append_assoc old xs (take front.0 p)
          ∙ ap (λ (tail : List ℕ). old ++ (xs ++ tail)) k.1
          ∙ ap (λ (all : List ℕ). old ++ all) (sym (take-append-add xs (p ++ rest) k.0)),
    )

-- the pieces before one of them, that one, and the rest
pub around : {X : Type 0} (f : X → List ℕ) (xs : List X) (i : ℕ) (d : X) → i < length xs
    → (rest : List ℕ) × (concat (map f xs) ≡ concat (map f (take i xs)) ++ (f (get_or xs i d) ++ rest))
around f [] i d less = absurd (omega (arith, less))
around f (x ∷ xs) zero d less = (concat (map f xs), refl)
around f (x ∷ xs) (suc i) d less =
    let r = around f xs i d (omega (arith, less)) in
    (r.0, ap (λ (tail : List ℕ). f x ++ tail) r.1 ∙ sym (append_assoc (f x) (concat (map f (take i xs))) (f (get_or xs i d) ++ r.0)))

-- and with one more
with_last : {X : Type 0} (f : X → List ℕ) (xs : List X) (x : X) → concat (map f (xs ++ x ∷ [])) ≡ concat (map f xs) ++ f x
with_last f [] x = append-nil (f x)
with_last f (y ∷ xs) x = ap (λ (tail : List ℕ). f y ++ tail) (with_last f xs x) ∙ sym (append_assoc (f y) (concat (map f xs)) (f x))

pub one_more : {X : Type 0} (f : X → List ℕ) (xs : List X) (i : ℕ) (d : X) → i < length xs
    → concat (map f (take (i + 1) xs)) ≡ concat (map f (take i xs)) ++ f (get_or xs i d)
one_more {X = X} f xs i d less =
    ap (λ (ys : List X). concat (map f ys)) (take_more xs i d less) ∙ with_last f (take i xs) (get_or xs i d)
