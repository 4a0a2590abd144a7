-- Parts that are taken out of full slots one after the other.
use Rattle.std.proofs.Common.{◌≡◌, ℕ, zero, suc, List, [], ◌∷◌, ◌++◌, get_or, set, map, take, sym, refl, ap, ◌∙◌, Bool, false, append_assoc, append-nil}
use Rattle.std.specs.Prelude.{Option, Some, None}
use mathlib.Core.Option.{some, some-injective, some-ne-none}
use lib.ListN.{get_elem?}
use Rattle.vt_turns.specs.Lists.{FullOf}
use Rattle.vt_turns.proofs.Moves.{Some-same}

pub unset : (l : List Bool) (i : ℕ) → get_or (set l i false) i false ≡ false
unset [] i = refl
unset (b ∷ bs) zero = refl
unset (b ∷ bs) (suc i) = unset bs i

firsts : {A : Type 0} (x y : A) (xs ys : List A) → x ∷ xs ≡ y ∷ ys → x ≡ y
firsts x y xs ys e = cc

rests : {A : Type 0} (x y : A) (xs ys : List A) → x ∷ xs ≡ y ∷ ys → xs ≡ ys
rests x y xs ys e = cc

pub take_next : {A : Type 0} (xs : List A) (i : ℕ) (x : A) → get_elem? xs i ≡ some x → take (suc i) xs ≡ take i xs ++ x ∷ []
take_next [] i x e = absurd (some-ne-none x (sym e))
take_next (y ∷ ys) zero x e = ap (λ z. z ∷ []) (some-injective y x e)
take_next (y ∷ ys) (suc i) x e = ap (λ l. y ∷ l) (take_next ys i x e)

module _ {A : Type 0} where
  wrap : List A → List (Option A)
  wrap ps = map (λ (q : A). Some q) ps

  map_more : (ps : List A) (p : A) → wrap (ps ++ p ∷ []) ≡ wrap ps ++ Some p ∷ []
  unfolding wrap
  map_more [] p = refl
  map_more (q ∷ qs) p = ap (λ l. Some q ∷ l) (map_more qs p)

  pub full_at : (xs : List (Option A)) (ps : List A) → FullOf xs ps → (i : ℕ) → get_elem? xs i ≡ some None → ⊥
  full_at [] ps full i e = some-ne-none None (sym e)
  full_at (x ∷ xs) [] full i e = cc
  full_at (x ∷ xs) (p ∷ ps) full zero e = let a : x ≡ Some p = firsts x (Some p) xs (map (λ (q : A). Some q) ps) full in let b : x ≡ None = some-injective x None e in cc
  full_at (x ∷ xs) (p ∷ ps) full (suc i) e = full_at xs ps (rests x (Some p) xs (map (λ (q : A). Some q) ps) full) i e

  pub full_more : (xs : List (Option A)) (ps : List A) (i : ℕ) (p : A) → FullOf (take i xs) ps → get_elem? xs i ≡ some (Some p) → FullOf (take (suc i) xs) (ps ++ p ∷ [])
  unfolding wrap
  full_more xs ps i p full e = take_next xs i (Some p) e ∙ ap (λ l. l ++ Some p ∷ []) full ∙ sym (map_more ps p)

  pub full_once : (ps qs : List A) → map (λ (q : A). Some q) ps ≡ map (λ (q : A). Some q) qs → ps ≡ qs
  full_once [] [] e = refl
  full_once [] (q ∷ qs) e = absurd (cc)
  full_once (p ∷ ps) [] e = absurd (cc)
  full_once (p ∷ ps) (q ∷ qs) e = λ i. Some-same p q (firsts (Some p) (Some q) (map (λ (r : A). Some r) ps) (map (λ (r : A). Some r) qs) e) i ∷ full_once ps qs (rests (Some p) (Some q) (map (λ (r : A). Some r) ps) (map (λ (r : A). Some r) qs) e) i

  -- the first slot is emptied
  pub full_step : (slots tail : List (Option A)) (part : A) (ps rest all : List A) → slots ≡ Some part ∷ tail → ps ++ rest ≡ all → FullOf slots rest
      → (rest' : List A) × ((ps ++ part ∷ []) ++ rest' ≡ all) × FullOf tail rest'
  full_step slots tail part ps [] all is sum full = absurd (let e : Some part ∷ tail ≡ [] = sym is ∙ full in cc)
  full_step slots tail part ps (q ∷ rest) all is sum full =
      let e : Some part ∷ tail ≡ Some q ∷ map (λ (r : A). Some r) rest = sym is ∙ full in
      let same : part ≡ q = Some-same part q (firsts (Some part) (Some q) tail (map (λ (r : A). Some r) rest) e) in
      (rest, append_assoc ps (part ∷ []) rest ∙ ap (λ (x : A). ps ++ x ∷ rest) same ∙ sum, rests (Some part) (Some q) tail (map (λ (r : A). Some r) rest) e)

  pub none_first : (slots tail : List (Option A)) (rest : List A) → slots ≡ None ∷ tail → FullOf slots rest → ⊥
  none_first slots tail [] is full = let e : None ∷ tail ≡ [] = sym is ∙ full in cc
  none_first slots tail (q ∷ rest) is full = let e : None ≡ Some q = firsts None (Some q) tail (map (λ (r : A). Some r) rest) (sym is ∙ full) in cc

  pub none_left : (slots : List (Option A)) (ps rest all : List A) → slots ≡ [] → ps ++ rest ≡ all → FullOf slots rest → ps ≡ all
  none_left slots ps [] all is sum full = sym (append-nil ps) ∙ sum
  none_left slots ps (q ∷ rest) all is sum full = absurd (let e : [] ≡ Some q ∷ map (λ (r : A). Some r) rest = sym is ∙ full in cc)

  pub full_push : (slots : List (Option A)) (ps : List A) (p : A) → FullOf slots ps → FullOf (slots ++ Some p ∷ []) (ps ++ p ∷ [])
  unfolding wrap
  full_push slots ps p full = ap (λ l. l ++ Some p ∷ []) full ∙ sym (map_more ps p)
