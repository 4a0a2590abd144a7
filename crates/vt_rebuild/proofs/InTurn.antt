-- The elements of a list that are changed in turn.
use Rattle.std.proofs.Common.{◌≡◌, ⊎_elim, ℕ, zero, suc, ◌+◌, ◌<◌, ◌≤◌, List, [], ◌∷◌, Some, length, map, set, refl, sym, ◌∙◌, ap, subst, arith, get_or, get_or-set_same, get_or-set_other}
use Rattle.std.specs.Prelude.{slice_get, slice_index}
use Rattle.std.proofs.lemmas.Bool.{cases_lt}
use Rattle.std.proofs.Math.Seq.{map-set_same}
use Rattle.std.proofs.lemmas.List.{get_or-map, length-set, length-map, map-set}
use Rattle.std.proofs.lemmas.Option.{get_or_from_slice_get, same_Some, slice_get_within}
use Rattle.vt_base.specs.Faults.{HasRisen}
use Rattle.vt_log.proofs.Lists.{slice_get_set_other, slice_get_set_same}
use Rattle.vt_log.specs.Faults.{OneHasRisen}

-- those before this place are done, and the others are as they were
pub record AreDoneTo {X : Type 0} (R : ℕ → X → X → Type 0) (number : ℕ) (olds news : List X) : Type 0 where
  pub many : length news ≡ length olds
  pub done : (k : ℕ) (a b : X) → k < number → slice_get olds k ≡ Some a → slice_get news k ≡ Some b → R k a b
  pub rest : (k : ℕ) → number ≤ k → slice_get news k ≡ slice_get olds k

pub none_done : {X : Type 0} (R : ℕ → X → X → Type 0) (olds : List X) → AreDoneTo R 0 olds olds
none_done R olds = record { many = refl; done = λ k a b below at there. absurd (omega (arith, below)); rest = λ k least. refl }

module _ {X : Type 0} (R : ℕ → X → X → Type 0) (number : ℕ) (olds mids : List X) (old new : X) (it : AreDoneTo R number olds mids)
    (at : slice_get mids number ≡ Some old) where
  pub within : number < length mids
  within = slice_get_within mids number old at

  pub old_at : slice_get olds number ≡ Some old
  old_at = sym (it.rest number (omega arith)) ∙ at

  here : (a b : X) → slice_get olds number ≡ Some a → slice_get (set mids number new) number ≡ Some b → (a ≡ old) × (b ≡ new)
  here a b at_a at_b = (
    same_Some a old (sym at_a ∙ old_at),
    same_Some b new (sym at_b ∙ slice_get_set_same mids number new within),
  )

  pub at_here : (P : ℕ → X → X → Type 0) → P number old new → (k : ℕ) (a b : X) → number ≡ k → slice_get olds k ≡ Some a → slice_get (set mids number new) k ≡ Some b → P k a b
  at_here P is k a b same at_a at_b =
      let are = here a b (ap (λ (i : ℕ). slice_get olds i) same ∙ at_a) (ap (λ (i : ℕ). slice_get (set mids number new) i) same ∙ at_b) in
      subst (λ (i : ℕ). P i a b) same (subst (λ (x : X). P number x b) (sym are.0) (subst (λ (y : X). P number old y) (sym are.1) is))

  pub before : (k : ℕ) (a b : X) → k < number → slice_get olds k ≡ Some a → slice_get (set mids number new) k ≡ Some b → R k a b
  before k a b below at_a at_b = it.done k a b below at_a (sym (slice_get_set_other mids number k new (λ same. omega (arith, below, same))) ∙ at_b)

  pub done_more : R number old new → AreDoneTo R (number + 1) olds (set mids number new)
  done_more is = record {
    many = length-set mids number new ∙ it.many;
    done = λ k a b below at_a at_b. ⊎_elim
        (λ (less : k < number). before k a b less at_a at_b)
        (λ (least : number ≤ k). at_here R is k a b (omega (arith, below, least)) at_a at_b)
        (cases_lt k number);
    rest = λ k behind. slice_get_set_other mids number k new (λ same. omega (arith, behind, same)) ∙ it.rest k (omega (arith, behind));
  }

  -- those behind this place are as they were
  pub behind : (k : ℕ) → number < k → slice_get (set mids number new) k ≡ slice_get olds k
  behind k later = slice_get_set_other mids number k new (λ same. omega (arith, later, same)) ∙ it.rest k (omega (arith, later))

-- all are, behind the last
pub all_done : {X : Type 0} (R : ℕ → X → X → Type 0) (number : ℕ) (olds news : List X) → AreDoneTo R number olds news → length news ≤ number
    → (k : ℕ) (a b : X) → slice_get olds k ≡ Some a → slice_get news k ≡ Some b → R k a b
all_done R number olds news it all k a b at_a at_b = it.done k a b (let below = slice_get_within news k b at_b in omega (arith, below, all)) at_a at_b

-- ---- counts of the elements

-- where the count of one element stays, all stay; where it rose, one rose
module _ {X : Type 0} (f : X → ℕ) (mids : List X) (number : ℕ) (old new : X) (at : slice_get mids number ≡ Some old) where
  inside : number < length mids
  inside = slice_get_within mids number old at

  count_at : (k : ℕ) → slice_index (map f (set mids number new)) k ≡ get_or (set (map f mids) number (f new)) k 0
  count_at k = ap (λ (ns : List ℕ). get_or ns k 0) (map-set f mids number new)

  was : slice_index (map f mids) number ≡ f old
  was = get_or-map f mids number old 0 inside ∙ ap f (get_or_from_slice_get mids number old old at)

  is : slice_index (map f (set mids number new)) number ≡ f new
  is = count_at number ∙ get_or-set_same (map f mids) number (f new) 0 (omega (arith, inside, length-map mids f))

  pub one_rose : HasRisen (f old) (f new) → OneHasRisen (map f mids) (map f (set mids number new))
  one_rose rose = record {
    many = length-map (set mids number new) f ∙ length-set mids number new ∙ sym (length-map mids f);
    which = number;
    within = omega (arith, inside, length-map mids f);
    rose = subst (λ (n : ℕ). HasRisen n (slice_index (map f (set mids number new)) number)) (sym was) (subst (λ (n : ℕ). HasRisen (f old) n) (sym is) rose);
    others = λ i other. count_at i ∙ get_or-set_other (map f mids) number i (f new) 0 other;
  }

  pub all_stay : f new ≡ f old → map f (set mids number new) ≡ map f mids
  all_stay same = map-set_same f mids number new old (same ∙ ap f (sym (get_or_from_slice_get mids number old old at)))

-- a list that is made of another, whose elements are taken on
pub map_then : {X Y Z : Type 0} (f : X → Y) (g : Y → Z) (xs : List X) → map g (map f xs) ≡ map (λ x. g (f x)) xs
map_then f g [] = refl
map_then f g (x ∷ xs) = ap (λ zs. g (f x) ∷ zs) (map_then f g xs)

-- ---- places

pub some_at : {X : Type 0} (xs : List X) (i : ℕ) → i < length xs → (x : X) × (slice_get xs i ≡ Some x)
some_at [] i below = absurd (omega (arith, below))
some_at (x ∷ xs) zero below = (x, refl)
some_at (x ∷ xs) (suc i) below = some_at xs i (omega (arith, below))

-- a place is before this one, is it, or is behind it
pub by_place : {P : Type 0} (i at : ℕ) → (i < at → P) → (i ≡ at → P) → (at < i → P) → P
by_place i at less same more = ⊎_elim
    (λ (is : i < at). less is)
    (λ (least : at ≤ i). ⊎_elim (λ (is : at < i). more is) (λ (most : i ≤ at). same (omega (arith, least, most))) (cases_lt at i))
    (cases_lt i at)
