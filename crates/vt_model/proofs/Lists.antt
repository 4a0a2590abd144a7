-- Facts on lists, options and tests that std has not.
use Rattle.std.proofs.Common.{◌≡◌, ℕ, zero, suc, ◌<◌, ◌&&◌, ◌||◌, Bool, true, false, cond, List, [], ◌∷◌, ◌++◌, length, take, get_or, Option, Some, None, refl, sym, ◌∙◌, ap, subst, arith, length-append, inl, inr}
use Rattle.std.specs.List.{All, AllPairs, find, list_any, count_by}
use Rattle.std.specs.Prelude.{map, slice_get}
use Rattle.std.proofs.lemmas.List.Sums.{sum_by-cons}
use Rattle.std.specs.Option.{is_some, option_map, option_or}
use Rattle.std.proofs.Math.ListN.{get_or-append}
use Rattle.std.proofs.Math.Seq.{take-append_seam}
use Rattle.std.proofs.lemmas.Bool.{false_from_ne_true, cases_Bool}
use Rattle.std.proofs.lemmas.List.Elements.{All-take}
use Rattle.std.proofs.lemmas.List.Folds.{find-append, list_any_at, list_any_none}
use Rattle.std.proofs.lemmas.Option.{slice_get-get_or, slice_get_within, get_or_from_slice_get}

-- ---- tests

pub test_false : {P : Type 0} (b : Bool) → (b ≡ true → P) → ¬ P → b ≡ false
test_false b decides wrong = false_from_ne_true b (λ t. wrong (decides t))

pub and_false_left : (a b : Bool) → a ≡ false → (a && b) ≡ false
and_false_left a b h = ap (λ t. t && b) h

pub and_false_right : (a b : Bool) → b ≡ false → (a && b) ≡ false
and_false_right true b h = h
and_false_right false b h = refl

pub and_true : (a b : Bool) → a ≡ true → b ≡ true → (a && b) ≡ true
and_true a b p q = ap (λ t. t && b) p ∙ q

pub right_false : (a b : Bool) → a ≡ true → (a && b) ≡ false → b ≡ false
right_false a b p q = sym (ap (λ t. t && b) p) ∙ q

pub both_false : (a b : Bool) → (a || b) ≡ false → (a ≡ false) × (b ≡ false)
both_false true b h = absurd (cc)
both_false false b h = (refl, h)

pub both_true : (a b : Bool) → (a && b) ≡ true → (a ≡ true) × (b ≡ true)
both_true true b h = (refl, h)
both_true false b h = absurd (cc)

-- ---- options

pub option_or-none : {X : Type 0} (o : Option X) → option_or o None ≡ o
option_or-none None = refl
option_or-none (Some x) = refl

pub none_from_is_some-option_map : {X Y : Type 0} (f : X → Y) (o : Option X)
    → is_some (option_map f o) ≡ false → o ≡ None
none_from_is_some-option_map f None h = refl
none_from_is_some-option_map f (Some x) h = absurd (cc)

-- ---- lists

pub All-front : {X : Type 0} (P : X → Type 0) (xs ys : List X) → All P (xs ++ ys) → All P xs
All-front P xs ys h = subst (All P) (take-append_seam xs ys) (All-take P (length xs) (xs ++ ys) h)

pub AllPairs-front : {X : Type 0} (R : X → X → Type 0) (xs ys : List X) → AllPairs R (xs ++ ys)
    → AllPairs R xs
AllPairs-front R xs ys h i j d lt within =
    let first : i < length xs = omega arith in
    let all : j < length (xs ++ ys) = omega (arith, length-append xs ys) in
    subst (λ x. R x (get_or xs j d)) (get_or-append xs ys d i first)
    (subst (λ y. R (get_or (xs ++ ys) i d) y) (get_or-append xs ys d j within) (h i j d lt all))

pub All-from_list_any : {X : Type 0} (p : X → Bool) (xs : List X) → list_any p xs ≡ false
    → All (λ x. p x ≡ false) xs
All-from_list_any p xs none k d lt =
    false_from_ne_true (p (get_or xs k d)) (λ t. let any = list_any_at p xs k d lt t in cc)

pub list_any-from_find : {X : Type 0} (p : X → Bool) (xs : List X) → find p xs ≡ None
    → list_any p xs ≡ false
list_any-from_find p [] h = refl
list_any-from_find p (x ∷ xs) h =
    elim (p x) as (λ t. cond t (Some x) (find p xs) ≡ None → (t || list_any p xs) ≡ false) [
      | true ↦ λ (e : Some x ≡ None). absurd (cc)
      | false ↦ λ e. list_any-from_find p xs e
    ] h

-- what is found is an element that passes
pub find_passes : {X : Type 0} (p : X → Bool) (xs : List X) (x : X) → find p xs ≡ Some x
    → (i : ℕ) × (slice_get xs i ≡ Some x) × (p x ≡ true)
find_passes p [] x h = absurd (cc)
find_passes p (y ∷ ys) x h = elim (cases_Bool (p y)) [
  | inl is ↦
      let first : Some y ≡ Some x = sym (ap (λ b. cond b (Some y) (find p ys)) is) ∙ h in
      let same : y ≡ x = cc in
      (0, first, ap p (sym same) ∙ is)
  | inr not ↦
      let later = find_passes p ys x (sym (ap (λ b. cond b (Some y) (find p ys)) not) ∙ h) in
      (suc later.0, later.1, later.2)
]

pub list_any_passes : {X : Type 0} (p : X → Bool) (xs : List X) → list_any p xs ≡ true
    → (i : ℕ) × (x : X) × (slice_get xs i ≡ Some x) × (p x ≡ true)
list_any_passes p [] h = absurd (cc)
list_any_passes p (y ∷ ys) h = elim (cases_Bool (p y)) [
  | inl is ↦ (0, y, refl, is)
  | inr not ↦
      let later = list_any_passes p ys (sym (ap (λ b. b || list_any p ys) not) ∙ h) in
      (suc later.0, later.1, later.2, later.3)
]

-- an element of a list none of which passes
pub none_passes : {X : Type 0} (p : X → Bool) (xs : List X) (i : ℕ) (x : X) → list_any p xs ≡ false
    → slice_get xs i ≡ Some x → p x ≡ false
none_passes p xs i x none at =
    ap p (sym (get_or_from_slice_get xs i x x at))
    ∙ All-from_list_any p xs none i x (slice_get_within xs i x at)

-- and where no element passes
pub list_any-none : {X : Type 0} (p : X → Bool) (xs : List X)
    → ((i : ℕ) (x : X) → slice_get xs i ≡ Some x → p x ≡ false) → list_any p xs ≡ false
list_any-none p xs none =
    list_any_none p xs (λ k d lt. none k (get_or xs k d) (slice_get-get_or xs k d lt))

pub find-none : {X : Type 0} (p : X → Bool) (xs : List X)
    → ((i : ℕ) (x : X) → slice_get xs i ≡ Some x → p x ≡ false) → find p xs ≡ None
find-none p [] none = refl
find-none p (x ∷ xs) none =
    ap (λ b. cond b (Some x) (find p xs)) (none 0 x refl)
    ∙ find-none p xs (λ i y at. none (suc i) y at)

-- an element of the first n
pub slice_get-take : {X : Type 0} (n : ℕ) (xs : List X) (i : ℕ) → i < n
    → slice_get (take n xs) i ≡ slice_get xs i
slice_get-take zero xs i lt = absurd (omega arith)
slice_get-take (suc n) [] i lt = refl
slice_get-take (suc n) (x ∷ xs) zero lt = refl
slice_get-take (suc n) (x ∷ xs) (suc i) lt = slice_get-take n xs i (omega (arith, lt))

-- the last element passes, and none before it
pub find_push : {X : Type 0} (p : X → Bool) (xs : List X) (y : X) → find p xs ≡ None → p y ≡ true
    → find p (xs ++ y ∷ []) ≡ Some y
find_push p xs y none here =
    find-append p xs (y ∷ []) ∙ ap (λ o. option_or o (find p (y ∷ []))) none
    ∙ ap (λ b. cond b (Some y) None) here

-- ---- a test of what a list's elements are seen as

module _ {X Y : Type 0} (f : X → Y) (p : Y → Bool) (q : X → Bool) where
  pub find-map : (xs : List X) → All (λ x. p (f x) ≡ q x) xs
      → find p (map f xs) ≡ option_map f (find q xs)
  find-map [] same = refl
  find-map (x ∷ xs) same =
      ap (λ t. cond t (Some (f x)) (find p (map f xs))) (same 0 x (omega arith))
      ∙ elim (q x) as
      (λ t. cond t (Some (f x)) (find p (map f xs)) ≡ option_map f
      (cond t (Some x) (find q xs))) [
        | true ↦ refl
        | false ↦ find-map xs (λ k d lt. same (suc k) d (omega arith))
      ]

  pub list_any-map : (xs : List X) → All (λ x. p (f x) ≡ q x) xs
      → list_any p (map f xs) ≡ list_any q xs
  list_any-map [] same = refl
  list_any-map (x ∷ xs) same =
      ap (λ t. t || list_any p (map f xs)) (same 0 x (omega arith))
      ∙ ap (λ t. q x || t) (list_any-map xs (λ k d lt. same (suc k) d (omega arith)))

  pub count_by-map : (xs : List X) → All (λ x. p (f x) ≡ q x) xs
      → count_by p (map f xs) ≡ count_by q xs
  count_by-map [] same = refl
  count_by-map (x ∷ xs) same =
      let bit : Bool → ℕ = λ t. cond t 1 0 in
      omega (
        arith,
        sum_by-cons (λ y. bit (p y)) (f x) (map f xs),
        sum_by-cons (λ x. bit (q x)) x xs,
        ap bit (same 0 x (omega arith)),
        count_by-map xs (λ k d lt. same (suc k) d (omega arith)),
      )
