-- Sums over views, lists that stand for functions, functions changed at one number, and prefixes.
use Rattle.std.proofs.Common.{◌≡◌, ◌≢◌, ℕ, zero, suc, ◌+◌, ◌<◌, ◌≤◌, cond, eqb, eq-eqb, ne_eqb, List, [], ◌∷◌, ◌++◌, length, set, get_or, sym, refl, ap, ◌∙◌, arith, append-nil, append_assoc, length-append}
use mathlib.Core.Option.{some, some-injective, some-ne-none}
use mathlib.Core.List.{IsPrefix}
use lib.ListN.{get_elem?}
use Rattle.std.proofs.lemmas.Bool.Decides.{nat_tests}
use Rattle.vt_turns.specs.Lists.{put_at, both_at, total, times, once}

-- f, but a at k
abbrev pub put : (ℕ → ℕ) → ℕ → ℕ → ℕ → ℕ
put f k a j = cond (eqb j k) a (f j)

pub put_here : (f : ℕ → ℕ) (k a : ℕ) → put f k a k ≡ a
put_here f k a = ap (λ t. cond t a (f k)) (eq-eqb k k refl)

pub put_else : (f : ℕ → ℕ) (k a j : ℕ) → j ≢ k → put f k a j ≡ f j
put_else f k a j n = ap (λ t. cond t a (f j)) (ne_eqb j k n)

module _ {V : Type 0} where
  pub total_set : (f : V → ℕ) (views : List V) (i : ℕ) (v w : V) → get_elem? views i ≡ some v → total f (set views i w) + f v ≡ total f views + f w
  total_set f [] i v w e = absurd (some-ne-none v (sym e))
  total_set f (x ∷ xs) zero v w e = let same : f x ≡ f v = ap f (some-injective x v e) in omega arith
  total_set f (x ∷ xs) (suc i) v w e = let rest = total_set f xs i v w e in omega arith

  pub total_same : (f : V → ℕ) (views : List V) (i : ℕ) (v w : V) → get_elem? views i ≡ some v → f w ≡ f v → total f (set views i w) ≡ total f views
  total_same f views i v w e same = let s = total_set f views i v w e in omega arith

  pub total_snoc : (f : V → ℕ) (views : List V) (w : V) → total f (views ++ w ∷ []) ≡ total f views + f w
  total_snoc f [] w = omega arith
  total_snoc f (x ∷ xs) w = let rest = total_snoc f xs w in omega arith

  -- a part of a total
  pub total_part : (f : V → ℕ) (views : List V) (i : ℕ) (v : V) → get_elem? views i ≡ some v → f v ≤ total f views
  total_part f [] i v e = absurd (some-ne-none v (sym e))
  total_part f (x ∷ xs) zero v e = let same : f x ≡ f v = ap f (some-injective x v e) in omega arith
  total_part f (x ∷ xs) (suc i) v e = let rest = total_part f xs i v e in omega arith

  -- two parts of a total
  pub total_parts : (f : V → ℕ) (views : List V) (i j : ℕ) (v w : V) → i ≢ j → get_elem? views i ≡ some v → get_elem? views j ≡ some w → f v + f w ≤ total f views
  total_parts f [] i j v w n e d = absurd (some-ne-none v (sym e))
  total_parts f (x ∷ xs) zero zero v w n e d = absurd (n refl)
  total_parts f (x ∷ xs) zero (suc j) v w n e d = let same : f x ≡ f v = ap f (some-injective x v e) in let rest = total_part f xs j w d in omega arith
  total_parts f (x ∷ xs) (suc i) zero v w n e d = let same : f x ≡ f w = ap f (some-injective x w d) in let rest = total_part f xs i v e in omega arith
  total_parts f (x ∷ xs) (suc i) (suc j) v w n e d = let rest = total_parts f xs i j v w (λ h. n (ap suc h)) e d in omega arith

  -- where f is 0 of every other view, the total is f of this one
  pub total_alone : (f : V → ℕ) (views : List V) (i : ℕ) (v : V) → get_elem? views i ≡ some v → ((j : ℕ) (u : V) → j ≢ i → get_elem? views j ≡ some u → f u ≡ 0) → total f views ≡ f v
  total_alone f [] i v e others = absurd (some-ne-none v (sym e))
  total_alone f (x ∷ xs) zero v e others = let same : f x ≡ f v = ap f (some-injective x v e) in let rest : total f xs ≡ 0 = total_none xs (λ j u d. others (suc j) u (λ h. omega arith) d) in omega arith
    where
      total_none : (ys : List V) → ((j : ℕ) (u : V) → get_elem? ys j ≡ some u → f u ≡ 0) → total f ys ≡ 0
      total_none [] all = refl
      total_none (y ∷ ys) all = let one : f y ≡ 0 = all zero y refl in let rest = total_none ys (λ j u d. all (suc j) u d) in omega arith
  total_alone f (x ∷ xs) (suc i) v e others = let one : f x ≡ 0 = others zero x (λ h. omega arith) refl in let rest = total_alone f xs i v e (λ j u n d. others (suc j) u (λ h. n (omega arith)) d) in omega arith

module _ {A : Type 0} (d : A) where
  pub at_put_here : (l : List A) (k : ℕ) (a : A) → get_or (put_at d l k a) k d ≡ a
  at_put_here [] zero a = refl
  at_put_here [] (suc k) a = at_put_here [] k a
  at_put_here (x ∷ xs) zero a = refl
  at_put_here (x ∷ xs) (suc k) a = at_put_here xs k a

  pub at_put_else : (l : List A) (k j : ℕ) (a : A) → j ≢ k → get_or (put_at d l k a) j d ≡ get_or l j d
  at_put_else [] zero zero a n = absurd (n refl)
  at_put_else [] zero (suc j) a n = refl
  at_put_else [] (suc k) zero a n = refl
  at_put_else [] (suc k) (suc j) a n = at_put_else [] k j a (λ e. n (ap suc e))
  at_put_else (x ∷ xs) zero zero a n = absurd (n refl)
  at_put_else (x ∷ xs) zero (suc j) a n = refl
  at_put_else (x ∷ xs) (suc k) zero a n = refl
  at_put_else (x ∷ xs) (suc k) (suc j) a n = at_put_else xs k j a (λ e. n (ap suc e))

  pub at_both : (f : A → A → A) → ((y : A) → f d y ≡ y) → ((y : A) → f y d ≡ y) → (l m : List A) (k : ℕ) → get_or (both_at f l m) k d ≡ f (get_or l k d) (get_or m k d)
  at_both f left right [] m k = sym (left (get_or m k d))
  at_both f left right (x ∷ xs) [] k = sym (right (get_or (x ∷ xs) k d))
  at_both f left right (x ∷ xs) (y ∷ ys) zero = refl
  at_both f left right (x ∷ xs) (y ∷ ys) (suc k) = at_both f left right xs ys k

module _ {A : Type 0} where
  pub there : (l : List A) (k : ℕ) → k < length l → (x : A) × (get_elem? l k ≡ some x)
  there [] k h = absurd (omega arith)
  there (x ∷ xs) zero h = (x, refl)
  there (x ∷ xs) (suc k) h = there xs k (omega arith)

  pub inside : (l : List A) (k : ℕ) (x : A) → get_elem? l k ≡ some x → k < length l
  inside [] k x e = absurd (some-ne-none x (sym e))
  inside (y ∷ ys) zero x e = omega arith
  inside (y ∷ ys) (suc k) x e = let rest = inside ys k x e in omega arith

  pub whole_prefix : (l : List A) → IsPrefix l l
  whole_prefix l = ([], append-nil l)

  pub longer_prefix : (l m n : List A) → IsPrefix l m → IsPrefix l (m ++ n)
  longer_prefix l m n p = (p.0 ++ n, sym (append_assoc l p.0 n) ∙ ap (λ z. z ++ n) p.1)

  pub prefix_length : (l m : List A) → IsPrefix l m → length l ≤ length m
  prefix_length l m p = omega (arith, length-append l p.0, ap length p.1)

pub times-append : (n : ℕ) (l m : List ℕ) → times n (l ++ m) ≡ times n l + times n m
times-append n [] m = omega arith
times-append n (x ∷ xs) m = let rest = times-append n xs m in omega arith

-- one more number
pub once_more : (from n q : ℕ) → from ≤ n → once from (n + 1) q ≡ once from n q + times q (n ∷ [])
once_more from n q le = grind (arith, nat_tests)

pub once_none : (n q : ℕ) → once n n q ≡ 0
once_none n q = grind (arith, nat_tests)

pub at_index : (xs : List ℕ) (k : ℕ) → k < length xs → get_elem? xs k ≡ some (get_or xs k 0)
at_index [] k near = absurd (omega arith)
at_index (x ∷ xs) zero near = refl
at_index (x ∷ xs) (suc k) near = at_index xs k (omega arith)
