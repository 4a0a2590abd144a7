-- Lists that stand for functions of a number, which are d past the list's end, and sums over lists.
use Rattle.std.specs.Prelude.{◌≡◌, ℕ, zero, suc, ◌+◌, ltb, leb, ◌&&◌, ◌==◌, cond, List, [], ◌∷◌, ◌++◌, replicate, map, Option, Some, None}

module _ {A : Type 0} where
  -- the list with a at k
  abbrev pub put_at : A → List A → ℕ → A → List A
  put_at d [] zero a = a ∷ []
  put_at d [] (suc k) a = d ∷ put_at d [] k a
  put_at d (x ∷ xs) zero a = a ∷ xs
  put_at d (x ∷ xs) (suc k) a = x ∷ put_at d xs k a

  -- f of both at each number, where f d y and f y d are y
  abbrev pub both_at : (A → A → A) → List A → List A → List A
  both_at f [] ys = ys
  both_at f (x ∷ xs) [] = x ∷ xs
  both_at f (x ∷ xs) (y ∷ ys) = f x y ∷ both_at f xs ys

-- the first of two that is there
abbrev pub or_else : Option ℕ → Option ℕ → Option ℕ
or_else None o = o
or_else (Some n) o = Some n

-- f of each, added up
abbrev pub total : {V : Type 0} → (V → ℕ) → List V → ℕ
total f [] = 0
total f (v ∷ vs) = f v + total f vs

-- how often n stands in the list
abbrev pub times : ℕ → List ℕ → ℕ
times n [] = 0
times n (x ∷ xs) = cond (x == n) 1 0 + times n xs

-- 1 where n is at least `from` and below `to`
abbrev pub once : ℕ → ℕ → ℕ → ℕ
once from to n = cond (leb from n && ltb n to) 1 0

-- each slot has its part
abbrev pub FullOf : {A : Type 0} → List (Option A) → List A → Type 0
FullOf slots parts = slots ≡ map (λ x. Some x) parts

-- the words with which a table begins: the front, a word for each of so many parts, the bits
abbrev pub first_list : (count front : ℕ) → (bits : List ℕ) → List ℕ
first_list count front bits = front ∷ replicate count 0 ++ bits
