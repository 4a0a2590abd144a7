-- The first of a list's elements.
use Rattle.std.proofs.Common.{◌≡◌, ℕ, zero, suc, ◌<◌, ◌≤◌, ◌+◌, ◌-◌, ⊎_elim, Bool, true, false, cond, List, [], ◌∷◌, ◌++◌, length, take, set, get_or, position, nat_lt, not, true≢false, None, Some, refl, sym, ap, subst, ◌∙◌, arith, length-take}
use Rattle.std.specs.Prelude.{IsPermutation}
use Rattle.std.specs.List.{find, swap, swap_remove, position_or_len}
use Rattle.std.specs.Map.{lookup, keys_of}
use Rattle.std.proofs.lemmas.Bool.Decides.{Decides-ltb}
use Rattle.std.proofs.lemmas.Bool.{cases_lt, cases_eq}
use Rattle.std.proofs.lemmas.List.{take_more, take-set-le, length-set, get_or-set_same, get_or-set_other, get_or-take}
use Rattle.std.proofs.lemmas.List.Edits.{swap_is}
use Rattle.std.proofs.lemmas.List.Sorted.{IsPermutation-swap_remove}
use Rattle.std.proofs.Math.Seq.{take-set-lt}
use Rattle.vt_icache.proofs.Pairs.{AreKeyed, values}

pub front_of : {X : Type 0} (l : List X) (m k : ℕ) → m ≤ k → take m (take k l) ≡ take m l
front_of l zero k h = refl
front_of [] (suc m) zero h = refl
front_of [] (suc m) (suc k) h = refl
front_of (y ∷ ys) (suc m) zero h = absurd (omega (arith, h))
front_of (y ∷ ys) (suc m) (suc k) h = ap (λ r. y ∷ r) (front_of ys m k (omega (arith, h)))

pub take_twice : {X : Type 0} (l : List X) (n : ℕ) → take n (take n l) ≡ take n l
take_twice l n = front_of l n n (omega arith)

module _ {X : Type 0} where
  -- The element behind the first n, or one behind that, comes to stand behind them.
  pub take_swap_behind : (xs : List X) (n i : ℕ) (d : X) → n ≤ i → i < length xs
      → take (n + 1) (swap xs n i) ≡ take n xs ++ get_or xs i d ∷ []
  take_swap_behind xs n i d le lt =
      let ys : List X = set xs n (get_or xs i d) in
      let is : swap xs n i ≡ set ys i (get_or xs n d) = sym (swap_is xs n i d (omega (arith, le, lt)) lt) in
      let len : length ys ≡ length xs = length-set xs n (get_or xs i d) in
      let len2 : length (set ys i (get_or xs n d)) ≡ length ys = length-set ys i (get_or xs n d) in
      let at : get_or (set ys i (get_or xs n d)) n d ≡ get_or xs i d = ⊎_elim
      (λ (same : n ≡ i).
      subst (λ (k : ℕ). get_or (set ys i (get_or xs n d)) k d ≡ get_or xs i d) (sym same)
      (get_or-set_same ys i (get_or xs n d) d (omega (arith, len, lt)) ∙ ap (λ (k : ℕ). get_or xs k d) same))
      (λ (other : (n ≡ i) → ⊥).
      get_or-set_other ys i n (get_or xs n d) d other
      ∙ get_or-set_same xs n (get_or xs i d) d (omega (arith, le, lt)))
      (cases_eq n i) in
      ap (take (n + 1)) is
      ∙ take_more (set ys i (get_or xs n d)) n d (omega (arith, le, lt, len, len2))
      ∙ ap (λ (l : List X). l ++ get_or (set ys i (get_or xs n d)) n d ∷ [])
      (take-set-le n ys i (get_or xs n d) le ∙ take-set-le n xs n (get_or xs i d) (omega arith))
      ∙ ap (λ (y : X). take n xs ++ y ∷ []) at

  -- One of the first n goes behind the others of them, which stand in another order.
  pub take_swap_out : (xs : List X) (n at : ℕ) (x : X) → at < n → n ≤ length xs → x ≡ get_or xs at x
      → IsPermutation (take n xs) (x ∷ take (n - 1) (swap xs at (n - 1)))
  take_swap_out xs n at x lt le own =
      let len : length (take n xs) ≡ n = omega (arith, le, length-take n xs) in
      let v : X = get_or xs (n - 1) x in
      let here : get_or (take n xs) (n - 1) x ≡ v = get_or-take n xs (n - 1) x (omega (arith, lt)) in
      let is : swap xs at (n - 1) ≡ set (set xs at v) (n - 1) (get_or xs at x) =
      sym (swap_is xs at (n - 1) x (omega (arith, lt, le)) (omega (arith, lt, le))) in
      let front : take (n - 1) (swap xs at (n - 1)) ≡ take (n - 1) (set xs at v) =
      ap (take (n - 1)) is ∙ take-set-le (n - 1) (set xs at v) (n - 1) (get_or xs at x) (omega arith) in
      let inner : take (n - 1) (set (take n xs) at v) ≡ take (n - 1) (set xs at v) =
      ap (take (n - 1)) (sym (take-set-lt n xs at v lt)) ∙ front_of (set xs at v) (n - 1) n (omega arith) in
      let same : take (n - 1) (swap xs at (n - 1)) ≡ swap_remove (take n xs) at x =
      front ∙ sym inner
      ∙ ap (λ (k : ℕ). take (k - 1) (set (take n xs) at v)) (sym len)
      ∙ ap (λ (y : X). take (length (take n xs) - 1) (set (take n xs) at y)) (sym here)
      ∙ ap (λ (k : ℕ). take (length (take n xs) - 1) (set (take n xs) at (get_or (take n xs) (k - 1) x))) (sym len) in
      subst (λ (l : List X). IsPermutation (take n xs) (x ∷ l)) (sym same)
      (IsPermutation-swap_remove (take n xs) at x (omega (arith, len, lt)) (own ∙ sym (get_or-take n xs at x lt)))

-- pairs of a key and a value, each value under its own key
module _ {K X : Type 0} (key : X → K) (test : K → Bool) where
  abbrev own : X → Bool
  own x = test (key x)

  -- the first pair that passes is among the first n
  pub find_front : (es : List (K × X)) (n : ℕ) (x : X) → AreKeyed key es → position_or_len test (keys_of es) < n
      → lookup test es ≡ Some x → find own (take n (values key es)) ≡ Some x
  find_front [] n x keyed lt is = cc
  find_front (e ∷ es) zero x keyed lt is = absurd (omega (arith, lt))
  find_front (e ∷ es) (suc n) x keyed lt is =
      (elim (test e.0) as (λ (b : Bool). test e.0 ≡ b
      → cond (not b) (1 + position_or_len test (keys_of es)) 0 < suc n
      → cond b (Some e.1) (lookup test es) ≡ Some x
      → find own (take (suc n) (values key (e ∷ es))) ≡ Some x) [
        | true ↦ λ t p q. let passes : test (key e.1) ≡ true = ap test keyed.0 ∙ t in rw passes q
        | false ↦ λ t p q.
            let fails : test (key e.1) ≡ false = ap test keyed.0 ∙ t in
            rw fails (find_front es n x keyed.1 (omega (arith, p)) q)
      ]) refl lt is

  -- none of the first n passes
  pub none_front : (es : List (K × X)) (n : ℕ) → AreKeyed key es → n ≤ position_or_len test (keys_of es)
      → find own (take n (values key es)) ≡ None
  none_front [] zero keyed le = refl
  none_front [] (suc n) keyed le = refl
  none_front (e ∷ es) zero keyed le = refl
  none_front (e ∷ es) (suc n) keyed le =
      (elim (test e.0) as (λ (b : Bool). test e.0 ≡ b
      → suc n ≤ cond (not b) (1 + position_or_len test (keys_of es)) 0
      → find own (take (suc n) (values key (e ∷ es))) ≡ None) [
        | true ↦ λ t p. absurd (omega (arith, p))
        | false ↦ λ t p.
            let fails : test (key e.1) ≡ false = ap test keyed.0 ∙ t in
            rw fails (none_front es n keyed.1 (omega (arith, p)))
      ]) refl le

-- where a key stands, if it does
pub position_some : {K : Type 0} (test : K → Bool) (ks : List K) (i : ℕ) → position test ks ≡ Some i → position_or_len test ks ≡ i
position_some test ks i is =
    (elim (nat_lt (position_or_len test ks) (length ks)) as (λ (b : Bool). cond b (Some (position_or_len test ks)) None ≡ Some i
    → position_or_len test ks ≡ i) [
      | true ↦ λ e. cc
      | false ↦ λ e. cc
    ]) is

pub position_none : {K : Type 0} (test : K → Bool) (ks : List K) → position test ks ≡ None → length ks ≤ position_or_len test ks
position_none test ks is =
    (elim (nat_lt (position_or_len test ks) (length ks)) as (λ (b : Bool). nat_lt (position_or_len test ks) (length ks) ≡ b
    → cond b (Some (position_or_len test ks)) None ≡ None → length ks ≤ position_or_len test ks) [
      | true ↦ λ t e. cc
      | false ↦ λ t e. not_below (position_or_len test ks) (length ks) t
    ]) refl is
  where
    not_below : (a b : ℕ) → nat_lt a b ≡ false → b ≤ a
    not_below a b t = ⊎_elim
        (λ (lt : a < b). absurd (true≢false (sym ((Decides-ltb a b).1 lt) ∙ t)))
        (λ (ge : b ≤ a). ge)
        (cases_lt a b)
