-- A pass with all shares that has seen all: what it sees grows by its own blocks alone.
use Rattle.std.proofs.Common.{◌≡◌, ℕ, zero, suc, ◌+◌, ◌-◌, ◌<◌, ◌≤◌, cond, eqb, eq-eqb, ne_eqb, List, [], ◌∷◌, ◌++◌, length, sym, refl, ap, ◌∙◌, arith, append-nil, length-append}
use Rattle.std.proofs.lemmas.Bool.Decides.{nat_tests}
use mathlib.Core.Option.{some, some-injective, some-ne-none}
use mathlib.Core.List.{IsPrefix}
use native.Mathlib.Decide.{ℕ_discrete}
use lib.ListN.{get_elem?}
use Rattle.vt_turns.specs.declared.view.View.{View}
use Rattle.vt_turns.specs.declared.view.Opening.{Opening}
use Rattle.vt_turns.specs.Meaning.{Meaning}
use Rattle.vt_turns.specs.Lists.{times, once}
use Rattle.vt_turns.specs.Steps.{Sees, Loads}
use Rattle.vt_turns.specs.Calls.{Takes}
use Rattle.vt_turns.specs.Views.{seen_at, StaysSole, IsSole}
use Rattle.vt_turns.proofs.Lists.{prefix_length}

-- f of each number below n, added up
below : ℕ → (ℕ → ℕ) → ℕ
below zero f = 0
below (suc n) f = below n f + f n

below_same : (n : ℕ) (f g : ℕ → ℕ) → ((k : ℕ) → f k ≡ g k) → below n f ≡ below n g
unfolding below
below_same zero f g e = refl
below_same (suc n) f g e = let rest = below_same n f g e in let one = e n in omega arith

below_none : (n : ℕ) → below n (λ k. 0) ≡ 0
unfolding below
below_none zero = refl
below_none (suc n) = let rest = below_none n in omega arith

below_add : (n : ℕ) (f g : ℕ → ℕ) → below n (λ k. f k + g k) ≡ below n f + below n g
unfolding below
below_add zero f g = refl
below_add (suc n) f g = let rest = below_add n f g in omega arith

unlike : (n x : ℕ) → n ≤ x → below n (λ k. cond (eqb x k) 1 0) ≡ 0
unfolding below
unlike zero x le = refl
unlike (suc n) x le = let rest = unlike n x (omega arith) in let one : cond {A = ℕ} (eqb x n) 1 0 ≡ 0 = ap (λ t. cond {A = ℕ} t 1 0) (ne_eqb x n (λ e. omega arith)) in omega arith

alike : (n x : ℕ) → x < n → below n (λ k. cond (eqb x k) 1 0) ≡ 1
unfolding below
alike zero x lt = absurd (omega arith)
alike (suc n) x lt = go (ℕ_discrete x n) (λ near. alike n x near)
  where
    go : Dec (x ≡ n) → (x < n → below n (λ k. cond (eqb x k) 1 0) ≡ 1) → below (suc n) (λ k. cond (eqb x k) 1 0) ≡ 1
    go (yes e) rest = let none = unlike n x (omega arith) in let one : cond {A = ℕ} (eqb x n) 1 0 ≡ 1 = ap (λ t. cond {A = ℕ} t 1 0) (eq-eqb x n e) in omega arith
    go (no ne) rest = let some_there = rest (omega arith) in let one : cond {A = ℕ} (eqb x n) 1 0 ≡ 0 = ap (λ t. cond {A = ℕ} t 1 0) (ne_eqb x n ne) in omega arith

-- a list of numbers below n is as long as they occur
occurs : (n : ℕ) (l : List ℕ) → ((k x : ℕ) → get_elem? l k ≡ some x → x < n) → below n (λ m. times m l) ≡ length l
occurs n [] small = below_none n
occurs n (x ∷ xs) small = let rest = occurs n xs (λ k y e. small (suc k) y e) in let one = alike n x (small 0 x refl) in let sum = below_add n (λ m. cond (eqb x m) 1 0) (λ m. times m xs) in omega arith

occurring : (l : List ℕ) (k x : ℕ) → get_elem? l k ≡ some x → 0 < times x l
occurring [] k x e = absurd (some-ne-none x (sym e))
occurring (y ∷ ys) zero x e = let one : cond {A = ℕ} (eqb y x) 1 0 ≡ 1 = ap (λ t. cond {A = ℕ} t 1 0) (eq-eqb y x (some-injective y x e)) in omega arith
occurring (y ∷ ys) (suc k) x e = let rest = occurring ys k x e in omega arith

counts : (m from to : ℕ) → m ≤ to → below m (once from to) ≡ m - from
unfolding below
counts zero from to le = omega arith
counts (suc m) from to le = let rest = counts m from to (omega arith) in let one : once from to m ≡ suc m - from - (m - from) = step m from to le in omega arith
  where
    step : (m from to : ℕ) → suc m ≤ to → once from to m ≡ suc m - from - (m - from)
    step m from to le = grind (arith, nat_tests)

once_small : (from to n : ℕ) → 0 < once from to n → n < to
once_small from to n some_there = grind (arith, nat_tests)

-- the numbers from `from` up to `to`, each once, are so many
pub so_many : (from to : ℕ) (l : List ℕ) → from ≤ to → ((n : ℕ) → times n l ≡ once from to n) → length l + from ≡ to
so_many from to l le all =
    let long = occurs to l (λ k x e. once_small from to x (let here = occurring l k x e in let is = all x in omega arith)) in
    let same = below_same to (λ m. times m l) (once from to) all in
    let count = counts to from to (omega arith) in omega arith

none_left : {A : Type 0} (l : List A) → length l ≡ 0 → l ≡ []
none_left [] e = refl
none_left (x ∷ xs) e = absurd (omega arith)

-- a prefix that is as long is the whole
pub prefix_same : {A : Type 0} (s h : List A) → IsPrefix s h → length s ≡ length h → h ≡ s
prefix_same s h p e = sym p.1 ∙ ap (λ t. s ++ t) (none_left p.0 (omega (arith, length-append s p.0, ap length p.1))) ∙ append-nil s

module _ {P B : Type 0} (M : Meaning P B) where
  -- a sole pass has seen all
  pub sole_sees : (h : List B) (v w : View P B) → IsSole v → w.share ≡ v.share → w.own ≡ v.own → w.opening ≡ v.opening → IsPrefix v.seen h → Sees M h w → h ≡ v.seen
  sole_sees h v w sole share own opening pre sees =
      let all : w.share ≡ 65536 = share ∙ sole.0 in
      let long = so_many (length w.opening.history) (length h) w.own (prefix_length w.opening.history h (sees.begins (omega arith))) (sees.sole all) in
      let same : length w.own ≡ length v.own = ap length own in
      let from : length w.opening.history ≡ length v.opening.history = ap (λ (o : Opening P B). length o.history) opening in
      let is = sole.1 in prefix_same v.seen h pre (omega arith)

  -- the front shows it nothing new
  pub sole_loads : (v w : View P B) (found : ℕ) → IsSole v → Loads M v found w → (w.seen ≡ v.seen) × IsSole w
  sole_loads v w found sole l =
      let seen : w.seen ≡ v.seen = ap (λ (u : View P B). u.seen) l.is ∙ sole_sees l.history v w sole (ap (λ (u : View P B). u.share) l.is) (ap (λ (u : View P B). u.own) l.is) (ap (λ (u : View P B). u.opening) l.is) l.goes_on l.sees in
      (seen, (ap (λ (u : View P B). u.share) l.is ∙ sole.0, ap length seen ∙ sole.1 ∙ sym (ap (λ (u : View P B). length u.opening.history + length u.own) l.is)))

  seen_same : (k : ℕ) (h seen : List B) → h ≡ seen → seen_at M k h seen ≡ seen
  seen_same zero h seen is = is
  seen_same (suc k) h seen is = refl

  -- nor does a part
  pub sole_takes : (k : ℕ) (v w : View P B) (x : P) → Takes M k v x w → IsSole v → StaysSole v w
  sole_takes k v w x t sole =
      let all = sole_sees t.history v w sole (ap (λ (u : View P B). u.share) t.is) (ap (λ (u : View P B). u.own) t.is) (ap (λ (u : View P B). u.opening) t.is) t.goes_on t.sees in
      let seen : w.seen ≡ v.seen = ap (λ (u : View P B). u.seen) t.is ∙ seen_same k t.history v.seen all in
      (seen, (ap (λ (u : View P B). u.share) t.is ∙ sole.0, ap length seen ∙ sole.1 ∙ sym (ap (λ (u : View P B). length u.opening.history + length u.own) t.is)))
