-- The order of names.
use Rattle.std.proofs.Common.{◌≡◌, true, false, List, ℕ, refl, sym, ◌∙◌, ap}
use Rattle.std.specs.Ordering.{nat_cmp, is_lt, is_eq, ordering_reverse}
use Rattle.std.specs.declared.cmp.Ordering.{Ordering}
use Rattle.std.specs.declared.cmp.Ordering.TheVariants.{Less, Equal, Greater}
use Rattle.std.specs.Cmp.Lexicographic.{slice_cmp}
use Rattle.std.specs.Str.{bytes_eq}
use Rattle.std.proofs.lemmas.Cmp.{nat_list_cmp_total}
use Rattle.std.proofs.lemmas.Map.Text.{is_eq-slice_cmp}

-- this name is below that one
abbrev pub Below : (a b : List ℕ) → Type 0
Below a b = is_lt (slice_cmp nat_cmp a b) ≡ true

abbrev pub NotBelow : (a b : List ℕ) → Type 0
NotBelow a b = is_lt (slice_cmp nat_cmp a b) ≡ false

is_less : (r : Ordering) → is_lt r ≡ true → r ≡ Less
is_less Less e = refl
is_less Equal e = absurd (true_false (sym e))
  where
    true_false : true ≡ false → ⊥
    true_false e = cc
is_less Greater e = absurd (true_false (sym e))
  where
    true_false : true ≡ false → ⊥
    true_false e = cc

pub below_below : (a b c : List ℕ) → Below a b → Below b c → Below a c
below_below a b c x y =
    ap is_lt (nat_list_cmp_total.trans a b c (is_less _ x) (is_less _ y))

-- neither is below itself, both ways round
pub not_both : (a b : List ℕ) → Below a b → NotBelow b a
not_both a b x =
    ap is_lt (nat_list_cmp_total.antisymm b a)
    ∙ ap (λ (r : Ordering). is_lt (ordering_reverse r)) (is_less _ x)

-- of two names that differ, one is below the other
pub above_other : (a b : List ℕ) → NotBelow b a → bytes_eq a b ≡ false → Below a b
above_other a b not_below differ =
    of (slice_cmp nat_cmp a b) refl
  where
    of : (r : Ordering) → slice_cmp nat_cmp a b ≡ r → Below a b
    of Less e = ap is_lt e
    of Equal e =
        let same : bytes_eq a b ≡ true = sym (is_eq-slice_cmp a b) ∙ ap is_eq e in
        let never : true ≡ false = sym same ∙ differ in cc
    of Greater e =
        let less : is_lt (slice_cmp nat_cmp b a) ≡ true =
        ap is_lt (nat_list_cmp_total.antisymm b a)
        ∙ ap (λ (r : Ordering). is_lt (ordering_reverse r)) e in
        let never : true ≡ false = sym less ∙ not_below in cc
