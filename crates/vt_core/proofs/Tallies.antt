-- How many things the parts of a store have so far.
use Rattle.std.proofs.Common.{◌≡◌, ℕ, ◌+◌, ◌<◌, ◌≤◌, List, [], ◌∷◌, ◌++◌, length, Option, Some, None, sym, ◌∙◌, ap, subst, arith, length-append}
use Rattle.std.specs.Prelude.{MatchOption, sum}
use Rattle.std.proofs.lemmas.List.{take-append-le, take_all}
use Rattle.std.proofs.lemmas.List.Sums.{sum_by_push}
use Rattle.vt_core.specs.declared.mounting.Tally.{Tally}
use Rattle.vt_core.specs.Refusals.{IsFirstPast, IsTally}

pub sum_more : (xs : List ℕ) (x : ℕ) → sum (xs ++ x ∷ []) ≡ sum xs + x
sum_more xs x = sum_by_push (λ n. n) xs x

-- and one with which they do is the last so far
last_is : (limit : ℕ) (counts : List ℕ) (x : ℕ) → sum counts ≤ limit → limit < sum (counts ++ x ∷ []) → IsFirstPast limit (counts ++ x ∷ []) (length counts)
last_is limit counts x low high = record {
  within = omega (arith, length-append counts (x ∷ []));
  before = omega (arith, low, ap (λ (l : List ℕ). sum l) (take-append-le (length counts) counts (x ∷ []) (omega arith) ∙ take_all (length counts) counts (omega arith)));
  past = omega (arith, high, ap (λ (l : List ℕ). sum l) (take_all (length counts + 1) (counts ++ x ∷ []) (omega (arith, length-append counts (x ∷ [])))));
}

module _ (limit first : ℕ) (counts : List ℕ) (count : ℕ) (old new : Tally) (was : IsTally limit first counts old) (sums : new.sum ≡ old.sum + count) where
  total_is : new.sum ≡ sum (counts ++ count ∷ [])
  total_is = omega (arith, sums, was.total, sum_more counts count)

  module _ (none : old.past ≡ None) where
    low : sum counts ≤ limit
    low = subst (λ (o : Option ℕ). MatchOption o (sum counts ≤ limit) (λ p. (i : ℕ) × (p ≡ first + i) × IsFirstPast limit counts i)) none was.past

    pub stays_low : new.past ≡ None → new.sum ≤ limit → IsTally limit first (counts ++ count ∷ []) new
    stays_low after small = record {
      total = total_is;
      past = subst (λ (o : Option ℕ). MatchOption o (sum (counts ++ count ∷ []) ≤ limit) (λ p. (i : ℕ) × (p ≡ first + i) × IsFirstPast limit (counts ++ count ∷ []) i)) (sym after)
          (omega (arith, small, total_is));
    }

    pub passes_now : (part : ℕ) → part ≡ first + length counts → new.past ≡ Some part → limit < new.sum → IsTally limit first (counts ++ count ∷ []) new
    passes_now part place after high = record {
      total = total_is;
      past = subst (λ (o : Option ℕ). MatchOption o (sum (counts ++ count ∷ []) ≤ limit) (λ p. (i : ℕ) × (p ≡ first + i) × IsFirstPast limit (counts ++ count ∷ []) i)) (sym after)
          (length counts, place, last_is limit counts count low (omega (arith, high, total_is)));
    }
