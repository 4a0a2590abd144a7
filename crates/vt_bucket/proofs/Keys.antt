-- The order of keys.
use Rattle.std.proofs.Common.{◌≡◌, ℕ, ◌+◌, ◌-◌, ◌<◌, ◌≤◌, List, [], ◌∷◌, ◌++◌, ⊎_elim, length, get_or, Result, Ok, Err, refl, sym, ap, ◌∙◌, arith}
use Rattle.std.specs.Prelude.{MatchResult}
use Rattle.std.proofs.lemmas.Bool.{cases_lt}
use Rattle.std.proofs.lemmas.List.Quantifiers.{all_pairs_push}
use Rattle.std.proofs.lemmas.List.{get_or_default}
use Rattle.std.specs.List.Sorted.{IsBinarySearchResult, IsSearchInRange, IsSortedBy}
use Rattle.std.proofs.lemmas.List.Sorted.{searchable_from_sorted}
use Rattle.std.specs.Ordering.{ordering_then, nat_cmp, ordering_reverse, is_lt}
use Rattle.std.specs.Cmp.{IsTotalOrder}
use Rattle.std.specs.Cmp.Lexicographic.{slice_cmp}
use Rattle.std.specs.declared.cmp.Ordering.{Ordering}
use Rattle.std.specs.declared.cmp.Ordering.TheVariants.{Less, Equal, Greater}
use Rattle.std.proofs.lemmas.Cmp.{ranked, then_total, on_total, nat_list_cmp_total, nat_cmp_total, tied_itself}
use Rattle.vt_base.specs.declared.key.Key.{Key}
use Rattle.vt_base.specs.declared.place.Entry.{Entry}
use Rattle.vt_bucket.specs.Order.{IsBelow, IsAscending}
use Rattle.vt_base.specs.Key.{key_cmp}

pub key_total : IsTotalOrder key_cmp
key_total = then_total (on_total (λ (k : Key). k.score.0) nat_list_cmp_total) (on_total (λ (k : Key). k.kind) nat_cmp_total)

then_equal : (p q : Ordering) → ordering_then p q ≡ Equal → (p ≡ Equal) × (q ≡ Equal)
then_equal Less q e = cc
then_equal Equal q e = (refl, e)
then_equal Greater q e = cc

nat_equal : (x y : ℕ) → nat_cmp x y ≡ Equal → x ≡ y
nat_equal x y e = ranked x y Equal (sym e)

list_equal : (xs ys : List ℕ) → slice_cmp nat_cmp xs ys ≡ Equal → xs ≡ ys
list_equal [] [] e = refl
list_equal [] (y ∷ ys) e = cc
list_equal (x ∷ xs) [] e = cc
list_equal (x ∷ xs) (y ∷ ys) e =
    let both = then_equal (nat_cmp x y) (slice_cmp nat_cmp xs ys) e in
    let head : x ≡ y = nat_equal x y both.0 in
    let tail : xs ≡ ys = list_equal xs ys both.1 in
    cc

-- keys that the order doesn't tell apart are the same
pub equal_keys : (a b : Key) → key_cmp a b ≡ Equal → a ≡ b
equal_keys a b e =
    let both = then_equal (slice_cmp nat_cmp a.score.0 b.score.0) (nat_cmp a.kind b.kind) e in
    let scores : a.score.0 ≡ b.score.0 = list_equal a.score.0 b.score.0 both.0 in
    let kinds : a.kind ≡ b.kind = nat_equal a.kind b.kind both.1 in
    λ i. record { score = record { 0 = scores i }; kind = kinds i }

pub same_key : (a : Key) → key_cmp a a ≡ Equal
same_key a = tied_itself key_total a

pub turned : (a b : Key) → key_cmp a b ≡ Greater → key_cmp b a ≡ Less
turned a b e = key_total.antisymm b a ∙ ap ordering_reverse e

pub not_below_itself : (a : Key) → key_cmp a a ≡ Less → ⊥
not_below_itself a e = let same = same_key a in cc

ascending_sorted : (xs : List Entry) → IsAscending xs → IsSortedBy (λ (a : Entry) (b : Entry). is_lt (key_cmp a.key b.key)) xs
ascending_sorted xs up k d low high =
    let less : key_cmp (get_or xs k d).key (get_or xs (k + 1) d).key ≡ Less = up k (k + 1) d (omega arith) high in
    ap is_lt (key_total.antisymm (get_or xs (k + 1) d).key (get_or xs k d).key ∙ ap ordering_reverse less)

-- what a binary search for a key answers
pub searched : (xs : List Entry) → IsAscending xs → (x : Key) (r : Result ℕ ℕ) → IsSearchInRange r (length xs) → IsBinarySearchResult (λ (y : Entry). key_cmp y.key x) xs r
    → MatchResult r (λ i. (i < length xs) × ((d : Entry) → (get_or xs i d).key ≡ x))
    (λ i. (i ≤ length xs) × ((k : ℕ) (d : Entry) → k < i → key_cmp (get_or xs k d).key x ≡ Less)
    × ((k : ℕ) (d : Entry) → i ≤ k → k < length xs → key_cmp x (get_or xs k d).key ≡ Less))
searched xs up x (Ok i) range found = (range, λ d. equal_keys (get_or xs i d).key x (found d))
searched xs up x (Err i) range found =
    let point = found (searchable_from_sorted key_total (λ (e : Entry). e.key) xs x (ascending_sorted xs up)) in
    (range, λ k d below. point.0 k d (omega arith) below, λ k d above within. turned (get_or xs k d).key x (point.1 k d above within))

-- a key that would go to place i is no entry's
pub absent_at : (xs : List Entry) (x : Key) (i : ℕ) → ((k : ℕ) (d : Entry) → k < i → key_cmp (get_or xs k d).key x ≡ Less)
    → ((k : ℕ) (d : Entry) → i ≤ k → k < length xs → key_cmp x (get_or xs k d).key ≡ Less)
    → (k : ℕ) (d : Entry) → k < length xs → (get_or xs k d).key ≡ x → ⊥
absent_at xs x i below above k d within same = ⊎_elim
    (λ (low : k < i). not_below_itself x (sym (ap (λ (y : Key). key_cmp y x) same) ∙ below k d low))
    (λ (high : i ≤ k). not_below_itself x (sym (ap (λ (y : Key). key_cmp x y) same) ∙ above k d high within))
    (cases_lt k i)

-- an entry above the last is above all
pub above_last : (xs : List Entry) (y : Entry) → IsAscending xs → (0 < length xs → IsBelow (get_or xs (length xs - 1) y) y)
    → (k : ℕ) (d : Entry) → k < length xs → IsBelow (get_or xs k d) y
above_last xs y up last k d within = ⊎_elim
    (λ (low : k < length xs - 1). key_total.trans (get_or xs k d).key (get_or xs (length xs - 1) d).key y.key
    (up k (length xs - 1) d low (omega arith))
    (ap (λ (e : Entry). key_cmp e.key y.key) (get_or_default xs (length xs - 1) d y (omega arith)) ∙ last (omega arith)))
    (λ (high : length xs - 1 ≤ k).
    let is : k ≡ length xs - 1 = omega arith in
    ap (λ (j : ℕ). key_cmp (get_or xs j d).key y.key) is
    ∙ ap (λ (e : Entry). key_cmp e.key y.key) (get_or_default xs (length xs - 1) d y (omega arith)) ∙ last (omega arith))
    (cases_lt k (length xs - 1))

pub ascending_push : (xs : List Entry) (y : Entry) → IsAscending xs → (0 < length xs → IsBelow (get_or xs (length xs - 1) y) y) → IsAscending (xs ++ y ∷ [])
ascending_push xs y up last = all_pairs_push IsBelow xs y up (above_last xs y up last)
