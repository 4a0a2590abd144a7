use Rattle.std.proofs.Common.{◌≡◌, ◌<◌, ◌≤◌, ℕ, List, length, get_or, Result, Ok, Err, rules}
use Rattle.std.specs.Prelude.{MatchResult, IfOk, IfErr}
use Rattle.std.specs.declared.cmp.Ordering.TheVariants.{Less}
use Rattle.std.proofs.lemmas.List.Sorted.{answers_always}
use Rattle.vt_base.specs.declared.place.Entry.{Entry}
use Rattle.vt_base.specs.declared.key.Key.{Key}
use Rattle.vt_base.specs.Key.{key_cmp}
use Rattle.vt_bucket.proofs.Keys.{searched}
use Rattle.vt_bucket.proofs.holding.place.Goals as goal

abbrev Says : List Entry → Key → Result ℕ ℕ → Type 0
Says xs x r = MatchResult r (λ i. (i < length xs) × ((d : Entry) → (get_or xs i d).key ≡ x))
    (λ i. (i ≤ length xs) × ((k : ℕ) (d : Entry) → k < i → key_cmp (get_or xs k d).key x ≡ Less)
    × ((k : ℕ) (d : Entry) → i ≤ k → k < length xs → key_cmp x (get_or xs k d).key ≡ Less))

says : (c : goal.After-binary_search_by_key) → Says c.args.entries.now c.args.key.now c.binary_search_by_key.result
says c =
    let facts = c.binary_search_by_key.ensures in
    let by_key = facts.position (λ (entry : Entry). entry.key) (answers_always _ _ _ (λ f a r g called. search rules)) in
    searched c.args.entries.now c.requires c.args.key.now c.binary_search_by_key.result facts.bound by_key

on_found : (xs : List Entry) (x : Key) (r : Result ℕ ℕ) → Says xs x r → IfOk r (λ i. (i < length xs) × ((d : Entry) → (get_or xs i d).key ≡ x))
on_found xs x (Ok i) h = h
on_found xs x (Err i) h = tt

on_below : (xs : List Entry) (x : Key) (r : Result ℕ ℕ) → Says xs x r → IfErr r (λ i. (k : ℕ) (d : Entry) → k < i → key_cmp (get_or xs k d).key x ≡ Less)
on_below xs x (Ok i) h = tt
on_below xs x (Err i) h = h.1

on_above : (xs : List Entry) (x : Key) (r : Result ℕ ℕ) → Says xs x r → IfErr r (λ i. (k : ℕ) (d : Entry) → i ≤ k → k < length xs → key_cmp x (get_or xs k d).key ≡ Less)
on_above xs x (Ok i) h = tt
on_above xs x (Err i) h = h.2

pub returns-clause-found : goal.returns-clause-found
returns-clause-found c = on_found c.args.entries.now c.args.key.now c.binary_search_by_key.result (says c)

pub returns-clause-below : goal.returns-clause-below
returns-clause-below c = on_below c.args.entries.now c.args.key.now c.binary_search_by_key.result (says c)

pub returns-clause-above : goal.returns-clause-above
returns-clause-above c = on_above c.args.entries.now c.args.key.now c.binary_search_by_key.result (says c)
