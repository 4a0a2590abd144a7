-- A key has one block and one entry, and entries of different keys are counted by their blocks.
use Rattle.std.proofs.Common.{◌≡◌, ◌≢◌, ⊎_elim, ℕ, zero, suc, ◌+◌, ◌≤◌, ◌==◌, Bool, true, false, cond, eqb, List, [], ◌∷◌, length, get_or, Some, refl, sym, ◌∙◌, ap, subst, arith}
use Rattle.std.proofs.lemmas.Option.{same_Some}
use Rattle.std.specs.Prelude.{slice_get}
use Rattle.std.specs.Option.{option_map}
use Rattle.std.specs.List.{AllPairs, Contains, count_by}
use Rattle.std.proofs.lemmas.Bool.{cases_Bool, false≢true}
use Rattle.std.proofs.lemmas.List.Elements.{All-contains_itself}
use Rattle.std.proofs.lemmas.List.Kept.{AllPairs-cons}
use Rattle.std.proofs.lemmas.List.Sums.{sum_by-cons}
use borrow.Author.Tests.{eqb-true, eqb-false}
use Rattle.vt_base.specs.declared.key.Key.{Key}
use Rattle.vt_base.specs.declared.place.Entry.{Entry}
use Rattle.vt_model.specs.History.{History, Accepted}
use Rattle.vt_model.specs.Legal.{HasOtherKey}
use Rattle.vt_model.specs.Places.{Setup, Spot, StandsAt, bucket_of, bucket_count, crowd}
use Rattle.vt_isect.specs.Agreement.{IsEntryOf, IsEntryOfBlock, HasBlock, IsInBucket}
use Rattle.vt_isect.specs.Merging.{HasKey}
use Rattle.vt_isect.proofs.AgreesWith.{get_at, get_below, same_block}
use Rattle.vt_isect.proofs.Merges.{decide_keys, cons_cases, in_cons}

-- ---- one key

pub one_entry : (score : List ℕ → List ℕ) (c : Setup) (h : History) (i j : ℕ) (a b : Entry)
    → AllPairs (HasOtherKey score) h → IsEntryOf score c h i a → IsEntryOf score c h j b
    → a.key ≡ b.key → (i ≡ j) × (a ≡ b)
one_entry score c h i j a b keys one two key =
    let same : i ≡ j = same_block score c h keys i j a b one two key in
    let here : StandsAt c h j one.block one.spot =
    subst (λ (k : ℕ). StandsAt c h k one.block one.spot) same one.stands in
    let block : one.block ≡ two.block =
    same_Some one.block two.block (sym here.block ∙ two.stands.block) in
    let spot : one.spot ≡ two.spot =
    same_Some one.spot two.spot (sym here.place ∙ two.stands.place) in
    let size : a.size ≡ b.size =
    one.size_is ∙ ap (λ (x : Accepted). length x.block.bytes) block ∙ sym two.size_is in
    let arena : a.place.arena ≡ b.place.arena =
    one.arena_is ∙ ap (λ (s : Spot). s.arena) spot ∙ sym two.arena_is in
    let offset : a.place.offset ≡ b.place.offset =
    one.offset_is ∙ ap (λ (s : Spot). s.offset) spot ∙ sym two.offset_is in (
      same,
      λ k. record {
        key = key k;
        size = size k;
        place = record { arena = arena k; offset = offset k };
      },
    )

-- ---- so many keys

abbrev AreDistinct : List Entry → Type 0
AreDistinct entries = AllPairs (λ (a b : Entry). a.key ≢ b.key) entries

distinct_tail : (x : Entry) (xs : List Entry) → AreDistinct (x ∷ xs) → AreDistinct xs
distinct_tail x xs apart i j d low high =
    apart (suc i) (suc j) d (omega (arith, low)) (omega (arith, high))

distinct_head : (x : Entry) (xs : List Entry) → AreDistinct (x ∷ xs) → (entry : Entry)
    → Contains xs entry → x.key ≢ entry.key
distinct_head x xs apart entry it = subst (λ (e : Entry). x.key ≢ e.key) it.2
    (apart 0 (suc it.0) entry (omega arith) (omega (arith, it.1)))

-- the entries but that of a key
record Without (key : Key) (entries : List Entry) : Type 0 where
  pub rest : List Entry
  pub most : length entries ≤ suc (length rest)
  pub distinct : AreDistinct rest
  pub each : (entry : Entry) → Contains rest entry → Contains entries entry × (entry.key ≢ key)
  pub keeps : (entry : Entry) → Contains entries entry → entry.key ≢ key → Contains rest entry
  pub fewer : HasKey (Contains entries) key → suc (length rest) ≤ length entries

none_in : (entry : Entry) → ¬ Contains [] entry
none_in entry has = omega (arith, has.1)

without : (key : Key) (entries : List Entry) → AreDistinct entries → Without key entries
without key [] apart = record {
  rest = [];
  most = omega arith;
  distinct = apart;
  each = λ entry has. absurd (none_in entry has);
  keeps = λ entry has other. has;
  fewer = λ has. absurd (none_in has.0 has.1);
}
without key (x ∷ xs) apart = ⊎_elim
    (λ (same : x.key ≡ key). record {
      rest = xs;
      most = omega arith;
      distinct = distinct_tail x xs apart;
      each = λ entry has. (
        in_cons x xs entry has,
        λ is. distinct_head x xs apart entry has (same ∙ sym is),
      );
      keeps = λ entry has other. ⊎_elim
          (λ (was : Contains xs entry). was)
          (λ (is : x ≡ entry). absurd (other (sym (ap (λ (e : Entry). e.key) is) ∙ same)))
          (cons_cases x xs entry has);
      fewer = λ has. omega arith;
    })
    (λ (different : x.key ≢ key).
    let it = without key xs (distinct_tail x xs apart) in
    record {
      rest = x ∷ it.rest;
      most = omega (arith, it.most);
      distinct = AllPairs-cons (λ (a b : Entry). a.key ≢ b.key) x it.rest
          (λ i d within.
          let e = get_or it.rest i d in
          distinct_head x xs apart e (it.each e (All-contains_itself it.rest i d within)).0)
          it.distinct;
      each = λ entry has. ⊎_elim
          (λ (was : Contains it.rest entry).
          let found = it.each entry was in (in_cons x xs entry found.0, found.1))
          (λ (is : x ≡ entry). (
            (zero, omega arith, is),
            λ same. different (ap (λ (e : Entry). e.key) is ∙ same),
          ))
          (cons_cases x it.rest entry has);
      keeps = λ entry has other. ⊎_elim
          (λ (was : Contains xs entry). in_cons x it.rest entry (it.keeps entry was other))
          (λ (is : x ≡ entry). (zero, omega arith, is))
          (cons_cases x xs entry has);
      fewer = λ has. ⊎_elim
          (λ (was : Contains xs has.0).
          let low = it.fewer (has.0, was, has.2) in omega (arith, low))
          (λ (is : x ≡ has.0). absurd (different (ap (λ (e : Entry). e.key) is ∙ has.2)))
          (cons_cases x xs has.0 has.1);
    })
    (decide_keys x.key key)

-- a block of the list that passes the test
abbrev Passes : (Accepted → Bool) → (h : List Accepted) → ℕ → Accepted → Type 0
Passes p h i x = (slice_get h i ≡ Some x) × (p x ≡ true)

module _ (key_of : Accepted → Key) (p : Accepted → Bool) where
  counted_yes : (x : Accepted) (xs : List Accepted) → p x ≡ true
      → count_by p (x ∷ xs) ≡ 1 + count_by p xs
  counted_yes x xs passes = sum_by-cons (λ (y : Accepted). cond (p y) 1 0) x xs
      ∙ ap (λ (b : Bool). cond b 1 0 + count_by p xs) passes

  counted_no : (x : Accepted) (xs : List Accepted) → p x ≡ false
      → count_by p (x ∷ xs) ≡ count_by p xs
  counted_no x xs fails = sum_by-cons (λ (y : Accepted). cond (p y) 1 0) x xs
      ∙ ap (λ (b : Bool). cond b 1 0 + count_by p xs) fails ∙ omega arith

  -- entries of different keys, each that of a block of these
  at_most : (h : List Accepted) (entries : List Entry) → AreDistinct entries
      → ((entry : Entry) → Contains entries entry
      → (i : ℕ) × (x : Accepted) × Passes p h i x × (entry.key ≡ key_of x))
      → length entries ≤ count_by p h
  at_most [] entries apart of = none entries of
    where
      none : (entries : List Entry) → ((entry : Entry) → Contains entries entry
          → (i : ℕ) × (x : Accepted) × Passes p [] i x × (entry.key ≡ key_of x))
          → length entries ≤ count_by p []
      none [] of = omega arith
      none (e ∷ es) of = absurd (let it = of e (zero, omega arith, refl) in let q = it.2.0 in cc)
  at_most (x ∷ xs) entries apart of = ⊎_elim
      (λ (yes : p x ≡ true).
      let it = without (key_of x) entries apart in
      let low = at_most xs it.rest it.distinct (λ entry has.
      let found = it.each entry has in behind entry (of entry found.0) (λ is at. found.1 at)) in
      omega (arith, it.most, low, counted_yes x xs yes))
      (λ (no : p x ≡ false).
      let low = at_most xs entries apart (λ entry has.
      behind entry (of entry has) (λ yes at. false≢true (sym no ∙ yes))) in
      omega (arith, low, counted_no x xs no))
      (cases_Bool (p x))
    where
      behind : (entry : Entry)
          → (i : ℕ) × (y : Accepted) × Passes p (x ∷ xs) i y × (entry.key ≡ key_of y)
          → (p x ≡ true → entry.key ≢ key_of x)
          → (i : ℕ) × (y : Accepted) × Passes p xs i y × (entry.key ≡ key_of y)
      behind entry (zero, y, passes, is) not_first =
          let same : x ≡ y = same_Some x y passes.0 in
          absurd (not_first (ap p same ∙ passes.1) (is ∙ sym (ap key_of same)))
      behind entry (suc i, y, passes, is) not_first = (i, y, passes, is)

  -- and where each block of these has its entry
  at_least : (h : List Accepted) (entries : List Entry) → AreDistinct entries
      → AllPairs (λ (a b : Accepted). key_of a ≢ key_of b) h
      → ((i : ℕ) (x : Accepted) → Passes p h i x → HasKey (Contains entries) (key_of x))
      → count_by p h ≤ length entries
  at_least [] entries apart keys has = omega arith
  at_least (x ∷ xs) entries apart keys has = ⊎_elim
      (λ (yes : p x ≡ true).
      let it = without (key_of x) entries apart in
      let low = at_least xs it.rest it.distinct later (λ i y passes.
      let found = has (suc i) y passes in
      let kept = it.keeps found.0 found.1 (λ same. other i y passes.0 (sym same ∙ found.2)) in
      (found.0, kept, found.2)) in
      let fewer = it.fewer (has 0 x (refl, yes)) in
      omega (arith, fewer, low, counted_yes x xs yes))
      (λ (no : p x ≡ false).
      let low = at_least xs entries apart later (λ i y passes. has (suc i) y passes) in
      omega (arith, low, counted_no x xs no))
      (cases_Bool (p x))
    where
      later : AllPairs (λ (a b : Accepted). key_of a ≢ key_of b) xs
      later i j d low high = keys (suc i) (suc j) d (omega (arith, low)) (omega (arith, high))

      other : (i : ℕ) (y : Accepted) → slice_get xs i ≡ Some y → key_of x ≢ key_of y
      other i y at = subst (λ (z : Accepted). key_of x ≢ key_of z) (get_at xs i y at x)
          (keys 0 (suc i) x (omega arith) (let low = get_below xs i y at in omega (arith, low)))

-- ---- the blocks of a bucket

module _ (score : List ℕ → List ℕ) (c : Setup) (h : History) (n : ℕ) (entries : List Entry)
    (apart : AreDistinct entries)
    (of : (entry : Entry) → Contains entries entry
    → IsEntryOfBlock score c h entry × (bucket_of (bucket_count c) entry.key.score.0 ≡ n)) where
  abbrev key_in : Accepted → Key
  key_in x = record { score = record { 0 = score x.block.bytes }; kind = x.block.kind }

  abbrev belongs : Accepted → Bool
  belongs x = bucket_of (bucket_count c) (score x.block.bytes) == n

  key_is : (i : ℕ) (entry : Entry) (is : IsEntryOf score c h i entry) → entry.key ≡ key_in is.block
  key_is i entry is = λ k. record { score = record { 0 = is.score_is k }; kind = is.kind_is k }

  pub blocks_most : length entries ≤ crowd score (bucket_count c) h n
  blocks_most = at_most key_in belongs h entries apart (λ entry has.
      let it = of entry has in
      let is = it.0.1 in
      let here : bucket_of (bucket_count c) (score is.block.block.bytes) ≡ n =
      sym (ap (bucket_of (bucket_count c)) is.score_is) ∙ it.1 in
      (it.0.0, is.block, (is.stands.block, eqb-refl_at here), key_is it.0.0 entry is))
    where
      eqb-refl_at : {a b : ℕ} → a ≡ b → (a == b) ≡ true
      eqb-refl_at {a} {b} same = ⊎_elim
          (λ (is : eqb a b ≡ true). is)
          (λ (not : eqb a b ≡ false). absurd (eqb-false a b not same))
          (cases_Bool (eqb a b))

  pub blocks_all : AllPairs (HasOtherKey score) h
      → ((i : ℕ) → IsInBucket score c h n i → HasBlock score c h (Contains entries) i)
      → length entries ≡ crowd score (bucket_count c) h n
  blocks_all keys has =
      let most = blocks_most in
      let least = at_least key_in belongs h entries apart
      (λ i j d low high same. keys i j d low high
      (ap (λ (k : Key). k.kind) same) (ap (λ (k : Key). k.score.0) same))
      (λ i x passes.
      let at : IsInBucket score c h n i = record {
        block = x;
        spot = _;
        stands = record { block = passes.0; place = ap (option_map _) passes.0 };
        bucket_is = eqb-true _ n passes.1;
      } in
      let it = has i at in
      let same : it.2.block ≡ x = same_Some it.2.block x (sym it.2.stands.block ∙ passes.0) in
      (it.0, it.1, key_is i it.0 it.2 ∙ ap key_in same)) in
      omega (arith, most, least)
