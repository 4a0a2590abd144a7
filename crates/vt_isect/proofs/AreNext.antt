-- The entries of a writeback: those that are in their buckets, the group under way, and the rest.
use Rattle.std.proofs.Common.{◌≡◌, ◌≢◌, ◌⊎◌, inl, inr, ⊎_elim, ℕ, ◌+◌, ◌^◌, ◌<◌, ◌≤◌, Bool, true, false, if◌then◌else◌, List, [], ◌∷◌, ◌++◌, length, get_or, take, drop, take-append-drop, length-take, length-drop, Option, Some, None, sym, ap, ◌∙◌, subst, arith}
use Rattle.std.specs.Prelude.{nat_le}
use Rattle.std.specs.List.{Contains}
use Rattle.std.proofs.lemmas.Bool.{cases_lt}
use Rattle.std.proofs.lemmas.List.{drop_all, drop-append-le, get_or-drop, get_or_default, take_all}
use Rattle.std.proofs.lemmas.List.Elements.{Contains-append_left, Contains-append_right, Contains-append_cases, Contains-push_cases}
use Rattle.vt_base.specs.declared.place.Entry.{Entry}
use Rattle.vt_model.specs.Places.{bucket_of}
use Rattle.vt_isect.specs.Entries.{IsOrdered, turn}

pub dropped : (n : ℕ) (xs : List Entry) (entry : Entry) → Contains (drop n xs) entry
    → Contains xs entry
dropped n xs entry has =
    subst (λ (l : List Entry). Contains l entry) (take-append-drop n xs)
    (Contains-append_right (take n xs) (drop n xs) entry has)

pub none_of : (entry : Entry) → ¬ Contains {X = Entry} [] entry
none_of entry has = omega (arith, has.1)

-- nothing stands behind the last
pub none_behind : (n : ℕ) (xs : List Entry) → length xs ≤ n → (entry : Entry)
    → ¬ Contains (drop n xs) entry
none_behind n xs all entry has =
    none_of entry (subst (λ (l : List Entry). Contains l entry) (drop_all n xs all) has)

module _ (written begun : ℕ) (xs : List Entry) (order : written ≤ begun) (within : begun ≤ length xs) where
  -- what is still to be put: the group, and what stands behind it
  todo_is : drop written (take begun xs) ++ drop begun xs ≡ drop written xs
  todo_is =
      sym (drop-append-le written (take begun xs) (drop begun xs) (omega (arith, order, within, length-take begun xs)))
      ∙ ap (λ (l : List Entry). drop written l) (take-append-drop begun xs)

  pub group_or_behind : (entry : Entry) → Contains (drop written xs) entry
      → Contains (drop written (take begun xs)) entry ⊎ Contains (drop begun xs) entry
  group_or_behind entry has =
      Contains-append_cases (drop written (take begun xs)) (drop begun xs) entry
      (subst (λ (l : List Entry). Contains l entry) (sym todo_is) has)

  pub behind : (entry : Entry) → Contains (drop begun xs) entry → Contains (drop written xs) entry
  behind entry has =
      subst (λ (l : List Entry). Contains l entry) todo_is
      (Contains-append_right (drop written (take begun xs)) (drop begun xs) entry has)

-- what is on the way is still to be put
pub of_group : (written begun : ℕ) (xs : List Entry) (entry : Entry)
    → Contains (drop written (take begun xs)) entry → Contains (drop written xs) entry
of_group written begun xs entry has = ⊎_elim
    (λ (low : begun ≤ length xs). ⊎_elim
    (λ (order : written ≤ begun).
    subst (λ (l : List Entry). Contains l entry) (todo_is written begun xs order low)
    (Contains-append_left (drop written (take begun xs)) (drop begun xs) entry has))
    (λ (past : begun < written).
    absurd (none_behind written (take begun xs) (omega (arith, past, length-take begun xs)) entry has))
    (le_or_lt written begun))
    (λ (high : length xs < begun).
    subst (λ (l : List Entry). Contains (drop written l) entry) (take_all begun xs (omega (arith, high))) has)
    (le_or_lt begun (length xs))
  where
    le_or_lt : (a b : ℕ) → (a ≤ b) ⊎ (b < a)
    le_or_lt a b = ⊎_elim (λ (lt : b < a). inr lt) (λ (le : a ≤ b). inl le) (cases_lt b a)

-- nothing is written back where as many entries are written
pub none_written : (written : ℕ) (xs : List Entry) (entry : Entry)
    → ¬ Contains (drop written (take written xs)) entry
none_written written xs entry has =
    none_behind written (take written xs) (omega (arith, length-take written xs)) entry has

-- the entries belong to this bucket
abbrev pub AreOwn : (total bucket : ℕ) → List Entry → Type 0
AreOwn total bucket entries = (entry : Entry) → Contains entries entry
    → bucket_of total entry.key.score.0 ≡ bucket

pub own_more : (total bucket : ℕ) (front : List Entry) (y : Entry)
    → bucket_of total y.key.score.0 ≡ bucket → AreOwn total bucket front
    → AreOwn total bucket (front ++ y ∷ [])
own_more total bucket front y here before entry has = ⊎_elim
    (λ (was : Contains front entry). before entry was)
    (λ (is : y ≡ entry).
    subst (λ (e : Entry). bucket_of total e.key.score.0 ≡ bucket) is here)
    (Contains-push_cases front y entry has)

-- ---- the order of the entries

turns_apart : (behind : Option ℕ) (a b : ℕ) → a < 2 ^ 32 → b < 2 ^ 32 → turn behind a ≡ turn behind b → a ≡ b
turns_apart None a b low less same = same
turns_apart (Some last) a b low less same = by (nat_le a last) (nat_le b last) same
  where
    by : (p q : Bool) → (if p then a + 2 ^ 32 else a) ≡ (if q then b + 2 ^ 32 else b) → a ≡ b
    by true true is = omega (arith, is)
    by true false is = absurd (omega (arith, is, low, less))
    by false true is = absurd (omega (arith, is, low, less))
    by false false is = is

-- behind an entry of another bucket there is none of this one, which stands before it
pub none_later : (total : ℕ) (behind : Option ℕ) (xs : List Entry) → IsOrdered total behind xs → (first i : ℕ) (d : Entry)
    → first ≤ i → i < length xs
    → bucket_of total (get_or xs first d).key.score.0 < 2 ^ 32 → bucket_of total (get_or xs i d).key.score.0 < 2 ^ 32
    → bucket_of total (get_or xs i d).key.score.0 ≢ bucket_of total (get_or xs first d).key.score.0
    → (entry : Entry) → Contains (drop i xs) entry → bucket_of total entry.key.score.0 ≢ bucket_of total (get_or xs first d).key.score.0
none_later total behind xs ordered first i d before within low less other entry has same =
    let k = has.0 in
    let lt : i + k < length xs = omega (arith, has.1, within, length-drop i xs) in
    let is : get_or xs (i + k) d ≡ entry =
    sym (get_or-drop i xs k d) ∙ get_or_default (drop i xs) k d entry has.1 ∙ has.2 in
    let one = ordered first i d before within in
    let two = ordered i (i + k) d (omega arith) lt in
    let last = ap (λ (e : Entry). turn behind (bucket_of total e.key.score.0)) is in
    let back = ap (turn behind) same in
    other (turns_apart behind _ _ less low (omega (arith, one, two, last, back)))
