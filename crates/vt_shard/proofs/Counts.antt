-- Entries are counted off those of their buckets.
use Rattle.std.proofs.Common.{◌≡◌, ◌≢◌, ⊎_elim, ℕ, ◌+◌, ◌-◌, ◌<◌, ◌≤◌, ◌==◌, Bool, true, cond, List, length, get_or, set, take, sym, ◌∙◌, ap, subst, arith}
use Rattle.std.specs.Prelude.{slice_index}
use Rattle.std.specs.List.{Contains, count_by}
use Rattle.std.proofs.lemmas.Bool.{cases_eq}
use Rattle.std.proofs.lemmas.Bool.Decides.{Decides-eqb}
use Rattle.std.proofs.lemmas.List.{get_or-set_same, get_or-set_other}
use Rattle.std.proofs.lemmas.List.Elements.{Contains-get_or}
use Rattle.std.proofs.lemmas.List.Sums.{count_by_more_no, count_by_more_yes, sum_by-take-le}
use Rattle.vt_base.specs.declared.place.Entry.{Entry}
use Rattle.vt_isect.specs.Layout.{InRange}
use Rattle.vt_isect.specs.declared.head.Head.{Head}
use Rattle.vt_model.specs.Places.{bucket_of}
use Rattle.vt_shard.proofs.IsWell.{not_equal}

abbrev pub is_in : (head : Head) → (n : ℕ) → Entry → Bool
is_in head n entry = bucket_of head.total entry.key.score.0 == n

module _ (head : Head) (entries : List Entry) (i : ℕ) (entry : Entry) (lt : i < length entries) (here : get_or entries i entry ≡ entry)
    (old now : List ℕ) (long : length now ≡ length old)
    (in_range : (e : Entry) → Contains entries e → InRange head (length old) (bucket_of head.total e.key.score.0))
    (some : (e : Entry) (n : ℕ) → Contains entries e → bucket_of head.total e.key.score.0 ≡ n
    → count_by (is_in head n) entries ≤ slice_index old (n - head.first))
    (counts : (n : ℕ) → InRange head (length old) n
    → slice_index now (n - head.first) + count_by (is_in head n) (take i entries) ≡ slice_index old (n - head.first))
    (number : ℕ) (is : number ≡ bucket_of head.total entry.key.score.0) where
  one_of : Contains entries entry
  one_of = subst (Contains entries) here (Contains-get_or entries i entry lt)

  pub at : InRange head (length old) number
  at = subst (InRange head (length old)) (sym is) (in_range entry one_of)

  pub within : number - head.first < length now
  within = let at = at in omega (arith, at, long)

  own : is_in head number (get_or entries i entry) ≡ true
  own = ap (is_in head number) here ∙ (Decides-eqb (bucket_of head.total entry.key.score.0) number).1 (sym is)

  more : count_by (is_in head number) (take (i + 1) entries) ≡ count_by (is_in head number) (take i entries) + 1
  more = count_by_more_yes (is_in head number) entries i entry lt own

  pub waits : 0 < slice_index now (number - head.first)
  waits =
      let was = counts number at in
      let most = some entry number one_of (sym is) in
      let part = sum_by-take-le (λ (e : Entry). cond (is_in head number e) 1 0) entries (i + 1) in
      let one = more in
      omega (arith, was, most, part, one)

  pub counted_off : (value : ℕ) → value ≡ slice_index now (number - head.first) - 1 → (n : ℕ) → InRange head (length old) n
      → slice_index (set now (number - head.first) value) (n - head.first) + count_by (is_in head n) (take (i + 1) entries)
      ≡ slice_index old (n - head.first)
  counted_off value value_is n of = ⊎_elim
      (λ (same : number ≡ n). subst
      (λ (k : ℕ). slice_index (set now (number - head.first) value) (k - head.first) + count_by (is_in head k) (take (i + 1) entries)
      ≡ slice_index old (k - head.first))
      same
      (let set_here = get_or-set_same now (number - head.first) value 0 within in
      let was = counts number at in
      let some_left = waits in
      let one = more in
      omega (arith, set_here, value_is, was, some_left, one)))
      (λ (other : number ≢ n).
      let apart : n - head.first ≢ number - head.first = λ e. other (let here = at in omega (arith, e, here, of)) in
      let set_there = get_or-set_other now (number - head.first) (n - head.first) value 0 apart in
      let was = counts n of in
      let none = count_by_more_no (is_in head n) entries i entry lt
      (ap (is_in head n) here ∙ not_equal (bucket_of head.total entry.key.score.0) n (λ e. other (is ∙ e))) in
      omega (arith, set_there, was, none))
      (cases_eq number n)
