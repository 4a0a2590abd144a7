-- Records that ascend by name, searched for one.
use Rattle.std.proofs.Common.{◌≡◌, ◌+◌, ◌<◌, ◌≤◌, ℕ, zero, suc, true, false, Option, Some, None, Result, Ok, Err, List, [], ◌∷◌, length, get_or, add-one, nat_cmp, is_lt, refl, sym, ◌∙◌, ap, subst, inl, inr, arith, ⊎_elim}
use Rattle.std.specs.Prelude.{MatchResult}
use Rattle.std.specs.Cmp.Lexicographic.{slice_cmp}
use Rattle.std.specs.List.Sorted.{IsBinarySearchResult, IsSearchInRange, IsSortedBy}
use Rattle.std.specs.Ordering.{is_eq, ordering_reverse}
use Rattle.std.specs.Str.{bytes_eq}
use Rattle.std.specs.declared.cmp.Ordering.{Ordering}
use Rattle.std.specs.declared.cmp.Ordering.TheVariants.{Less, Equal, Greater}
use Rattle.std.proofs.lemmas.Bool.{cases_Bool, cases_lt, false≢true}
use Rattle.std.proofs.lemmas.Cmp.{nat_list_cmp_total}
use Rattle.std.proofs.lemmas.List.Sorted.{searchable_from_sorted}
use Rattle.std.proofs.lemmas.Map.Text.{is_eq-slice_cmp}
use Rattle.std.proofs.lemmas.Slice.Eq.{bytes_eq-Decides}
use Rattle.vac_meta.specs.declared.record.Record.{Record}
use Rattle.vac_meta.specs.Records.{Ascend}
use Rattle.vac_model.proofs.Names.{Below, below_below, not_both}
use Rattle.vac_read.specs.Folders.{IsNamedAt}
use Rattle.vac_read.specs.Nodes.{named}

-- ---- the order of names

-- a name below this one is another
other_name : (a b n : List ℕ) → Below a b → bytes_eq b n ≡ true → bytes_eq a n ≡ false
other_name a b n below same = elim (cases_Bool (bytes_eq a n)) [
  | inr differ ↦ differ
  | inl equal ↦
      let left : a ≡ n = (bytes_eq-Decides a n).0 equal in
      let right : b ≡ n = (bytes_eq-Decides b n).0 same in
      let itself : Below b b = subst (λ (x : List ℕ). Below x b) (left ∙ sym right) below in
      absurd (false≢true (sym (not_both b b itself) ∙ itself))
]

-- all behind a name are above it
above : (last : List ℕ) (records : List Record) → Ascend (Some last) records → (i : ℕ) (d : Record)
    → i < length records → Below last (get_or records i d).name
above last [] up i d within = absurd (omega arith)
above last (r ∷ records) up zero d within = up.0
above last (r ∷ records) up (suc i) d within =
    below_below last r.name (get_or records i d).name up.0
    (above r.name records up.1 i d (omega arith))

sorted : (last : Option (List ℕ)) (records : List Record) → Ascend last records
    → IsSortedBy (λ (a : Record) (b : Record). is_lt (slice_cmp nat_cmp a.name b.name)) records
sorted last [] up k d low high = absurd (omega arith)
sorted last (r ∷ records) up zero d low high =
    not_both r.name (get_or records 0 d).name (above r.name records up.1 0 d (omega arith))
sorted last (r ∷ records) up (suc k) d low high =
    rw (add-one (suc k)) (rw (add-one k) at
    (sorted (Some r.name) records up.1 k d (omega arith) (omega arith)))

-- ---- what is found

named_there : (name : List ℕ) (last : Option (List ℕ)) (records : List Record) (i : ℕ) (d : Record)
    → Ascend last records → i < length records → bytes_eq (get_or records i d).name name ≡ true
    → named name records ≡ Some (get_or records i d)
named_there name last [] i d up within is = absurd (omega arith)
named_there name last (r ∷ records) zero d up within is =
    let here : bytes_eq r.name name ≡ true = is in rw here refl
named_there name last (r ∷ records) (suc i) d up within is =
    let other : bytes_eq r.name name ≡ false =
    other_name r.name (get_or records i d).name name (above r.name records up.1 i d (omega arith)) is in
    rw other (named_there name (Some r.name) records i d up.1 (omega arith) is)

none_named : (name : List ℕ) (records : List Record)
    → ((i : ℕ) (d : Record) → i < length records → bytes_eq (get_or records i d).name name ≡ false)
    → named name records ≡ None
none_named name [] none = refl
none_named name (r ∷ records) none =
    let other : bytes_eq r.name name ≡ false = none 0 r (omega arith) in
    rw other (none_named name records (λ i d within. none (suc i) d (omega arith)))

equal_so : (a n : List ℕ) → slice_cmp nat_cmp a n ≡ Equal → bytes_eq a n ≡ true
equal_so a n is = sym (is_eq-slice_cmp a n) ∙ ap is_eq is

less_so : (a n : List ℕ) → slice_cmp nat_cmp a n ≡ Less → bytes_eq a n ≡ false
less_so a n is = sym (is_eq-slice_cmp a n) ∙ ap is_eq is

greater_so : (a n : List ℕ) → slice_cmp nat_cmp a n ≡ Greater → bytes_eq a n ≡ false
greater_so a n is = sym (is_eq-slice_cmp a n) ∙ ap is_eq is

-- what a search by halving finds is the first record of the name; where it finds none, none has it
pub halved : (records : List Record) (name : List ℕ) (found : Result ℕ ℕ) → Ascend None records
    → IsSearchInRange found (length records)
    → IsBinarySearchResult (λ (r : Record). slice_cmp nat_cmp r.name name) records found
    → MatchResult found (IsNamedAt records name) (λ i. named name records ≡ None)
halved records name (Ok i) up range is = record {
  within = range;
  is = λ d. named_there name None records i d up range
      (equal_so (get_or records i d).name name (is d));
}
halved records name (Err i) up range is =
    let point = is (searchable_from_sorted nat_list_cmp_total (λ (r : Record). r.name) records name
    (sorted None records up)) in
    none_named name records (λ k d within. ⊎_elim
    (λ (low : k < i). less_so (get_or records k d).name name (point.0 k d (omega arith) low))
    (λ (high : i ≤ k). greater_so (get_or records k d).name name (point.1 k d high within))
    (cases_lt k i))
