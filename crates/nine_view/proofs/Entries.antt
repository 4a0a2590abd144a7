-- Entries by their fids, where the first of a fid stands.
use Rattle.std.proofs.Common.{◌≡◌, ◌+◌, ◌==◌, ◌<◌, ◌++◌, ℕ, zero, suc, true, false, Option, Some, None, List, [], ◌∷◌, length, get_or, refl, sym, ◌∙◌, ap, subst, arith, inl, inr, eqb-true}
use Rattle.std.specs.List.{position_from}
use Rattle.std.specs.Prelude.{IfSome, position, remove}
use Rattle.std.proofs.Math.ListN.{set}
use Rattle.std.proofs.lemmas.Bool.{cases_Bool}
use Rattle.std.proofs.lemmas.Iterator.Adapters.{position_from-zero}
use Rattle.std.proofs.lemmas.List.Quantifiers.{position-Some}
use Rattle.nine_view.specs.declared.fid.Fid.{Fid}
use Rattle.nine_view.specs.Known.{fid_at, with_fid, without_fid}

-- the entry of this number is the first of a fid
pub record IsFirst (fid : ℕ) (fids : List (ℕ × Fid)) (i : ℕ) (d : ℕ × Fid) : Type 0 where
  pub within : i < length fids
  pub here : ((get_or fids i d).0 == fid) ≡ true
  pub before : (k : ℕ) → k < i → ((get_or fids k d).0 == fid) ≡ false

pub is_first : (fid : ℕ) (fids : List (ℕ × Fid)) (i : ℕ) (d : ℕ × Fid)
    → position (λ e. e.0 == fid) fids ≡ Some i → IsFirst fid fids i d
is_first fid fids i d at =
    let some = position-Some (λ e. e.0 == fid) fids i d at in
    record { within = some.0; here = some.1; before = some.2 }

module _ (fid : ℕ) (d : ℕ × Fid) where
  behind : (e : ℕ × Fid) (fids : List (ℕ × Fid)) (i : ℕ) → IsFirst fid (e ∷ fids) (suc i) d
      → IsFirst fid fids i d
  behind e fids i at = record {
    within = let w = at.within in omega arith;
    here = at.here;
    before = λ k less. at.before (suc k) (omega arith);
  }

  pub found_there : (fids : List (ℕ × Fid)) (i : ℕ) → IsFirst fid fids i d
      → fid_at fid fids ≡ Some (get_or fids i d).1
  found_there [] i at = absurd (let w = at.within in omega arith)
  found_there (e ∷ fids) zero at = rw at.here refl
  found_there (e ∷ fids) (suc i) at =
      let not_here = at.before 0 (omega arith) in
      rw not_here (found_there fids i (behind e fids i at))

  pub set_there : (f : Fid) (fids : List (ℕ × Fid)) (i : ℕ) → IsFirst fid fids i d
      → with_fid fid f fids ≡ set fids i (fid, f)
  set_there f [] i at = absurd (let w = at.within in omega arith)
  set_there f (e ∷ fids) zero at = rw at.here refl
  set_there f (e ∷ fids) (suc i) at =
      let not_here = at.before 0 (omega arith) in
      rw not_here (ap (λ l. e ∷ l) (set_there f fids i (behind e fids i at)))

  pub removed_there : (fids : List (ℕ × Fid)) (i : ℕ) → IsFirst fid fids i d
      → without_fid fid fids ≡ remove fids i
  removed_there [] i at = absurd (let w = at.within in omega arith)
  removed_there (e ∷ fids) zero at = rw at.here refl
  removed_there (e ∷ fids) (suc i) at =
      let not_here = at.before 0 (omega arith) in
      rw not_here (ap (λ l. e ∷ l) (removed_there fids i (behind e fids i at)))

-- ---- a fid that isn't known

absent_at : (fid : ℕ) (fids : List (ℕ × Fid)) → position (λ e. e.0 == fid) fids ≡ None
    → position_from (λ e. e.0 == fid) 0 fids ≡ None
absent_at fid fids none = sym (position_from-zero (λ e. e.0 == fid) fids) ∙ none

module _ (fid : ℕ) where
  not_found : (fids : List (ℕ × Fid)) (n : ℕ) → position_from (λ e. e.0 == fid) n fids ≡ None
      → fid_at fid fids ≡ None
  not_found [] n none = refl
  not_found (e ∷ fids) n none = elim (cases_Bool (e.0 == fid)) [
    | inl a ↦ absurd (let h = rw a at none in cc)
    | inr a ↦ rw a (not_found fids (n + 1) (rw a at none))
  ]

  put_behind : (f : Fid) (fids : List (ℕ × Fid)) (n : ℕ)
      → position_from (λ e. e.0 == fid) n fids ≡ None → with_fid fid f fids ≡ fids ++ (fid, f) ∷ []
  put_behind f [] n none = refl
  put_behind f (e ∷ fids) n none = elim (cases_Bool (e.0 == fid)) [
    | inl a ↦ absurd (let h = rw a at none in cc)
    | inr a ↦ rw a (ap (λ l. e ∷ l) (put_behind f fids (n + 1) (rw a at none)))
  ]

  none_removed : (fids : List (ℕ × Fid)) (n : ℕ)
      → position_from (λ e. e.0 == fid) n fids ≡ None → without_fid fid fids ≡ fids
  none_removed [] n none = refl
  none_removed (e ∷ fids) n none = elim (cases_Bool (e.0 == fid)) [
    | inl a ↦ absurd (let h = rw a at none in cc)
    | inr a ↦ rw a (ap (λ l. e ∷ l) (none_removed fids (n + 1) (rw a at none)))
  ]

pub absent : (fid : ℕ) (fids : List (ℕ × Fid)) → position (λ e. e.0 == fid) fids ≡ None
    → fid_at fid fids ≡ None
absent fid fids none = not_found fid fids 0 (absent_at fid fids none)

pub appended : (fid : ℕ) (f : Fid) (fids : List (ℕ × Fid))
    → position (λ e. e.0 == fid) fids ≡ None → with_fid fid f fids ≡ fids ++ (fid, f) ∷ []
appended fid f fids none = put_behind fid f fids 0 (absent_at fid fids none)

pub kept_all : (fid : ℕ) (fids : List (ℕ × Fid)) → position (λ e. e.0 == fid) fids ≡ None
    → without_fid fid fids ≡ fids
kept_all fid fids none = none_removed fid fids 0 (absent_at fid fids none)

-- ---- what is done where the first entry of a fid stands

pub removed_at : (fid : ℕ) (fids : List (ℕ × Fid)) (i : ℕ)
    → position (λ e. e.0 == fid) fids ≡ Some i → without_fid fid fids ≡ remove fids i
removed_at fid [] i at = absurd (cc)
removed_at fid (e ∷ fids) i at =
    removed_there fid e (e ∷ fids) i (is_first fid (e ∷ fids) i e at)

pub set_at : (fid : ℕ) (f : Fid) (fids : List (ℕ × Fid)) (i : ℕ)
    → position (λ e. e.0 == fid) fids ≡ Some i → with_fid fid f fids ≡ set fids i (fid, f)
set_at fid f [] i at = absurd (cc)
set_at fid f (e ∷ fids) i at =
    set_there fid e f (e ∷ fids) i (is_first fid (e ∷ fids) i e at)

pub changed_at : (fid : ℕ) (change : Fid → Fid) (fids : List (ℕ × Fid)) (i : ℕ) (e : ℕ × Fid)
    → position (λ e. e.0 == fid) fids ≡ Some i → e ≡ get_or fids i e
    → IfSome (fid_at fid fids) (λ f. set fids i (e.0, change e.1) ≡ with_fid fid (change f) fids)
changed_at fid change fids i e at is =
    let first = is_first fid fids i e at in
    let found : fid_at fid fids ≡ Some e.1 =
    found_there fid e fids i first ∙ ap (λ (x : ℕ × Fid). Some x.1) (sym is) in
    let number : fid ≡ e.0 =
    sym (eqb-true e.0 fid (ap (λ (x : ℕ × Fid). x.0 == fid) is ∙ first.here)) in
    subst (λ (o : Option Fid). IfSome o (λ f.
    set fids i (e.0, change e.1) ≡ with_fid fid (change f) fids)) (sym found)
    (ap (λ (n : ℕ). set fids i (n, change e.1)) (sym number)
    ∙ sym (set_there fid e (change e.1) fids i first))

pub absent_so : (fid : ℕ) (fids : List (ℕ × Fid)) (P : Fid → Type 0)
    → position (λ e. e.0 == fid) fids ≡ None → IfSome (fid_at fid fids) P
absent_so fid fids P none =
    subst (λ (o : Option Fid). IfSome o P) (sym (absent fid fids none)) tt
