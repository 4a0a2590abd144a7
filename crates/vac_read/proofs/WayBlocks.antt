-- Blocks by their types, where the first of a type stands.
use Rattle.std.proofs.Common.{◌≡◌, ◌+◌, ◌==◌, ◌<◌, ◌≤◌, ◌++◌, ℕ, zero, suc, true, false, Some, None, List, [], ◌∷◌, length, get_or, refl, sym, ◌∙◌, ap, subst, arith, inl, inr}
use Rattle.std.specs.List.{AllByRecursion, position_from}
use Rattle.std.specs.Prelude.{find, position}
use Rattle.std.specs.Str.{bytes_eq}
use Rattle.std.proofs.Math.ListN.{set}
use Rattle.std.proofs.lemmas.Bool.{cases_Bool}
use Rattle.std.proofs.lemmas.Iterator.Adapters.{position_from-zero}
use Rattle.std.proofs.lemmas.List.Quantifiers.{position-Some}
use Rattle.vt_base.specs.declared.TheConstants.{MAX_BLOCK}
use Rattle.vac_read.specs.declared.last_way.WayBlock.{WayBlock}
use Rattle.vac_read.specs.LastWay.{IsBoundedWay, keeping, kept_of}

-- ---- what is found

pub found_none : (kind : ℕ) (s : List ℕ) (way : List WayBlock)
    → find (λ b. b.kind == kind) way ≡ None → kept_of kind s way ≡ None
found_none kind s [] none = refl
found_none kind s (b ∷ way) none = elim (cases_Bool (b.kind == kind)) [
  | inl same ↦ let no : Some b ≡ None = rw same at none in absurd (cc)
  | inr other ↦ rw other (found_none kind s way (rw other at none))
]

pub found_other : (kind : ℕ) (s : List ℕ) (way : List WayBlock) (x : WayBlock)
    → find (λ b. b.kind == kind) way ≡ Some x → bytes_eq x.score.0 s ≡ false
    → kept_of kind s way ≡ None
found_other kind s [] x found other = absurd (cc)
found_other kind s (b ∷ way) x found other = elim (cases_Bool (b.kind == kind)) [
  | inl same ↦
      let is : Some b ≡ Some x = rw same at found in
      let one : b ≡ x = cc in
      rw (same, ap (λ (y : WayBlock). bytes_eq y.score.0 s) one ∙ other) refl
  | inr next ↦ rw next (found_other kind s way x (rw next at found) other)
]

pub found_same : (kind : ℕ) (s : List ℕ) (way : List WayBlock) (x : WayBlock)
    → find (λ b. b.kind == kind) way ≡ Some x → bytes_eq x.score.0 s ≡ true
    → kept_of kind s way ≡ Some x.bytes
found_same kind s [] x found equal = absurd (cc)
found_same kind s (b ∷ way) x found equal = elim (cases_Bool (b.kind == kind)) [
  | inl same ↦
      let is : Some b ≡ Some x = rw same at found in
      let one : b ≡ x = cc in
      rw (same, ap (λ (y : WayBlock). bytes_eq y.score.0 s) one ∙ equal)
      (ap (λ (y : WayBlock). Some y.bytes) one)
  | inr next ↦ rw next (found_same kind s way x (rw next at found) equal)
]

pub found_short : (kind : ℕ) (way : List WayBlock) (x : WayBlock)
    → find (λ b. b.kind == kind) way ≡ Some x
    → AllByRecursion (λ b. length b.bytes ≤ MAX_BLOCK) way → length x.bytes ≤ MAX_BLOCK
found_short kind [] x found all = absurd (cc)
found_short kind (b ∷ way) x found all = elim (cases_Bool (b.kind == kind)) [
  | inl same ↦
      let is : Some b ≡ Some x = rw same at found in
      let one : b ≡ x = cc in
      subst (λ (y : WayBlock). length y.bytes ≤ MAX_BLOCK) one all.0
  | inr next ↦ found_short kind way x (rw next at found) all.1
]

-- ---- what is kept

-- the block of this number is the first of the type of another
record IsFirst (b : WayBlock) (way : List WayBlock) (i : ℕ) (d : WayBlock) : Type 0 where
  pub within : i < length way
  pub here : ((get_or way i d).kind == b.kind) ≡ true
  pub before : (k : ℕ) → k < i → ((get_or way k d).kind == b.kind) ≡ false

first_behind : (b d a : WayBlock) (way : List WayBlock) (i : ℕ) → IsFirst b (a ∷ way) (suc i) d
    → IsFirst b way i d
first_behind b d a way i at = record {
  within = let w = at.within in omega arith;
  here = at.here;
  before = λ k less. at.before (suc k) (omega arith);
}

set_there : (b d : WayBlock) (most : ℕ) (way : List WayBlock) (i : ℕ) → length way ≤ most
    → IsFirst b way i d → keeping most b way ≡ set way i b
set_there b d most [] i few at = absurd (let w = at.within in omega arith)
set_there b d zero (a ∷ way) i few at = absurd (omega (arith, few))
set_there b d (suc most) (a ∷ way) zero few at = rw at.here refl
set_there b d (suc most) (a ∷ way) (suc i) few at =
    let not_here = at.before 0 (omega arith) in
    rw not_here (ap (λ (l : List WayBlock). a ∷ l)
    (set_there b d most way i (omega (arith, few)) (first_behind b d a way i at)))

-- in place of the block of its type
pub kept_in_place : (b : WayBlock) (most : ℕ) (way : List WayBlock) (i : ℕ) → length way ≤ most
    → position (λ x. x.kind == b.kind) way ≡ Some i → keeping most b way ≡ set way i b
kept_in_place b most [] i few at = absurd (cc)
kept_in_place b most (a ∷ way) i few at =
    let some = position-Some (λ x. x.kind == b.kind) (a ∷ way) i a at in
    set_there b a most (a ∷ way) i few
    (record { within = some.0; here = some.1; before = some.2 })

no_place : (b : WayBlock) (way : List WayBlock) → position (λ x. x.kind == b.kind) way ≡ None
    → position_from (λ x. x.kind == b.kind) 0 way ≡ None
no_place b way none = sym (position_from-zero (λ x. x.kind == b.kind) way) ∙ none

put_behind : (b : WayBlock) (most : ℕ) (way : List WayBlock) (n : ℕ) → length way < most
    → position_from (λ x. x.kind == b.kind) n way ≡ None → keeping most b way ≡ way ++ b ∷ []
put_behind b zero way n room none = absurd (omega (arith, room))
put_behind b (suc most) [] n room none = refl
put_behind b (suc most) (a ∷ way) n room none = elim (cases_Bool (a.kind == b.kind)) [
  | inl same ↦ absurd (let h = rw same at none in cc)
  | inr other ↦ rw other (ap (λ (l : List WayBlock). a ∷ l)
      (put_behind b most way (n + 1) (omega (arith, room)) (rw other at none)))
]

-- behind those of other types
pub kept_behind : (b : WayBlock) (most : ℕ) (way : List WayBlock) → length way < most
    → position (λ x. x.kind == b.kind) way ≡ None → keeping most b way ≡ way ++ b ∷ []
kept_behind b most way room none = put_behind b most way 0 room (no_place b way none)

no_room : (b : WayBlock) (most : ℕ) (way : List WayBlock) (n : ℕ) → most ≤ length way
    → position_from (λ x. x.kind == b.kind) n way ≡ None → keeping most b way ≡ way
no_room b zero way n full none = refl
no_room b (suc most) [] n full none = absurd (omega (arith, full))
no_room b (suc most) (a ∷ way) n full none = elim (cases_Bool (a.kind == b.kind)) [
  | inl same ↦ absurd (let h = rw same at none in cc)
  | inr other ↦ rw other (ap (λ (l : List WayBlock). a ∷ l)
      (no_room b most way (n + 1) (omega (arith, full)) (rw other at none)))
]

-- nowhere
pub not_kept : (b : WayBlock) (most : ℕ) (way : List WayBlock) → most ≤ length way
    → position (λ x. x.kind == b.kind) way ≡ None → keeping most b way ≡ way
not_kept b most way full none = no_room b most way 0 full (no_place b way none)

-- ---- how much is kept

kept_few : (b : WayBlock) (most : ℕ) (way : List WayBlock) → length way ≤ most
    → length (keeping most b way) ≤ most
kept_few b zero way few = few
kept_few b (suc most) [] few = omega arith
kept_few b (suc most) (a ∷ way) few = elim (cases_Bool (a.kind == b.kind)) [
  | inl same ↦ rw same few
  | inr other ↦ rw other (let rest = kept_few b most way (omega (arith, few)) in omega (arith, rest))
]

kept_each : (P : WayBlock → Type 0) (b : WayBlock) (most : ℕ) (way : List WayBlock)
    → AllByRecursion P way → P b → AllByRecursion P (keeping most b way)
kept_each P b zero way all is = all
kept_each P b (suc most) [] all is = (is, tt)
kept_each P b (suc most) (a ∷ way) all is = elim (cases_Bool (a.kind == b.kind)) [
  | inl same ↦ rw same (is, all.1)
  | inr other ↦ rw other (all.0, kept_each P b most way all.1 is)
]

pub kept_bounded : (b : WayBlock) (way : List WayBlock) → IsBoundedWay way
    → length b.bytes ≤ MAX_BLOCK → IsBoundedWay (keeping 8 b way)
kept_bounded b way bounded short = record {
  few = kept_few b 8 way bounded.few;
  each = kept_each (λ x. length x.bytes ≤ MAX_BLOCK) b 8 way bounded.each short;
}
