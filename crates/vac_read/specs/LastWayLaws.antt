-- Laws of a store of blocks beside what is kept of the way of the last reading: it is as true as the store.
use Rattle.std.proofs.Common.{◌≡◌, ℕ, zero, suc, inl, inr, Bool, Some, None, Result, Ok, Err, List, [], ◌∷◌, sym, ◌∙◌, ap, subst}
use Rattle.std.specs.Prelude.{◌==◌}
use Rattle.std.specs.Str.{bytes_eq}
use Rattle.std.proofs.lemmas.Bool.{cases_Bool, eqb-true}
use Rattle.std.proofs.lemmas.Slice.Eq.{bytes_eq-Decides}
use Rattle.vt_tree.specs.declared.error.BlockErr.{BlockErr}
use Rattle.vac_read.specs.declared.last_way.WayBlock.{WayBlock}
use Rattle.vt_tree.specs.Calls.{Call, get, put, sync, Counts, refusal_of, with_refusal, TellsOfMap}
use Rattle.vac_read.specs.LastWay.{DoesOnWay, IsKeptCall, IsRightWay, IsShortCall, behind_call, keeping, kept_of}
use Rattle.vt_tree.specs.Maps.{BlockMap}

-- ---- what is kept

-- what is found is what the map has
pub kept_right : (map : BlockMap) (kind : ℕ) (s bytes : List ℕ) (way : List WayBlock)
    → kept_of kind s way ≡ Some bytes → IsRightWay map way → map s kind ≡ Some bytes
kept_right map kind s bytes [] found right = absurd (cc)
kept_right map kind s bytes (b ∷ way) found right = elim (cases_Bool (b.kind == kind)) [
  | inl same ↦ elim (cases_Bool (bytes_eq b.score.0 s)) [
    | inl equal ↦
        let here : Some b.bytes ≡ Some bytes = rw (same, equal) at found in
        let score : b.score.0 ≡ s = (bytes_eq-Decides b.score.0 s).0 equal in
        let type : b.kind ≡ kind = eqb-true b.kind kind same in
        ap (λ (t : List ℕ). map t kind) (sym score) ∙ ap (λ (k : ℕ). map b.score.0 k) (sym type)
        ∙ right.0 ∙ here
    | inr other ↦ let no : None ≡ Some bytes = rw (same, other) at found in absurd (cc)
  ]
  | inr other ↦ kept_right map kind s bytes way (rw other at found) right.1
]

-- a block more is kept
pub keeping_right : (map : BlockMap) (most : ℕ) (b : WayBlock) (way : List WayBlock)
    → map b.score.0 b.kind ≡ Some b.bytes → IsRightWay map way
    → IsRightWay map (keeping most b way)
keeping_right map zero b way has right = right
keeping_right map (suc most) b [] has right = (has, tt)
keeping_right map (suc most) b (a ∷ way) has right = elim (cases_Bool (a.kind == b.kind)) [
  | inl same ↦ rw same (has, right.1)
  | inr other ↦ rw other (right.0, keeping_right map most b way has right.1)
]

-- what came is kept
pub behind_right : (score_of : List ℕ → List ℕ) (map : BlockMap) (call : Call)
    (way : List WayBlock) → TellsOfMap score_of map call → IsRightWay map way
    → IsRightWay map (behind_call call way)
behind_right score_of map (get kind s (Ok bytes)) way tells right =
    keeping_right map 8 (record { kind = kind; score = record { 0 = s }; bytes = bytes }) way tells
    right
behind_right score_of map (get kind s (Err err)) way tells right = right
behind_right score_of map (put b answer) way tells right = right
behind_right score_of map (sync answer) way tells right = right

-- ---- a call of a store

module _ {S : Type 0} (does : S → Call → S → Type 0) where
  pub counting : (counts : S → Counts)
      (law : (s s' : S) (call : Call) → does s call s'
      → counts s' ≡ with_refusal (refusal_of call) (counts s))
      (s s' : S) (old new : List WayBlock) (short short' : Bool) (call : Call)
      → DoesOnWay does s s' old new short short' call
      → counts s' ≡ with_refusal (refusal_of call) (counts s)
  counting counts law s s' old new short short' call (inl (kept, same, way, rest)) = of call kept
    where
      of : (c : Call) → IsKeptCall old c → counts s' ≡ with_refusal (refusal_of c) (counts s)
      of (get kind t (Ok bytes)) kept = ap counts same
      of (get kind t (Err err)) (bytes, found, is) = absurd (cc)
      of (put b answer) kept = absurd kept
      of (sync answer) kept = absurd kept
  counting counts law s s' old new short short' call (inr (inl (done, either, exact, last))) =
      law s s' call done
  counting counts law s s' old new short short' call (inr (inr (is_short, same, way, rest))) =
      of call is_short
    where
      of : (c : Call) → IsShortCall c → counts s' ≡ with_refusal (refusal_of c) (counts s)
      of (get kind t answer) is =
          subst (λ (r : Result (List ℕ) BlockErr). counts s'
          ≡ with_refusal (refusal_of (get kind t r)) (counts s)) (sym is) (ap counts same)
      of (put b answer) is = absurd is
      of (sync answer) is = absurd is
