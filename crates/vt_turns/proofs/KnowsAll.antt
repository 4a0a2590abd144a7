-- What a pass knows after a call is no less than what it knew.
use Rattle.std.proofs.Common.{◌≡◌, ℕ, zero, suc, ◌+◌, ◌≤◌, List, sym, refl, ap, ◌∙◌, subst, arith}
use Rattle.std.specs.Prelude.{Option, Some, None, max}
use mathlib.Core.List.{IsPrefix}
use native.Mathlib.Decide.{ℕ_discrete}
use Rattle.atomic_table.proofs.Lists.{at_longer}
use Rattle.vt_turns.specs.declared.view.View.{View}
use Rattle.vt_turns.specs.Meaning.{Meaning}
use Rattle.vt_turns.specs.Lists.{or_else}
use Rattle.vt_turns.specs.Views.{mark_of, stop_of, faults_of, seen_at, stable_at, holding, risen, booking, joined_views, KnowsAll}
use Rattle.vt_turns.specs.Calls.{MayBook}
use Rattle.vt_turns.proofs.Lists.{at_put_here, at_put_else, at_both, whole_prefix}

module _ {P B : Type 0} (M : Meaning P B) where
  seen_more : (k : ℕ) (h seen : List B) → IsPrefix seen h → IsPrefix seen (seen_at M k h seen)
  seen_more zero h seen pre = pre
  seen_more (suc k) h seen pre = whole_prefix seen

  stable_more : (k stable : ℕ) (x : P) → (k ≡ 0 → stable ≤ M.durable x) → stable ≤ stable_at M k x stable
  stable_more zero stable x le = le refl
  stable_more (suc k) stable x le = omega arith

  pub knows_taken : (k : ℕ) (h : List B) (x : P) (v w : View P B) → w ≡ holding M k h x v → IsPrefix v.seen h → (k ≡ 0 → v.stable ≤ M.durable x) → KnowsAll v w
  knows_taken k h x v w is pre le = subst (λ (u : View P B). KnowsAll v u) (sym is) record {
    opening = refl;
    seen = seen_more k h v.seen pre;
    stable = stable_more k v.stable x le;
    marks = λ j. omega arith;
    faults = λ j. omega arith;
    stops = λ j n e. e;
    bits = λ i p e. (i, e);
  }

  pub knows_booked : (k : ℕ) (x y : P) (v : View P B) → MayBook M v k x y → (k ≡ 0 → v.stable ≤ M.durable x) → mark_of v k ≤ M.mark x → ((n : ℕ) → stop_of v k ≡ Some n → M.stop x ≡ Some n) → KnowsAll v (booking M k x y v)
  knows_booked k x y v b stable mark stop = record {
    opening = refl;
    seen = whole_prefix v.seen;
    stable = stable_more k v.stable y (λ e. let le = stable e in let more = b.durable e in omega arith);
    marks = λ j. marks_at j (ℕ_discrete j k);
    faults = λ j. faults_at j (ℕ_discrete j k);
    stops = λ j n e. stops_at j n (ℕ_discrete j k) e;
    bits = λ i p e. (i, e);
  }
    where
      marks_at : (j : ℕ) → Dec (j ≡ k) → mark_of v j ≤ mark_of (booking M k x y v) j
      marks_at j (yes same) = subst (λ (q : ℕ). mark_of v q ≤ mark_of (booking M k x y v) q) (sym same) (let is = at_put_here 0 v.marks k (M.mark y) in let more = b.mark in omega arith)
      marks_at j (no n) = let is = at_put_else 0 v.marks k j (M.mark y) n in omega arith

      faults_at : (j : ℕ) → Dec (j ≡ k) → faults_of v j ≤ faults_of (booking M k x y v) j
      faults_at j (yes same) = subst (λ (q : ℕ). faults_of v q ≤ faults_of (booking M k x y v) q) (sym same) (let is = at_put_here 0 v.faults k (faults_of v k + risen M x y) in omega arith)
      faults_at j (no n) = let is = at_put_else 0 v.faults k j (faults_of v k + risen M x y) n in omega arith

      stops_at : (j n : ℕ) → Dec (j ≡ k) → stop_of v j ≡ Some n → stop_of (booking M k x y v) j ≡ Some n
      stops_at j n (yes same) e = subst (λ (q : ℕ). stop_of (booking M k x y v) q ≡ Some n) (sym same) (at_put_here None v.stops k (M.stop y) ∙ b.stop n (stop n (subst (λ (q : ℕ). stop_of v q ≡ Some n) same e)))
      stops_at j n (no ne) e = at_put_else None v.stops k j (M.stop y) ne ∙ e

or_none : (o : Option ℕ) → or_else o None ≡ o
or_none None = refl
or_none (Some n) = refl

first_stays : (a b : Option ℕ) (n : ℕ) → a ≡ Some n → or_else a b ≡ Some n
first_stays a b n e = ap (λ (o : Option ℕ). or_else o b) e

pub knows_joined : {P B : Type 0} (v w u : View P B) → u ≡ joined_views v w → KnowsAll v u
knows_joined {P} {B} v w u is = subst (λ (z : View P B). KnowsAll v z) (sym is) record {
  opening = refl;
  seen = whole_prefix v.seen;
  stable = omega arith;
  marks = λ k. let both = at_both 0 max (λ y. omega arith) (λ y. omega arith) v.marks w.marks k in omega arith;
  faults = λ k. let both = at_both 0 (λ m n. m + n) (λ y. omega arith) (λ y. omega arith) v.faults w.faults k in omega arith;
  stops = λ k n e. at_both None or_else (λ y. refl) or_none v.stops w.stops k ∙ first_stays (stop_of v k) (stop_of w k) n e;
  bits = λ i p e. (i, at_longer v.bits w.bits i p e);
}
