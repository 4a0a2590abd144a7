-- Causes one behind another.
use Rattle.std.proofs.Common.{◌≡◌, ◌≢◌, ℕ, ◌+◌, ◌<◌, ◌^◌, List, [], ◌∷◌, ◌++◌, ap, arith, inl, inr}
use Rattle.std.specs.Prelude.{slice_index}
use Rattle.std.specs.List.{AllByRecursion}
use Rattle.std.proofs.lemmas.Bool.{cases_eq, cases_lt}
use Rattle.vt_base.specs.Faults.{HasRisen}
use Rattle.vt_model.specs.Causes.{Cause, disk_fault, stopped, damaged, no_memory, NoneFell, OneRose}
use Rattle.vt_session.specs.Answered.{CountsRise, Faults, IsKnownStop, AreToldBy}
use Rattle.vt_session.specs.Talk.{ComesBehind, over_both}

fell_on : (a b c : List ℕ) → NoneFell a b → NoneFell b c → NoneFell a c
fell_on a b c x y k = omega (arith, x k, y k)

pub counts_from : (a b c : List ℕ) (causes : List Cause) → NoneFell a b → CountsRise b causes c
    → CountsRise a causes c
counts_from a b c [] le x = fell_on a b c le x
counts_from a b c (disk_fault before after ∷ causes) le x = (fell_on a b before le x.0, x.1, x.2)
counts_from a b c (stopped part n ∷ causes) le x = counts_from a b c causes le x
counts_from a b c (damaged site want found ∷ causes) le x = counts_from a b c causes le x
counts_from a b c (no_memory ∷ causes) le x = counts_from a b c causes le x

pub counts_join : (a b c : List ℕ) (causes more : List Cause) → CountsRise a causes b
    → CountsRise b more c
    → CountsRise a (causes ++ more) c
counts_join a b c [] more x y = counts_from a b c more x y
counts_join a b c (disk_fault before after ∷ causes) more x y =
    (x.0, x.1, counts_join after b c causes more x.2 y)
counts_join a b c (stopped part n ∷ causes) more x y = counts_join a b c causes more x y
counts_join a b c (damaged site want found ∷ causes) more x y = counts_join a b c causes more x y
counts_join a b c (no_memory ∷ causes) more x y = counts_join a b c causes more x y

counts_fell : (a c : List ℕ) (causes : List Cause) → CountsRise a causes c → NoneFell a c
counts_fell a c [] x = x
counts_fell a c (disk_fault before after ∷ causes) x =
    fell_on a after c (fell_on a before after x.0 x.1) (counts_fell after c causes x.2)
counts_fell a c (stopped part n ∷ causes) x = counts_fell a c causes x
counts_fell a c (damaged site want found ∷ causes) x = counts_fell a c causes x
counts_fell a c (no_memory ∷ causes) x = counts_fell a c causes x

counts_front : (a c : List ℕ) (causes more : List Cause) → CountsRise a (causes ++ more) c
    → CountsRise a causes c
counts_front a c [] more x = counts_fell a c more x
counts_front a c (disk_fault before after ∷ causes) more x =
    (x.0, x.1, counts_front after c causes more x.2)
counts_front a c (stopped part n ∷ causes) more x = counts_front a c causes more x
counts_front a c (damaged site want found ∷ causes) more x = counts_front a c causes more x
counts_front a c (no_memory ∷ causes) more x = counts_front a c causes more x

all_front : (P : Cause → Type 0) (causes more : List Cause) → AllByRecursion P (causes ++ more)
    → AllByRecursion P causes
all_front P [] more x = tt
all_front P (cause ∷ causes) more x = (x.0, all_front P causes more x.1)

pub told_front : (faults : Faults) (causes more : List Cause) → AreToldBy faults (causes ++ more)
    → AreToldBy faults causes
told_front faults causes more x = record {
  counts = counts_front faults.before faults.after causes more x.counts;
  stops = all_front (IsKnownStop faults.stops) causes more x.stops;
}

all_behind : (P Q : Cause → Type 0) → ((cause : Cause) → P cause → Q cause)
    → (causes more : List Cause) → AllByRecursion P causes → AllByRecursion Q more
    → AllByRecursion Q (causes ++ more)
all_behind P Q keeps [] more x y = y
all_behind P Q keeps (cause ∷ causes) more x y =
    (keeps cause x.0, all_behind P Q keeps causes more x.1 y)

known_still : (first next : Faults) → ComesBehind first next → (cause : Cause)
    → IsKnownStop first.stops cause → IsKnownStop next.stops cause
known_still first next on (disk_fault before after) x = tt
known_still first next on (stopped part n) x = on.stops (part, n) x
known_still first next on (damaged site want found) x = tt
known_still first next on no_memory x = tt

-- the causes of one while, and then those of another
pub told_behind : (first next : Faults) (causes more : List Cause) → ComesBehind first next
    → AreToldBy first causes → AreToldBy next more
    → AreToldBy (over_both first next) (causes ++ more)
told_behind first next causes more on x y = record {
  counts = counts_join first.before first.after next.after causes more x.counts
      (counts_from first.after next.before next.after more on.counts y.counts);
  stops = all_behind (IsKnownStop first.stops) (IsKnownStop next.stops)
      (known_still first next on) causes more x.stops y.stops;
}

-- ---- counts of which one rises

pub one_rose : (before after : List ℕ) (which : ℕ)
    → HasRisen (slice_index before which) (slice_index after which) → OneRose before after
one_rose before after which rose = elim (cases_lt (slice_index before which + 1) (2 ^ 64)) [
  | inl below ↦ (which, inl (omega (arith, rose, below)))
  | inr end ↦ (which, inr (omega (arith, rose, end)))
]

pub one_none_fell : (before after : List ℕ) (which : ℕ) → ((i : ℕ) → slice_index before i < 2 ^ 64)
    → HasRisen (slice_index before which) (slice_index after which)
    → ((i : ℕ) → i ≢ which → slice_index after i ≡ slice_index before i) → NoneFell before after
one_none_fell before after which fit rose others k = elim (cases_eq k which) [
  | inl same ↦
      let here = ap (slice_index before) same in
      let there = ap (slice_index after) same in
      omega (arith, rose, fit which, here, there)
  | inr other ↦ omega (arith, others k other)
]
