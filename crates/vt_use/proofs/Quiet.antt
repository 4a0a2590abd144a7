-- A session in which no device counted a failed call: want of memory is its only failure.
use Rattle.std.proofs.Common.{◌≡◌, ⊎_elim, ℕ, suc, ◌+◌, ◌<◌, Option, Some, None, List, [], ◌∷◌, ◌++◌, map, refl, sym, subst, arith}
use Rattle.std.specs.List.{All, AllByRecursion}
use Rattle.std.specs.Option.{option_to_list}
use Rattle.std.specs.Prelude.{◌^◌}
use Rattle.vt_disk.specs.Members.{DiskOf}
use Rattle.vt_bloom.specs.Bloom.{BloomState}
use Rattle.vt_model.specs.History.{History}
use Rattle.vt_model.specs.Places.{Setup}
use Rattle.vt_model.specs.Causes.{Part, Cause, disk_fault, stopped, damaged, no_memory, NoneFell, OneRose}
use Rattle.vt_session.specs.Turns.{Turn, told, served, failed, causes_of}
use Rattle.vt_session.specs.Answered.{AnsweredAlone, AreToldBy, CountsRise, IsKnownStop}
use Rattle.vt_handler.specs.Condition.{IsNoDamage, IsNoFault}
use Rattle.vt_shard.specs.Shard.{ShardState}
use Rattle.vt_core.specs.Core.{CoreState, each_of, setup_of, stops_of}
use Rattle.vt_requests.specs.Driven.{section_stops, stops_in}
use Rattle.vt_requests.proofs.Risen.{AllFit, fell_then}
use Rattle.vt_use.specs.Causes.{NoCallFails, TellsStops}
use Rattle.vt_use.proofs.Tells.{all_fit, rose_within}
use Rattle.vt_use.specs.Sessions.{OnlyMemory, faults_over}

-- ---- no part has stopped

section_none : (first : ℕ) (stops more : List (Option ℕ)) → All (λ stop. stop ≡ None) (stops ++ more)
    → section_stops first stops ≡ []
section_none first [] more all = refl
section_none first (None ∷ stops) more all =
    section_none (first + 1) stops more (λ k d less. all (suc k) d (omega arith))
section_none first (Some call ∷ stops) more all =
    let no : Some call ≡ None = all 0 None (omega arith) in absurd (cc)

pub stops_none : {D : Type 0} (k : CoreState D) → All (λ stop. stop ≡ None) (stops_of k)
    → stops_in k ≡ []
stops_none {D} k all =
    let shards = map (λ (s : ShardState D). s.section.stopped) k.shards in
    let filter = map (λ (b : BloomState D). b.calls.stopped) (option_to_list k.bloom) in
    let log_none : k.log.stopped ≡ None = all 0 None (omega arith) in
    let rest : section_stops 0 shards ≡ [] =
    section_none 0 shards filter (λ i d less. all (suc i) d (omega arith)) in
    rw (log_none, rest) refl

-- ---- no cause but want of memory

reach : (a last : List ℕ) (causes : List Cause) → CountsRise a causes last → NoneFell a last
reach a last [] x = x
reach a last (disk_fault before after ∷ causes) x =
    fell_then a after last (fell_then a before after x.0 x.1) (reach after last causes x.2)
reach a last (stopped part n ∷ causes) x = reach a last causes x
reach a last (damaged site want found ∷ causes) x = reach a last causes x
reach a last (no_memory ∷ causes) x = reach a last causes x

module _ (score : List ℕ → List ℕ) (c : Setup) (new : History) (first last : List ℕ)
    (fit : AllFit last) (none : ¬ OneRose first last) where
  no_faults : (h : History) (turns : List Turn) → AnsweredAlone score c h turns new
      → CountsRise first (causes_of turns) last → AllByRecursion IsNoFault (causes_of turns)
  no_faults h [] x y = tt
  no_faults h (told tag reply ∷ turns) x y = no_faults h turns x y
  no_faults h (served tag m n outcome ∷ turns) x y = no_faults _ turns x.2 y
  no_faults h (failed tag m n (disk_fault before after) ∷ turns) x y =
      absurd (none (rose_within first before after last fit y.0 x.1.1
      (reach after last (causes_of turns) y.2)))
  no_faults h (failed tag m n (stopped part call) ∷ turns) x y = (tt, no_faults h turns x.2 y)
  no_faults h (failed tag m n (damaged site want found) ∷ turns) x y =
      (tt, no_faults h turns x.2 y)
  no_faults h (failed tag m n no_memory ∷ turns) x y = (tt, no_faults h turns x.2 y)

only : (causes : List Cause) → AllByRecursion IsNoFault causes → AllByRecursion IsNoDamage causes
    → AllByRecursion (IsKnownStop []) causes → OnlyMemory causes
only [] a b c = tt
only (disk_fault before after ∷ causes) a b c = absurd a.0
only (stopped part n ∷ causes) a b c = absurd (omega (arith, c.0.1))
only (damaged site want found ∷ causes) a b c = absurd b.0
only (no_memory ∷ causes) a b c = (refl, only causes a.1 b.1 c.1)

module _ {D : Type 0} (disk : DiskOf D) (fits : (device : D) → disk.faults device < 2 ^ 64)
    (old new : CoreState D) (tells : TellsStops disk old new) where
  pub stops_same : ¬ OneRose (each_of disk.faults old) (each_of disk.faults new)
      → stops_of new ≡ stops_of old
  stops_same none = ⊎_elim (λ same. same) (λ rose. absurd (none rose)) tells.stops

  pub still_none : NoCallFails disk old new → All (λ stop. stop ≡ None) (stops_of new)
  still_none quiet = subst (λ (stops : List (Option ℕ)). All (λ stop. stop ≡ None) stops)
      (sym (stops_same quiet.none_rose)) quiet.goes_on

  pub only_memory : (score : List ℕ → List ℕ) (h last : History) (turns : List Turn)
      → AnsweredAlone score (setup_of old) h turns last
      → AreToldBy (faults_over disk old new) (causes_of turns)
      → AllByRecursion IsNoDamage (causes_of turns) → NoCallFails disk old new
      → OnlyMemory (causes_of turns)
  only_memory score h last turns answered failures undamaged quiet =
      only (causes_of turns)
      (no_faults score (setup_of old) last (each_of disk.faults old) (each_of disk.faults new)
      (all_fit disk fits new) quiet.none_rose h turns answered failures.counts)
      undamaged
      (subst (λ (stops : List (Part × ℕ)). AllByRecursion (IsKnownStop stops) (causes_of turns))
      (stops_none new (still_none quiet)) failures.stops)
