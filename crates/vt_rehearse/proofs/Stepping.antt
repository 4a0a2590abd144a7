-- What an event leaves of a store in memory of which no part has stopped.
use Rattle.std.proofs.Common.{◌≡◌, ◌≢◌, ◌⊎◌, ⊎_elim, ◌<◌, ℕ, zero, suc, List, [], ◌∷◌, ◌++◌, length, map, Option, Some, None, refl, sym, ◌∙◌, ap, subst, arith, replicate}
use Rattle.std.specs.List.{All}
use Rattle.std.specs.Option.{option_and_then, option_or, option_to_list}
use Rattle.std.specs.Prelude.{slice_get, slice_index}
use Rattle.vt_base.specs.Faults.{HasRisen}
use Rattle.vt_base.specs.declared.mount.MountBad.{MountBad}
use Rattle.vt_base.specs.declared.mount.MountBad.TheVariants as mount_bad
use Rattle.vt_log.specs.Faults.{OneHasRisen}
use Rattle.vt_recover.specs.Refusals.{CountsRefusal}
use Rattle.std.proofs.lemmas.List.{length-map}
use Rattle.std.proofs.lemmas.Option.{same_Some}
use Rattle.vt_base.specs.declared.answer.Answer.{Answer}
use Rattle.vt_base.specs.declared.answer.Said.{Said}
use Rattle.vt_base.specs.declared.answer.Said.TheVariants.{Refused}
use Rattle.vt_base.specs.declared.why.Why.TheVariants.{DiskFault, Stopped, NoMemory}
use Rattle.vt_base.specs.Protocol.{Operation, write}
use Rattle.vt_disk.specs.Members.{DiskOf}
use Rattle.vt_log.specs.Logs.{arena_count}
use Rattle.vt_model.specs.History.{History}
use Rattle.vt_model.specs.Places.{Setup}
use Rattle.vt_part.specs.Table.{Table}
use Rattle.vt_model.specs.Causes.{Cause, disk_fault, stopped, damaged, no_memory, why_of}
use Rattle.vt_shard.specs.Shard.{ShardState}
use Rattle.vt_base.specs.declared.operation.Operation.{Operation as Asked}
use Rattle.vt_core.specs.declared.event.Event.{Event}
use Rattle.vt_core.specs.declared.event.Event.TheVariants.{Ask, Answer as AskAnswer, LogAdvance, FileBegin, FileAdvance, BloomAdvance, EvictLump, EvictIndex}
use Rattle.vt_core.specs.declared.event.Out.{Out}
use Rattle.vt_core.specs.declared.event.Out.TheVariants.{Said as SaidOut, Waits, NotYet, Moved, Nothing, Failed}
use Rattle.vt_core.specs.Asking.{MayBeTold, shard_of, stop_for}
use Rattle.vt_core.specs.Causes.{CountsOut, CountsSaid, IsUndamagedSaid}
use Rattle.vt_core.specs.Core.{CoreState, devices_of, each_of, history_len, machine_of, setup_of, stops_of}
use Rattle.vt_base.specs.Operations.{operation_of}
use Rattle.vt_core.specs.Events.{FailsIn, IsWork, MakesStep}
use Rattle.vt_core.specs.Files.{all_of}
use Rattle.vt_core.specs.Machine.{Machine}
use Rattle.vt_core.specs.Mounting.{KeepsLimits}
use Rattle.vt_core.specs.Steps.{Steps}
use Rattle.vt_recover.proofs.Places.{within_get}
use Rattle.vt_recover.proofs.Lists.{at_map}
use Rattle.vt_rehearse.specs.Rehearsal.{asked_by}
use Rattle.vt_rehearse.specs.Stage.{IsMemory, IsNoRequest, IsSteady}

-- ---- lists

at_place : {X : Type 0} (P : X → Type 0) (xs : List X) (i : ℕ) (x : X) → All P xs → slice_get xs i ≡ Some x → P x
at_place P [] i x all at = absurd (cc)
at_place P (y ∷ ys) zero x all at = subst P (same_Some y x at) (all 0 y (omega arith))
at_place P (y ∷ ys) (suc i) x all at = at_place P ys i x (λ k d lt. all (suc k) d (omega (arith, lt))) at

in_front : {X : Type 0} (xs ys : List X) (i : ℕ) → i < length xs → slice_get (xs ++ ys) i ≡ slice_get xs i
in_front [] ys i lt = absurd (omega (arith, lt))
in_front (x ∷ xs) ys zero lt = refl
in_front (x ∷ xs) ys (suc i) lt = in_front xs ys i (omega (arith, lt))

-- ---- sessions that wait for nothing

pub none_at : (n session number : ℕ) → slice_get (replicate n None) session ≡ Some (Some number) → ⊥
none_at zero session number is = absurd (cc)
none_at (suc n) zero number is = let no : None ≡ Some number = ap (λ (o : Option (Option ℕ)). of o) is in absurd (cc)
  where
    of : Option (Option ℕ) → Option ℕ
    of None = None
    of (Some x) = x
none_at (suc n) (suc session) number is = none_at n session number is

-- ---- disks of which no call fails

zeros : {D : Type 0} (disk : DiskOf D) → ((d : D) → disk.faults d ≡ 0) → (ds : List D) (i : ℕ) → slice_index (map disk.faults ds) i ≡ 0
zeros disk never [] i = refl
zeros disk never (d ∷ ds) zero = never d
zeros disk never (d ∷ ds) (suc i) = zeros disk never ds i

pub not_risen : {D : Type 0} (disk : DiskOf D) → ((d : D) → disk.faults d ≡ 0) → (a b : D) → HasRisen (disk.faults a) (disk.faults b) → ⊥
not_risen disk never a b it = omega (arith, never a, never b, it)

pub none_risen : {D : Type 0} (disk : DiskOf D) → ((d : D) → disk.faults d ≡ 0) → (old new : List D) → OneHasRisen (map disk.faults old) (map disk.faults new) → ⊥
none_risen disk never old new it = omega (arith, zeros disk never old it.which, zeros disk never new it.which, it.rose)

-- a refusal that is a fault or want of memory is want of memory
pub only_refusal : {D : Type 0} (disk : DiskOf D) → ((d : D) → disk.faults d ≡ 0) → (bad : MountBad) (old new : List D) → CountsRefusal bad (map disk.faults old) (map disk.faults new)
    → (bad ≡ mount_bad.Fault) ⊎ (bad ≡ mount_bad.NoMemory) → bad ≡ mount_bad.NoMemory
only_refusal disk never bad old new counts is = ⊎_elim
    (λ fault. absurd (none_risen disk never old new (subst (λ (b : MountBad). CountsRefusal b (map disk.faults old) (map disk.faults new)) fault counts)))
    (λ none. none)
    is

-- ---- the machine's part of the store's own work

own_work : (score : List ℕ → List ℕ) (event : Event) (out : Out) (old new : Machine) → IsNoRequest event → MakesStep score event out old new → IsWork out old new
own_work score LogAdvance out old new own makes = makes
own_work score (FileBegin shard) out old new own makes = makes
own_work score (FileAdvance shard) out old new own makes = makes
own_work score BloomAdvance out old new own makes = makes
own_work score (EvictLump shard) out old new own makes = makes
own_work score (EvictIndex shard) out old new own makes = makes
own_work score (Ask session operation now) out old new own makes = absurd own
own_work score (AskAnswer session) out old new own makes = absurd own

quiet_work : (out : Out) (old new : Machine) → IsWork out old new → new ≡ old
quiet_work Moved old new work = work
quiet_work Nothing old new work = work
quiet_work (Failed why) old new work = work
quiet_work (SaidOut answer) old new work = absurd work
quiet_work Waits old new work = absurd work
quiet_work NotYet old new work = absurd work

module _ {D : Type 0} (score : List ℕ → List ℕ) (disk : DiskOf D) where
  -- ---- a steady store

  pub len_is : (k : CoreState D) (h : History) → IsSteady score disk k h → history_len k ≡ length h
  len_is k h steady = steady.sound.log.front

  pub log_goes : (k : CoreState D) (h : History) → IsSteady score disk k h → k.log.stopped ≡ None
  log_goes k h steady = steady.stops 0 None (omega arith)

  shard_goes : (k : CoreState D) (h : History) (i : ℕ) (s : ShardState D) → IsSteady score disk k h → slice_get k.shards i ≡ Some s → s.section.stopped ≡ None
  shard_goes k h i s steady at =
      let f : ShardState D → Option ℕ = λ s. s.section.stopped in
      let many : length (map f k.shards) ≡ length k.shards = length-map k.shards f in
      let lt : i < length k.shards = within_get k.shards i s at in
      let within : i < length (map f k.shards) = omega (arith, many, lt) in
      at_place (λ (o : Option ℕ). o ≡ None) (stops_of k) (suc i) (s.section.stopped) steady.stops
      (in_front (map f k.shards) (map (λ b. b.calls.stopped) (option_to_list k.bloom)) i within ∙ at_map f k.shards i s at)

  -- no part has stopped to which an operation writes
  no_stop_at : (k : CoreState D) (h : History) (shard call : ℕ) (o : Option (ShardState D)) → IsSteady score disk k h → slice_get k.shards shard ≡ o
      → option_or k.log.stopped (option_and_then (λ s. s.section.stopped) o) ≡ Some call → ⊥
  no_stop_at k h shard call None steady at is =
      let no : None ≡ Some call = sym (ap (λ (o : Option ℕ). option_or o None) (log_goes k h steady)) ∙ is in absurd (cc)
  no_stop_at k h shard call (Some s) steady at is =
      let no : None ≡ Some call = sym (ap (λ (o : Option ℕ). option_or o (s.section.stopped)) (log_goes k h steady) ∙ shard_goes k h shard s steady at) ∙ is in absurd (cc)

  pub no_stop : (k : CoreState D) (h : History) (kind : ℕ) (bytes : List ℕ) (call : ℕ) → IsSteady score disk k h → stop_for score k (write kind bytes) ≡ Some call → ⊥
  no_stop k h kind bytes call steady is = no_stop_at k h (shard_of k (score bytes)) call (slice_get k.shards (shard_of k (score bytes))) steady refl is

  module _ (memory : IsMemory disk) where
    pub no_fault : (out : Out) (old new : CoreState D) → CountsOut out (each_of disk.faults old) (each_of disk.faults new) → out ≢ Failed DiskFault
    no_fault out old new counts is = none_risen disk memory.never (all_of (devices_of old)) (all_of (devices_of new))
        (subst (λ (o : Out). CountsOut o (each_of disk.faults old) (each_of disk.faults new)) is counts)

    -- ---- an event

    pub record Stepped (event : Event) (out : Out) (h : History) (old new : CoreState D) : Type 0 where
      pub next : History
      pub makes : MakesStep score event out (machine_of old h) (machine_of new next)
      pub steady : IsSteady score disk new next

    pub stepped : (event : Event) (out : Out) (h : History) (old new : CoreState D) → IsSteady score disk old h → Steps score disk event out old new → Stepped event out h old new
    stepped event out h old new steady step =
        let it = step.machine memory.tells h steady.sound in
        let same = step.stops.cause (no_fault out old new step.counts) in
        record {
          next = it.0;
          makes = it.1;
          steady = record {
            sound = it.2;
            partitions = ap (λ (ts : List Table). length ts) step.goes_on.store.tables ∙ steady.partitions;
            arenas = subst (λ (ts : List Table). 0 < arena_count ts) (sym step.goes_on.store.tables) steady.arenas;
            shards = step.goes_on.store.shards ∙ steady.shards;
            stops = subst (λ (stops : List (Option ℕ)). All (λ stop. stop ≡ None) stops) (sym same) steady.stops;
            limits = subst (λ (c : Setup). KeepsLimits new.log.tables c) (sym step.goes_on.store.setup)
                (subst (λ (ts : List Table). KeepsLimits ts (setup_of old)) (sym step.goes_on.store.tables) steady.limits);
          };
        }

    -- where the machine stands still
    pub record Stays (h : History) (old new : CoreState D) : Type 0 where
      pub steady : IsSteady score disk new h
      pub waiting : new.waiting ≡ old.waiting
      pub setup : setup_of new ≡ setup_of old
      pub len : history_len new ≡ history_len old

    pub stays : (h next : History) (old new : CoreState D) → IsSteady score disk old h → IsSteady score disk new next → machine_of new next ≡ machine_of old h → Stays h old new
    stays h next old new before after same =
        let is : next ≡ h = ap (λ (m : Machine). m.history) same in
        let steady : IsSteady score disk new h = subst (λ (g : History). IsSteady score disk new g) is after in
        record {
          steady = steady;
          waiting = ap (λ (m : Machine). m.waiting) same;
          setup = ap (λ (m : Machine). m.setup) same;
          len = len_is new h steady ∙ sym (len_is old h before);
        }

    pub worked : (event : Event) (out : Out) (h : History) (old new : CoreState D) → IsNoRequest event → IsSteady score disk old h → Steps score disk event out old new → Stays h old new
    worked event out h old new own steady step =
        let it = stepped event out h old new steady step in
        stays h it.next old new steady it.steady (quiet_work out (machine_of old h) (machine_of new it.next) (own_work score event out (machine_of old h) (machine_of new it.next) own it.makes))

    -- ---- what fails

    -- where no part has stopped to which it writes, a request fails for want of memory alone
    pub only_memory : (session : ℕ) (request : Asked) (m : Operation) (a : Answer) (h : History) (old new : CoreState D) (after : Machine) → operation_of request ≡ m
        → IsSteady score disk old h → ((call : ℕ) → stop_for score old m ≡ Some call → ⊥) → a.at ≡ length h → Steps score disk (asked_by session request) (SaidOut a) old new
        → FailsIn score m a.said (machine_of old h) after → a.said ≡ Refused NoMemory
    only_memory session request m a h old new after m_is steady goes at step (cause, said, may, quiet) = by cause said
      where
        by : (cause : Cause) → a.said ≡ Refused (why_of cause) → a.said ≡ Refused NoMemory
        by (disk_fault before behind) is = absurd (none_risen disk memory.never (all_of (devices_of old)) (all_of (devices_of new))
            (subst (λ (s : Said). CountsSaid s (each_of disk.faults old) (each_of disk.faults new)) is step.counts))
        by (stopped part n) is =
            let told = step.does.cause (Stopped n) (ap (λ (s : Said). SaidOut (record { said = s; at = a.at })) is ∙ ap (λ (x : ℕ). SaidOut (record { said = Refused (Stopped n); at = x })) (at ∙ sym (len_is old h steady))) in
            absurd (goes n (subst (λ (o : Operation). MayBeTold score old o (Stopped n)) m_is told).1)
        by (damaged site want found) is = absurd (subst (λ (s : Said). IsUndamagedSaid s) is (step.undamaged h memory.tells steady.sound))
        by no_memory is = is
