-- Why a piece of work fails, and what a stop of a part is to a store whose stops stay.
use Rattle.std.proofs.Common.{◌≡◌, ⊎_elim, ℕ, zero, suc, List, [], ◌∷◌, ◌++◌, length, map, Option, Some, None, Result, Ok, Err, refl, sym, ◌∙◌, ap, subst, arith}
use Rattle.std.specs.Option.{option_and_then, option_or, option_to_list}
use Rattle.std.specs.Prelude.{⊤, IfErr, slice_get}
use Rattle.std.proofs.lemmas.List.{length-map}
use Rattle.std.proofs.lemmas.Option.{same_Some}
use Rattle.vt_base.specs.Damage.{Differ}
use Rattle.vt_base.specs.declared.why.Why.{Why}
use Rattle.vt_base.specs.declared.why.Why.TheVariants.{BadType, TooBig, TooSmall, Absent, Collision, IndexFull, ArenasFull, DiskFault, Stopped, Damaged, NoMemory}
use Rattle.vt_base.specs.Protocol.{Operation, ping, read, write, sync}
use Rattle.vt_bloom.specs.Bits.{Filter}
use Rattle.vt_bloom.specs.Bloom.{BloomState}
use Rattle.vt_disk.specs.Members.{DiskOf}
use Rattle.vt_isect.specs.declared.error.ShardErr.{ShardErr}
use Rattle.vt_isect.specs.declared.error.ShardErr.TheVariants as shard_err
use Rattle.vt_isect.specs.Faults.{NamesDamage}
use Rattle.vt_log.specs.declared.error.LogErr.{LogErr}
use Rattle.vt_log.specs.declared.error.LogErr.TheVariants as log_err
use Rattle.vt_log.specs.declared.error.Progress.{Progress}
use Rattle.vt_log.specs.declared.error.Progress.TheVariants.{Idle, Step as LogStep, Durable}
use Rattle.vt_log.specs.Answers.{LogAdvances}
use Rattle.vt_model.specs.Places.{Setup, section_of_score}
use Rattle.vt_shard.specs.Shard.{ShardState}
use Rattle.vt_twin.specs.declared.step.Step.{Step}
use Rattle.vt_disk.specs.declared.call.CallError.{CallError}
use Rattle.vt_disk.specs.declared.call.CallError.TheVariants as call_error
use Rattle.vt_core.specs.declared.event.Out.TheVariants.{Failed}
use Rattle.vt_core.specs.Asking.{shard_of, stop_for}
use Rattle.vt_core.specs.Core.{CoreState, setup_of, stops_of}
use Rattle.vt_core.specs.Work.{AdvancesLog, AdvancesWriteback, ChangesShard, IsSaveBegun, SavesFilter, SavesIn, out_of_progress, out_of_save, out_of_writeback}
use Rattle.vt_lookup.specs.Finding.{why_of_shard}

-- ---- why

-- a call failed, the part had stopped at this call, or two values differ
abbrev pub IsWhy : Why → (stopped : ℕ → Type 0) → Type 0
IsWhy DiskFault stopped = ⊤
IsWhy (Stopped call) stopped = stopped call
IsWhy (Damaged site want found) stopped = Differ want found
IsWhy BadType stopped = ⊥
IsWhy TooBig stopped = ⊥
IsWhy TooSmall stopped = ⊥
IsWhy Absent stopped = ⊥
IsWhy Collision stopped = ⊥
IsWhy IndexFull stopped = ⊥
IsWhy ArenasFull stopped = ⊥
IsWhy NoMemory stopped = ⊥

failed_is : (why other : Why) → Failed why ≡ Failed other → why ≡ other
failed_is why other is = cc

log_why : (answer : Result Progress LogErr) (why : Why) (stopped : ℕ → Type 0) → Failed why ≡ out_of_progress answer → ((n : ℕ) → answer ≡ Err (log_err.Stopped n) → stopped n) → IsWhy why stopped
log_why (Ok Idle) why stopped is stops = absurd (cc)
log_why (Ok LogStep) why stopped is stops = absurd (cc)
log_why (Ok (Durable blocks)) why stopped is stops = absurd (cc)
log_why (Err log_err.Fault) why stopped is stops = subst (λ (w : Why). IsWhy w stopped) (sym (failed_is why DiskFault is)) tt
log_why (Err (log_err.Stopped n)) why stopped is stops = subst (λ (w : Why). IsWhy w stopped) (sym (failed_is why (Stopped n) is)) (stops n refl)

pub log_fails : {D : Type 0} (disk : DiskOf D) (why : Why) (old new : CoreState D) → AdvancesLog disk (Failed why) old new → IsWhy why (λ call. old.log.stopped ≡ Some call)
log_fails disk why old new it = log_why it.answer why (λ call. old.log.stopped ≡ Some call) it.out_is (λ n is. (it.step.stopped n).0 is)

-- a log that a call let down has stopped
fault_stops : {D : Type 0} (answer : Result Progress LogErr) (disk : DiskOf D) (old new : CoreState D) → (it : AdvancesLog disk (Failed DiskFault) old new) → it.answer ≡ answer
    → Failed DiskFault ≡ out_of_progress answer → new.log.stopped ≡ Some old.log.calls
fault_stops (Ok Idle) disk old new it is out = absurd (cc)
fault_stops (Ok LogStep) disk old new it is out = absurd (cc)
fault_stops (Ok (Durable blocks)) disk old new it is out = absurd (cc)
fault_stops (Err (log_err.Stopped n)) disk old new it is out = absurd (cc)
fault_stops (Err log_err.Fault) disk old new it is out = (subst (λ (r : Result Progress LogErr). LogAdvances r old.log new.log) is it.step.advances).1

pub log_stopped : {D : Type 0} (disk : DiskOf D) (old new : CoreState D) → AdvancesLog disk (Failed DiskFault) old new → new.log.stopped ≡ Some old.log.calls
log_stopped disk old new it = fault_stops it.answer disk old new it refl it.out_is

-- a log that hadn't stopped fails where a call does
only_fault : (answer : Result Progress LogErr) (why : Why) → ((n : ℕ) → answer ≡ Err (log_err.Stopped n) → ⊥) → Failed why ≡ out_of_progress answer → why ≡ DiskFault
only_fault (Ok Idle) why goes is = absurd (cc)
only_fault (Ok LogStep) why goes is = absurd (cc)
only_fault (Ok (Durable blocks)) why goes is = absurd (cc)
only_fault (Err log_err.Fault) why goes is = failed_is why DiskFault is
only_fault (Err (log_err.Stopped n)) why goes is = absurd (goes n refl)

pub log_faults : {D : Type 0} (disk : DiskOf D) (why : Why) (old new : CoreState D) → old.log.stopped ≡ None → AdvancesLog disk (Failed why) old new → why ≡ DiskFault
log_faults disk why old new goes it = only_fault it.answer why (λ n is. let no = sym goes ∙ (it.step.stopped n).0 is in cc) it.out_is

shard_why : (answer : Result Step ShardErr) (why : Why) (stopped : ℕ → Type 0) → Failed why ≡ out_of_writeback answer → ((n : ℕ) → answer ≡ Err (shard_err.Stopped n) → stopped n)
    → IfErr answer NamesDamage → IsWhy why stopped
shard_why (Ok step) why stopped is stops names = absurd (cc)
shard_why (Err shard_err.Fault) why stopped is stops names = subst (λ (w : Why). IsWhy w stopped) (sym (failed_is why DiskFault is)) tt
shard_why (Err (shard_err.Stopped n)) why stopped is stops names = subst (λ (w : Why). IsWhy w stopped) (sym (failed_is why (Stopped n) is)) (stops n refl)
shard_why (Err (shard_err.Damaged bucket want found)) why stopped is stops names =
    subst (λ (w : Why). IsWhy w stopped) (sym (failed_is why (why_of_shard (shard_err.Damaged bucket want found)) is)) names

-- a shard has stopped at this call
abbrev pub IsStoppedAt : {D : Type 0} → (shard : ℕ) → CoreState D → (call : ℕ) → Type 0
IsStoppedAt {D} shard k call = (s : ShardState D) × (slice_get k.shards shard ≡ Some s) × (s.section.stopped ≡ Some call)

pub shard_fails : {D : Type 0} (disk : DiskOf D) (shard : ℕ) (why : Why) (old new : CoreState D) → ChangesShard shard old new (AdvancesWriteback disk (Failed why)) → IsWhy why (IsStoppedAt shard old)
shard_fails {D} disk shard why old new it = ⊎_elim
    (λ none. absurd (let no = none.1 in cc))
    (λ some. let call = some.1 in
    shard_why call.0 why (IsStoppedAt shard old) call.4 (λ n is. (it.before, it.at, (call.1.stopped n).0 is)) call.2.names)
    it.changes

save_why : (answer : Result Step CallError) (why : Why) (stopped : ℕ → Type 0) → Failed why ≡ out_of_save answer → ((n : ℕ) → answer ≡ Err (call_error.Stopped n) → stopped n) → IsWhy why stopped
save_why (Ok step) why stopped is stops = absurd (cc)
save_why (Err call_error.Fault) why stopped is stops = subst (λ (w : Why). IsWhy w stopped) (sym (failed_is why DiskFault is)) tt
save_why (Err (call_error.Stopped n)) why stopped is stops = subst (λ (w : Why). IsWhy w stopped) (sym (failed_is why (Stopped n) is)) (stops n refl)

begun_stop : {D : Type 0} (bits : Filter) (durable : ℕ) (old begun : BloomState D) → IsSaveBegun bits durable old begun → begun.calls.stopped ≡ old.calls.stopped
begun_stop {D} bits durable old begun it = ⊎_elim (λ was. ap (λ (b : BloomState D). b.calls.stopped) was.1) (λ new. ap (λ (b : BloomState D). b.calls.stopped) new.2) it

pub filter_fails : {D : Type 0} (why : Why) (old new : CoreState D) → SavesFilter (Failed why) old new
    → IsWhy why (λ call. (b : BloomState D) × (old.bloom ≡ Some b) × (b.calls.stopped ≡ Some call))
filter_fails {D} why old new it = by_filter old.bloom refl it.saves
  where
    by_filter : (o : Option (BloomState D)) → old.bloom ≡ o → SavesIn old.bits old.log.durable (Failed why) o new.bloom
        → IsWhy why (λ call. (b : BloomState D) × (old.bloom ≡ Some b) × (b.calls.stopped ≡ Some call))
    by_filter None is saves = absurd (let no = saves.0 in cc)
    by_filter (Some b) is saves = ⊎_elim
        (λ rests. absurd (let no = rests.1 in cc))
        (λ s. save_why s.answer why _ s.out_is (λ n stop. (b, is, sym (begun_stop old.bits old.log.durable b s.begun s.begins) ∙ (s.stopped n).0 stop)))
        saves.2

-- ---- the stops of a store

front_same : {X : Type 0} (xs ys us vs : List X) → length xs ≡ length ys → xs ++ us ≡ ys ++ vs → xs ≡ ys
front_same [] [] us vs many is = refl
front_same [] (y ∷ ys) us vs many is = absurd (omega (arith, many))
front_same (x ∷ xs) [] us vs many is = absurd (omega (arith, many))
front_same {X} (x ∷ xs) (y ∷ ys) us vs many is =
    let rest : xs ++ us ≡ ys ++ vs = cc in
    let first : x ≡ y = cc in
    let both = front_same xs ys us vs (omega (arith, many)) rest in
    ap (λ (z : X). z ∷ xs) first ∙ ap (λ (zs : List X). y ∷ zs) both

pub log_stop_same : {D : Type 0} (old new : CoreState D) → stops_of new ≡ stops_of old → new.log.stopped ≡ old.log.stopped
log_stop_same old new same = cc

pub shard_stops_same : {D : Type 0} (old new : CoreState D) → stops_of new ≡ stops_of old → length new.shards ≡ length old.shards
    → map (λ (s : ShardState D). s.section.stopped) new.shards ≡ map (λ (s : ShardState D). s.section.stopped) old.shards
shard_stops_same {D} old new same many =
    let f : ShardState D → Option ℕ = λ s. s.section.stopped in
    let rest : map f new.shards ++ map (λ (b : BloomState D). b.calls.stopped) (option_to_list new.bloom) ≡ map f old.shards ++ map (λ (b : BloomState D). b.calls.stopped) (option_to_list old.bloom) = cc in
    front_same (map f new.shards) (map f old.shards) _ _ (omega (arith, length-map new.shards f, length-map old.shards f, many)) rest

stop_in : {D : Type 0} (xs : List (ShardState D)) (i : ℕ) → option_and_then (λ (s : ShardState D). s.section.stopped) (slice_get xs i) ≡ option_and_then (λ (o : Option ℕ). o) (slice_get (map (λ (s : ShardState D). s.section.stopped) xs) i)
stop_in [] i = refl
stop_in (x ∷ xs) zero = refl
stop_in (x ∷ xs) (suc i) = stop_in xs i

pub stop_for_same : {D : Type 0} (score : List ℕ → List ℕ) (m : Operation) (old new : CoreState D) → stops_of new ≡ stops_of old → length new.shards ≡ length old.shards → setup_of new ≡ setup_of old
    → stop_for score new m ≡ stop_for score old m
stop_for_same score ping old new stops many setup = refl
stop_for_same score (read s kind count) old new stops many setup = refl
stop_for_same score sync old new stops many setup = log_stop_same old new stops
stop_for_same {D} score (write kind bytes) old new stops many setup =
    let f : ShardState D → Option ℕ = λ s. s.section.stopped in
    let at : shard_of new (score bytes) ≡ shard_of old (score bytes) = ap (λ (c : Setup). section_of_score c (score bytes)) setup in
    ap (λ (o : Option ℕ). option_or o (option_and_then f (slice_get new.shards (shard_of new (score bytes))))) (log_stop_same old new stops)
    ∙ ap (λ (n : ℕ). option_or old.log.stopped (option_and_then f (slice_get new.shards n))) at
    ∙ ap (λ (o : Option ℕ). option_or old.log.stopped o)
    (stop_in new.shards (shard_of old (score bytes)) ∙ ap (λ (l : List (Option ℕ)). option_and_then (λ (o : Option ℕ). o) (slice_get l (shard_of old (score bytes)))) (shard_stops_same old new stops many)
    ∙ sym (stop_in old.shards (shard_of old (score bytes))))

-- where no part has stopped to which it is written, the log hasn't, and its shard hasn't
or_none : (a b : Option ℕ) → option_or a b ≡ None → (a ≡ None) × (b ≡ None)
or_none None b is = (refl, is)
or_none (Some n) b is = absurd (cc)

pub nothing_stopped : {D : Type 0} (score : List ℕ → List ℕ) (kind : ℕ) (bytes : List ℕ) (k : CoreState D) → stop_for score k (write kind bytes) ≡ None
    → (k.log.stopped ≡ None) × ((call : ℕ) → ¬ IsStoppedAt (shard_of k (score bytes)) k call)
nothing_stopped {D} score kind bytes k goes =
    let both = or_none k.log.stopped (option_and_then (λ (s : ShardState D). s.section.stopped) (slice_get k.shards (shard_of k (score bytes)))) goes in (
      both.0,
      λ call stops.
          let here : Some call ≡ None = sym stops.2 ∙ ap (λ (o : Option (ShardState D)). option_and_then (λ (s : ShardState D). s.section.stopped) o) (sym stops.1) ∙ both.1 in
          cc,
    )

-- a shard that has stopped had stopped before, where none did
stopped_at : {D : Type 0} (xs ys : List (ShardState D)) (i call : ℕ) → map (λ (s : ShardState D). s.section.stopped) xs ≡ map (λ (s : ShardState D). s.section.stopped) ys
    → (s : ShardState D) → slice_get xs i ≡ Some s → s.section.stopped ≡ Some call → (t : ShardState D) × (slice_get ys i ≡ Some t) × (t.section.stopped ≡ Some call)
stopped_at [] ys i call same s at is = absurd (cc)
stopped_at (x ∷ xs) [] i call same s at is = absurd (cc)
stopped_at {D} (x ∷ xs) (y ∷ ys) zero call same s at is =
    let first : x.section.stopped ≡ y.section.stopped = cc in
    (y, refl, sym first ∙ ap (λ (t : ShardState D). t.section.stopped) (same_Some x s at) ∙ is)
stopped_at (x ∷ xs) (y ∷ ys) (suc i) call same s at is = stopped_at xs ys i call (cc) s at is

pub stopped_before : {D : Type 0} (shard : ℕ) (old new : CoreState D) → stops_of new ≡ stops_of old → length new.shards ≡ length old.shards → (call : ℕ) → IsStoppedAt shard new call → IsStoppedAt shard old call
stopped_before shard old new same many call it = stopped_at new.shards old.shards shard call (shard_stops_same old new same many) it.0 it.1 it.2
