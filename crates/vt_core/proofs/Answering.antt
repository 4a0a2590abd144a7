-- Answering a sync that waits.
use Rattle.std.proofs.Common.{◌≡◌, ℕ, zero, suc, ◌≤◌, List, [], ◌∷◌, length, map, Option, Some, None, refl, sym, ◌∙◌, ap, subst, arith}
use Rattle.std.specs.Prelude.{slice_get, slice_set, max}
use Rattle.vt_base.specs.declared.answer.Said.{Said}
use Rattle.vt_base.specs.declared.answer.Said.TheVariants.{Score, Block, Synced, Refused}
use Rattle.vt_base.specs.declared.why.Why.TheVariants.{BadType, TooBig, TooSmall, Absent, Collision, IndexFull, ArenasFull, DiskFault, Stopped, Damaged, NoMemory}
use Rattle.vt_disk.specs.Members.{DiskOf}
use Rattle.vt_model.specs.History.{History}
use Rattle.vt_core.specs.declared.event.Event.TheVariants.{Answer}
use Rattle.vt_core.specs.declared.event.Out.{Out}
use Rattle.vt_core.specs.declared.event.Out.TheVariants.{Said as SaidOut, Waits, NotYet, Moved, Nothing, Failed}
use Rattle.vt_core.specs.Asking.{AnswersSync, EndsSync, with_waiting}
use Rattle.vt_core.specs.Causes.{CountsOut, CountsSaid, IsUndamaged, IsUndamagedSaid, KeepsStops}
use Rattle.vt_core.specs.Core.{CoreState, machine_of, devices_of, each_of, stops_of}
use Rattle.vt_core.specs.Events.{IsAwaited, EndsWaiting}
use Rattle.vt_core.specs.Files.{PerDevice, AreWithinCall, all_of}
use Rattle.vt_core.specs.Sound.{IsSound}
use Rattle.vt_core.specs.Steps.{Steps, LeavesPrefix, StoreGoesOn}
use Rattle.vt_core.specs.Whole.{IsWhole}
use Rattle.vt_recover.proofs.Places.{length-set}
use Rattle.vt_core.proofs.Recovered.{GivesPrefix, images_of}

-- Only who waits, and how much is synced, may change: nobody waits who didn't.
pub record KeepsParts {D : Type 0} (old new : CoreState D) : Type 0 where
  pub same : new ≡ record old { waiting = new.waiting; synced = new.synced }
  pub many : length new.waiting ≡ length old.waiting
  pub low : old.synced ≤ new.synced
  pub high : new.synced ≤ old.log.durable
  pub waits : (session number : ℕ) → slice_get new.waiting session ≡ Some (Some number) → slice_get old.waiting session ≡ Some (Some number)

module _ {D : Type 0} (score : List ℕ → List ℕ) (disk : DiskOf D) (k : CoreState D) (ws : List (Option ℕ)) (synced : ℕ) (many : length ws ≡ length k.waiting)
    (low : k.synced ≤ synced) (high : synced ≤ k.log.durable)
    (waits : (session number : ℕ) → slice_get ws session ≡ Some (Some number) → slice_get k.waiting session ≡ Some (Some number)) where
  kept_whole : IsWhole disk k → IsWhole disk (record k { waiting = ws; synced = synced })
  kept_whole w = record {
    some_arena = w.some_arena;
    some_shard = w.some_shard;
    few_shards = w.few_shards;
    few_sessions = omega (arith, w.few_sessions, many);
    shards = λ i s at. let it = w.shards i s at in record { live = it.live; buckets = it.buckets; some = it.some; rest = it.rest; filed = it.filed; writeback = it.writeback; mark = it.mark; next = it.next; numbers = it.numbers; bits = it.bits };
    filter = λ b at. let it = w.filter b at in record { counts = it.counts; mark = it.mark; next = it.next; made = it.made };
    synced = high;
    waiting = λ s n at. w.waiting s n (waits s n at);
  }

  kept_sound : (h : History) → IsSound score disk k h → IsSound score disk (record k { waiting = ws; synced = synced }) h
  kept_sound h sound = record {
    whole = kept_whole sound.whole;
    legal = sound.legal;
    partitions = sound.partitions;
    log = sound.log;
    shards = sound.shards;
    bits = sound.bits;
    filter = sound.filter;
  }

  kept_on : IsWhole disk k → StoreGoesOn disk k (record k { waiting = ws; synced = synced })
  kept_on w = record {
    store = record {
      tables = refl;
      layout = refl;
      setup = refl;
      shards = refl;
      filter = refl;
      counts = (refl, refl);
      sizes = refl;
      sessions = many;
      len = omega arith;
      durable = omega arith;
      synced = low;
    };
    one_more = omega arith;
    synced_before = high;
  }

-- the same of a store that is known to be that one
module _ {D : Type 0} (score : List ℕ → List ℕ) (disk : DiskOf D) (k new : CoreState D) (kept : KeepsParts k new) where
  pub parts_whole : IsWhole disk k → IsWhole disk new
  parts_whole w = subst (IsWhole disk) (sym kept.same) (kept_whole score disk k new.waiting new.synced kept.many kept.low kept.high kept.waits w)

  parts_sound : (h : History) → IsSound score disk k h → IsSound score disk new h
  parts_sound h sound = subst (λ (m : CoreState D). IsSound score disk m h) (sym kept.same) (kept_sound score disk k new.waiting new.synced kept.many kept.low kept.high kept.waits h sound)

  parts_on : IsWhole disk k → StoreGoesOn disk k new
  parts_on w = subst (StoreGoesOn disk k) (sym kept.same) (kept_on score disk k new.waiting new.synced kept.many kept.low kept.high kept.waits w)

  parts_devices : devices_of new ≡ devices_of k
  parts_devices = ap (λ (m : CoreState D). devices_of m) kept.same

  parts_stops : (out : Out) → KeepsStops out k new
  parts_stops out = let e : stops_of new ≡ stops_of k = ap (λ (m : CoreState D). stops_of m) kept.same in record { stay = λ i call at. ap (λ (ss : List (Option ℕ)). slice_get ss i) e ∙ at; cause = λ _. e }

  parts_crash : GivesPrefix disk → LeavesPrefix score disk k new
  parts_crash gives h files sound within =
      gives score k h files sound (images_of disk (devices_of k) files (subst (λ (ds : PerDevice D). AreWithinCall disk (devices_of k) ds files) parts_devices within))

-- ---- what an answer keeps

unset_waits : (ws : List (Option ℕ)) (i s n : ℕ) → slice_get (slice_set ws i None) s ≡ Some (Some n) → slice_get ws s ≡ Some (Some n)
unset_waits [] i s n at = at
unset_waits (w ∷ ws) zero zero n at = absurd (cc)
unset_waits (w ∷ ws) zero (suc s) n at = at
unset_waits (w ∷ ws) (suc i) zero n at = at
unset_waits (w ∷ ws) (suc i) (suc s) n at = unset_waits ws i s n at

by_same : {D : Type 0} (disk : DiskOf D) (k new : CoreState D) → IsWhole disk k → new ≡ k → KeepsParts k new
by_same disk k new w same = subst (KeepsParts k) (sym same) (record { same = refl; many = refl; low = omega arith; high = w.synced; waits = λ s n at. at })

by_unset : {D : Type 0} (k new : CoreState D) (session synced : ℕ) → k.synced ≤ synced → synced ≤ k.log.durable → new ≡ with_waiting session None (record k { synced = synced }) → KeepsParts k new
by_unset k new session synced low high is = subst (KeepsParts k) (sym is)
    (record { same = refl; many = length-set k.waiting session None; low = low; high = high; waits = unset_waits k.waiting session })

said_keeps : {D : Type 0} (disk : DiskOf D) (k : CoreState D) (session at : ℕ) (said : Said) (new : CoreState D) → IsWhole disk k → EndsSync session at said k new → KeepsParts k new
said_keeps disk k session at Synced new w it = by_unset k new session (max k.synced at) (omega arith) (omega (arith, w.synced, it.2)) it.3
said_keeps disk k session at (Refused (Stopped call)) new w it = by_unset k new session k.synced (omega arith) w.synced it.2
said_keeps disk k session at (Score score') new w it = absurd it
said_keeps disk k session at (Block block) new w it = absurd it
said_keeps disk k session at (Refused BadType) new w it = absurd it
said_keeps disk k session at (Refused TooBig) new w it = absurd it
said_keeps disk k session at (Refused TooSmall) new w it = absurd it
said_keeps disk k session at (Refused Absent) new w it = absurd it
said_keeps disk k session at (Refused Collision) new w it = absurd it
said_keeps disk k session at (Refused IndexFull) new w it = absurd it
said_keeps disk k session at (Refused ArenasFull) new w it = absurd it
said_keeps disk k session at (Refused DiskFault) new w it = absurd it
said_keeps disk k session at (Refused (Damaged site want found)) new w it = absurd it
said_keeps disk k session at (Refused NoMemory) new w it = absurd it

pub sync_keeps : {D : Type 0} (disk : DiskOf D) (k : CoreState D) (session : ℕ) (out : Out) (new : CoreState D) → IsWhole disk k → AnswersSync session out k new → KeepsParts k new
sync_keeps disk k session (SaidOut a) new w it = said_keeps disk k session a.at a.said new w it
sync_keeps disk k session NotYet new w it = by_same disk k new w it.2
sync_keeps disk k session Nothing new w it = by_same disk k new w it.1
sync_keeps disk k session Waits new w it = absurd it
sync_keeps disk k session Moved new w it = absurd it
sync_keeps disk k session (Failed why) new w it = absurd it

-- ---- which step it is

module _ {D : Type 0} (k new : CoreState D) (h : History) (session : ℕ) where
  said_ends : (at : ℕ) (said : Said) → EndsSync session at said k new → EndsWaiting session at said (machine_of k h) (machine_of new h)
  said_ends at Synced it = record { waits = it.0; new_is = ap (λ (m : CoreState D). machine_of m h) it.3 }
  said_ends at (Refused (Stopped call)) it = record { waits = it.0; new_is = ap (λ (m : CoreState D). machine_of m h) it.2 }
  said_ends at (Score score') it = absurd it
  said_ends at (Block block) it = absurd it
  said_ends at (Refused BadType) it = absurd it
  said_ends at (Refused TooBig) it = absurd it
  said_ends at (Refused TooSmall) it = absurd it
  said_ends at (Refused Absent) it = absurd it
  said_ends at (Refused Collision) it = absurd it
  said_ends at (Refused IndexFull) it = absurd it
  said_ends at (Refused ArenasFull) it = absurd it
  said_ends at (Refused DiskFault) it = absurd it
  said_ends at (Refused (Damaged site want found)) it = absurd it
  said_ends at (Refused NoMemory) it = absurd it

  sync_awaited : (out : Out) → AnswersSync session out k new → IsAwaited session out (machine_of k h) (machine_of new h)
  sync_awaited (SaidOut a) it = said_ends a.at a.said it
  sync_awaited NotYet it = ((it.0.0, it.0.1), ap (λ (m : CoreState D). machine_of m h) it.2)
  sync_awaited Nothing it = (it.0, ap (λ (m : CoreState D). machine_of m h) it.1)
  sync_awaited Waits it = absurd it
  sync_awaited Moved it = absurd it
  sync_awaited (Failed why) it = absurd it

module _ {D : Type 0} (k new : CoreState D) (session : ℕ) (a b : List ℕ) (same : b ≡ a) where
  said_counts : (at : ℕ) (said : Said) → EndsSync session at said k new → CountsSaid said a b × IsUndamagedSaid said
  said_counts at Synced it = (same, tt)
  said_counts at (Refused (Stopped call)) it = (same, tt)
  said_counts at (Score score') it = absurd it
  said_counts at (Block block) it = absurd it
  said_counts at (Refused BadType) it = absurd it
  said_counts at (Refused TooBig) it = absurd it
  said_counts at (Refused TooSmall) it = absurd it
  said_counts at (Refused Absent) it = absurd it
  said_counts at (Refused Collision) it = absurd it
  said_counts at (Refused IndexFull) it = absurd it
  said_counts at (Refused ArenasFull) it = absurd it
  said_counts at (Refused DiskFault) it = absurd it
  said_counts at (Refused (Damaged site want found)) it = absurd it
  said_counts at (Refused NoMemory) it = absurd it

  sync_counts : (out : Out) → AnswersSync session out k new → CountsOut out a b × IsUndamaged out
  sync_counts (SaidOut x) it = said_counts x.at x.said it
  sync_counts NotYet it = (same, tt)
  sync_counts Nothing it = (same, tt)
  sync_counts Waits it = absurd it
  sync_counts Moved it = absurd it
  sync_counts (Failed why) it = absurd it

-- All of it.
pub sync_steps : {D : Type 0} (score : List ℕ → List ℕ) (disk : DiskOf D) (k new : CoreState D) (session : ℕ) (out : Out) → GivesPrefix disk → IsWhole disk k → AnswersSync session out k new
    → Steps score disk (Answer session) out k new
sync_steps {D} score disk k new session out gives w it =
    let kept = sync_keeps disk k session out new w it in
    let devices : devices_of new ≡ devices_of k = parts_devices score disk k new kept in
    let faults : each_of disk.faults new ≡ each_of disk.faults k = ap (λ (ds : PerDevice D). map disk.faults (all_of ds)) devices in
    let counts = sync_counts k new session (each_of disk.faults k) (each_of disk.faults new) faults out it in
    record {
      machine = λ tells h sound. (h, sync_awaited k new h session out it, parts_sound score disk k new kept h sound);
      crash = λ tells. parts_crash score disk k new kept gives;
      undamaged = λ _ _ _. counts.1;
      does = it;
      calls = ap (λ (ds : PerDevice D). all_of ds) devices;
      counts = counts.0;
      stops = parts_stops score disk k new kept out;
      goes_on = parts_on score disk k new kept w;
    }

-- a session that waits no more leaves a store whole
pub unset_whole : {D : Type 0} (score : List ℕ → List ℕ) (disk : DiskOf D) (k : CoreState D) (session synced : ℕ) → k.synced ≤ synced → synced ≤ k.log.durable → IsWhole disk k
    → IsWhole disk (with_waiting session None (record k { synced = synced }))
unset_whole score disk k session synced low high w =
    parts_whole score disk k (with_waiting session None (record k { synced = synced })) (by_unset k (with_waiting session None (record k { synced = synced })) session synced low high refl) w
