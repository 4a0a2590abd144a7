-- Requests that are answered, as steps of the store.
use Rattle.std.proofs.Common.{◌≡◌, ◌≢◌, ◌⊎◌, ⊎_elim, inl, inr, ℕ, zero, suc, ◌+◌, ◌-◌, ◌^◌, ◌<◌, ◌≤◌, Bool, true, false, not, List, [], ◌∷◌, length, Option, Some, None, refl, sym, ◌∙◌, ap, subst, arith}
use Rattle.std.specs.List.{find}
use Rattle.std.specs.Option.{option_map}
use Rattle.std.proofs.lemmas.Slice.Eq.{bytes_eq-Decides}
use Rattle.std.specs.Prelude.{◌↔◌, slice_get, slice_set, slice_index, IsTrue, IfErr, MatchResult, Result, Ok, Err, nat_lt, if◌then◌else◌}
use Rattle.std.proofs.lemmas.Option.{same_Some}
use Rattle.vt_base.specs.Faults.{HasRisen}
use Rattle.vt_base.specs.Kind.{IsKind, is_kind}
use Rattle.vt_base.specs.Protocol.{Operation, read, sync, r_read}
use Rattle.vt_base.specs.declared.answer.Said.{Said}
use Rattle.vt_base.specs.declared.score.Score.{Score}
use Rattle.vt_base.specs.declared.answer.Said.TheVariants.{Block, Refused}
use Rattle.vt_base.specs.declared.key.Key.{Key}
use Rattle.vt_base.specs.declared.why.Why.{Why}
use Rattle.vt_base.specs.declared.why.Why.TheVariants.{BadType, TooBig, TooSmall, Absent, Collision, IndexFull, ArenasFull, DiskFault, Stopped, Damaged, NoMemory}
use Rattle.vt_bloom.specs.Bits.{HasBitsOf}
use Rattle.vt_disk.specs.Members.{DiskOf}
use Rattle.vt_log.specs.Answers.{OnlyReadsLog}
use Rattle.vt_log.specs.Faults.{OneHasRisen}
use Rattle.vt_log.specs.Log.{LogState}
use Rattle.vt_model.specs.Answer.{Outcome, answer, lends, refuses, replies}
use Rattle.vt_model.specs.History.{History, has_key, held}
use Rattle.vt_model.specs.Places.{Setup}
use Rattle.vt_model.specs.Causes.{ReachesParts, MayFindDamage, TakesMemory, MayFail, OneRose, Cause, disk_fault, no_memory, stopped as part_stopped, log as log_part, why_of}
use Rattle.vt_shard.specs.Shard.{ShardState}
use Rattle.vt_base.specs.declared.operation.Operation.{Operation as Asked}
use Rattle.vt_base.specs.declared.operation.Operation.TheVariants as asks
use Rattle.vt_core.specs.declared.event.Event.TheVariants.{Ask}
use Rattle.vt_core.specs.declared.event.Out.{Out}
use Rattle.vt_core.specs.declared.event.Out.TheVariants.{Said as SaidOut, Waits, NotYet, Moved, Nothing, Failed}
use Rattle.vt_core.specs.Asking.{AnswersRequest, LooksIn, MayBeTold, lent, says, shard_of, stop_for, with_parts, with_waiting}
use Rattle.vt_core.specs.Causes.{CountsOut, CountsSaid, CountsWhy, IsUndamaged, IsUndamagedSaid, IsUndamagedWhy}
use Rattle.vt_core.specs.Core.{CoreState, setup_of, machine_of, devices_of, each_of, history_len}
use Rattle.vt_base.specs.Operations.{operation_of, reply_saying}
use Rattle.vt_core.specs.Events.{IsAsked, FailsIn, GivesAnswer}
use Rattle.vt_core.specs.Files.{all_of}
use Rattle.vt_lookup.specs.Finding.{StoreParts, AreSound, CountsFailure, IsRightFilter, LooksFor, MayEndLook, MayKeepFrom, NoneRose, Sought, parts_of}
use Rattle.vt_lookup.specs.Seeking.{StaySound}
use Rattle.vt_core.specs.Machine.{Machine, WaitsForNone, WaitsAt}
use Rattle.vt_core.specs.Serving.{FindsBlock}
use Rattle.vt_core.specs.Sound.{IsSound}
use Rattle.vt_core.specs.Steps.{Steps}
use Rattle.vt_core.specs.Whole.{IsWhole}
use Rattle.vt_recover.proofs.Places.{length-set}
use Rattle.vt_core.proofs.Kept.{same_store}
use Rattle.vt_core.proofs.ReadWork.{after_reads, no_more, none_rose, reads_counts, reads_crash, reads_go_on, reads_machine, reads_only, reads_sound, reads_stops, reads_whole, parts_are}
use Rattle.vt_core.proofs.Recovered.{GivesPrefix, images_of}

-- ---- who waits

pub waits_or_not : {D : Type 0} (k : CoreState D) (session number : ℕ) → WaitsForNone k.waiting session → WaitsAt k.waiting session number → ⊥
waits_or_not k session number none at = let no : Some None ≡ Some (Some number) = sym none ∙ at in absurd (cc)

-- what is said is told by one word
abbrev said_in : Said → Out → Said
said_in none (SaidOut a) = a.said
said_in none Waits = none
said_in none NotYet = none
said_in none Moved = none
said_in none Nothing = none
said_in none (Failed why) = none

pub said_is : {D : Type 0} (k : CoreState D) (a b : Said) → says a k ≡ says b k → a ≡ b
said_is k a b e = ap (said_in a) e

-- ---- nothing changes

module _ {D : Type 0} (score : List ℕ → List ℕ) (disk : DiskOf D) (k : CoreState D) (gives : GivesPrefix disk) (w : IsWhole disk k) (session now : ℕ) (r : Asked) where
  pub still_steps : (out : Out) → ((h : History) → IsTrue disk.tells → IsSound score disk k h → IsAsked score session (operation_of r) out (machine_of k h) (machine_of k h))
      → IsUndamaged out → ((ns : List ℕ) → CountsOut out ns ns) → AnswersRequest score disk session (operation_of r) now out k k
      → Steps score disk (Ask session r now) out k k
  still_steps out makes undamaged counts does = record {
    machine = λ tells h sound. (h, makes h tells sound, sound);
    crash = λ tells h files sound within. gives score k h files sound (images_of disk (devices_of k) files within);
    undamaged = λ _ _ _. undamaged;
    does = does;
    calls = record {
      same = record { bytes_are = refl; sizes_are = refl; images_are = no_more disk (all_of (devices_of k)) };
      calls = λ _. omega arith;
    };
    counts = counts (each_of disk.faults k);
    stops = record { stay = λ j call at. at; cause = λ _. refl };
    goes_on = record {
      store = same_store disk k;
      one_more = omega arith;
      synced_before = w.synced;
    };
  }

  -- a session that waits already
  pub waiting_steps : (number : ℕ) → WaitsAt k.waiting session number → Steps score disk (Ask session r now) Nothing k k
  waiting_steps number at = still_steps Nothing (λ h tells sound. ((number, at), refl)) tt (λ ns. refl) (record {
    waits = λ n it. (refl, refl);
    serves = λ none. absurd (waits_or_not k session number none at);
    cause = λ why is. absurd (cc);
  })

  module _ (none : WaitsForNone k.waiting session) where
    waits_for_none : (out : Out) (new : CoreState D) (number : ℕ) → WaitsAt k.waiting session number → (out ≡ Nothing) × (new ≡ k)
    waits_for_none out new number at = absurd (waits_or_not k session number none at)

    -- an answer that needs no part of the store
    pub early_steps : (said : Said) → operation_of r ≢ sync → ¬ ReachesParts score (operation_of r)
        → ((c : Setup) (h : History) → answer score c h (operation_of r) ≡ record { reply = reply_saying said; added = None })
        → IsUndamagedSaid said → ((ns : List ℕ) → CountsSaid said ns ns) → ((why : Why) → said ≡ Refused why → MayBeTold score k (operation_of r) why)
        → Steps score disk (Ask session r now) (says said k) k k
    early_steps said other far is undamaged counts told = still_steps (says said k)
        (λ h tells sound. (none, sound.log.front, inl (other, inr (record { answer_is = is (setup_of k) h; same = refl }))))
        undamaged counts (record {
          waits = waits_for_none (says said k) k;
          serves = λ _. record {
            early = λ _. (said, refl, ap (λ (o : Outcome). o.reply) (sym (is (setup_of k) [])), refl);
            stopped = λ reaches. absurd (far reaches);
            performs = λ reaches. absurd (far reaches);
          };
          cause = λ why e. told why (said_is k said (Refused why) e);
        })

    -- a part that it writes to has stopped
    pub stopped_steps : (call : ℕ) → ReachesParts score (operation_of r) → stop_for score k (operation_of r) ≡ Some call
        → ((c : Setup) → (cause : Cause) × (Refused (Stopped call) ≡ Refused (why_of cause)) × MayFail score c (operation_of r) cause)
        → Steps score disk (Ask session r now) (says (Refused (Stopped call)) k) k k
    stopped_steps call reaches stop fails = still_steps (says (Refused (Stopped call)) k)
        (λ h tells sound. let it = fails (setup_of k) in (none, sound.log.front, inr (it.0, it.1, it.2, refl)))
        tt (λ ns. refl) (record {
          waits = waits_for_none (says (Refused (Stopped call)) k) k;
          serves = λ _. record {
            early = λ far. absurd (far reaches);
            stopped = λ _ other is. let same : Some call ≡ Some other = sym stop ∙ is in (ap (λ (n : ℕ). says (Refused (Stopped n)) k) (same_Some call other same), refl);
            performs = λ _ goes. let no : Some call ≡ None = sym stop ∙ goes in absurd (cc);
          };
          cause = λ why e. told why (said_is k (Refused (Stopped call)) (Refused why) e);
        })
      where
        told : (why : Why) → Refused (Stopped call) ≡ Refused why → MayBeTold score k (operation_of r) why
        told (Stopped other) e = let same : call ≡ other = cc in (reaches, stop ∙ ap (λ (n : ℕ). Some n) same)
        told BadType e = tt
        told TooBig e = tt
        told TooSmall e = tt
        told Absent e = tt
        told Collision e = tt
        told IndexFull e = tt
        told ArenasFull e = tt
        told DiskFault e = absurd (cc)
        told (Damaged site want found) e = absurd (cc)
        told NoMemory e = absurd (cc)

-- ---- a sync that is waited for

set_none : (ws : List (Option ℕ)) (i n s m : ℕ) → slice_get (slice_set ws i (Some n)) s ≡ Some (Some m) → (m ≡ n) ⊎ (slice_get ws s ≡ Some (Some m))
set_none [] i n s m at = inr at
set_none (x ∷ ws) zero n zero m at = inl (same_Some m n (same_Some (Some m) (Some n) (sym at)))
set_none (x ∷ ws) zero n (suc s) m at = inr at
set_none (x ∷ ws) (suc i) n zero m at = inr at
set_none (x ∷ ws) (suc i) n (suc s) m at = set_none ws i n s m at

module _ {D : Type 0} (score : List ℕ → List ℕ) (disk : DiskOf D) (k : CoreState D) (session : ℕ) where
  pub asked_whole : (at : ℕ) → at ≡ history_len k → IsWhole disk k → IsWhole disk (with_waiting session (Some at) k)
  asked_whole at is w = record {
    some_arena = w.some_arena;
    some_shard = w.some_shard;
    few_shards = w.few_shards;
    few_sessions = omega (arith, w.few_sessions, length-set k.waiting session (Some at));
    shards = λ i s there. let it = w.shards i s there in record { live = it.live; buckets = it.buckets; some = it.some; rest = it.rest; filed = it.filed; writeback = it.writeback; mark = it.mark; next = it.next; numbers = it.numbers; bits = it.bits };
    filter = λ b there. let it = w.filter b there in record { counts = it.counts; mark = it.mark; next = it.next; made = it.made };
    synced = w.synced;
    waiting = λ s n there. ⊎_elim (λ e. omega (arith, e, is)) (λ was. w.waiting s n was) (set_none k.waiting session at s n there);
  }

  pub sync_steps : (gives : GivesPrefix disk) (w : IsWhole disk k) (now : ℕ) → WaitsForNone k.waiting session → k.log.stopped ≡ None
      → Steps score disk (Ask session asks.Sync now) Waits k (with_waiting session (Some (history_len k)) k)
  sync_steps gives w now none goes = record {
    machine = λ tells h sound. (
      h,
      (refl, record { free = none; new_is = ap (λ (n : ℕ). record { setup = setup_of k; history = h; synced = k.synced; waiting = slice_set k.waiting session (Some n) }) sound.log.front }),
      record {
        whole = asked_whole (history_len k) refl sound.whole;
        legal = sound.legal;
        partitions = sound.partitions;
        log = sound.log;
        shards = sound.shards;
        bits = sound.bits;
        filter = λ b there. let it = sound.filter b there in record { saved = it.saved; coming = it.coming; sound = it.sound; covers = it.covers; coming_covers = it.coming_covers };
      },
    );
    crash = λ tells h files sound within. gives score k h files sound (images_of disk (devices_of k) files within);
    undamaged = λ _ _ _. tt;
    does = record {
      waits = λ number at. absurd (waits_or_not k session number none at);
      serves = λ _. record {
        early = λ far. absurd (far tt);
        stopped = λ _ call is. let no : None ≡ Some call = sym goes ∙ is in absurd (cc);
        performs = λ _ _. (refl, refl);
      };
      cause = λ why is. absurd (cc);
    };
    calls = record {
      same = record { bytes_are = refl; sizes_are = refl; images_are = no_more disk (all_of (devices_of k)) };
      calls = λ _. omega arith;
    };
    counts = refl;
    stops = record { stay = λ j call at. at; cause = λ _. refl };
    goes_on = record {
      store = record {
        tables = refl;
        layout = refl;
        setup = refl;
        shards = refl;
        filter = refl;
        counts = (refl, refl);
        sizes = refl;
        sessions = length-set k.waiting session (Some (history_len k));
        len = omega arith;
        durable = omega arith;
        synced = omega arith;
      };
      one_more = omega arith;
      synced_before = w.synced;
    };
  }

-- and one where the log has stopped
pub sync_stops : {D : Type 0} (score : List ℕ → List ℕ) (disk : DiskOf D) (k : CoreState D) (session now call : ℕ) → GivesPrefix disk → IsWhole disk k → WaitsForNone k.waiting session → k.log.stopped ≡ Some call
    → Steps score disk (Ask session asks.Sync now) (says (Refused (Stopped call)) k) k k
sync_stops score disk k session now call gives w none stop = stopped_steps score disk k gives w session now asks.Sync none call tt stop (λ c. (part_stopped log_part call, refl, (tt, refl)))

-- ---- what is said of a block

lent_is : (count : ℕ) (found : Option (List ℕ)) → lends count found ≡ record { reply = reply_saying (lent count (Ok found)); added = None }
lent_is count None = refl
lent_is count (Some bytes) = by_length (nat_lt count (length bytes))
  where
    by_length : (b : Bool) → (if b then refuses TooSmall else replies (r_read bytes))
        ≡ record { reply = reply_saying (if b then Refused TooSmall else Block bytes); added = None }
    by_length true = refl
    by_length false = refl

lent_undamaged : (count : ℕ) (found : Option (List ℕ)) → IsUndamagedSaid (lent count (Ok found))
lent_undamaged count None = tt
lent_undamaged count (Some bytes) = by_length (nat_lt count (length bytes))
  where
    by_length : (b : Bool) → IsUndamagedSaid (if b then Refused TooSmall else Block bytes)
    by_length true = tt
    by_length false = tt

lent_counts : (count : ℕ) (found : Option (List ℕ)) (old new : List ℕ) → new ≡ old → CountsSaid (lent count (Ok found)) old new
lent_counts count None old new same = same
lent_counts count (Some bytes) old new same = by_length (nat_lt count (length bytes))
  where
    by_length : (b : Bool) → CountsSaid (if b then Refused TooSmall else Block bytes) old new
    by_length true = same
    by_length false = same

lent_told : {D : Type 0} (score : List ℕ → List ℕ) (k : CoreState D) (m : Operation) (count : ℕ) (found : Option (List ℕ)) (why : Why) → lent count (Ok found) ≡ Refused why → MayBeTold score k m why
lent_told score k m count found why e = told found e
  where
    short : (w : Why) → Refused Absent ≡ Refused w → MayBeTold score k m w
    short BadType e = tt
    short TooBig e = tt
    short TooSmall e = tt
    short Absent e = tt
    short Collision e = tt
    short IndexFull e = tt
    short ArenasFull e = tt
    short DiskFault e = absurd (cc)
    short (Stopped n) e = absurd (cc)
    short (Damaged site want found) e = absurd (cc)
    short NoMemory e = absurd (cc)

    small : (w : Why) → Refused TooSmall ≡ Refused w → MayBeTold score k m w
    small BadType e = tt
    small TooBig e = tt
    small TooSmall e = tt
    small Absent e = tt
    small Collision e = tt
    small IndexFull e = tt
    small ArenasFull e = tt
    small DiskFault e = absurd (cc)
    small (Stopped n) e = absurd (cc)
    small (Damaged site want found) e = absurd (cc)
    small NoMemory e = absurd (cc)

    by_length : (bytes : List ℕ) (b : Bool) → (if b then Refused TooSmall else Block bytes) ≡ Refused why → MayBeTold score k m why
    by_length bytes true is = small why is
    by_length bytes false is = absurd (cc)

    told : (o : Option (List ℕ)) → lent count (Ok o) ≡ Refused why → MayBeTold score k m why
    told None is = short why is
    told (Some bytes) is = by_length bytes (nat_lt count (length bytes)) is

-- ---- answers that need no part of the store

module _ {D : Type 0} (score : List ℕ → List ℕ) (disk : DiskOf D) (k : CoreState D) (gives : GivesPrefix disk) (w : IsWhole disk k) (session now : ℕ) (none : WaitsForNone k.waiting session) where
  pub bad_read : (s : Score) (kind count : ℕ) → is_kind kind ≡ false → Steps score disk (Ask session (asks.Read s kind count) now) (says (Refused BadType) k) k k
  bad_read s kind count bad = early_steps score disk k gives w session now (asks.Read s kind count) none (Refused BadType) (λ e. cc)
      (λ reaches. let both : false ≡ true = sym bad ∙ reaches.0 in absurd (cc))
      (λ c h. ap (λ (b : Bool). if not b then refuses BadType else lends count (held score h s.0 kind)) bad) tt (λ ns. refl) (λ why e. told why e)
    where
      told : (why : Why) → Refused BadType ≡ Refused why → MayBeTold score k (read s.0 kind count) why
      told BadType e = tt
      told TooBig e = tt
      told TooSmall e = tt
      told Absent e = tt
      told Collision e = tt
      told IndexFull e = tt
      told ArenasFull e = tt
      told DiskFault e = absurd (cc)
      told (Stopped n) e = absurd (cc)
      told (Damaged site want found) e = absurd (cc)
      told NoMemory e = absurd (cc)

  pub zero_read : (s : Score) (kind count : ℕ) → is_kind kind ≡ true → s.0 ≡ score []
      → Steps score disk (Ask session (asks.Read s kind count) now) (says (lent count (Ok (Some []))) k) k k
  zero_read s kind count own same = early_steps score disk k gives w session now (asks.Read s kind count) none (lent count (Ok (Some []))) (λ e. cc)
      (λ reaches. reaches.1 same)
      (λ c h. ap (λ (b : Bool). if not b then refuses BadType else lends count (held score h s.0 kind)) own
      ∙ ap (λ (b : Bool). lends count (if b then Some [] else option_map (λ e. e.block.bytes) (find (has_key score s.0 kind) h))) ((bytes_eq-Decides s.0 (score [])).1 same)
      ∙ lent_is count (Some []))
      (lent_undamaged count (Some [])) (λ ns. lent_counts count (Some []) ns ns refl) (λ why e. lent_told score k (read s.0 kind count) count (Some []) why e)

-- ---- why the store fails

or_above : (a b : ℕ) → (a ≤ b) ⊎ (b ≤ a)
or_above zero b = inl (omega arith)
or_above (suc a) zero = inr (omega arith)
or_above (suc a) (suc b) = ⊎_elim (λ le. inl (omega (arith, le))) (λ ge. inr (omega (arith, ge))) (or_above a b)

pub rose_between : (a b : ℕ) → HasRisen a b → (a < b) ⊎ (b ≡ 2 ^ 64 - 1)
rose_between a b is = omega_cases a b (or_above (a + 1) (2 ^ 64 - 1)) is
  where
    omega_cases : (x y : ℕ) → (x + 1 ≤ 2 ^ 64 - 1) ⊎ (2 ^ 64 - 1 ≤ x + 1) → HasRisen x y → (x < y) ⊎ (y ≡ 2 ^ 64 - 1)
    omega_cases x y (inl low) rose = inl (omega (arith, low, rose))
    omega_cases x y (inr high) rose = inr (omega (arith, high, rose))

pub one_rose : (before after : List ℕ) → OneHasRisen before after → OneRose before after
one_rose before after it = (it.which, rose_between (slice_index before it.which) (slice_index after it.which) it.rose)

-- a device or memory may keep any operation that reaches the parts, and takes memory, from its answer
pub fails_in : {D : Type 0} (score : List ℕ → List ℕ) (disk : DiskOf D) (k new : CoreState D) (m : Operation) (why : Why) → MayKeepFrom why → ReachesParts score m → TakesMemory m
    → CountsWhy why (each_of disk.faults k) (each_of disk.faults new) → (old now : Machine) → now ≡ old → FailsIn score m (Refused why) old now
fails_in score disk k new m why may reaches takes counts old now same = ⊎_elim
    (λ fault.
    let rose : OneHasRisen (each_of disk.faults k) (each_of disk.faults new) = subst (λ (w : Why). CountsWhy w (each_of disk.faults k) (each_of disk.faults new)) fault counts in
    (disk_fault (each_of disk.faults k) (each_of disk.faults new), ap (λ (w : Why). Refused w) fault, (reaches, one_rose (each_of disk.faults k) (each_of disk.faults new) rose), same))
    (λ memory. (no_memory, ap (λ (w : Why). Refused w) memory, (reaches, takes), same))
    may

-- what ends a look-up may be told
pub may_be_told : {D : Type 0} (score : List ℕ → List ℕ) (k : CoreState D) (m : Operation) (why : Why) → ReachesParts score m → MayFindDamage m → TakesMemory m → MayEndLook why → MayBeTold score k m why
may_be_told score k m DiskFault reaches damage memory it = reaches
may_be_told score k m NoMemory reaches damage memory it = (reaches, memory)
may_be_told score k m (Damaged site want found) reaches damage memory it = (reaches, damage, it)
may_be_told score k m Collision reaches damage memory it = tt
may_be_told score k m IndexFull reaches damage memory it = tt
may_be_told score k m ArenasFull reaches damage memory it = tt
may_be_told score k m BadType reaches damage memory it = absurd it
may_be_told score k m TooBig reaches damage memory it = absurd it
may_be_told score k m TooSmall reaches damage memory it = absurd it
may_be_told score k m Absent reaches damage memory it = absurd it
may_be_told score k m (Stopped call) reaches damage memory it = absurd it

pub undamaged_why : (why : Why) → MayKeepFrom why → IsUndamagedWhy why
undamaged_why why it = ⊎_elim (λ fault. subst IsUndamagedWhy (sym fault) tt) (λ memory. subst IsUndamagedWhy (sym memory) tt) it

-- ---- the parts of a score are looked through

-- this shard has the score's bucket
pub looks_in_shard : {D : Type 0} (k : CoreState D) (s : List ℕ) (i : ℕ) (shard : ShardState D) (may_have : Bool) → slice_get k.shards i ≡ Some shard → i ≡ shard_of k s
    → (IsTrue may_have ↔ HasBitsOf k.bits s) → LooksIn k s (parts_of k.log shard) may_have
looks_in_shard k s i shard may_have at is bits = record { log = refl; shard = subst (λ (n : ℕ). slice_get k.shards n ≡ Some shard) is at; bits = bits }

-- the filter says no only where no block has the score
pub bits_right : {D : Type 0} (score : List ℕ → List ℕ) (disk : DiskOf D) (k : CoreState D) (h : History) (s : List ℕ) (may_have : Bool) → IsSound score disk k h
    → (IsTrue may_have ↔ HasBitsOf k.bits s) → IsRightFilter score h s may_have
bits_right score disk k h s may_have sound bits absent i it =
    let has : HasBitsOf k.bits s = subst (λ (x : List ℕ). HasBitsOf k.bits x) it.score_is (sound.bits i it.block it.stands) in
    let both : false ≡ true = sym absent ∙ bits.1 has in absurd (cc)

pub are_sound : {D : Type 0} (score : List ℕ → List ℕ) (disk : DiskOf D) (k : CoreState D) (h : History) (i : ℕ) (shard : ShardState D) → slice_get k.shards i ≡ Some shard → IsSound score disk k h
    → AreSound score disk (setup_of k) (parts_of k.log shard) h k.log.durable
are_sound score disk k h i shard at sound = record { log = sound.log; shard = sound.shards i shard at; opened = refl; legal = sound.legal }

-- ---- and were

module _ {D T : Type 0} (score : List ℕ → List ℕ) (disk : DiskOf D) (k : CoreState D) (s : List ℕ) (before after : StoreParts D) (may_have : Bool)
    (looks_in : LooksIn k s before may_have) (r : Result T Why) (looks : LooksFor score disk 2 2 r before after) where
  log_same : after.log ≡ record k.log { disks = after.log.disks }
  log_same = subst (λ (l : LogState D). after.log ≡ record l { disks = after.log.disks }) looks_in.log looks.log.same

  pub log_reads : OnlyReadsLog score disk 2 k.log (record k.log { disks = after.log.disks })
  log_reads = subst (λ (l : LogState D). OnlyReadsLog score disk 2 k.log l) log_same (subst (λ (l : LogState D). OnlyReadsLog score disk 2 l after.log) looks_in.log looks.log)

  -- the store behind it, by the disks of its log
  abbrev pub mid : CoreState D
  mid = after_reads score disk k (shard_of k s) before.shard after.shard after.log.disks looks_in.shard log_reads looks.shard

  pub mid_is : with_parts (shard_of k s) after k ≡ mid
  mid_is = ap (λ (l : LogState D). record k { log = l; shards = slice_set k.shards (shard_of k s) after.shard }) log_same

  were : before ≡ parts_of k.log before.shard
  were = ap (λ (l : LogState D). parts_of l before.shard) looks_in.log

  are : after ≡ parts_of (record k.log { disks = after.log.disks }) after.shard
  are = ap (λ (l : LogState D). parts_of l after.shard) log_same

  pub before_sound : (h : History) → IsSound score disk k h → AreSound score disk (setup_of k) before h k.log.durable
  before_sound h sound = subst (λ (p : StoreParts D). AreSound score disk (setup_of k) p h k.log.durable) (sym were)
      (parts_are score disk k (shard_of k s) before.shard after.shard after.log.disks looks_in.shard log_reads looks.shard h sound)

  pub mid_sound : StaySound score disk before after → IsTrue disk.tells → (h : History) → IsSound score disk k h → IsSound score disk mid h
  mid_sound stay tells h sound =
      reads_sound score disk k (shard_of k s) before.shard after.shard after.log.disks looks_in.shard log_reads looks.shard h sound
      (subst (λ (p : StoreParts D). AreSound score disk (setup_of k) p h k.log.durable) are (stay (setup_of k) h k.log.durable tells (before_sound h sound)))

  pub mid_counts : (why : Why) → CountsFailure disk why before after → CountsWhy why (each_of disk.faults k) (each_of disk.faults mid)
  mid_counts why it = reads_counts score disk k (shard_of k s) before.shard after.shard after.log.disks looks_in.shard log_reads looks.shard why
      (subst (λ (p : StoreParts D). CountsFailure disk why (parts_of k.log before.shard) p) are (subst (λ (p : StoreParts D). CountsFailure disk why p after) were it))

  pub mid_none : NoneRose disk before after → each_of disk.faults mid ≡ each_of disk.faults k
  mid_none it = none_rose score disk k (shard_of k s) before.shard after.shard after.log.disks looks_in.shard log_reads looks.shard
      (subst (λ (p : StoreParts D). NoneRose disk (parts_of k.log before.shard) p) are (subst (λ (p : StoreParts D). NoneRose disk p after) were it))

  pub mid_whole : IsWhole disk k → IsWhole disk (with_parts (shard_of k s) after k)
  mid_whole w = subst (λ (m : CoreState D). IsWhole disk m) (sym mid_is)
      (reads_whole score disk k (shard_of k s) before.shard after.shard after.log.disks looks_in.shard log_reads looks.shard w)

  -- what keeps it from its answer has a cause
  pub mid_ends : IsWhole disk k → IfErr r MayEndLook
  mid_ends w = looks.cause (subst (λ (l : LogState D). 0 < length l.layout) (sym looks_in.log) w.some_arena)

-- ---- a block is read

module _ {D : Type 0} (score : List ℕ → List ℕ) (disk : DiskOf D) (k new : CoreState D) (gives : GivesPrefix disk) (w : IsWhole disk k) (session now : ℕ)
    (none : WaitsForNone k.waiting session) (key : Key) (count : ℕ) (kind : IsKind key.kind) (own_kind : is_kind key.kind ≡ true) (other : key.score.0 ≢ score [])
    (block : Sought) (it : FindsBlock score disk key block k new) where
  abbrev after : CoreState D
  after = mid score disk k key.score.0 it.before it.after it.may_have it.looks_in block it.looks

  abbrev asked : Operation
  asked = read key.score.0 key.kind count

  read_answer : (h : History) (found : Option (List ℕ)) → found ≡ held score h key.score.0 key.kind
      → answer score (setup_of k) h asked ≡ record { reply = reply_saying (lent count (Ok found)); added = None }
  read_answer h found is =
      ap (λ (b : Bool). if not b then refuses BadType else lends count (held score h key.score.0 key.kind)) own_kind
      ∙ ap (lends count) (sym is) ∙ lent_is count found

  read_gives : (h : History) (b : Sought) → MatchResult b (λ found. found ≡ held score h key.score.0 key.kind) MayKeepFrom
      → MatchResult b (λ _. NoneRose disk it.before it.after) (λ why. CountsWhy why (each_of disk.faults k) (each_of disk.faults after))
      → machine_of after h ≡ machine_of k h
      → ((asked ≢ sync) × GivesAnswer score asked (lent count b) (machine_of k h) (machine_of after h)) ⊎ FailsIn score asked (lent count b) (machine_of k h) (machine_of after h)
  read_gives h (Ok found) is counts same = inl ((λ e. cc), inr (record { answer_is = read_answer h found is; same = same }))
  read_gives h (Err why) is counts same = inr (fails_in score disk k after asked why is (kind, other) tt counts (machine_of k h) (machine_of after h) same)

  read_undamaged : (h : History) (b : Sought) → MatchResult b (λ found. found ≡ held score h key.score.0 key.kind) MayKeepFrom → IsUndamagedSaid (lent count b)
  read_undamaged h (Ok found) is = lent_undamaged count found
  read_undamaged h (Err why) is = undamaged_why why is

  read_whys : (b : Sought) → MatchResult b (λ _. NoneRose disk it.before it.after) (λ why. CountsFailure disk why it.before it.after)
      → MatchResult b (λ _. NoneRose disk it.before it.after) (λ why. CountsWhy why (each_of disk.faults k) (each_of disk.faults after))
  read_whys (Ok found) counts = counts
  read_whys (Err why) counts = mid_counts score disk k key.score.0 it.before it.after it.may_have it.looks_in block it.looks why counts

  read_counts : (b : Sought) → MatchResult b (λ _. NoneRose disk it.before it.after) (λ why. CountsWhy why (each_of disk.faults k) (each_of disk.faults after))
      → CountsSaid (lent count b) (each_of disk.faults k) (each_of disk.faults after)
  read_counts (Ok found) counts = lent_counts count found (each_of disk.faults k) (each_of disk.faults after)
      (mid_none score disk k key.score.0 it.before it.after it.may_have it.looks_in block it.looks counts)
  read_counts (Err why) counts = counts

  read_told : (b : Sought) → IfErr b MayEndLook → (why : Why) → lent count b ≡ Refused why → MayBeTold score k asked why
  read_told (Ok found) ends why e = lent_told score k asked count found why e
  read_told (Err first) ends why e = let same : first ≡ why = cc in
      subst (λ (x : Why). MayBeTold score k asked x) same (may_be_told score k asked first (kind, other) tt tt ends)

  pub read_whole : IsWhole disk new
  read_whole = subst (λ (m : CoreState D). IsWhole disk m) (sym (it.new_is ∙ mid_is score disk k key.score.0 it.before it.after it.may_have it.looks_in block it.looks))
      (reads_whole score disk k (shard_of k key.score.0) it.before.shard it.after.shard it.after.log.disks it.looks_in.shard
      (log_reads score disk k key.score.0 it.before it.after it.may_have it.looks_in block it.looks) it.looks.shard w)

  pub read_steps : Steps score disk (Ask session (asks.Read key.score key.kind count) now) (says (lent count block) k) k new
  read_steps =
      let i : ℕ = shard_of k key.score.0 in
      let same = mid_is score disk k key.score.0 it.before it.after it.may_have it.looks_in block it.looks in
      let reads = log_reads score disk k key.score.0 it.before it.after it.may_have it.looks_in block it.looks in
      let whys = read_whys block it.looks.counts in
      subst (λ (m : CoreState D). Steps score disk (Ask session (asks.Read key.score key.kind count) now) (says (lent count block) k) k m) (sym (it.new_is ∙ same)) (record {
        machine = λ tells h sound.
            let quiet = reads_machine score disk k i it.before.shard it.after.shard it.after.log.disks it.looks_in.shard reads it.looks.shard w h in (
              h,
              (none, sound.log.front, read_gives h block (it.found h tells sound other) whys quiet),
              mid_sound score disk k key.score.0 it.before it.after it.may_have it.looks_in block it.looks it.stay tells h sound,
            );
        crash = λ tells. reads_crash score disk k i it.before.shard it.after.shard it.after.log.disks it.looks_in.shard reads it.looks.shard gives;
        undamaged = λ h tells sound. read_undamaged h block (it.found h tells sound other);
        does = record {
          waits = λ number at. absurd (waits_or_not k session number none at);
          serves = λ _. record {
            early = λ far. absurd (far (kind, other));
            stopped = λ _ call is. absurd (cc);
            performs = λ _ _. (
              lent count block,
              refl,
              record {
                before = it.before;
                after = it.after;
                may_have = it.may_have;
                block = block;
                looks = it.looks_in;
                seeks = it.seeks;
                said_is = refl;
                new_is = sym same;
              },
            );
          };
          cause = λ why e. read_told block (mid_ends score disk k key.score.0 it.before it.after it.may_have it.looks_in block it.looks w) why (said_is k (lent count block) (Refused why) e);
        };
        calls = reads_only score disk k i it.before.shard it.after.shard it.after.log.disks it.looks_in.shard reads it.looks.shard;
        counts = read_counts block whys;
        stops = reads_stops score disk k i it.before.shard it.after.shard it.after.log.disks it.looks_in.shard reads it.looks.shard (says (lent count block) k);
        goes_on = reads_go_on score disk k i it.before.shard it.after.shard it.after.log.disks it.looks_in.shard reads it.looks.shard w;
      })
