-- Requests to write a block that is new, as steps of the store.
use Rattle.std.proofs.Common.{◌≡◌, ◌≢◌, ⊎_elim, inl, inr, ℕ, zero, suc, ◌<◌, Bool, List, [], ◌∷◌, ◌++◌, length, map, Option, Some, None, refl, sym, ◌∙◌, ap, subst, arith, Bor}
use Rattle.std.specs.Prelude.{IsTrue, MatchBool, Result, Ok, slice_get, slice_set}
use Rattle.std.specs.Str.{bytes_eq}
use Rattle.std.proofs.lemmas.Option.{same_Some}
use Rattle.std.proofs.lemmas.Bool.{false_from_ne_true}
use Rattle.std.proofs.lemmas.Slice.Eq.{bytes_eq-Decides}
use Rattle.vt_base.specs.Protocol.{Operation, RMessage, write, r_write}
use Rattle.vt_base.specs.declared.answer.Said.TheVariants.{Score, Refused}
use Rattle.vt_base.specs.declared.key.Key.{Key}
use Rattle.vt_base.specs.declared.why.Why.{Why}
use Rattle.vt_base.specs.declared.why.Why.TheVariants.{Collision, NoMemory}
use Rattle.vt_bloom.specs.Bits.{MarksScore}
use Rattle.vt_disk.specs.Members.{DiskOf}
use Rattle.vt_log.specs.Answers.{OnlyReadsLog}
use Rattle.vt_log.specs.Log.{LogState}
use Rattle.vt_model.specs.Answer.{Outcome, answer}
use Rattle.vt_model.specs.History.{History, Accepted, IsBlock}
use Rattle.vt_model.specs.Places.{Setup}
use Rattle.vt_shard.specs.Shard.{ShardState, HasScore}
use Rattle.vt_base.specs.declared.operation.Operation.TheVariants as asks
use Rattle.vt_core.specs.declared.event.Event.TheVariants.{Ask}
use Rattle.vt_core.specs.declared.event.Out.{Out}
use Rattle.vt_core.specs.declared.event.Out.TheVariants.{NotYet}
use Rattle.vt_lookup.specs.declared.writing.Verdict.{Verdict}
use Rattle.vt_lookup.specs.declared.writing.Verdict.TheVariants.{New}
use Rattle.vt_core.specs.Asking.{AddsBlock, AnswersRequest, EndsWrite, HasNoRoom, MayBeTold, AnswersWriteOperation, says, shard_of, stop_for, with_parts}
use Rattle.vt_lookup.specs.Adding.{AddsPacked}
use Rattle.vt_core.specs.Causes.{CountsOut, IsUndamaged, OnlyReadFrom}
use Rattle.vt_core.specs.Core.{CoreState, setup_of, machine_of, devices_of, each_of, stops_of}
use Rattle.vt_core.specs.Events.{IsAsked}
use Rattle.vt_lookup.specs.Finding.{StoreParts, parts_of}
use Rattle.vt_core.specs.Files.{PerDevice, AreWithinCall, all_of}
use Rattle.vt_core.specs.Machine.{Machine, WaitsForNone}
use Rattle.vt_core.specs.Serving.{AddsIfRoom, AddsStored, TestsBlock}
use Rattle.vt_core.specs.Sound.{IsSound}
use Rattle.vt_core.specs.Steps.{StoreGoesOn, Steps}
use Rattle.vt_core.specs.Whole.{IsWhole}
use Rattle.vt_recover.proofs.Below.{AreMarked, MarkedStay}
use Rattle.vt_core.proofs.AddWork.{adding_devices, adding_goes_on, adding_machine, adding_stops, with_added}
use Rattle.vt_core.proofs.AskWork.{fails_in, log_reads, mid, mid_is, mid_none, mid_sound, said_is, waits_or_not}
use Rattle.vt_recover.proofs.Places.{get_set, length-set}
use Rattle.vt_lookup.proofs.Fetching.{is_there}
use Rattle.vt_core.proofs.Kept.{keeps_then}
use Rattle.vt_core.proofs.ReadWork.{reads_crash, reads_go_on, reads_machine, reads_only, reads_stops, reads_whole}
use Rattle.vt_core.proofs.Recovered.{GivesPrefix}
use Rattle.vt_lookup.proofs.TestWork.{still_has}

-- laws of the model: what adds a block is a write of it, and is answered by its score
abbrev pub AddsWritten : Type 0
AddsWritten = (score : List ℕ → List ℕ) (c : Setup) (h : History) (m : Operation) (e : Accepted) → (answer score c h m).added ≡ Some e → m ≡ write e.block.kind e.block.bytes

abbrev pub RepliesScore : Type 0
RepliesScore = (score : List ℕ → List ℕ) (c : Setup) (h : History) (m : Operation) (e : Accepted) → (answer score c h m).added ≡ Some e → (answer score c h m).reply ≡ r_write (score e.block.bytes)

pub set_set : {X : Type 0} (xs : List X) (i : ℕ) (x y : X) → slice_set (slice_set xs i x) i y ≡ slice_set xs i y
set_set [] i x y = refl
set_set (z ∷ xs) zero x y = refl
set_set (z ∷ xs) (suc i) x y = ap (λ ws. z ∷ ws) (set_set xs i x y)

written_bytes : (kind : ℕ) (bytes : List ℕ) (e : Accepted) → write kind bytes ≡ write e.block.kind e.block.bytes → e.block.bytes ≡ bytes
written_bytes kind bytes e same = cc

module _ {D : Type 0} (score : List ℕ → List ℕ) (disk : DiskOf D) (k tested : CoreState D) (gives : GivesPrefix disk) (w : IsWhole disk k) (session now : ℕ) (none : WaitsForNone k.waiting session)
    (kind : ℕ) (block : Bor (List ℕ)) (is : IsBlock (record { kind = kind; bytes = block.now })) (goes : stop_for score k (write kind block.now) ≡ None) (nonzero : score block.now ≢ score [])
    (it : TestsBlock score disk (record { score = record { 0 = score block.now }; kind = kind }) block.now (Ok New) k tested) where
  abbrev key : Key
  key = record { score = record { 0 = score block.now }; kind = kind }

  abbrev i : ℕ
  i = shard_of k (score block.now)

  abbrev after : CoreState D
  after = mid score disk k (score block.now) it.before it.after it.may_have it.looks_in (Ok New) it.looks

  parts_are : with_parts i it.after k ≡ after
  parts_are = mid_is score disk k (score block.now) it.before it.after it.may_have it.looks_in (Ok New) it.looks

  pub tested_is : tested ≡ after
  tested_is = it.new_is ∙ parts_are

  reads : OnlyReadsLog score disk 2 k.log (record k.log { disks = it.after.log.disks })
  reads = log_reads score disk k (score block.now) it.before it.after it.may_have it.looks_in (Ok New) it.looks

  quiet : (h : History) → machine_of after h ≡ machine_of k h
  quiet h = reads_machine score disk k i it.before.shard it.after.shard it.after.log.disks it.looks_in.shard reads it.looks.shard w h

  none_failed : each_of disk.faults after ≡ each_of disk.faults k
  none_failed = mid_none score disk k (score block.now) it.before it.after it.may_have it.looks_in (Ok New) it.looks it.looks.counts

  answers : (out : Out) (new : CoreState D) → EndsWrite score key block.now now (Ok New) it.after out k new → ((why : Why) → out ≡ says (Refused why) k → MayBeTold score k (write kind block.now) why)
      → AnswersRequest score disk session (write kind block.now) now out k new
  answers out new ends told = record {
    waits = λ number at. absurd (waits_or_not k session number none at);
    serves = λ _. record {
      early = λ far. absurd (far is);
      stopped = λ _ call stop. let no : None ≡ Some call = sym goes ∙ stop in absurd (cc);
      performs = λ _ _. subst (λ (b : Bool). MatchBool b ((out ≡ says (Refused Collision) k) × (new ≡ k)) (AnswersWriteOperation score disk key block.now now out k new))
          (sym (false_from_ne_true (bytes_eq (score block.now) (score [])) (λ e. nonzero ((bytes_eq-Decides (score block.now) (score [])).0 e))))
          (record { before = it.before; tested = it.after; may_have = it.may_have; verdict = Ok New; looks = it.looks_in; tests = it.tests; ends = ends });
    };
    cause = told;
  }

  -- ---- it isn't added

  waiting_steps : (out : Out) → EndsWrite score key block.now now (Ok New) it.after out k after → ((why : Why) → out ≡ says (Refused why) k → MayBeTold score k (write kind block.now) why)
      → ((h : History) → IsTrue disk.tells → IsSound score disk k h → IsAsked score session (write kind block.now) out (machine_of k h) (machine_of after h))
      → IsUndamaged out → CountsOut out (each_of disk.faults k) (each_of disk.faults after) → Steps score disk (Ask session (asks.Write kind block) now) out k tested
  waiting_steps out ends told makes undamaged counts =
      subst (λ (m : CoreState D). Steps score disk (Ask session (asks.Write kind block) now) out k m) (sym tested_is) (record {
        machine = λ tells h sound. (
          h,
          makes h tells sound,
          mid_sound score disk k (score block.now) it.before it.after it.may_have it.looks_in (Ok New) it.looks it.stay tells h sound,
        );
        crash = λ tells. reads_crash score disk k i it.before.shard it.after.shard it.after.log.disks it.looks_in.shard reads it.looks.shard gives;
        undamaged = λ h tells sound. undamaged;
        does = answers out after ends told;
        calls = reads_only score disk k i it.before.shard it.after.shard it.after.log.disks it.looks_in.shard reads it.looks.shard;
        counts = counts;
        stops = reads_stops score disk k i it.before.shard it.after.shard it.after.log.disks it.looks_in.shard reads it.looks.shard out;
        goes_on = reads_go_on score disk k i it.before.shard it.after.shard it.after.log.disks it.looks_in.shard reads it.looks.shard w;
      })

  -- there is no room yet
  pub not_yet_steps : HasNoRoom it.after → Steps score disk (Ask session (asks.Write kind block) now) NotYet k tested
  not_yet_steps full = waiting_steps NotYet (inl (full, refl, sym parts_are)) (λ why e. absurd (cc))
      (λ h tells sound. (none, it.judged h tells sound is refl nonzero, quiet h)) tt none_failed

  -- memory is short
  pub no_memory_steps : ¬ HasNoRoom it.after → Steps score disk (Ask session (asks.Write kind block) now) (says (Refused NoMemory) k) k tested
  no_memory_steps room = waiting_steps (says (Refused NoMemory) k) (inr (inl (room, refl, sym parts_are))) told
      (λ h tells sound. (
        none,
        sound.log.front,
        inr (fails_in score disk k after (write kind block.now) NoMemory (inr refl) is tt none_failed (machine_of k h) (machine_of after h) (quiet h)),
      ))
      tt none_failed
    where
      told : (why : Why) → says (Refused NoMemory) k ≡ says (Refused why) k → MayBeTold score k (write kind block.now) why
      told why e =
          let both : Refused NoMemory ≡ Refused why = said_is k (Refused NoMemory) (Refused why) e in
          let same : NoMemory ≡ why = cc in
          subst (λ (x : Why). MayBeTold score k (write kind block.now) x) same (is, tt)

  -- ---- it is added

  module _ (new : CoreState D) (out : Out) (adds : AddsStored score key block.now now i it.after out after new) (stay : MarkedStay) (marked : AreMarked) (written : AddsWritten) (replies : RepliesScore)
      (sound_then : (h : History) (added : Accepted) → IsTrue disk.tells → IsSound score disk after h → (answer score (setup_of after) h (write kind block.now)).added ≡ Some added
      → IsSound score disk new (h ++ added ∷ [])) where
    b : AddsBlock score key block.now now it.after adds.after
    b = adds.adds

    log_is : it.after.log ≡ after.log
    log_is = ap (λ (m : CoreState D). m.log) parts_are

    p : AddsPacked b.packed (parts_of after.log it.after.shard) adds.after
    p = subst (λ (x : StoreParts D). AddsPacked b.packed x adds.after) (ap (λ (l : LogState D). parts_of l it.after.shard) log_is) b.adds

    marks : MarksScore after.bits b.packed.score.0 new.bits
    marks = subst (λ (s : List ℕ). MarksScore after.bits s new.bits) (sym (b.is_packed.score ∙ b.is_packed.stored.scored ∙ ap score b.block)) adds.bits

    at : slice_get after.shards i ≡ Some it.after.shard
    at = get_set k.shards i it.after.shard it.before.shard it.looks_in.shard

    new_is : new ≡ with_added score disk after i it.after.shard at b.packed adds.after p new.bits marks stay marked
    new_is = adds.new_is

    devices : devices_of new ≡ devices_of after
    devices = ap (λ (m : CoreState D). devices_of m) new_is ∙ adding_devices score disk after i it.after.shard at b.packed adds.after p new.bits marks stay marked

    stops : stops_of new ≡ stops_of k
    stops = ap (λ (m : CoreState D). stops_of m) new_is ∙ adding_stops score disk after i it.after.shard at b.packed adds.after p new.bits marks stay marked
        ∙ (reads_stops score disk k i it.before.shard it.after.shard it.after.log.disks it.looks_in.shard reads it.looks.shard NotYet).cause (λ e. cc)

    then_machine : (g : History) → machine_of new g ≡ record (machine_of k g) { history = g }
    then_machine g = ap (λ (m : CoreState D). machine_of m g) new_is ∙ adding_machine score disk after i it.after.shard at b.packed adds.after p new.bits marks stay marked g
        ∙ ap (λ (m : Machine). record m { history = g }) (quiet g)

    then_goes : StoreGoesOn disk k new
    then_goes =
        let whole = reads_whole score disk k i it.before.shard it.after.shard it.after.log.disks it.looks_in.shard reads it.looks.shard w in
        let x : StoreGoesOn disk k after = reads_go_on score disk k i it.before.shard it.after.shard it.after.log.disks it.looks_in.shard reads it.looks.shard w in
        let y : StoreGoesOn disk after new = subst (λ (m : CoreState D). StoreGoesOn disk after m) (sym new_is)
        (adding_goes_on score disk after i it.after.shard at b.packed adds.after p new.bits marks stay marked whole) in
        record {
          store = keeps_then disk k after new x.store y.store;
          one_more = y.one_more;
          synced_before = y.synced_before;
        }

    accepts : (h : History) → IsTrue disk.tells → IsSound score disk k h → (e : Accepted) → (answer score (setup_of k) h (write kind block.now)).added ≡ Some e
        → IsAsked score session (write kind block.now) (says (Score key.score) k) (machine_of k h) (machine_of new (h ++ e ∷ []))
    accepts h tells sound e added =
        let m : Operation = write kind block.now in
        let o : Outcome = answer score (setup_of k) h m in
        let bytes : e.block.bytes ≡ block.now = written_bytes kind block.now e (written score (setup_of k) h m e added) in
        let reply : o.reply ≡ r_write (score block.now) = replies score (setup_of k) h m e added ∙ ap (λ (s : List ℕ). r_write (score s)) bytes in (
          none,
          sound.log.front,
          inl (
            (λ same. cc),
            inl (record {
              block = e;
              answer_is = ap (λ (r : RMessage). record { reply = r; added = o.added }) reply ∙ ap (λ (a : Option Accepted). record { reply = r_write (score block.now); added = a }) added;
              new_is = then_machine (h ++ e ∷ []);
            }),
          ),
        )

    pub added_steps : Steps score disk (Ask session (asks.Write kind block) now) out k new
    added_steps = subst (λ (o : Out). Steps score disk (Ask session (asks.Write kind block) now) o k new) (sym adds.out_is) (record {
      machine = λ tells h sound.
          let e = is_there (answer score (setup_of k) h (write kind block.now)).added (it.judged h tells sound is refl nonzero) in
          let here = mid_sound score disk k (score block.now) it.before it.after it.may_have it.looks_in (Ok New) it.looks it.stay tells h sound in (
            h ++ e.0 ∷ [],
            accepts h tells sound e.0 e.1,
            sound_then h e.0 tells here (ap (λ (m : Machine). (answer score m.setup h (write kind block.now)).added) (quiet h) ∙ e.1),
          );
      crash = λ tells h files sound within. reads_crash score disk k i it.before.shard it.after.shard it.after.log.disks it.looks_in.shard reads it.looks.shard gives h files sound
          (subst (λ (ds : PerDevice D). AreWithinCall disk (devices_of k) ds files) devices within);
      undamaged = λ h tells sound. tt;
      does = answers (says (Score key.score) k) new
          (inr (inr (record {
            room = adds.room;
            after = adds.after;
            adds = adds.adds;
            bits = adds.bits;
            out_is = refl;
            new_is = adds.new_is ∙ ap (λ (ss : List (ShardState D)). record k { log = adds.after.log; shards = ss; bits = new.bits }) (set_set k.shards i it.after.shard adds.after.shard);
          })))
          (λ why e. let both : Score key.score ≡ Refused why = said_is k (Score key.score) (Refused why) e in absurd (cc));
      calls = subst (λ (ds : PerDevice D). OnlyReadFrom disk 4 (all_of (devices_of k)) (all_of ds)) (sym devices) (reads_only score disk k i it.before.shard it.after.shard it.after.log.disks it.looks_in.shard reads it.looks.shard);
      counts = ap (λ (ds : PerDevice D). map disk.faults (all_of ds)) devices ∙ none_failed;
      stops = record { stay = λ j call there. ap (λ (ss : List (Option ℕ)). slice_get ss j) stops ∙ there; cause = λ _. stops };
      goes_on = then_goes;
    })

  -- ---- by what is known of the store behind the tests

  pub after_test : (n : ℕ) → n ≡ i → slice_get tested.shards n ≡ Some it.after.shard
  after_test n same = subst (λ (m : CoreState D). slice_get m.shards n ≡ Some it.after.shard) (sym it.new_is)
      (ap (λ (j : ℕ). slice_get (slice_set k.shards i it.after.shard) j) same ∙ get_set k.shards i it.after.shard it.before.shard it.looks_in.shard)

  pub given_steps : (new : CoreState D) (out : Out) (own : Key) → own ≡ key → (n : ℕ) → n ≡ i → AddsIfRoom score own block.now now n (parts_of tested.log it.after.shard) out tested new
      → MarkedStay → AreMarked → AddsWritten → RepliesScore
      → ((h : History) (added : Accepted) → IsTrue disk.tells → IsSound score disk tested h → (answer score (setup_of tested) h (write own.kind block.now)).added ≡ Some added
      → out ≡ says (Score own.score) tested → IsSound score disk new (h ++ added ∷ []))
      → Steps score disk (Ask session (asks.Write kind block) now) out k new
  given_steps new out own same n place adds stay marked written replies sound =
      let parts : parts_of tested.log it.after.shard ≡ it.after = ap (λ (m : CoreState D). parts_of m.log it.after.shard) it.new_is in
      let here : AddsIfRoom score key block.now now i it.after out after new =
      subst (λ (m : CoreState D). AddsIfRoom score key block.now now i it.after out m new) tested_is
      (subst (λ (x : StoreParts D). AddsIfRoom score key block.now now i x out tested new) parts
      (subst (λ (j : ℕ). AddsIfRoom score key block.now now j (parts_of tested.log it.after.shard) out tested new) place
      (subst (λ (x : Key). AddsIfRoom score x block.now now n (parts_of tested.log it.after.shard) out tested new) same adds))) in
      ⊎_elim
      (λ full.
      subst (λ (o : Out). Steps score disk (Ask session (asks.Write kind block) now) o k new) (sym full.1)
      (subst (λ (m : CoreState D). Steps score disk (Ask session (asks.Write kind block) now) NotYet k m) (tested_is ∙ sym full.2) (not_yet_steps full.0)))
      (λ rest. ⊎_elim
      (λ short.
      subst (λ (o : Out). Steps score disk (Ask session (asks.Write kind block) now) o k new) (sym short.1)
      (subst (λ (m : CoreState D). Steps score disk (Ask session (asks.Write kind block) now) (says (Refused NoMemory) k) k m) (tested_is ∙ sym short.2) (no_memory_steps short.0)))
      (λ stored. added_steps new out stored stay marked written replies (λ h added tells was is.
      sound h added tells (subst (λ (m : CoreState D). IsSound score disk m h) (sym tested_is) was)
      (ap (λ (m : CoreState D). (answer score (setup_of m) h (write own.kind block.now)).added) tested_is ∙ ap (λ (x : Key). (answer score (setup_of after) h (write x.kind block.now)).added) same ∙ is)
      (stored.out_is ∙ ap (λ (x : Key). says (Score x.score) after) (sym same) ∙ ap (λ (m : CoreState D). says (Score own.score) m) (sym tested_is))))
      rest)
      here

-- the shard of the score, behind the tests
module _ {D : Type 0} (score : List ℕ → List ℕ) (disk : DiskOf D) (k tested : CoreState D) (key : Key) (bytes : List ℕ) (verdict : Result Verdict Why) (it : TestsBlock score disk key bytes verdict k tested)
    (n : ℕ) where
  pub within_after : n < length k.shards → n < length tested.shards
  within_after below = subst (λ (m : CoreState D). n < length m.shards) (sym it.new_is) (omega (arith, below, length-set k.shards (shard_of k key.score.0) it.after.shard))

  pub has_after : n ≡ shard_of k key.score.0 → ((s : ShardState D) → slice_get k.shards n ≡ Some s → HasScore s key.score.0) → (s : ShardState D) → slice_get tested.shards n ≡ Some s → HasScore s key.score.0
  has_after place has s at =
      let first : slice_get k.shards n ≡ Some it.before.shard = ap (λ (j : ℕ). slice_get k.shards j) place ∙ it.looks_in.shard in
      let behind : slice_get tested.shards n ≡ Some it.after.shard = subst (λ (m : CoreState D). slice_get m.shards n ≡ Some it.after.shard) (sym it.new_is)
      (ap (λ (j : ℕ). slice_get (slice_set k.shards (shard_of k key.score.0) it.after.shard) j) place ∙ get_set k.shards (shard_of k key.score.0) it.after.shard it.before.shard it.looks_in.shard) in
      let same : it.after.shard ≡ s = same_Some it.after.shard s (sym behind ∙ at) in
      subst (λ (t : ShardState D). HasScore t key.score.0) same (still_has disk 2 it.before.shard it.after.shard key.score.0 it.looks.shard (has it.before.shard first))
