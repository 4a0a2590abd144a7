-- Requests to write, as steps of the store.
use Rattle.std.proofs.Common.{◌≡◌, ◌≢◌, ◌⊎◌, ⊎_elim, inl, inr, ℕ, ◌<◌, ◌==◌, Bool, true, false, not, List, [], ◌∷◌, length, Option, Some, None, refl, sym, ◌∙◌, ap, subst, arith, Bor}
use Rattle.std.specs.Prelude.{IfErr, MatchBool, MatchResult, Result, Ok, Err, nat_lt, if◌then◌else◌, slice_get}
use Rattle.std.specs.Option.{option_and_then, option_or}
use Rattle.std.specs.Str.{bytes_eq}
use Rattle.std.proofs.lemmas.Bool.{le-ltb, lt-ltb, false_from_ne_true}
use Rattle.std.proofs.lemmas.Slice.Eq.{bytes_eq-Decides}
use Rattle.vt_base.specs.declared.TheConstants.{MAX_BLOCK}
use Rattle.vt_base.specs.Kind.{is_kind}
use Rattle.vt_base.specs.Protocol.{write, sync, r_write}
use Rattle.vt_base.specs.declared.answer.Said.{Said}
use Rattle.vt_base.specs.declared.answer.Said.TheVariants.{Score, Refused}
use Rattle.vt_base.specs.declared.key.Key.{Key}
use Rattle.vt_base.specs.declared.score.Score.{Score as ScoreOf}
use Rattle.vt_base.specs.declared.why.Why.{Why}
use Rattle.vt_base.specs.declared.why.Why.TheVariants.{BadType, TooBig, TooSmall, Absent, Collision, IndexFull, ArenasFull, DiskFault, Stopped, Damaged, NoMemory}
use Rattle.vt_disk.specs.Members.{DiskOf}
use Rattle.vt_model.specs.Answer.{collides, refuses, replies}
use Rattle.vt_model.specs.History.{History, IsBlock}
use Rattle.vt_model.specs.Causes.{stopped as part_stopped, log as log_part}
use Rattle.vt_shard.specs.Shard.{ShardState}
use Rattle.vt_base.specs.declared.operation.Operation.TheVariants as asks
use Rattle.vt_core.specs.declared.event.Event.TheVariants.{Ask}
use Rattle.vt_lookup.specs.declared.writing.Verdict.{Verdict}
use Rattle.vt_lookup.specs.declared.writing.Verdict.TheVariants.{Held, New}
use Rattle.vt_core.specs.Asking.{AnswersRequest, EndsWrite, MayBeTold, Performs, AnswersWriteOperation, says, shard_of, stop_for, with_parts}
use Rattle.vt_core.specs.Causes.{CountsSaid, CountsWhy, IsUndamagedSaid, IsUndamagedWhy}
use Rattle.vt_core.specs.Core.{CoreState, setup_of, machine_of, each_of}
use Rattle.vt_core.specs.Events.{FailsIn, GivesAnswer}
use Rattle.vt_lookup.specs.Finding.{CountsFailure, IsWriteRefusal, JudgesWrite, MayEndLook, NoneRose}
use Rattle.vt_core.specs.Machine.{WaitsForNone}
use Rattle.vt_core.specs.Serving.{TestsBlock}
use Rattle.vt_core.specs.Steps.{Steps}
use Rattle.vt_core.specs.Whole.{IsWhole}
use Rattle.vt_core.proofs.AskWork.{early_steps, fails_in, log_reads, may_be_told, mid, mid_counts, mid_ends, mid_is, mid_none, mid_sound, said_is, still_steps, stopped_steps, undamaged_why, waits_or_not}
use Rattle.vt_core.proofs.ReadWork.{reads_crash, reads_go_on, reads_machine, reads_only, reads_stops}
use Rattle.vt_core.proofs.Recovered.{GivesPrefix}
use Rattle.vt_lookup.proofs.Testing.{by_score, collision}
use Rattle.vt_log.proofs.Lists.{slice_get_there}

pub some_bytes : (bytes : List ℕ) → (length bytes == 0) ≡ false → 0 < length bytes
some_bytes [] is = absurd (cc)
some_bytes (x ∷ xs) is = omega arith

-- the call at which the log or the score's shard stopped, by the shard's number
pub stop_is : {D : Type 0} (score : List ℕ → List ℕ) (k : CoreState D) (kind : ℕ) (bytes s : List ℕ) (i : ℕ) (stop : Option ℕ) → i ≡ shard_of k s → s ≡ score bytes → i < length k.shards
    → ((t : ShardState D) → slice_get k.shards i ≡ Some t → stop ≡ option_or k.log.stopped t.section.stopped) → stop_for score k (write kind bytes) ≡ stop
stop_is {D} score k kind bytes s i stop is scored below each =
    let it = slice_get_there k.shards i below in
    let at : slice_get k.shards (shard_of k (score bytes)) ≡ Some it.0 = ap (λ (n : ℕ). slice_get k.shards n) (sym (is ∙ ap (λ (x : List ℕ). shard_of k x) scored)) ∙ it.1 in
    ap (λ (o : Option (ShardState D)). option_or k.log.stopped (option_and_then (λ t. t.section.stopped) o)) at ∙ sym (each it.0 it.1)

-- what the store may say of a write that isn't done
plain_told : {D : Type 0} (score : List ℕ → List ℕ) (k : CoreState D) (kind : ℕ) (bytes : List ℕ) (first why : Why) → MayBeTold score k (write kind bytes) first → first ≡ why → MayBeTold score k (write kind bytes) why
plain_told score k kind bytes first why it same = subst (λ (w : Why). MayBeTold score k (write kind bytes) w) same it

module _ {D : Type 0} (score : List ℕ → List ℕ) (disk : DiskOf D) (k : CoreState D) (gives : GivesPrefix disk) (w : IsWhole disk k) (session now : ℕ) (none : WaitsForNone k.waiting session)
    (kind : ℕ) (block : Bor (List ℕ)) where
  -- ---- refused, or answered, before anything is looked up

  pub bad_write : is_kind kind ≡ false → Steps score disk (Ask session (asks.Write kind block) now) (says (Refused BadType) k) k k
  bad_write bad = early_steps score disk k gives w session now (asks.Write kind block) none (Refused BadType) (λ e. cc)
      (λ reaches. let both : false ≡ true = sym bad ∙ reaches.kind in absurd (cc))
      (λ c h. ap (λ (b : Bool). if not b then refuses BadType else if nat_lt MAX_BLOCK (length block.now) then refuses TooBig
      else if length block.now == 0 then replies (r_write (score [])) else by_score score c h kind block.now) bad)
      tt (λ ns. refl) (λ why e. let same : BadType ≡ why = cc in plain_told score k kind block.now BadType why tt same)

  pub big_write : is_kind kind ≡ true → MAX_BLOCK < length block.now → Steps score disk (Ask session (asks.Write kind block) now) (says (Refused TooBig) k) k k
  big_write own big = early_steps score disk k gives w session now (asks.Write kind block) none (Refused TooBig) (λ e. cc)
      (λ reaches. absurd (omega (arith, reaches.most, big)))
      (λ c h. ap (λ (b : Bool). if not b then refuses BadType else if nat_lt MAX_BLOCK (length block.now) then refuses TooBig
      else if length block.now == 0 then replies (r_write (score [])) else by_score score c h kind block.now) own
      ∙ ap (λ (b : Bool). if b then refuses TooBig else if length block.now == 0 then replies (r_write (score [])) else by_score score c h kind block.now) (lt-ltb MAX_BLOCK (length block.now) big))
      tt (λ ns. refl) (λ why e. let same : TooBig ≡ why = cc in plain_told score k kind block.now TooBig why tt same)

  no_bytes : (bytes : List ℕ) → length bytes ≡ 0 → bytes ≡ []
  no_bytes bytes is = empty bytes is
    where
      empty : (xs : List ℕ) → length xs ≡ 0 → xs ≡ []
      empty [] e = refl
      empty (x ∷ xs) e = absurd (omega (arith, e))

  pub empty_write : (s : ScoreOf) → is_kind kind ≡ true → length block.now ≡ 0 → s.0 ≡ score block.now → Steps score disk (Ask session (asks.Write kind block) now) (says (Score s) k) k k
  empty_write s own empty scored = early_steps score disk k gives w session now (asks.Write kind block) none (Score s) (λ e. cc)
      (λ reaches. absurd (omega (arith, reaches.some, empty)))
      (λ c h. ap (λ (b : Bool). if not b then refuses BadType else if nat_lt MAX_BLOCK (length block.now) then refuses TooBig
      else if length block.now == 0 then replies (r_write (score [])) else by_score score c h kind block.now) own
      ∙ ap (λ (b : Bool). if b then refuses TooBig else if length block.now == 0 then replies (r_write (score [])) else by_score score c h kind block.now) (le-ltb MAX_BLOCK (length block.now) (omega (arith, empty)))
      ∙ ap (λ (n : ℕ). if n == 0 then replies (r_write (score [])) else by_score score c h kind block.now) empty
      ∙ ap (λ (x : List ℕ). replies (r_write x)) (sym (scored ∙ ap score (no_bytes block.now empty))))
      tt (λ ns. refl) (λ why e. absurd (cc))

  module _ (is : IsBlock (record { kind = kind; bytes = block.now })) where
    -- the log or the shard has stopped
    pub stops_write : (call : ℕ) → stop_for score k (write kind block.now) ≡ Some call → Steps score disk (Ask session (asks.Write kind block) now) (says (Refused (Stopped call)) k) k k
    stops_write call stop = stopped_steps score disk k gives w session now (asks.Write kind block) none call is stop (λ c. (part_stopped log_part call, refl, (is, inl refl)))

    module _ (goes : stop_for score k (write kind block.now) ≡ None) where
      performs_write : (said : Said) (new : CoreState D) → Performs score disk session (write kind block.now) now (says said k) k new → ((why : Why) → said ≡ Refused why → MayBeTold score k (write kind block.now) why)
          → AnswersRequest score disk session (write kind block.now) now (says said k) k new
      performs_write said new it told = record {
        waits = λ number at. absurd (waits_or_not k session number none at);
        serves = λ _. record {
          early = λ far. absurd (far is);
          stopped = λ _ call stop. let no : None ≡ Some call = sym goes ∙ stop in absurd (cc);
          performs = λ _ _. it;
        };
        cause = λ why e. told why (said_is k said (Refused why) e);
      }

      -- the score is the zero score
      pub zero_write : score block.now ≡ score [] → ((h : History) → collides score h block.now ≡ true)
          → Steps score disk (Ask session (asks.Write kind block) now) (says (Refused Collision) k) k k
      zero_write zero both = still_steps score disk k gives w session now (asks.Write kind block) (says (Refused Collision) k)
          (λ h tells sound. (none, sound.log.front, inl ((λ e. cc), inr (record { answer_is = collision score (setup_of k) h kind block.now is (both h); same = refl }))))
          tt (λ ns. refl)
          (performs_write (Refused Collision) k
          (subst (λ (b : Bool). MatchBool b ((says (Refused Collision) k ≡ says (Refused Collision) k) × (k ≡ k)) (AnswersWriteOperation score disk (record { score = record { 0 = score block.now }; kind = kind }) block.now now (says (Refused Collision) k) k k))
          (sym ((bytes_eq-Decides (score block.now) (score [])).1 zero)) (refl, refl))
          (λ why e. let same : Collision ≡ why = cc in plain_told score k kind block.now Collision why tt same))

-- ---- a block that was tested, and isn't new

-- what is said of it
abbrev pub said_of : Key → Result Verdict Why → Said
said_of key (Ok verdict) = Score key.score
said_of key (Err why) = Refused why

module _ {D : Type 0} (score : List ℕ → List ℕ) (disk : DiskOf D) (k new : CoreState D) (gives : GivesPrefix disk) (w : IsWhole disk k) (session now : ℕ) (none : WaitsForNone k.waiting session)
    (kind : ℕ) (block : Bor (List ℕ)) (is : IsBlock (record { kind = kind; bytes = block.now })) (goes : stop_for score k (write kind block.now) ≡ None) (nonzero : score block.now ≢ score [])
    (verdict : Result Verdict Why) (it : TestsBlock score disk (record { score = record { 0 = score block.now }; kind = kind }) block.now verdict k new) where
  abbrev key : Key
  key = record { score = record { 0 = score block.now }; kind = kind }

  abbrev after : CoreState D
  after = mid score disk k (score block.now) it.before it.after it.may_have it.looks_in verdict it.looks

  refusal_undamaged : (why : Why) → IsWriteRefusal why → IsUndamagedWhy why
  refusal_undamaged Collision ok = tt
  refusal_undamaged IndexFull ok = tt
  refusal_undamaged ArenasFull ok = tt
  refusal_undamaged BadType ok = tt
  refusal_undamaged TooBig ok = tt
  refusal_undamaged TooSmall ok = tt
  refusal_undamaged Absent ok = tt
  refusal_undamaged DiskFault ok = tt
  refusal_undamaged (Stopped n) ok = tt
  refusal_undamaged NoMemory ok = tt
  refusal_undamaged (Damaged site want found) ok = absurd ok

  tested_gives : (h : History) (v : Result Verdict Why) → v ≢ Ok New → JudgesWrite score (setup_of k) h key block.now v
      → MatchResult v (λ _. NoneRose disk it.before it.after) (λ why. CountsWhy why (each_of disk.faults k) (each_of disk.faults after)) → machine_of after h ≡ machine_of k h
      → ((write kind block.now ≢ sync) × GivesAnswer score (write kind block.now) (said_of key v) (machine_of k h) (machine_of after h))
      ⊎ FailsIn score (write kind block.now) (said_of key v) (machine_of k h) (machine_of after h)
  tested_gives h (Ok Held) old judged counts same = inl ((λ e. cc), inr (record { answer_is = judged; same = same }))
  tested_gives h (Ok New) old judged counts same = absurd (old refl)
  tested_gives h (Err why) old judged counts same = ⊎_elim
      (λ may. inr (fails_in score disk k after (write kind block.now) why may is tt counts (machine_of k h) (machine_of after h) same))
      (λ refused. inl ((λ e. cc), inr (record { answer_is = refused.1; same = same })))
      judged

  tested_undamaged : (h : History) (v : Result Verdict Why) → JudgesWrite score (setup_of k) h key block.now v → IsUndamagedSaid (said_of key v)
  tested_undamaged h (Ok v) judged = tt
  tested_undamaged h (Err why) judged = ⊎_elim (λ may. undamaged_why why may) (λ refused. refusal_undamaged why refused.0) judged

  tested_whys : (v : Result Verdict Why) → MatchResult v (λ _. NoneRose disk it.before it.after) (λ why. CountsFailure disk why it.before it.after)
      → MatchResult v (λ _. NoneRose disk it.before it.after) (λ why. CountsWhy why (each_of disk.faults k) (each_of disk.faults after))
  tested_whys (Ok v) counts = counts
  tested_whys (Err why) counts = mid_counts score disk k (score block.now) it.before it.after it.may_have it.looks_in verdict it.looks why counts

  tested_counts : (v : Result Verdict Why) → MatchResult v (λ _. NoneRose disk it.before it.after) (λ why. CountsWhy why (each_of disk.faults k) (each_of disk.faults after))
      → CountsSaid (said_of key v) (each_of disk.faults k) (each_of disk.faults after)
  tested_counts (Ok v) counts = mid_none score disk k (score block.now) it.before it.after it.may_have it.looks_in verdict it.looks counts
  tested_counts (Err why) counts = counts

  tested_told : (v : Result Verdict Why) → IfErr v MayEndLook → (why : Why) → said_of key v ≡ Refused why → MayBeTold score k (write kind block.now) why
  tested_told (Ok v) ends why e = absurd (cc)
  tested_told (Err first) ends why e = let same : first ≡ why = cc in
      subst (λ (x : Why). MayBeTold score k (write kind block.now) x) same (may_be_told score k (write kind block.now) first is tt tt ends)

  tested_ends : (v : Result Verdict Why) → v ≢ Ok New → (m : CoreState D) → m ≡ with_parts (shard_of k (score block.now)) it.after k → EndsWrite score key block.now now v it.after (says (said_of key v) k) k m
  tested_ends (Ok Held) old m same = (refl, same)
  tested_ends (Ok New) old m same = absurd (old refl)
  tested_ends (Err why) old m same = (refl, same)

  pub tested_steps : verdict ≢ Ok New → Steps score disk (Ask session (asks.Write kind block) now) (says (said_of key verdict) k) k new
  tested_steps old =
      let i : ℕ = shard_of k (score block.now) in
      let same = mid_is score disk k (score block.now) it.before it.after it.may_have it.looks_in verdict it.looks in
      let reads = log_reads score disk k (score block.now) it.before it.after it.may_have it.looks_in verdict it.looks in
      let whys = tested_whys verdict it.looks.counts in
      subst (λ (m : CoreState D). Steps score disk (Ask session (asks.Write kind block) now) (says (said_of key verdict) k) k m) (sym (it.new_is ∙ same)) (record {
        machine = λ tells h sound.
            let quiet = reads_machine score disk k i it.before.shard it.after.shard it.after.log.disks it.looks_in.shard reads it.looks.shard w h in (
              h,
              (none, sound.log.front, tested_gives h verdict old (it.judged h tells sound is refl nonzero) whys quiet),
              mid_sound score disk k (score block.now) it.before it.after it.may_have it.looks_in verdict it.looks it.stay tells h sound,
            );
        crash = λ tells. reads_crash score disk k i it.before.shard it.after.shard it.after.log.disks it.looks_in.shard reads it.looks.shard gives;
        undamaged = λ h tells sound. tested_undamaged h verdict (it.judged h tells sound is refl nonzero);
        does = performs_write score disk k gives w session now none kind block is goes (said_of key verdict) after
            (subst (λ (b : Bool). MatchBool b ((says (said_of key verdict) k ≡ says (Refused Collision) k) × (after ≡ k)) (AnswersWriteOperation score disk key block.now now (says (said_of key verdict) k) k after))
            (sym (false_from_ne_true (bytes_eq (score block.now) (score [])) (λ e. nonzero ((bytes_eq-Decides (score block.now) (score [])).0 e))))
            (record {
              before = it.before;
              tested = it.after;
              may_have = it.may_have;
              verdict = verdict;
              looks = it.looks_in;
              tests = it.tests;
              ends = tested_ends verdict old after (sym same);
            }))
            (tested_told verdict (mid_ends score disk k (score block.now) it.before it.after it.may_have it.looks_in verdict it.looks w));
        calls = reads_only score disk k i it.before.shard it.after.shard it.after.log.disks it.looks_in.shard reads it.looks.shard;
        counts = tested_counts verdict whys;
        stops = reads_stops score disk k i it.before.shard it.after.shard it.after.log.disks it.looks_in.shard reads it.looks.shard (says (said_of key verdict) k);
        goes_on = reads_go_on score disk k i it.before.shard it.after.shard it.after.log.disks it.looks_in.shard reads it.looks.shard w;
      })
