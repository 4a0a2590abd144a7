-- What operations give and leave, where the store's devices are sound.
use Rattle.std.proofs.Common.{◌≡◌, ⊎_elim, inl, inr, ℕ, ◌*◌, ◌≤◌, List, [], ◌∷◌, Bool, true, false, cond, Option, Some, None, Result, Ok, IsTrue, length, refl, sym, ◌∙◌, ap, subst, arith}
use Rattle.std.specs.List.{AllByRecursion}
use Rattle.std.specs.Prelude.{min, nat_lt, not}
use Rattle.vt_base.specs.Kind.{is_kind}
use Rattle.vt_base.specs.Operations.{operation_of, reply_saying, result_of}
use Rattle.vt_base.specs.Protocol.{Operation, ping, read, write, sync, RMessage, r_sync}
use Rattle.vt_base.specs.declared.TheConstants.{MAX_BLOCK}
use Rattle.vt_base.specs.declared.answer.Said.{Said}
use Rattle.vt_base.specs.declared.answer.Said.TheVariants.{Score, Block, Synced, Refused}
use Rattle.vt_base.specs.declared.why.Why.{Why}
use Rattle.vt_disk.specs.Members.{DiskOf}
use Rattle.vt_model.specs.Answer.{Outcome, answer, lends, replies, with_added}
use Rattle.vt_model.specs.Causes.{Cause, disk_fault, stopped, damaged, no_memory, why_of}
use Rattle.vt_model.specs.History.{Accepted, History, held}
use Rattle.vt_model.specs.Places.{Setup}
use Rattle.vt_recover.proofs.Held.{held_twice, hold_still}
use Rattle.vt_handler.specs.Serving.{asked_of_store, reply_in, tells_failure}
use Rattle.vt_handler.specs.Taking.{DoesCalls, DoesOne}
use Rattle.vt_core.specs.Causes.{READS_MOST, IsUndamagedSaid, OnlyReadFrom}
use Rattle.vt_core.specs.Core.{CoreState, devices_of, machine_of, setup_of}
use Rattle.vt_core.specs.Files.{all_of}
use Rattle.vt_core.specs.Machine.{Machine}
use Rattle.vt_core.specs.Sound.{IsSound}
use Rattle.vt_requests.specs.Answers.{IsServed}
use Rattle.vt_requests.specs.Driven.{DoesRequest, DrivenState}
use Rattle.vt_use.specs.Answers.{AreModelAnswers, GoesOnAs, HasFailed, IsCovered}
use Rattle.vt_use.specs.Stores.{Exchange, AddsNothing, store_on}
use Rattle.vt_use.proofs.Keeps.{calls_keep, one_keeps}

said_so : (said : Said) → reply_in (result_of said) ≡ reply_saying said
said_so (Score given) = refl
said_so (Block bytes) = refl
said_so Synced = refl
said_so (Refused why) = refl

cause_fails : (cause : Cause) → tells_failure (why_of cause) ≡ true
cause_fails (disk_fault before after) = refl
cause_fails (stopped part call) = refl
cause_fails (damaged site want found) = refl
cause_fails no_memory = refl

-- ---- what adds nothing

cond_adds : (b : Bool) (x y : Outcome) → x.added ≡ None → y.added ≡ None
    → (cond b x y).added ≡ None
cond_adds true x y none other = none
cond_adds false x y none other = other

lends_none : (count : ℕ) (o : Option (List ℕ)) → (lends count o).added ≡ None
lends_none count None = refl
lends_none count (Some b) = cond_adds (nat_lt count (length b)) _ _ refl refl

adds_none : (score : List ℕ → List ℕ) (c : Setup) (h : History) (s : List ℕ) (kind count : ℕ)
    → (answer score c h (read s kind count)).added ≡ None
adds_none score c h s kind count =
    cond_adds (not (is_kind kind)) _ _ refl (lends_none count (held score h s kind))

pub stays : (score : List ℕ → List ℕ) (c : Setup) (h next : History) (s : List ℕ)
    (kind count : ℕ) (reply : Result RMessage Why) → GoesOnAs score c (read s kind count, reply) h next
    → next ≡ h
stays score c h next s kind count reply how = ⊎_elim
    (λ model. model.1 ∙ ap (λ (o : Option Accepted). with_added h o)
    (adds_none score c h s kind (min count MAX_BLOCK)))
    (λ failed. failed.1) how

-- ---- one operation

-- a history behind an operation, which the devices are sound for
pub record Goes {D : Type 0} (score : List ℕ → List ℕ) (disk : DiskOf D) (c : Setup)
    (asked : Exchange) (h : History) (new : CoreState D) : Type 0 where
  pub next : History
  pub sound : IsSound score disk new next
  pub how : GoesOnAs score c asked h next
  pub covered : IsCovered asked next new.log.durable

module _ {D : Type 0} (score : List ℕ → List ℕ) (disk : DiskOf D)
    (tells : IsTrue disk.tells) where
  module _ (m : Operation) (h next : History) (old new : CoreState D) where
    given : (said : Said) (outcome : Outcome)
        → answer score (setup_of old) h (asked_of_store m) ≡ outcome
        → outcome.reply ≡ reply_saying said → next ≡ with_added h outcome.added
        → GoesOnAs score (setup_of old) (m, result_of said) h next
    given said outcome is reply goes = inl (
      said_so said ∙ sym reply ∙ sym (ap (λ (o : Outcome). o.reply) is),
      goes ∙ ap (λ (o : Outcome). with_added h o.added) (sym is),
    )

    served : (said : Said) → IsUndamagedSaid said
        → IsServed score (asked_of_store m) said (machine_of old h) (machine_of new next)
        → GoesOnAs score (setup_of old) (m, result_of said) h next
    served said undamaged how = ⊎_elim
        (λ gives. ⊎_elim
        (λ accepts. given said _ accepts.answer_is refl
        (ap (λ (x : Machine). x.history) accepts.new_is))
        (λ answers. given said _ answers.answer_is refl
        (ap (λ (x : Machine). x.history) answers.same))
        gives.1)
        (λ rest. ⊎_elim
        (λ synced. given said (replies r_sync)
        (ap (λ (x : Operation). answer score (setup_of old) h x) synced.0)
        (ap reply_saying (sym synced.1.0)) (ap (λ (x : Machine). x.history) synced.1.1))
        (λ fails. inr (
          subst (λ (s : Said). HasFailed (result_of s)) (sym fails.1) (
            cause_fails fails.0,
            subst (λ (s : Said). IsUndamagedSaid s) fails.1 undamaged,
          ),
          ap (λ (x : Machine). x.history) fails.3,
        ))
        rest)
        how

  -- what was accepted before a sync is durable behind it
  synced : (said : Said) → result_of said ≡ Ok r_sync → said ≡ Synced
  synced (Score given) is = absurd (cc)
  synced (Block bytes) is = absurd (cc)
  synced Synced is = refl
  synced (Refused why) is = absurd (cc)

  request_covered : (m : Operation) (reply : Result RMessage Why) (d d' : DrivenState D)
      (h next : History) → IsSound score disk d.core h → DoesRequest score disk m reply d d'
      → GoesOnAs score (setup_of d.core) (m, reply) h next
      → IsCovered (m, reply) next d'.core.log.durable
  request_covered m reply d d' h next sound it how = λ is.
      let is_sync : m ≡ sync = ap (λ (e : Exchange). e.0) is in
      let is_done : reply ≡ Ok r_sync = ap (λ (e : Exchange). e.1) is in
      let covered = it.answers.covered (synced it.answer.said (it.says ∙ is_done)) in
      let same : next ≡ h = ⊎_elim
      (λ model. model.1 ∙ ap (λ (o : Operation).
      with_added h (answer score (setup_of d.core) h (asked_of_store o)).added) is_sync)
      (λ failed. failed.1) how in
      omega (arith, covered, sound.log.front, ap (λ (l : History). length l) same)

  pub request_goes : (m : Operation) (reply : Result RMessage Why) (d d' : DrivenState D)
      (h : History) → IsSound score disk d.core h → DoesRequest score disk m reply d d'
      → Goes score disk (setup_of d.core) (m, reply) h d'.core
  request_goes m reply d d' h sound it =
      let done = it.answers.serves h tells sound in
      let how = subst (λ (r : Result RMessage Why). GoesOnAs score (setup_of d.core) (m, r) h done.0)
      it.says
      (served m h done.0 d.core d'.core it.answer.said (it.answers.undamaged h tells sound)
      (subst (λ (o : Operation). IsServed score o it.answer.said (machine_of d.core h)
      (machine_of d'.core done.0)) it.asks done.1)) in
      record {
        next = done.0;
        sound = done.2;
        how = how;
        covered = request_covered m reply d d' h done.0 sound it how;
      }

  pub one_goes : (m : Operation) (reply : Result RMessage Why) (d d' : DrivenState D)
      (h : History) → IsSound score disk d.core h → DoesOne (store_on score disk) d m reply d'
      → Goes score disk (setup_of d.core) (m, reply) h d'.core
  one_goes ping reply d d' h sound it = record {
    next = h;
    sound = subst (λ (e : DrivenState D). IsSound score disk e.core h) (sym it.1) sound;
    how = inl (ap reply_in it.0, refl);
    covered = λ is. let no : ping ≡ sync = ap (λ (e : Exchange). e.0) is in absurd (cc);
  }
  one_goes (read s kind count) reply d d' h sound it =
      request_goes (read s kind count) reply d d' h sound it
  one_goes (write kind bytes) reply d d' h sound it =
      request_goes (write kind bytes) reply d d' h sound it
  one_goes sync reply d d' h sound it = request_goes sync reply d d' h sound it

  -- ---- several

  -- what is durable stays so
  stays_covered : (exchange : Exchange) (next : History) (a b : ℕ) → a ≤ b
      → IsCovered exchange next a → IsCovered exchange next b
  stays_covered exchange next a b low it = λ is. omega (arith, it is, low)

  pub calls_answered : (calls : List Exchange) (c : Setup) (d last : DrivenState D) (h : History)
      → setup_of d.core ≡ c → IsSound score disk d.core h
      → DoesCalls (store_on score disk) d calls last
      → (end : History) × IsSound score disk last.core end
      × AreModelAnswers score c h calls end last.core.log.durable
  calls_answered [] c d last h same sound it =
      (h, subst (λ (e : DrivenState D). IsSound score disk e.core h) (sym it) sound, refl)
  calls_answered (call ∷ calls) c d last h same sound it =
      let first = one_goes call.0 call.1 d it.0 h sound it.1 in
      let keeps = one_keeps disk score d it.0 call.0 call.1 it.1 in
      let behind = calls_keep disk score it.0 last calls it.2 in
      let more = calls_answered calls c it.0 last first.next
      (keeps.core.store.setup ∙ same) first.sound it.2 in (
        more.0,
        more.1,
        (
          first.next,
          subst (λ (s : Setup). GoesOnAs score s call h first.next) same first.how,
          stays_covered call first.next it.0.core.log.durable last.core.log.durable
              behind.core.store.durable first.covered,
          more.2,
        ),
      )

  -- ---- what only reads

  pub record ReadsOnly (most : ℕ) (h : History) (d d' : DrivenState D) : Type 0 where
    pub sound : IsSound score disk d'.core h
    pub reads : OnlyReadFrom disk most (all_of (devices_of d.core)) (all_of (devices_of d'.core))

  reads_none : (most : ℕ) (h : History) (d d' : DrivenState D) → IsSound score disk d.core h
      → d' ≡ d → ReadsOnly most h d d'
  reads_none most h d d' sound same = subst (λ (e : DrivenState D). ReadsOnly most h d e) (sym same)
      (record {
        sound = sound;
        reads = record {
          same = hold_still disk (all_of (devices_of d.core));
          calls = λ is. omega arith;
        };
      })

  one_only : (m : Operation) (reply : Result RMessage Why) (d d' : DrivenState D) (h : History)
      → IsSound score disk d.core h → AddsNothing (m, reply)
      → DoesOne (store_on score disk) d m reply d' → ReadsOnly READS_MOST h d d'
  one_only ping reply d d' h sound is it = absurd is
  one_only (read s kind count) reply d d' h sound is it =
      let went = request_goes (read s kind count) reply d d' h sound it in
      let asks : operation_of it.asked ≡ read s kind (min count MAX_BLOCK) = it.asks in
      record {
        sound = subst (λ (l : History). IsSound score disk d'.core l)
            (stays score (setup_of d.core) h went.next s kind count reply went.how) went.sound;
        reads = it.answers.reads h tells sound
            (λ same. let no : read s kind (min count MAX_BLOCK) ≡ sync = sym asks ∙ same in cc)
            (ap (λ (o : Operation). (answer score (setup_of d.core) h o).added) asks
            ∙ adds_none score (setup_of d.core) h s kind (min count MAX_BLOCK));
      }
  one_only (write kind bytes) reply d d' h sound is it = absurd is
  one_only sync reply d d' h sound is it = absurd is

  pub calls_only : (calls : List Exchange) (d last : DrivenState D) (h : History)
      → IsSound score disk d.core h → AllByRecursion AddsNothing calls
      → DoesCalls (store_on score disk) d calls last
      → ReadsOnly (READS_MOST * length calls) h d last
  calls_only [] d last h sound all it = reads_none 0 h d last sound it
  calls_only (call ∷ calls) d last h sound all it =
      let first = one_only call.0 call.1 d it.0 h sound all.0 it.1 in
      let more = calls_only calls it.0 last h first.sound all.1 it.2 in
      record {
        sound = more.sound;
        reads = record {
          same = held_twice disk (all_of (devices_of d.core)) (all_of (devices_of it.0.core))
              (all_of (devices_of last.core)) first.reads.same more.reads.same;
          calls = λ is. omega (arith, first.reads.calls is, more.reads.calls is);
        };
      }
