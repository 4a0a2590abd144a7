-- A store on devices as the store that a session asks: how it serves an operation.
use Rattle.std.proofs.Common.{◌≡◌, ◌≢◌, ◌⊎◌, ⊎_elim, inl, inr, ◌<◌, ◌≤◌, ◌^◌, ℕ, Bool, true, false, cond, List, [], ◌∷◌, ◌++◌, length, take, append-nil, length-append, Option, Some, None, Err, refl, sym, ◌∙◌, ap, subst, arith}
use Rattle.std.proofs.Math.Seq.{take-append_seam}
use Rattle.std.proofs.lemmas.Bool.{cases_Bool, cases_lt, false≢true, le-ltb, lt-ltb}
use Rattle.std.proofs.lemmas.List.Elements.{All-get_or}
use Rattle.std.proofs.lemmas.Option.{get_or_from_slice_get, slice_get_within}
use Rattle.std.proofs.lemmas.Slice.Eq.{bytes_eq-Decides}
use Rattle.std.specs.List.{All, Contains, find}
use Rattle.std.specs.Option.{option_map, option_to_list}
use Rattle.std.specs.Prelude.{min, nat_lt, not, slice_get, slice_index}
use Rattle.std.specs.Str.{bytes_eq}
use Rattle.vt_base.specs.Kind.{is_kind}
use Rattle.vt_base.specs.Protocol.{Operation, RMessage, ping, read, write, sync, r_read, r_refused, why_words}
use Rattle.vt_base.specs.declared.TheConstants.{MAX_BLOCK}
use Rattle.vt_base.specs.declared.answer.Answer.{Answer}
use Rattle.vt_base.specs.declared.answer.Said.{Said}
use Rattle.vt_base.specs.declared.answer.Said.TheVariants.{Score, Block, Synced, Refused}
use Rattle.vt_base.specs.declared.why.Why.{Why}
use Rattle.vt_base.specs.declared.why.Why.TheVariants.{BadType, TooBig, TooSmall, Absent, Collision, IndexFull, ArenasFull, DiskFault, Stopped, Damaged, NoMemory}
use Rattle.vt_disk.specs.Members.{DiskOf}
use Rattle.vt_model.specs.Answer.{Outcome, answer, answer_to_read, lends, refuses, replies, with_added}
use Rattle.vt_model.specs.History.{Accepted, History, IsBlock, has_key, held}
use Rattle.vt_model.specs.Legal.{IsLegal}
use Rattle.vt_model.specs.Places.{Setup}
use Rattle.vt_model.proofs.Added.{added-refused}
use Rattle.vt_model.proofs.Numbers.{held-by}
use Rattle.vt_model.specs.Causes.{MayFail, NoneFell, ReachesParts, TakesMemory, WritesTo, Cause, Part, disk_fault, stopped, damaged, no_memory, why_of}
use Rattle.vt_session.specs.Answered.{AreToldBy, IsAddedAt}
use Rattle.vt_handler.specs.Condition.{Condition, ConditionGoesOn, IsNoDamage, IsNoFault, faults_over}
use Rattle.vt_handler.specs.Serving.{AnswersAsModel, FailsForCause, IsOfDurable, Lengthens, ServesOperation, TellsCause, tells_failure}
use Rattle.vt_base.specs.declared.operation.Operation.{Operation as Asked}
use Rattle.vt_core.specs.Causes.{CountsSaid, IsUndamagedSaid, IsUndamagedWhy}
use Rattle.vt_core.specs.Core.{devices_of, each_of, machine_of, setup_of}
use Rattle.vt_base.specs.Operations.{operation_of, reply_saying}
use Rattle.vt_core.specs.Events.{GivesAnswer}
use Rattle.vt_core.specs.Files.{all_of}
use Rattle.vt_core.specs.Machine.{Machine}
use Rattle.vt_core.specs.Sound.{IsSound}
use Rattle.vt_core.proofs.AskWork.{one_rose}
use Rattle.vt_requests.specs.Answers.{DrivesRequest, IsServed}
use Rattle.vt_base.specs.Operations.{result_of}
use Rattle.vt_handler.specs.Serving.{asked_of_store}
use Rattle.vt_requests.specs.Driven.{DoesRequest, DrivenState, HoldsOn, condition_of, stops_in}
use Rattle.vt_requests.proofs.DrivenStops.{stop_known, stops_in_same, stops_stay}
use Rattle.vt_requests.proofs.EndsAll.{why_fell}
use Rattle.vt_requests.proofs.Risen.{AllFit, fits_in, same_fell}
use Rattle.vt_requests.proofs.Told.{Told}

-- ---- a read asks for no more than a block may have

-- what a legal history holds isn't too long
held_most : (score : List ℕ → List ℕ) (h : History) → All (λ e. IsBlock e.block) h → (s : List ℕ) (kind : ℕ) (b : List ℕ) → held score h s kind ≡ Some b → length b ≤ MAX_BLOCK
held_most score h blocks s kind b is = ⊎_elim
    (λ zero_score.
    let here : Some [] ≡ Some b = ap (λ (t : Bool). cond t (Some []) (option_map (λ (x : Accepted). x.block.bytes) (find (has_key score s kind) h))) (sym zero_score) ∙ is in
    let none : [] ≡ b = cc in
    omega (arith, ap length none))
    (λ other.
    let nonzero : s ≡ score [] → ⊥ = λ same. false≢true (sym other ∙ (bytes_eq-Decides s (score [])).1 same) in
    let found = held-by score h s kind b nonzero is in
    let at : slice_get h found.0 ≡ Some found.1.block = found.1.stands in
    let known = subst (λ (x : Accepted). IsBlock x.block) (get_or_from_slice_get h found.0 found.1.block found.1.block at)
    (All-get_or (λ (x : Accepted). IsBlock x.block) h found.0 found.1.block (slice_get_within h found.0 found.1.block at) blocks) in
    omega (arith, known.most, ap length found.2))
    (cases_Bool (bytes_eq s (score [])))

-- so the model's reply is the same
read_same : (score : List ℕ → List ℕ) (h : History) (s : List ℕ) (kind count : ℕ) → ((b : List ℕ) → held score h s kind ≡ Some b → length b ≤ MAX_BLOCK)
    → answer_to_read score h s kind (min count MAX_BLOCK) ≡ answer_to_read score h s kind count
read_same score h s kind count most = ap (λ (o : Outcome). cond (not (is_kind kind)) (refuses BadType) o) (lends_same (held score h s kind) most)
  where
    same_test : (b : List ℕ) → length b ≤ MAX_BLOCK → nat_lt (min count MAX_BLOCK) (length b) ≡ nat_lt count (length b)
    same_test b few = ⊎_elim
        (λ less. lt-ltb (min count MAX_BLOCK) (length b) (omega (arith, less)) ∙ sym (lt-ltb count (length b) less))
        (λ more. le-ltb (min count MAX_BLOCK) (length b) (omega (arith, more, few)) ∙ sym (le-ltb count (length b) more))
        (cases_lt count (length b))

    lends_same : (o : Option (List ℕ)) → ((b : List ℕ) → o ≡ Some b → length b ≤ MAX_BLOCK) → lends (min count MAX_BLOCK) o ≡ lends count o
    lends_same None few = refl
    lends_same (Some b) few = ap (λ (t : Bool). cond t (refuses TooSmall) (replies (r_read b))) (same_test b (few b refl))

asked_same : (score : List ℕ → List ℕ) (c : Setup) (h : History) (m : Operation) → IsLegal score c h → answer score c h (asked_of_store m) ≡ answer score c h m
asked_same score c h ping legal = refl
asked_same score c h sync legal = refl
asked_same score c h (write kind bytes) legal = refl
asked_same score c h (read s kind count) legal = read_same score h s kind count (held_most score h legal.blocks s kind)

-- it comes as far, writes to the same parts, and takes memory as well
asked_reaches : (score : List ℕ → List ℕ) (m : Operation) → ReachesParts score (asked_of_store m) → ReachesParts score m
asked_reaches score ping it = it
asked_reaches score sync it = it
asked_reaches score (write kind bytes) it = it
asked_reaches score (read s kind count) it = it

asked_writes : (score : List ℕ → List ℕ) (c : Setup) (m : Operation) (part : Part) → WritesTo score c (asked_of_store m) part → WritesTo score c m part
asked_writes score c ping part it = it
asked_writes score c sync part it = it
asked_writes score c (write kind bytes) part it = it
asked_writes score c (read s kind count) part it = it

asked_takes : (m : Operation) → TakesMemory (asked_of_store m) → TakesMemory m
asked_takes ping it = it
asked_takes sync it = it
asked_takes (write kind bytes) it = it
asked_takes (read s kind count) it = it

asked_sync : (m : Operation) → asked_of_store m ≡ sync → m ≡ sync
asked_sync ping is = absurd (cc)
asked_sync sync is = refl
asked_sync (write kind bytes) is = absurd (cc)
asked_sync (read s kind count) is = absurd (cc)

-- ---- counts

said_fell : (said : Said) (old new : List ℕ) → AllFit old → CountsSaid said old new → NoneFell old new
said_fell (Score score) old new fit is = λ i. omega (arith, ap (λ (ns : List ℕ). slice_index ns i) is)
said_fell (Block bytes) old new fit is = λ i. omega (arith, ap (λ (ns : List ℕ). slice_index ns i) is)
said_fell Synced old new fit is = λ i. omega (arith, ap (λ (ns : List ℕ). slice_index ns i) is)
said_fell (Refused why) old new fit is = why_fell why old new fit is

-- ---- a history goes on by what is added

last_stands : (h : History) (o : Option Accepted) → IsAddedAt (with_added h o) (length h) o
last_stands h None = tt
last_stands [] (Some e) = refl
last_stands (x ∷ h) (Some e) = last_stands h (Some e)

added_is : (h : History) (o : Option Accepted) → with_added h o ≡ h ++ option_to_list o
added_is h None = sym (append-nil h)
added_is h (Some e) = refl

lengthens : (h : History) (o : Option Accepted) → Lengthens Bool.true h (with_added h o) (length h) o
lengthens h o = record {
  later = option_to_list o;
  new_is = added_is h o;
  low = omega arith;
  high = omega (arith, ap length (added_is h o), length-append h (option_to_list o));
  stands = last_stands h o;
  alone_is = λ alone. (refl, refl);
}

-- ---- what is said

-- it tells of no failure
abbrev IsFine : Said → Type 0
IsFine said = (why : Why) → said ≡ Refused why → tells_failure why ≡ false

cause_tells : (cause : Cause) → tells_failure (why_of cause) ≡ false → ⊥
cause_tells (disk_fault before after) is = cc
cause_tells (stopped part call) is = cc
cause_tells (damaged site want found) is = cc
cause_tells no_memory is = cc

abbrev refused_inside : Said → (o : Why) → Why
refused_inside (Refused why) o = why
refused_inside (Score given) o = o
refused_inside (Block bytes) o = o
refused_inside Synced o = o

-- an operation is one of a store that is this one
pub asked : {D : Type 0} (score : List ℕ → List ℕ) (disk : DiskOf D) (m : Operation) (r : Asked) (a : Answer) (said : Said) (x old new : DrivenState D) → x ≡ old → new.now ≡ x.now → a.said ≡ said
    → operation_of r ≡ asked_of_store m → DrivesRequest score disk 0 r x.now a x.core new.core → DoesRequest score disk m (result_of said) old new
asked {D} score disk m r a said x old new is time says asks it = record {
  asked = r;
  answer = a;
  asks = asks;
  says = ap result_of says;
  answers = subst (λ (y : DrivenState D). DrivesRequest score disk 0 r y.now a y.core new.core) is it;
  time = time ∙ ap (λ (y : DrivenState D). y.now) is;
}

-- all that it tells but its events
pub told_of : {D : Type 0} (score : List ℕ → List ℕ) (disk : DiskOf D) (m : Operation) (r : Asked) (a : Answer) (x old new : DrivenState D) → x ≡ old
    → operation_of r ≡ asked_of_store m → DrivesRequest score disk 0 r x.now a x.core new.core → Told score disk (asked_of_store m) a old.core new.core
told_of {D} score disk m r a x old new is asks it =
    subst (λ (y : DrivenState D). Told score disk (asked_of_store m) a y.core new.core) is
    (subst (λ (q : Operation). Told score disk q a x.core new.core) asks (record {
      at = it.at;
      one_more = it.one_more;
      suits = it.suits;
      keeps = it.keeps;
      stops = it.stops;
      counts = it.counts;
      cause = it.cause;
      covered = it.covered;
      serves = it.serves;
      undamaged = it.undamaged;
    }))

module _ {D : Type 0} (score : List ℕ → List ℕ) (disk : DiskOf D) (fit : (d : D) → disk.faults d < 2 ^ 64) (m : Operation) (a : Answer) (old new : DrivenState D)
    (it : Told score disk (asked_of_store m) a old.core new.core) where
  counts_fell : NoneFell (each_of disk.faults old.core) (each_of disk.faults new.core)
  counts_fell = said_fell a.said (each_of disk.faults old.core) (each_of disk.faults new.core) (fits_in disk.faults fit (all_of (devices_of old.core))) it.counts

  pub goes_on : ConditionGoesOn (condition_of disk old) (condition_of disk new)
  goes_on = record {
    setup = it.keeps.store.setup;
    alone = λ yes. yes;
    faults = counts_fell;
    stops = stops_stay old.core new.core it.keeps.store.shards it.stops.stay;
    durable = it.keeps.store.durable;
  }

  same_stops : a.said ≢ Refused DiskFault → stops_in new.core ≡ stops_in old.core
  same_stops other = stops_in_same old.core new.core it.keeps.store.shards (it.stops.cause other)

  -- the part that had stopped to which it writes
  stop_here : (call : ℕ) → a.said ≡ Refused (Stopped call) → (part : Part) × WritesTo score (setup_of old.core) m part × Contains (stops_in new.core) (part, call)
  stop_here call is =
      let known = stop_known score (asked_of_store m) old.core call (it.cause (Stopped call) is).1 in
      let same = same_stops (λ e. let no : Refused (Stopped call) ≡ Refused DiskFault = sym is ∙ e in cc) in
      (known.0, asked_writes score (setup_of old.core) m known.0 known.1, subst (λ (l : List (Part × ℕ)). Contains l (known.0, call)) (sym same) known.2)

  tells : (why : Why) → a.said ≡ Refused why → TellsCause {X = RMessage} (condition_of disk old) (condition_of disk new) (Err why)
  tells DiskFault is =
      one_rose (each_of disk.faults old.core) (each_of disk.faults new.core) (subst (λ (s : Said). CountsSaid s (each_of disk.faults old.core) (each_of disk.faults new.core)) is it.counts)
  tells (Stopped call) is = let known = stop_here call is in (known.0, known.2)
  tells (Damaged site want found) is = tt
  tells NoMemory is = tt
  tells BadType is = tt
  tells TooBig is = tt
  tells TooSmall is = tt
  tells Absent is = tt
  tells Collision is = tt
  tells IndexFull is = tt
  tells ArenasFull is = tt

  pub tells_cause : (said : Said) → a.said ≡ said → TellsCause (condition_of disk old) (condition_of disk new) (result_of said)
  tells_cause (Score given) is = tt
  tells_cause (Block bytes) is = tt
  tells_cause Synced is = tt
  tells_cause (Refused why) is = tells why is

  -- ---- it fails

  -- the cause of a failure, which its parts tell of
  record FailsSo (why : Why) : Type 0 where
    cause : Cause
    why_is : why ≡ why_of cause
    may : MayFail score (setup_of old.core) m cause
    told : AreToldBy (faults_over (condition_of disk old) (condition_of disk new)) (cause ∷ [])
    undamaged : IsNoDamage cause
    stops : IsNoFault cause → stops_in new.core ≡ stops_in old.core

  fails_so : (why : Why) → tells_failure why ≡ true → a.said ≡ Refused why → IsUndamagedWhy why → FailsSo why
  fails_so DiskFault true_is is undamaged = record {
    cause = disk_fault (each_of disk.faults old.core) (each_of disk.faults new.core);
    why_is = refl;
    may = (asked_reaches score m (it.cause DiskFault is), tells DiskFault is);
    told = record { counts = (same_fell (each_of disk.faults old.core), counts_fell, same_fell (each_of disk.faults new.core)); stops = (tt, tt) };
    undamaged = tt;
    stops = λ no. absurd no;
  }
  fails_so (Stopped call) true_is is undamaged =
      let known = stop_here call is in
      record {
        cause = stopped known.0 call;
        why_is = refl;
        may = (asked_reaches score m (it.cause (Stopped call) is).0, known.1);
        told = record { counts = counts_fell; stops = (known.2, tt) };
        undamaged = tt;
        stops = λ no. same_stops (λ e. let other : Refused (Stopped call) ≡ Refused DiskFault = sym is ∙ e in cc);
      }
  fails_so NoMemory true_is is undamaged = record {
    cause = no_memory;
    why_is = refl;
    may = (asked_reaches score m (it.cause NoMemory is).0, asked_takes m (it.cause NoMemory is).1);
    told = record { counts = counts_fell; stops = (tt, tt) };
    undamaged = tt;
    stops = λ no. same_stops (λ e. let other : Refused NoMemory ≡ Refused DiskFault = sym is ∙ e in cc);
  }
  fails_so (Damaged site want found) true_is is undamaged = absurd undamaged
  fails_so BadType true_is is undamaged = absurd (cc)
  fails_so TooBig true_is is undamaged = absurd (cc)
  fails_so TooSmall true_is is undamaged = absurd (cc)
  fails_so Absent true_is is undamaged = absurd (cc)
  fails_so Collision true_is is undamaged = absurd (cc)
  fails_so IndexFull true_is is undamaged = absurd (cc)
  fails_so ArenasFull true_is is undamaged = absurd (cc)

  module _ (h : History) (hold : HoldsOn score disk old h) where
    -- the model's answer, and the history behind it
    record Gives (next : History) : Type 0 where
      added : Option Accepted
      answer_is : answer score (setup_of old.core) h m ≡ record { reply = reply_saying a.said; added = added }
      next_is : next ≡ with_added h added

    gave : (next : History) → GivesAnswer score (asked_of_store m) a.said (machine_of old.core h) (machine_of new.core next) → Gives next
    gave next gives = ⊎_elim
        (λ accepts. record {
          added = Some accepts.block;
          answer_is = sym (asked_same score (setup_of old.core) h m hold.1.legal) ∙ accepts.answer_is;
          next_is = ap (λ (x : Machine). x.history) accepts.new_is;
        })
        (λ answers. record {
          added = None;
          answer_is = sym (asked_same score (setup_of old.core) h m hold.1.legal) ∙ answers.answer_is;
          next_is = ap (λ (x : Machine). x.history) answers.same;
        })
        gives

    -- a refusal adds nothing
    refused_none : (next : History) (why : Why) → a.said ≡ Refused why → Gives next → next ≡ h
    refused_none next why is gives =
        let reply : (answer score (setup_of old.core) h m).reply ≡ r_refused why = ap (λ (o : Outcome). o.reply) gives.answer_is ∙ ap reply_saying is in
        let none = added-refused score (setup_of old.core) h m (why_words why) reply in
        let same : gives.added ≡ None = sym (ap (λ (o : Outcome). o.added) gives.answer_is) ∙ none in
        gives.next_is ∙ ap (λ (o : Option Accepted). with_added h o) same

    refused_stays : (next : History) (why : Why) → a.said ≡ Refused why → IsServed score (asked_of_store m) a.said (machine_of old.core h) (machine_of new.core next) → next ≡ h
    refused_stays next why is how = ⊎_elim
        (λ gives. refused_none next why is (gave next gives.1))
        (λ rest. ⊎_elim
        (λ synced. let no : Synced ≡ Refused why = sym synced.1.0 ∙ is in absurd (cc))
        (λ fails. ap (λ (x : Machine). x.history) fails.3) rest)
        how

    answers_so : (next : History) → Gives next → HoldsOn score disk new next → IsOfDurable m (length h) new.core.log.durable → IsFine a.said
        → AnswersAsModel score (condition_of disk old) (condition_of disk new) (HoldsOn score disk new) h m (reply_saying a.said)
    answers_so next gives holds covered fine =
        let front : take (length h) next ≡ h =
        ap (λ (l : History). take (length h) l) (gives.next_is ∙ added_is h gives.added) ∙ take-append_seam h (option_to_list gives.added) in
        let same : answer score (setup_of old.core) (take (length h) next) m ≡ record { reply = reply_saying a.said; added = gives.added } =
        ap (λ (l : History). answer score (setup_of old.core) l m) front ∙ gives.answer_is in
        record {
          new = next;
          number = length h;
          holds_it = holds;
          reply_is = ap (λ (o : Outcome). o.reply) same;
          lengthens = subst (λ (l : History). Lengthens Bool.true h l (length h) (answer score (setup_of old.core) (take (length h) next) m).added) (sym gives.next_is)
              (subst (λ (o : Option Accepted). Lengthens Bool.true h (with_added h gives.added) (length h) o) (sym (ap (λ (o : Outcome). o.added) same)) (lengthens h gives.added));
          covered = covered;
          stops = λ alone. same_stops (λ e. let no = fine DiskFault e in cc);
        }

    covers : (q : Operation) (n durable : ℕ) → asked_of_store q ≢ sync → IsOfDurable q n durable
    covers ping n durable other = tt
    covers sync n durable other = absurd (other refl)
    covers (write kind bytes) n durable other = tt
    covers (read s kind count) n durable other = tt

    synced_all : (q : Operation) → q ≡ sync → a.said ≡ Synced → (answer score (setup_of old.core) h q ≡ record { reply = reply_saying a.said; added = None }) × IsOfDurable q (length h) new.core.log.durable
    synced_all q is said = (
      ap (λ (x : Operation). answer score (setup_of old.core) h x) is ∙ ap (λ (s : Said). replies (reply_saying s)) (sym said),
      subst (λ (x : Operation). IsOfDurable x (length h) new.core.log.durable) (sym is) (omega (arith, it.covered said, hold.1.log.front)),
    )

    pub answers : IsFine a.said → AnswersAsModel score (condition_of disk old) (condition_of disk new) (HoldsOn score disk new) h m (reply_saying a.said)
    answers fine =
        let done = it.serves h hold.0 hold.1 in
        ⊎_elim
        (λ gives. answers_so done.0 (gave done.0 gives.1) (hold.0, done.2) (covers m (length h) new.core.log.durable gives.0) fine)
        (λ rest. ⊎_elim
        (λ synced.
        let all = synced_all m (asked_sync m synced.0) synced.1.0 in
        answers_so done.0 (record { added = None; answer_is = all.0; next_is = ap (λ (x : Machine). x.history) synced.1.1 }) (hold.0, done.2) all.1 fine)
        (λ fails. absurd (cause_tells fails.0 (fine (why_of fails.0) fails.1))) rest)
        done.1

    fails : (why : Why) → tells_failure why ≡ true → a.said ≡ Refused why → FailsForCause score (condition_of disk old) (condition_of disk new) (HoldsOn score disk new) h m why
    fails why true_is is =
        let done = it.serves h hold.0 hold.1 in
        let stays = refused_stays done.0 why is done.1 in
        let so = fails_so why true_is is (subst (λ (s : Said). IsUndamagedSaid s) is (it.undamaged h hold.0 hold.1)) in
        record {
          new = h;
          number = length h;
          cause = so.cause;
          holds_it = (hold.0, subst (λ (l : History). IsSound score disk new.core l) stays done.2);
          why_is = so.why_is;
          may = so.may;
          told = so.told;
          undamaged = so.undamaged;
          lengthens = lengthens h None;
          stops = λ alone no. so.stops no;
        }

    pub serves : (said : Said) → a.said ≡ said → ServesOperation score (condition_of disk old) (condition_of disk new) (HoldsOn score disk new) h m (λ (reply : RMessage). reply) (result_of said)
    serves (Score given) is =
        subst (λ (s : Said). AnswersAsModel score (condition_of disk old) (condition_of disk new) (HoldsOn score disk new) h m (reply_saying s)) is
        (answers (λ why e. let no : Score given ≡ Refused why = sym is ∙ e in absurd (cc)))
    serves (Block bytes) is =
        subst (λ (s : Said). AnswersAsModel score (condition_of disk old) (condition_of disk new) (HoldsOn score disk new) h m (reply_saying s)) is
        (answers (λ why e. let no : Block bytes ≡ Refused why = sym is ∙ e in absurd (cc)))
    serves Synced is =
        subst (λ (s : Said). AnswersAsModel score (condition_of disk old) (condition_of disk new) (HoldsOn score disk new) h m (reply_saying s)) is
        (answers (λ why e. let no : Synced ≡ Refused why = sym is ∙ e in absurd (cc)))
    serves (Refused why) is = ⊎_elim
        (λ true_is. inr (fails why true_is is))
        (λ fine. inl (
          fine,
          subst (λ (s : Said). AnswersAsModel score (condition_of disk old) (condition_of disk new) (HoldsOn score disk new) h m (reply_saying s)) is
              (answers (λ other e. let same : Refused why ≡ Refused other = sym is ∙ e in ap tells_failure (ap (λ (s : Said). refused_inside s why) (sym same)) ∙ fine)),
        ))
        (cases_Bool (tells_failure why))
