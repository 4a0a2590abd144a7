-- What is told of a request that was driven to its answer.
use Rattle.std.proofs.Common.{◌≡◌, ◌≢◌, ⊎_elim, inl, inr, ◌+◌, ◌-◌, ◌<◌, ◌≤◌, ℕ, List, length, Option, Some, None, Result, Ok, Err, refl, sym, ◌∙◌, ap, subst, arith}
use Rattle.std.specs.Prelude.{IsTrue, MatchResult, slice_get}
use Rattle.vt_base.specs.declared.answer.Answer.{Answer}
use Rattle.vt_base.specs.declared.answer.Said.{Said}
use Rattle.vt_base.specs.declared.answer.Said.TheVariants.{Synced, Refused}
use Rattle.vt_base.specs.declared.why.Why.{Why}
use Rattle.vt_base.specs.declared.why.Why.TheVariants.{BadType, TooBig, TooSmall, Absent, Collision, IndexFull, ArenasFull, DiskFault, Stopped, Damaged, NoMemory}
use Rattle.vt_base.specs.Protocol.{Operation, write}
use Rattle.vt_disk.specs.Members.{DiskOf}
use Rattle.vt_model.specs.History.{History}
use Rattle.vt_model.specs.Causes.{ReachesParts}
use Rattle.vt_base.specs.declared.operation.Operation.{Operation as Asked}
use Rattle.vt_core.specs.declared.event.Event.{Event}
use Rattle.vt_core.specs.declared.event.Event.TheVariants.{Ask, Answer as AskAnswer, LogAdvance, FileBegin, FileAdvance, BloomAdvance, EvictLump, EvictIndex}
use Rattle.vt_core.specs.declared.event.Out.{Out}
use Rattle.vt_core.specs.declared.event.Out.TheVariants.{Said as SaidOut, NotYet, Failed}
use Rattle.vt_core.specs.Asking.{MayBeTold, says, shard_of, stop_for}
use Rattle.vt_core.specs.Causes.{CountsSaid, IsUndamagedSaid, IsUndamagedWhy}
use Rattle.vt_core.specs.Core.{CoreState, each_of, history_len, machine_of, stops_of}
use Rattle.vt_base.specs.Operations.{operation_of}
use Rattle.vt_core.specs.Machine.{Machine, WaitsForNone}
use Rattle.vt_core.specs.Sound.{IsSound}
use Rattle.vt_core.specs.Steps.{Steps}
use Rattle.vt_core.proofs.AskWork.{fails_in}
use Rattle.vt_handler.specs.Serving.{Suits}
use Rattle.vt_requests.specs.Answers.{IsServed, KeepsAll, KeepsStopped}
use Rattle.vt_requests.specs.Requests.{WritesAgain, refused}
use Rattle.vt_log.specs.declared.TheConstants.{QUEUE_MAX}
use Rattle.vt_log.specs.Log.{queued}
use Rattle.vt_shard.specs.Shard.{ShardState}
use Rattle.vt_shard.specs.declared.TheConstants.{ROOM}
use Rattle.vt_requests.specs.Working.{DoesWork, NeedsDurable, NeedsRoom}
use Rattle.vt_requests.proofs.AskGives.{FindsNoRoom, Given, IsSaid, gives, never_ping}
use Rattle.vt_requests.proofs.Whys.{IsStoppedAt, IsWhy, log_fails, log_stop_same, nothing_stopped, shard_fails, stop_for_same, stopped_before}
use Rattle.vt_requests.proofs.WorkDone.{AreOwn, Did, did, keeps_on, works_well}

-- all that is told but by which events
pub record Told {D : Type 0} (score : List ℕ → List ℕ) (disk : DiskOf D) (m : Operation) (a : Answer) (old new : CoreState D) : Type 0 where
  pub at : a.at ≡ history_len old
  pub one_more : history_len new ≤ history_len old + 1
  pub suits : Suits score m a.said
  pub keeps : KeepsAll disk old new
  pub stops : KeepsStopped (a.said ≡ Refused DiskFault) old new
  pub counts : CountsSaid a.said (each_of disk.faults old) (each_of disk.faults new)
  pub cause : (why : Why) → a.said ≡ Refused why → MayBeTold score old m why
  pub covered : a.said ≡ Synced → history_len old ≤ new.log.durable
  pub serves : (h : History) → IsTrue disk.tells → IsSound score disk old h → (next : History) × IsServed score m a.said (machine_of old h) (machine_of new next) × IsSound score disk new next
  pub undamaged : (h : History) → IsTrue disk.tells → IsSound score disk old h → IsUndamagedSaid a.said

-- ---- at once

answer_is : {D : Type 0} (k : CoreState D) (a : Answer) (said : Said) → SaidOut a ≡ says said k → a ≡ record { said = said; at = history_len k }
answer_is k a said is = cc

-- an answer at once is one of those that are given
pub said_at_once : {D : Type 0} (score : List ℕ → List ℕ) (session : ℕ) (m : Operation) (a : Answer) (old new : CoreState D) → Given score session m (SaidOut a) old new → IsSaid score m (SaidOut a) old new
said_at_once score session m a old new given = ⊎_elim (λ said. said)
    (λ rest. ⊎_elim (λ room. absurd (let no = room.out_is in cc)) (λ waits. absurd (let no = waits.out_is in cc)) rest) given

pub told_at_once : {D : Type 0} (score : List ℕ → List ℕ) (disk : DiskOf D) (session now : ℕ) (r : Asked) (a : Answer) (old new : CoreState D) → WaitsForNone old.waiting session
    → Steps score disk (Ask session r now) (SaidOut a) old new → Told score disk (operation_of r) a old new
told_at_once {D} score disk session now r a old new free step =
    let m : Operation = operation_of r in
    let it = said_at_once score session m a old new (gives score disk session now (SaidOut a) old new m (never_ping r) (step.does.serves free)) in
    let is = answer_is old a it.said it.out_is in
    let said_is : a.said ≡ it.said = ap (λ (x : Answer). x.said) is in
    record {
      at = ap (λ (x : Answer). x.at) is;
      one_more = step.goes_on.one_more;
      suits = subst (λ (s : Said). Suits score m s) (sym said_is) it.suits;
      keeps = record { store = step.goes_on.store; waiting = it.waiting };
      stops = record { stay = step.stops.stay; cause = λ _. step.stops.cause (λ e. cc) };
      counts = step.counts;
      cause = λ why e. step.does.cause why (it.out_is ∙ ap (λ (s : Said). says s old) (sym said_is ∙ e));
      covered = λ e. absurd (it.other (sym said_is ∙ e));
      serves = λ h tells sound.
          let done = step.machine tells h sound in
          (done.0, ⊎_elim (λ gave. inl gave) (λ fails. inr (inr fails)) done.1.2, done.2);
      undamaged = step.undamaged;
    }

-- ---- behind what changes nothing that is accepted

pub record Behind {D : Type 0} (score : List ℕ → List ℕ) (disk : DiskOf D) (m : Operation) (old new : CoreState D) : Type 0 where
  pub keeps : KeepsAll disk old new
  pub len : history_len new ≡ history_len old
  pub counts : each_of disk.faults new ≡ each_of disk.faults old
  pub stops : stops_of new ≡ stops_of old
  pub quiet : (h : History) → IsTrue disk.tells → IsSound score disk old h → IsSound score disk new h × (machine_of new h ≡ machine_of old h)

-- work that went on
pub behind_work : {D T : Type 0} (score : List ℕ → List ℕ) (disk : DiskOf D) (m : Operation) (done : T) (old new : CoreState D) → Did {T = T} score disk (Ok done) old new → Behind score disk m old new
behind_work score disk m done old new it = record { keeps = it.worked.keeps; len = it.worked.len; counts = it.counts; stops = it.stops; quiet = it.worked.quiet }

-- a block that found no room
pub behind_test : {D : Type 0} (score : List ℕ → List ℕ) (disk : DiskOf D) (session now : ℕ) (r : Asked) (old new : CoreState D) → Steps score disk (Ask session r now) NotYet old new
    → FindsNoRoom score (operation_of r) NotYet old new → Behind score disk (operation_of r) old new
behind_test {D} score disk session now r old new step it = record {
  keeps = record { store = step.goes_on.store; waiting = it.waiting };
  len = it.len;
  counts = step.counts;
  stops = step.stops.cause (λ e. cc);
  quiet = λ h tells sound.
      let done = step.machine tells h sound in
      let g_is : done.0 ≡ h = ap (λ (x : Machine). x.history) done.1.2 in
      (subst (λ (g : History). IsSound score disk new g) g_is done.2, subst (λ (g : History). machine_of new g ≡ machine_of old h) g_is done.1.2);
}

told_before : {D : Type 0} (score : List ℕ → List ℕ) (m : Operation) (old mid : CoreState D) → stop_for score mid m ≡ stop_for score old m → (why : Why) → MayBeTold score mid m why → MayBeTold score old m why
told_before score m old mid same DiskFault it = it
told_before score m old mid same (Stopped call) it = (it.0, sym same ∙ it.1)
told_before score m old mid same (Damaged site want found) it = it
told_before score m old mid same NoMemory it = it
told_before score m old mid same BadType it = tt
told_before score m old mid same TooBig it = tt
told_before score m old mid same TooSmall it = tt
told_before score m old mid same Absent it = tt
told_before score m old mid same Collision it = tt
told_before score m old mid same IndexFull it = tt
told_before score m old mid same ArenasFull it = tt

pub told_behind : {D : Type 0} (score : List ℕ → List ℕ) (disk : DiskOf D) (m : Operation) (a : Answer) (old mid new : CoreState D) → Behind score disk m old mid → Told score disk m a mid new → Told score disk m a old new
told_behind {D} score disk m a old mid new before it = record {
  at = it.at ∙ before.len;
  one_more = omega (arith, it.one_more, before.len);
  suits = it.suits;
  keeps = keeps_on disk old mid new before.keeps it.keeps;
  stops = record {
    stay = λ i call at. it.stops.stay i call (subst (λ (l : List (Option ℕ)). slice_get l i ≡ Some (Some call)) (sym before.stops) at);
    cause = λ other. it.stops.cause other ∙ before.stops;
  };
  counts = subst (λ (ns : List ℕ). CountsSaid a.said ns (each_of disk.faults new)) before.counts it.counts;
  cause = λ why e. told_before score m old mid (stop_for_same score m old mid before.stops before.keeps.store.shards before.keeps.store.setup) why (it.cause why e);
  covered = λ e. omega (arith, it.covered e, before.len);
  serves = λ h tells sound.
      let first = before.quiet h tells sound in
      let done = it.serves h tells first.0 in
      (done.0, subst (λ (x : Machine). IsServed score m a.said x (machine_of new done.0)) first.1 done.1, done.2);
  undamaged = λ h tells sound. it.undamaged h tells (before.quiet h tells sound).0;
}

-- ---- where the work fails

-- why the work for a request failed, in a store none of whose parts had stopped to which it writes
abbrev pub IsFailure : Why → Type 0
IsFailure why = IsWhy why (λ call. ⊥)

no_stop : (why : Why) (stopped : ℕ → Type 0) → ((call : ℕ) → ¬ stopped call) → IsWhy why stopped → IsFailure why
no_stop DiskFault stopped none it = tt
no_stop (Stopped call) stopped none it = none call it
no_stop (Damaged site want found) stopped none it = it
no_stop BadType stopped none it = it
no_stop TooBig stopped none it = it
no_stop TooSmall stopped none it = it
no_stop Absent stopped none it = it
no_stop Collision stopped none it = it
no_stop IndexFull stopped none it = it
no_stop ArenasFull stopped none it = it
no_stop NoMemory stopped none it = it

failure_told : {D : Type 0} (score : List ℕ → List ℕ) (kind : ℕ) (bytes : List ℕ) (k : CoreState D) (why : Why) → ReachesParts score (write kind bytes) → IsFailure why → MayBeTold score k (write kind bytes) why
failure_told score kind bytes k DiskFault reaches it = reaches
failure_told score kind bytes k (Stopped call) reaches it = absurd it
failure_told score kind bytes k (Damaged site want found) reaches it = (reaches, tt, it)
failure_told score kind bytes k BadType reaches it = tt
failure_told score kind bytes k TooBig reaches it = tt
failure_told score kind bytes k TooSmall reaches it = tt
failure_told score kind bytes k Absent reaches it = tt
failure_told score kind bytes k Collision reaches it = tt
failure_told score kind bytes k IndexFull reaches it = tt
failure_told score kind bytes k ArenasFull reaches it = tt
failure_told score kind bytes k NoMemory reaches it = absurd it

-- on sound devices it is a fault
sound_failure : (why : Why) → IsFailure why → IsUndamagedWhy why → why ≡ DiskFault
sound_failure DiskFault it undamaged = refl
sound_failure (Stopped call) it undamaged = absurd it
sound_failure (Damaged site want found) it undamaged = absurd undamaged
sound_failure BadType it undamaged = absurd it
sound_failure TooBig it undamaged = absurd it
sound_failure TooSmall it undamaged = absurd it
sound_failure Absent it undamaged = absurd it
sound_failure Collision it undamaged = absurd it
sound_failure IndexFull it undamaged = absurd it
sound_failure ArenasFull it undamaged = absurd it
sound_failure NoMemory it undamaged = absurd it

refused_is : (a b : Why) → Refused a ≡ Refused b → a ≡ b
refused_is a b is = cc

pub told_failed : {D : Type 0} (score : List ℕ → List ℕ) (disk : DiskOf D) (kind : ℕ) (bytes : List ℕ) (why : Why) (old new : CoreState D) → ReachesParts score (write kind bytes) → IsFailure why
    → Did {T = Unit {0}} score disk (Err why) old new → Told score disk (write kind bytes) (refused why (history_len old)) old new
told_failed {D} score disk kind bytes why old new reaches failure it = record {
  at = refl;
  one_more = omega (arith, it.worked.len);
  suits = tt;
  keeps = it.worked.keeps;
  stops = record { stay = it.stops.stay; cause = λ other. it.stops.cause (λ e. other (ap Refused e)) };
  counts = it.counts;
  cause = λ w e. subst (λ (x : Why). MayBeTold score old (write kind bytes) x) (refused_is why w e) (failure_told score kind bytes old why reaches failure);
  covered = λ e. absurd (cc);
  serves = λ h tells sound.
      let quiet = it.worked.quiet h tells sound in
      let fault = sound_failure why failure (it.undamaged h tells sound) in
      (h, inr (inr (fails_in score disk old new (write kind bytes) why (inl fault) reaches tt it.counts (machine_of old h) (machine_of new h) quiet.1)), quiet.0);
  undamaged = λ h tells sound. it.undamaged h tells sound;
}

-- ---- a write that comes again

pub room_is_own : {D : Type 0} (shard : ℕ) → AreOwn (NeedsRoom {D = D} shard)
room_is_own shard LogAdvance k needed = tt
room_is_own shard (FileBegin i) k needed = tt
room_is_own shard (FileAdvance i) k needed = tt
room_is_own shard BloomAdvance k needed = absurd needed
room_is_own shard (Ask session request now) k needed = absurd needed
room_is_own shard (AskAnswer session) k needed = absurd needed
room_is_own shard (EvictLump i) k needed = absurd needed
room_is_own shard (EvictIndex i) k needed = absurd needed

-- why making room failed: its last piece did, in a store whose stops are those at its start
pub room_failure : {D : Type 0} (score : List ℕ → List ℕ) (disk : DiskOf D) (shard : ℕ) (why : Why) (old new : CoreState D) → (old.log.stopped ≡ None) → ((call : ℕ) → ¬ IsStoppedAt shard old call)
    → DoesWork {T = Unit {0}} score disk (NeedsRoom shard) (Err why) old new → IsFailure why
room_failure {D} score disk shard why old new log_goes shard_goes it =
    let well = works_well score disk (NeedsRoom shard) (room_is_own shard) it.events it.outs old it.mid it.works in
    let log_now : it.mid.log.stopped ≡ None = log_stop_same old it.mid well.stops ∙ log_goes in
    let shard_now : (call : ℕ) → ¬ IsStoppedAt shard it.mid call = λ call. still old it.mid well.stops well.worked.keeps.store.shards call (shard_goes call) in
    by_event it.ends.event it.mid it.ends.needed log_now shard_now it.ends.steps
  where
    still : (k mid : CoreState D) → stops_of mid ≡ stops_of k → length mid.shards ≡ length k.shards → (call : ℕ) → ¬ IsStoppedAt shard k call → ¬ IsStoppedAt shard mid call
    still k mid same many call goes stopped = goes (stopped_before shard k mid same many call stopped)

    by_event : (event : Event) (mid : CoreState D) → NeedsRoom shard event mid → mid.log.stopped ≡ None → ((call : ℕ) → ¬ IsStoppedAt shard mid call) → Steps score disk event (Failed why) mid new → IsFailure why
    by_event LogAdvance mid needed log_now shard_now step = no_stop why (λ call. mid.log.stopped ≡ Some call) (λ call is. let no = sym log_now ∙ is in cc) (log_fails disk why mid new step.does)
    by_event (FileAdvance i) mid needed log_now shard_now step = no_stop why (IsStoppedAt i mid) (λ call is. shard_now call (subst (λ (n : ℕ). IsStoppedAt n mid call) needed.0 is)) (shard_fails disk i why mid new step.does)
    by_event (FileBegin i) mid needed log_now shard_now step = absurd (step.does.changes)
    by_event BloomAdvance mid needed log_now shard_now step = absurd needed
    by_event (Ask session request now) mid needed log_now shard_now step = absurd needed
    by_event (AskAnswer session) mid needed log_now shard_now step = absurd needed
    by_event (EvictLump i) mid needed log_now shard_now step = absurd needed
    by_event (EvictIndex i) mid needed log_now shard_now step = absurd needed

pub told_again : {D : Type 0} (score : List ℕ → List ℕ) (disk : DiskOf D) (session now : ℕ) (r : Asked) (a : Answer) (old new : CoreState D) → WaitsForNone old.waiting session
    → ReachesParts score (operation_of r) → stop_for score old (operation_of r) ≡ None
    → WritesAgain score disk session r now a old new → Told score disk (operation_of r) a old new
told_again {D} score disk session now r a old new free reaches goes it = by_made it.made it.works it.ends
  where
    m : Operation
    m = operation_of r

    none_stopped : (old.log.stopped ≡ None) × ((call : ℕ) → ¬ IsStoppedAt (shard_of old (score it.bytes)) old call)
    none_stopped = nothing_stopped score it.kind it.bytes old (subst (λ (x : Operation). stop_for score old x ≡ None) it.is_write goes)

    by_made : (made : Result (Unit {0}) Why) → DoesWork score disk (NeedsRoom (shard_of old (score it.bytes))) made old it.room
        → MatchResult made (λ _. Steps score disk (Ask session r now) (SaidOut a) it.room new) (λ why. (a ≡ refused why (history_len old)) × (new ≡ it.room)) → Told score disk m a old new
    by_made (Ok done) works ends =
        let before = behind_work score disk m done old it.room (did score disk (NeedsRoom (shard_of old (score it.bytes))) (room_is_own (shard_of old (score it.bytes))) (Ok done) old it.room works) in
        told_behind score disk m a old it.room new before
        (told_at_once score disk session now r a it.room new (subst (λ (ws : List (Option ℕ)). WaitsForNone ws session) (sym before.keeps.waiting) free)
        ends)
    by_made (Err why) works ends =
        subst (λ (k : CoreState D). Told score disk m a old k) (sym ends.1)
        (subst (λ (x : Answer). Told score disk m x old it.room) (sym ends.0)
        (subst (λ (x : Operation). Told score disk x (refused why (history_len old)) old it.room) (sym it.is_write)
        (told_failed score disk it.kind it.bytes why old it.room (subst (λ (x : Operation). ReachesParts score x) it.is_write reaches)
        (room_failure score disk (shard_of old (score it.bytes)) why old it.room none_stopped.0 none_stopped.1 works)
        (did score disk (NeedsRoom (shard_of old (score it.bytes))) (room_is_own (shard_of old (score it.bytes))) (Err why) old it.room works))))

-- the log is advanced for room where less is durable than leaves room for one more block
pub room_from_durable : {D : Type 0} (shard number : ℕ) (old k : CoreState D) (event : Event) → number ≡ history_len old - 63 → history_len k ≡ history_len old → NeedsDurable number event k
    → NeedsRoom shard event k
room_from_durable shard number old k event is same needed = subst (λ (e : Event). NeedsRoom shard e k) (sym needed.0) (inl (omega (arith, is, same, needed.1)))

-- ---- a block for which there is room

-- it is answered
pub said_in_room : {D : Type 0} (score : List ℕ → List ℕ) (session : ℕ) (kind : ℕ) (bytes : List ℕ) (out : Out) (old new : CoreState D) → queued old.log < QUEUE_MAX
    → ((s : ShardState D) → slice_get old.shards (shard_of old (score bytes)) ≡ Some s → length s.index.dirty < ROOM) → Given score session (write kind bytes) out old new
    → (a : Answer) × (out ≡ SaidOut a)
said_in_room {D} score session kind bytes out old new queue spare given = ⊎_elim
    (λ said. (record { said = said.said; at = history_len old }, said.out_is))
    (λ rest. ⊎_elim
    (λ room. absurd (⊎_elim (λ full. omega (arith, full, queue)) (λ full. omega (arith, full, spare room.shard (at_own room))) room.full))
    (λ waits. absurd (let no = waits.m_is in cc)) rest)
    given
  where
    at_own : (room : FindsNoRoom score (write kind bytes) out old new) → slice_get old.shards (shard_of old (score bytes)) ≡ Some room.shard
    at_own room =
        let same : room.bytes ≡ bytes = let both = room.m_is in cc in
        ap (λ (b : List ℕ). slice_get old.shards (shard_of old (score b))) (sym same) ∙ room.at
