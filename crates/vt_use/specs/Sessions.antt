-- One session over a store on devices, and the end of the store's use.
use Rattle.std.specs.Prelude.{ℕ, ◌≡◌, ◌≢◌, ◌≤◌, ◌++◌, Bool, IsTrue, Option, None, IfSome, List, [], length, Ok, IfErr}
use Rattle.std.specs.List.{AllByRecursion}
use Rattle.vt_base.specs.declared.why.Why.{Why}
use Rattle.vt_base.specs.declared.why.Why.TheVariants as whys
use Rattle.vt_disk.specs.Members.{DiskOf}
use Rattle.vt_model.specs.Causes.{Cause, no_memory}
use Rattle.vt_model.specs.History.{History}
use Rattle.vt_model.specs.Places.{Setup}
use Rattle.vt_session.specs.declared.Ended.{Ended}
use Rattle.vt_session.specs.declared.Ended.TheVariants.{WriteFault, NoMemory}
use Rattle.vt_session.specs.Heard.{Item, Heard}
use Rattle.vt_session.specs.Turns.{Turn, items_of_turns, causes_of, first_why, synced_numbers}
use Rattle.vt_session.specs.Answered.{AnsweredAlone, Faults, AreToldBy}
use Rattle.vt_session.specs.Talk.{Alone, Took, spent_len}
use Rattle.vt_handler.specs.declared.serving.Served.{Served}
use Rattle.vt_handler.specs.Condition.{IsNoDamage}
use Rattle.vt_handler.specs.Links.{AnswersLink, ReadCause, since}
use Rattle.vt_handler.specs.Sessions.{SinkCause}
use Rattle.vt_handler.specs.Taking.{DoesEach, DoesSome, first_told}
use Rattle.vt_core.specs.Core.{CoreState, devices_of, each_of, setup_of}
use Rattle.vt_core.specs.Mounting.{AllStandFor, EachStands}
use Rattle.vt_core.specs.Sound.{IsSound}
use Rattle.vt_requests.specs.Answers.{KeepsAll}
use Rattle.vt_requests.specs.Driven.{stops_in}
use Rattle.vt_requests.specs.Ending.{AreMarkedAt, Ends}
pub use Rattle.vt_use.specs.Causes.{FailsFor, NoCallFails, TellsStops}
pub use Rattle.vt_use.specs.Stores.{MakesRun, at_time, store_on}
pub use Rattle.vt_use.specs.Uses.{AreMarkedOn}
use Rattle.vt_use.specs.Stores.{Exchange}
use Rattle.vt_use.specs.Members.{ClientOf, StoreOf}
use Rattle.vt_use.specs.declared.session.StoreServed.{StoreServed}

-- ---- a session

-- What the devices of a store tell of their faults over a while.
abbrev pub faults_over : {D : Type 0} → DiskOf D → (old new : CoreState D) → Faults
faults_over disk old new = record {
  before = each_of disk.faults old;
  after = each_of disk.faults new;
  stops = stops_in new;
}

-- The turns whose replies weren't written, since a write failed before: they were heard behind the
-- others, and answered on the history that those left.
pub record AreUnsaid (score : List ℕ → List ℕ) (c : Setup) (input : List ℕ)
    (turns unsaid : List Turn) (ended : Ended) (between last : History) : Type 0 where
  pub none : ended ≢ WriteFault → unsaid ≡ []
  pub heard : ended ≡ WriteFault → (later : List Item) × (end : Ended)
      × Heard input (items_of_turns (turns ++ unsaid) ++ later) end
  pub answered : AnsweredAlone score c between unsaid last

-- memory is all that is wanting
abbrev pub OnlyMemory : List Cause → Type 0
OnlyMemory causes = AllByRecursion (λ cause. cause ≡ no_memory) causes

-- What came in and went out is a session that nobody shares, over a store that held history `h`
-- before it and holds `last` behind it.
pub record IsSession {D : Type 0} (score : List ℕ → List ℕ) (disk : DiskOf D) (end : StoreServed)
    (now : ℕ) (old new : CoreState D) (h : History) (input output : List ℕ) : Type 0 where
  pub turns : List Turn
  pub between : History
  pub alone : Alone score (setup_of old) (faults_over disk old new) h input output turns end.ended
      between
  pub unsaid : List Turn
  pub last : History
  pub are_unsaid : AreUnsaid score (setup_of old) input turns unsaid end.ended between last
  -- the store was asked what was heard, in this order, each operation once, and nothing else
  pub asked : DoesEach (store_on score disk) (at_time now old) (turns ++ unsaid) (at_time now new)
  pub sound : IsSound score disk new last
  -- the first failure is told, its devices tell of each, and it is no damage
  pub failure_is : end.failure ≡ first_why (causes_of (turns ++ unsaid))
  pub failures : AreToldBy (faults_over disk old new) (causes_of (turns ++ unsaid))
  pub undamaged : AllByRecursion IsNoDamage (causes_of (turns ++ unsaid))
  pub quiet : NoCallFails disk old new → OnlyMemory (causes_of (turns ++ unsaid))
  -- what a sync was answered for is durable
  pub synced : AllByRecursion (λ n. n ≤ new.log.durable) (synced_numbers (turns ++ unsaid))

-- What came of a session is told by what passed between its client and a store that was asked for
-- these operations.
pub record ServesSession {S C : Type 0} (T : StoreOf S) (client : ClientOf C) (served : Served)
    (failure : Option Why) (before after : C) (asked : List Exchange) (old new : S) : Type 0 where
  pub told : (h : History) → T.holds old h → IsTrue client.tells
      → AnswersLink T old new h failure (since (client.sent before) (client.sent after))
      (since (client.written before) (client.written after)) served.ended
  pub took : IsTrue client.tells → Took (client.left before)
      (since (client.sent before) (client.sent after)) (client.left after) served.ended
  pub taken : IsTrue client.tells
      → served.taken ≡ length (since (client.sent before) (client.sent after))
  pub most : served.taken ≤ spent_len
  pub written : IsTrue client.tells → client.written after
      ≡ client.written before ++ since (client.written before) (client.written after)
  pub failure_is : failure ≡ first_told asked
  pub reads : ReadCause served.ended (client.read_faults before) (client.read_faults after)
  pub writes : SinkCause served.ended (client.write_faults before) (client.write_faults after)
  pub memory : served.ended ≡ NoMemory → (new ≡ old) × (after ≡ before)

-- A session was served over a store, on whatever devices, and behind it the store's use was ended.
pub record ServesStore {D : Type 0} (score : List ℕ → List ℕ) (disk : DiskOf D)
    (end : StoreServed) (now : ℕ) (old new : CoreState D) (tells : Bool)
    (input output : List ℕ) : Type 0 where
  -- the store at the session's end
  pub served : CoreState D
  pub session : (h : History) → IsTrue disk.tells → IsSound score disk old h → IsTrue tells
      → IsSession score disk end now old served h input output
  -- whatever the devices hold, it was asked for operations one after another, and for nothing else,
  -- and what failed first in them is told
  pub asked : DoesSome (store_on score disk) (at_time now old) (at_time now served) None
      end.failure
  pub memory : end.ended ≡ NoMemory → served ≡ old
  pub ends : Ends score disk end.closed served new

-- ---- what follows

-- each failure that is told has its cause
pub record TellsCauses {D : Type 0} (disk : DiskOf D) (end : StoreServed) (old new : CoreState D)
    : Type 0 where
  pub failure : IfSome end.failure (λ why. FailsFor disk why old new)
  pub closed : IfErr end.closed (λ why. FailsFor disk why old new)

-- Whatever failed, the devices hold this history, and every combination of images that a crash may
-- leave of them stands for a prefix of it, with all that the syncs of these numbers were answered
-- for.
pub record LeavesAll {D : Type 0} (score : List ℕ → List ℕ) (disk : DiskOf D)
    (numbers : List ℕ) (last : History) (old new : CoreState D) : Type 0 where
  pub keeps : KeepsAll disk old new
  pub sound : IsSound score disk new last
  pub synced : AllByRecursion (λ n. n ≤ new.log.durable) numbers
  pub stands : EachStands score disk (setup_of old) old.log.tables new.log.durable
      (devices_of new) last

-- Where nothing but memory failed, the store's use ended well: every block is durable, and has its
-- entry below every mark, as the devices have it.
pub record EndsWell {D : Type 0} (score : List ℕ → List ℕ) (disk : DiskOf D) (end : StoreServed)
    (causes : List Cause) (last : History) (old new : CoreState D) : Type 0 where
  pub failures : OnlyMemory causes
  pub closed : end.closed ≡ Ok tt
  pub marked : AreMarkedAt (length last) new
  pub read : AreMarkedOn disk (length last) (devices_of new)
  pub stands : AllStandFor score disk (setup_of old) old.log.tables (devices_of new) last
      (length last)

-- Memory was all that was wanting: the first failure that is told is want of it, and the store's use
-- ended well.
pub record NeedsMemory (end : StoreServed) : Type 0 where
  pub failure : IfSome end.failure (λ why. why ≡ whys.NoMemory)
  pub closed : end.closed ≡ Ok tt
