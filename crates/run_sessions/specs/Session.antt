-- The command `session :memory:`: one session over a store in memory that begins empty (venti(8)).
use Rattle.std.specs.Prelude.{ℕ, ◌≡◌, ◌++◌, ◌&&◌, IsTrue, List, []}
use Rattle.vt_model.specs.History.{History}
use Rattle.vt_session.specs.declared.Ended.TheVariants as ends
use Rattle.vt_session.specs.Turns.{Turn, causes_of, first_why}
use Rattle.vt_session.specs.Answered.{no_faults}
use Rattle.vt_session.specs.Talk.{Alone}
use Rattle.vt_handler.specs.Links.{ReadCause}
use Rattle.vt_handler.specs.Sessions.{SinkCause}
use Rattle.vt_use.specs.declared.session.StoreServed.{StoreServed}
use Rattle.vt_use.specs.Sessions.{AreUnsaid, NeedsMemory, OnlyMemory}
use Rattle.run_base.specs.Change.{StreamChange, PassesNothing}
use Rattle.run_base.specs.Errors.{CommandOutcome}
use Rattle.run_base.specs.Memory.{memory_setup}
use Rattle.run_base.specs.Served.{PassesOver, outcome_of}

-- What came in and went out is a session that nobody shares, over a store that began empty. Nothing
-- fails in it but for want of memory, and exactly where it ran out in a request that was heard, that
-- is told.
pub record IsSession (score : List ℕ → List ℕ) (end : StoreServed) (input output : List ℕ)
    : Type 0 where
  pub turns : List Turn
  pub between : History
  pub alone : Alone score memory_setup no_faults [] input output turns end.ended between
  pub unsaid : List Turn
  pub last : History
  pub are_unsaid : AreUnsaid score memory_setup input turns unsaid end.ended between last
  pub failures : OnlyMemory (causes_of (turns ++ unsaid))
  pub failure_is : end.failure ≡ first_why (causes_of (turns ++ unsaid))

-- One session was served in memory: what came in and went out, and why a fault is told. The store
-- needs memory alone.
pub record ServesMemory {R K : Type 0} (score : List ℕ → List ℕ) (end : StoreServed)
    (source : StreamChange R) (sink : StreamChange K) : Type 0 where
  pub input : List ℕ
  pub output : List ℕ
  pub passes : IsTrue (source.tells && sink.tells) → PassesOver end input output source sink
  pub session : IsTrue (source.tells && sink.tells) → IsSession score end input output
  pub needs : NeedsMemory end
  pub read : ReadCause end.ended source.faults source.faults'
  pub write : SinkCause end.ended sink.faults sink.faults'

-- one session was served in memory, whose end gives the outcome
pub record DoesSession {R K : Type 0} (score : List ℕ → List ℕ) (outcome : CommandOutcome)
    (source : StreamChange R) (sink : StreamChange K) : Type 0 where
  pub end : StoreServed
  pub serves : ServesMemory score end source sink
  pub outcome_is : outcome ≡ outcome_of end
  -- where there is no memory for a session, nothing is done
  pub idle : end.ended ≡ ends.NoMemory → PassesNothing source sink
