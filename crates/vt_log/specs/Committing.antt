-- The steps of a commit, between its calls.
use Rattle.std.specs.Prelude.{◌≡◌, ◌↔◌, ◌⊎◌, ℕ, ◌+◌, ◌<◌, ◌≤◌, Bool, IsTrue, IsFalse, List, [], Some, None, Result, Ok, Err, length}
use Rattle.vt_disk.specs.Members.{DiskOf}
use Rattle.vt_model.specs.History.{History}
use Rattle.vt_arena.specs.Arena.{is_committing, calls_made, commit_calls}
use Rattle.vt_log.specs.declared.error.Progress.{Progress}
use Rattle.vt_log.specs.declared.error.Progress.TheVariants.{Idle, Step, Durable}
use Rattle.vt_log.specs.declared.error.LogErr.{LogErr}
use Rattle.vt_log.specs.declared.error.LogErr.TheVariants.{Fault, Stopped}
use Rattle.vt_log.specs.Answers.{LogAdvances, LogMakesCall, EndsCommit, CallsArena}
use Rattle.vt_log.specs.Faults.{CountsFaults, is_fault_now}
use Rattle.vt_log.specs.Log.{LogState, front, queued, packed_of, next_filling}
use Rattle.vt_log.specs.Owed.{owed}
use Rattle.vt_log.specs.Queue.{WaitsFor}
use Rattle.vt_log.specs.Sound.{IsSoundLog, AreWithinCallOf, LogStandsForPrefix}
use Rattle.vt_log.specs.Whole.{IsWholeLog}

-- some of the blocks that wait are staged, and nothing else changes; between two commits
pub record Stages {D : Type 0} (old new : LogState D) : Type 0 where
  pub same : new ≡ record old { arena = new.arena; queue = new.queue }
  pub places : new.queue.places ≡ old.queue.places
  pub packed : packed_of new ≡ packed_of old
  pub rest : IsFalse (is_committing new.arena)
  pub sealed : new.arena.next.sealed ≡ old.arena.next.sealed
  pub more : (new ≡ old) ⊎ (length old.arena.staged < length new.arena.staged)

-- a commit is staged that adds a block or seals
abbrev pub IsCommitReady : {D : Type 0} → LogState D → Type 0
IsCommitReady l = l.arena.staged ≡ [] → l.arena.next.sealed ≡ Bool.true

-- the commit takes in all that it may: the block that waits longest isn't for its arena, and it
-- seals the arena exactly where one waits
pub record TakesAllWaiting {D : Type 0} (l : LogState D) : Type 0 where
  pub blocks : ¬ WaitsFor l.committing l.queue.waiting
  pub seal : IsTrue l.arena.next.sealed ↔ (0 < length l.queue.waiting)

-- A commit is staged or under way: all that waits for the arena is staged or, where a call of the
-- commit was made, the log is what it was.
pub record Prepares {D : Type 0} (old new : LogState D) : Type 0 where
  pub same : new ≡ record old { arena = new.arena; queue = new.queue }
  pub places : new.queue.places ≡ old.queue.places
  pub packed : packed_of new ≡ packed_of old
  pub ready : IsCommitReady new
  pub owed_is : owed new ≤ owed old
  pub begun : (new ≡ old) ⊎ IsFalse (is_committing new.arena)
  pub commit : IsTrue (is_committing old.arena) → new ≡ old
  pub batch : IsFalse (is_committing old.arena) → TakesAllWaiting new

-- What a call of `advance` does, whatever the disks hold.
pub record LogTakesStep {D : Type 0} (disk : DiskOf D) (result : Result Progress LogErr)
    (old new : LogState D) : Type 0 where
  pub advances : LogAdvances result old new
  pub stopped : (n : ℕ) → (result ≡ Err (Stopped n)) ↔ (old.stopped ≡ Some n)
  pub idle : old.stopped ≡ None → queued old ≡ 0 → result ≡ Ok Idle
  pub kept : (new.layout ≡ old.layout) × (new.tables ≡ old.tables) × (new.base ≡ old.base)
      × (new.filling ≡ old.filling)
  pub versions : new.versions ≡ old.versions
  -- the count of accepted blocks stays, and where the next block goes
  pub front_is : front new ≡ front old
  pub next : (n : ℕ) → next_filling new n ≡ next_filling old n
  -- the first call of a commit begins it with all that waits for the arena, and with its seal where
  -- a block waits for the next one
  pub batch : old.stopped ≡ None → IsFalse (is_committing old.arena) → TakesAllWaiting new
  -- it makes one device call, or none where it is idle or stopped
  pub one_call : old.stopped ≡ None → 0 < queued old → CallsArena disk result old new
  pub cause : CountsFaults disk is_fault_now result old.disks new.disks

-- what a device call makes of a log
abbrev pub MakesOrEnds : {D : Type 0} → Result Progress LogErr → (old new : LogState D) → Type 0
MakesOrEnds (Ok Idle) old new = ⊥
MakesOrEnds (Ok Step) old new =
    LogMakesCall old new × (new.stopped ≡ None) × (owed new < owed old)
MakesOrEnds (Ok (Durable n)) old new =
    EndsCommit (length old.arena.staged) old new × (new.durable ≡ n) × (new.stopped ≡ None)
    × (owed new < owed old)
MakesOrEnds (Err Fault) old new = LogMakesCall old new × (new.stopped ≡ Some old.calls)
MakesOrEnds (Err (Stopped n)) old new = ⊥

-- One device call of a commit was made: what it leaves of the log, of its disks and of what a crash
-- may leave of them.
pub record MakesOneCall {D : Type 0} (score_of : List ℕ → List ℕ) (disk : DiskOf D)
    (old new : LogState D) (result : Result Progress LogErr) : Type 0 where
  pub whole : IsWholeLog disk new
  pub sound : (h : History) → IsTrue disk.tells → IsSoundLog score_of disk old h
      → IsSoundLog score_of disk new h
  -- a crash at any moment of the call
  pub crash : (h : History) → IsTrue disk.tells → IsSoundLog score_of disk old h
      → (files : List (List ℕ)) → AreWithinCallOf disk old.disks new.disks files
      → LogStandsForPrefix score_of old files h
  pub makes : MakesOrEnds result old new
  pub batch : TakesAllWaiting old → calls_made old.arena + 1 < commit_calls old.arena
      → TakesAllWaiting new
  pub last : (n : ℕ) → result ≡ Ok (Durable n)
      → calls_made old.arena + 1 ≡ commit_calls old.arena
  pub versions : new.versions ≡ old.versions
  pub kept : (new.layout ≡ old.layout) × (new.tables ≡ old.tables) × (new.base ≡ old.base)
      × (new.filling ≡ old.filling)
  pub calls : CallsArena disk result old new
