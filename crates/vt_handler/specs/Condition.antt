-- What a store tells of itself, apart from the history that it holds.
use Rattle.std.specs.Prelude.{ℕ, ◌≡◌, ◌≤◌, ⊤, Bool, IsTrue, List}
use Rattle.std.specs.List.{Contains}
use Rattle.vt_model.specs.Places.{Setup}
use Rattle.vt_model.specs.Causes.{Part, Cause, disk_fault, damaged, NoneFell}
use Rattle.vt_session.specs.Answered.{Faults}

-- What it was opened with; whether nobody else adds blocks to its history; the counts of failed
-- calls of its parts, in one order; which parts have stopped, each with the device call at which it
-- did; and how many of the first blocks of its history no crash takes away.
pub record Condition : Type 0 where
  pub setup : Setup
  pub alone : Bool
  pub faults : List ℕ
  pub stops : List (Part × ℕ)
  pub durable : ℕ

-- What the parts of a store tell of their faults over a while.
abbrev pub faults_over : (old new : Condition) → Faults
faults_over old new = record { before = old.faults; after = new.faults; stops = new.stops }

-- Over a while what a store was opened with stays, and so does that it is alone; no count falls; a
-- part that has stopped stays so; and what is durable stays durable.
pub record ConditionGoesOn (old new : Condition) : Type 0 where
  pub setup : new.setup ≡ old.setup
  pub alone : IsTrue old.alone → IsTrue new.alone
  pub faults : NoneFell old.faults new.faults
  pub stops : (stop : Part × ℕ) → Contains old.stops stop → Contains new.stops stop
  pub durable : old.durable ≤ new.durable

-- a store that holds its history reads what was stored
abbrev pub IsNoDamage : Cause → Type 0
IsNoDamage (damaged site want found) = ⊥
IsNoDamage cause = ⊤

-- the cause is no failed call of a disk
abbrev pub IsNoFault : Cause → Type 0
IsNoFault (disk_fault before after) = ⊥
IsNoFault cause = ⊤
