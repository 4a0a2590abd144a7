-- Walking a log from its end to its beginning, to see where each block belongs.
use Rattle.std.specs.Prelude.{◌≡◌, ◌⊎◌, ⊤, ℕ, ◌+◌, ◌-◌, ◌^◌, ◌<◌, min, Bool, true, false, IsTrue, IfErr, List, MatchResult, Result, slice_index}
use Rattle.vt_base.specs.Damage.{Differ}
use Rattle.vt_base.specs.declared.place.Info.{Info}
use Rattle.vt_disk.specs.Members.{DiskOf}
use Rattle.vt_log.specs.Answers.{HoldTheSame, OnlyReadsLog}
use Rattle.vt_log.specs.Back.{IsTailBehind, IsInfoInLog, IsTailOf, TailState}
use Rattle.vt_log.specs.Faults.{CountsFaults}
use Rattle.vt_log.specs.Log.{LogState}
use Rattle.vt_log.specs.Sound.{IsSoundLog}
use Rattle.vt_model.specs.History.{History}
use Rattle.vt_model.specs.Places.{crowd}
use Rattle.vt_rebuild.specs.declared.error.RebuildBad.{RebuildBad}
use Rattle.vt_rebuild.specs.declared.error.RebuildBad.TheVariants.{Fault, IndexFull, Damaged, NoMemory}

-- the answer tells of a fault of a disk in this call
abbrev pub is_rebuild_fault : RebuildBad → Bool
is_rebuild_fault Fault = true
is_rebuild_fault (IndexFull bucket) = false
is_rebuild_fault (Damaged place want found) = false
is_rebuild_fault NoMemory = false

-- a fault, or damage whose two values differ
abbrev pub TellsOfLog : RebuildBad → Type 0
TellsOfLog Fault = ⊤
TellsOfLog (IndexFull bucket) = ⊥
TellsOfLog (Damaged place want found) = Differ want found
TellsOfLog NoMemory = ⊥

-- a fault, or want of memory
abbrev pub FaultOrMemory : RebuildBad → Type 0
FaultOrMemory bad = (bad ≡ Fault) ⊎ (bad ≡ NoMemory)

-- The refusal is a fault, want of memory, or damage whose two values differ.
abbrev pub TellsOfReading : RebuildBad → Type 0
TellsOfReading Fault = ⊤
TellsOfReading (IndexFull bucket) = ⊥
TellsOfReading (Damaged place want found) = Differ want found
TellsOfReading NoMemory = ⊤

-- the log is only read from, and its disks hold what they held
pub record KeepsLog {D : Type 0} (score : List ℕ → List ℕ) (disk : DiskOf D) (old new : LogState D)
    : Type 0 where
  pub same : new ≡ record old { disks = new.disks }
  pub sound : (h : History) → IsSoundLog score disk old h → IsSoundLog score disk new h
  pub disks : HoldTheSame disk old.disks new.disks

-- What is known of the next block on the way back through a log is given, where one is left.
pub record GivesNext {D : Type 0} (score : List ℕ → List ℕ) (disk : DiskOf D)
    (result : Result Info RebuildBad) (old new : LogState D) (before after : TailState)
    : Type 0 where
  pub blocks : (h : History) → IsTrue disk.tells → IsSoundLog score disk old h
      → IsTailBehind old h before.left before → MatchResult result
      (λ info. IsInfoInLog score old h after.left info × IsTailBehind old h after.left after)
      (λ bad. bad ≡ Fault)
  pub left : MatchResult result (λ _. after.left + 1 ≡ before.left) (λ _. ⊤)
  pub tail : IsTailOf new after
  pub reads : OnlyReadsLog score disk 1 old new
  pub faults : CountsFaults disk is_rebuild_fault result old.disks new.disks
  pub ends_early : IfErr result TellsOfLog

-- of so many buckets each has its blocks counted, as far as two bytes count
abbrev pub AreCounted : (score : List ℕ → List ℕ) → (total : ℕ) → History → (counts : List ℕ)
    → Type 0
AreCounted score total h counts = (n : ℕ) → n < total
    → slice_index counts n ≡ min (crowd score total h n) (2 ^ 16 - 1)
