-- Runs of a store with crashes between, and within, its events.
use Rattle.std.specs.Prelude.{◌≡◌, ◌⊎◌, ℕ, zero, suc, Some, List, [], ◌∷◌, length, map, slice_get}
use Rattle.vt_disk.specs.Disk.{Only}
use Rattle.vt_disk.specs.Members.{DiskOf}
use Rattle.vt_part.specs.Table.{Table}
use Rattle.vt_shard.specs.declared.mounting.Sizes.{Sizes}
use Rattle.vt_core.specs.declared.event.Event.{Event}
use Rattle.vt_core.specs.declared.event.Out.{Out}
use Rattle.vt_core.specs.Core.{CoreState, devices_of}
use Rattle.vt_core.specs.Events.{MakesStep}
use Rattle.vt_core.specs.Files.{PerDevice, DeviceFiles, AreWithinCall}
use Rattle.vt_core.specs.Machine.{Machine, Crashes}
use Rattle.vt_core.specs.Mounting.{LeavesStanding, MountsStore}
use Rattle.vt_core.specs.Stands.{ArePartitions}
use Rattle.vt_core.specs.Steps.{Steps}

-- what is left of these devices behind a crash: each reads as its file, and a second crash leaves
-- just that
pub record AreLeftOf {D : Type 0} (disk : DiskOf D) (files : List (List ℕ)) (devices : List D)
    : Type 0 where
  pub many : length devices ≡ length files
  pub each : (i : ℕ) (device : D) (file : List ℕ) → slice_get devices i ≡ Some device
      → slice_get files i ≡ Some file
      → (disk.bytes device ≡ file) × Only file (disk.images device)

-- of each device a crash left one of its images
pub record AreLeft {D : Type 0} (disk : DiskOf D) (files : DeviceFiles) (devices : PerDevice D)
    : Type 0
  where
    pub partitions : AreLeftOf disk files.partitions devices.partitions
    pub sections : AreLeftOf disk files.sections devices.sections
    pub filter : AreLeftOf disk files.filter devices.filter

-- At a moment while the one devices were turning into the others there was a crash, which left some
-- image of each, and these devices.
pub record LeftByCrash {D : Type 0} (disk : DiskOf D) (old during left : PerDevice D) : Type 0 where
  pub files : DeviceFiles
  pub images : AreWithinCall disk old during files
  pub are : AreLeft disk files left
  pub sizes : map disk.size left.sections ≡ map disk.size old.sections

-- So many times mounting was tried in vain, and each time there was a crash at a moment of it: some
-- of its calls were made, and then none any more.
abbrev pub IsRetried : {D : Type 0} → (List ℕ → List ℕ) → DiskOf D → List Table → (tries : ℕ)
    → (old new : PerDevice D) → Type 0
IsRetried score disk tables zero old new = new ≡ old
IsRetried {D} score disk tables (suc tries) old new = (after : PerDevice D) × (left : PerDevice D)
    × LeavesStanding score disk tables old after × LeftByCrash disk after after left
    × IsRetried score disk tables tries left new

-- At a moment while the one store was turning into the other there was a crash, and then, perhaps
-- behind some trials in vain, a store was mounted on what was left.
pub record Recovers {D : Type 0} (score : List ℕ → List ℕ) (disk : DiskOf D)
    (old during again : CoreState D) : Type 0 where
  pub left : PerDevice D
  pub crash : LeftByCrash disk (devices_of old) (devices_of during) left
  pub tables : List Table
  pub are_tables : ArePartitions tables (map disk.bytes left.partitions)
  pub tries : ℕ
  pub devices : PerDevice D
  pub retried : IsRetried score disk tables tries left devices
  pub sizes : Sizes
  pub sessions : ℕ
  pub mounts : MountsStore score disk tables devices sizes sessions again

-- What a store is at a moment, or is on the way to: what it was, where nothing is under way, or
-- what the event under way makes of it.
abbrev pub MayTurnInto : {D : Type 0} → (List ℕ → List ℕ) → DiskOf D → (old during : CoreState D)
    → Type 0
MayTurnInto score disk old during = (during ≡ old)
    ⊎ ((event : Event) × (out : Out) × Steps score disk event out old during)

-- what becomes of a store: an event, with what it gave, or a crash
pub data Act : Type 0 where
  happens : Event → Out → Act
  crashes : Act

-- a store's life, from one state to another, in which what was mounted behind a crash lives on
abbrev pub Lives : {D : Type 0} → (List ℕ → List ℕ) → DiskOf D → List Act → (old new : CoreState D)
    → Type 0
Lives score disk [] old new = new ≡ old
Lives {D} score disk (happens event out ∷ acts) old new =
    (mid : CoreState D) × Steps score disk event out old mid × Lives score disk acts mid new
Lives {D} score disk (crashes ∷ acts) old new =
    (during : CoreState D) × (mid : CoreState D) × MayTurnInto score disk old during
    × Recovers score disk old during mid × Lives score disk acts mid new

-- A life of the machine, from one state to another: events and crashes, one after another.
abbrev pub LivesMachine : (List ℕ → List ℕ) → List Act → (old new : Machine) → Type 0
LivesMachine score [] old new = new ≡ old
LivesMachine score (happens event out ∷ acts) old new =
    (mid : Machine) × MakesStep score event out old mid × LivesMachine score acts mid new
LivesMachine score (crashes ∷ acts) old new =
    (mid : Machine) × Crashes old mid × LivesMachine score acts mid new
