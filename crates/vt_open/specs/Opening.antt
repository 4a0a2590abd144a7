-- What it is to open a store, and to close it.
use Rattle.std.specs.Prelude.{◌≡◌, ◌⊎◌, ⊤, ℕ, IsTrue, List, length, map}
use Rattle.std.specs.List.{AllZip, Contains}
use Rattle.vt_base.specs.declared.mount.MountBad.{MountBad}
use Rattle.vt_base.specs.declared.mount.MountBad.TheVariants.{Fault, NoMemory}
use Rattle.vt_conf.specs.declared.conf.Conf.{Conf}
use Rattle.vt_conf.specs.Room.{cached_blocks, entry_room}
use Rattle.vt_core.specs.Core.{CoreState, devices_of}
use Rattle.vt_core.specs.Files.{PerDevice, all_of}
use Rattle.vt_core.specs.Mounting.{IsLogOf, IsSetupOf, KeepsLimits, LeavesStanding, MountsStore}
use Rattle.vt_recover.specs.Refusals.{CountsRefusal}
use Rattle.vt_core.specs.Refusals.{IsBeforeReading, IsRefusedMount}
use Rattle.vt_core.specs.Stands.{ArePartitions}
use Rattle.vt_disk.specs.Calls.{OnlyReads}
use Rattle.vt_disk.specs.Members.{DiskOf}
use Rattle.vt_log.specs.Answers.{HoldTheSame}
use Rattle.vt_model.specs.History.{History}
use Rattle.vt_model.specs.Places.{Setup}
use Rattle.vt_open.specs.declared.error.OpenError.{OpenError}
use Rattle.vt_open.specs.declared.error.OpenError.TheVariants.{Missing, Refused}
use Rattle.vt_open.specs.Names.{AreUnder, HaveOneShape, files_of, names_of}
use Rattle.vt_open.specs.Taking.{AreTaken, RefusesTaking}
use Rattle.vt_part.specs.Table.{Table}
use Rattle.vt_partitions.specs.Parts.{Standing}
use Rattle.vt_shard.specs.declared.mounting.Sizes.{Sizes}
use Rattle.vt_mount_errors.specs.MountErrors.{NamesTwo}

-- The devices stay the same, and the tables of those of arenas were read.
pub record AreTablesRead {D : Type 0} (disk : DiskOf D) (handed mounted : PerDevice D)
    : Type 0 where
  pub partitions : AllZip (OnlyReads disk 1) handed.partitions mounted.partitions
  pub sections : mounted.sections ≡ handed.sections
  pub filter : mounted.filter ≡ handed.filter

-- How many blocks and how many clean index entries each shard keeps in memory.
abbrev pub sizes_of : Conf → Sizes
sizes_of conf = record {
  lumps = cached_blocks conf.mem (length conf.sections.items);
  clean = entry_room conf.icmem (length conf.sections.items);
}

-- The partitions of all files that a configuration names were handed out, and a store was found on
-- them, with the room in memory that it says. These are the tables of those of arenas.
pub record Opens {D : Type 0} (score : List ℕ → List ℕ) (disk : DiskOf D) (told : Type 0)
    (conf : Conf) (sessions : ℕ) (old new : List ℕ → Standing D) (k : CoreState D) : Type 0 where
  pub handed : PerDevice D
  pub shape : HaveOneShape handed (files_of conf)
  pub taken : AreTaken told (all_of (files_of conf)) old new (all_of handed)
  pub mounted : PerDevice D
  pub read : AreTablesRead disk handed mounted
  pub tables : List Table
  pub partitions : IsTrue disk.tells → ArePartitions tables (map disk.bytes handed.partitions)
  pub mounts : MountsStore score disk tables mounted (sizes_of conf) sessions k
  pub standing : IsTrue disk.tells → LeavesStanding score disk tables mounted (devices_of k)
  pub faults_are : map disk.faults (all_of (devices_of k)) ≡ map disk.faults (all_of handed)
  pub devices : HaveOneShape (devices_of k) (files_of conf)

-- The partitions were handed out, and no store was found on them; they are back.
pub record FindsNoStore {D : Type 0} (score : List ℕ → List ℕ) (disk : DiskOf D) (told : Type 0)
    (conf : Conf) (old new : List ℕ → Standing D) (bad : MountBad) : Type 0 where
  pub handed : PerDevice D
  pub back : PerDevice D
  pub shape : HaveOneShape handed (files_of conf)
  pub shape_back : HaveOneShape back (files_of conf)
  pub stood : told → AreUnder old conf handed
  pub stand : told → AreUnder new conf back
  pub others : told → (name : List ℕ) → ¬ Contains (names_of (all_of (files_of conf))) name
      → new name ≡ old name
  pub mounted : PerDevice D
  pub read : AreTablesRead disk handed mounted
  pub tables : List Table
  pub partitions : IsTrue disk.tells → ArePartitions tables (map disk.bytes handed.partitions)
  pub cause : (c : Setup) → IsSetupOf disk tables mounted c
      → IsRefusedMount score disk tables mounted c bad
  pub counts : CountsRefusal bad (map disk.faults (all_of handed)) (map disk.faults (all_of back))
  pub early : IsBeforeReading bad → HoldTheSame disk handed.sections back.sections
  pub sizes : map disk.size (all_of back) ≡ map disk.size (all_of handed)
  -- on partitions that stand for prefixes of one history
  pub found : (c : Setup) (h g : History) (base : ℕ) → IsTrue disk.tells
      → IsLogOf score disk tables mounted c h g base → KeepsLimits tables c
      → (bad ≡ Fault) ⊎ (bad ≡ NoMemory)
  pub standing : IsTrue disk.tells → LeavesStanding score disk tables mounted back

-- Not all partitions are handed out, or no store is found on them.
abbrev pub RefusesStore : {D : Type 0} → (List ℕ → List ℕ) → DiskOf D → (told : Type 0) → Conf
    → (old new : List ℕ → Standing D) → (faults faults' : ℕ) → OpenError → Type 0
RefusesStore score disk told conf old new faults faults' bad =
    RefusesTaking disk told 0 (length conf.arenas.items) (all_of (files_of conf)) old new
    faults faults' bad
    ⊎ ((why : MountBad) × (bad ≡ Refused why) × (faults' ≡ faults)
    × FindsNoStore score disk told conf old new why)

-- two values that a refusal names are two
abbrev pub NamesCause : OpenError → Type 0
NamesCause (Missing part) = ⊤
NamesCause (Refused bad) = NamesTwo bad

-- a call failed, or memory ran out
abbrev pub IsFaultOrMemory : OpenError → Type 0
IsFaultOrMemory (Missing part) = ⊤
IsFaultOrMemory (Refused bad) = (bad ≡ Fault) ⊎ (bad ≡ NoMemory)
