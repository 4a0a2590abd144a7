-- An archive of a store on devices that is served to a client, and one of the store that a
-- configuration names, on partitions that are handed out by name.
use Rattle.std.specs.Prelude.{ℕ, ⊤, false, Option, Result, Ok, List}
use Rattle.vt_base.specs.declared.why.Why.{Why}
use Rattle.vt_conf.specs.declared.conf.Conf.{Conf}
use Rattle.vt_disk.specs.Members.{DiskOf}
use Rattle.vt_log.specs.Answers.{HoldTheSame}
use Rattle.vt_model.specs.History.{History}
use Rattle.vt_model.specs.Places.{Setup}
use Rattle.vt_part.specs.Table.{Table}
use Rattle.vt_partitions.specs.Parts.{Standing}
use Rattle.vt_core.specs.Core.{CoreState, devices_of, setup_of}
use Rattle.vt_core.specs.Files.{all_of}
use Rattle.vt_core.specs.Mounting.{EachStands}
use Rattle.vt_core.specs.Sound.{IsSound}
use Rattle.vt_requests.specs.Answers.{KeepsAll}
use Rattle.vt_use.specs.LocalJobs.{DoesOnStore, new_local}
use Rattle.vt_use.specs.Stores.{at_time, store_on}
use Rattle.vt_use.specs.Uses.{LeftInStore, Uses, UsesCore}
use Rattle.vt_blocks.specs.Local.{DoesLocal, HoldsLocal}
use Rattle.vt_use.specs.PlaceCalls.{FailsAs}
use Rattle.vt_tree.specs.declared.error.TreeErr.TheVariants as trees
use Rattle.vt_tree.specs.Maps.{BlockMap}
use Rattle.vac_read.specs.declared.error.VacBad.{VacBad}
use Rattle.vac_read.specs.declared.error.VacBad.TheVariants.{Tree}
use Rattle.nine_view.specs.declared.serving.Served.{Served}
use Rattle.vac_view.specs.Viewing.{IsShown, Passed, ViewsBy}

-- ---- on devices

-- so a store on devices is used by the job that serves an archive
abbrev pub ViewsByJob : {D : Type 0} → (List ℕ → List ℕ) → DiskOf D → (score : List ℕ) → Passed
    → (result : Result Served VacBad) → (said : Option Why) → (added : ℕ)
    → (closed : Result (Unit {0}) Why) → (old new : CoreState D) → Type 0
ViewsByJob score_of disk score p result said added closed old new = UsesCore score_of disk 0 false
    (DoesOnStore (store_on score_of disk) (ViewsBy (DoesLocal (store_on score_of disk))
    (HoldsLocal (store_on score_of disk) score_of) score_of score p result) said) added closed old new

-- ---- of a configuration

-- the store was opened, an archive of it was served by its job, with this result, and it was closed
abbrev pub UsesFor : {D : Type 0} → (List ℕ → List ℕ) → DiskOf D → (told : Type 0)
    → Conf → (score : List ℕ) → Passed → (result : Result Served VacBad) → (said : Option Why)
    → (added : ℕ) → (closed : Result (Unit {0}) Why) → (old new : List ℕ → Standing D) → Type 0
UsesFor score_of disk told conf score p result said added closed old new = Uses score_of disk told
    conf (ViewsByJob score_of disk score p result said added closed) old new

-- ---- what follows

-- what was shown of it is right by this map
abbrev pub ShowsOn : {D : Type 0} → {score_of : List ℕ → List ℕ} → {disk : DiskOf D}
    → {score : List ℕ} → {p : Passed} → {result : Result Served VacBad} → {said : Option Why}
    → {added : ℕ} → {closed : Result (Unit {0}) Why} → {old new : CoreState D}
    → BlockMap → ViewsByJob score_of disk score p result said added closed old new → Type 0
ShowsOn {D} {score_of} {disk} {score} {p} {result} {said} {added} {closed} {old} {new} map it =
    IsShown (DoesLocal (store_on score_of disk)) (HoldsLocal (store_on score_of disk) score_of)
    score_of p (new_local (at_time 0 old)) it.does.kept map score result it.does.does.views

-- Why an archive can't be read of a store over a while before which no part of it had stopped,
-- whatever its devices hold: as a block of it is refused, where one is why.
abbrev pub FailsIn : {D : Type 0} → DiskOf D → (old new : CoreState D) → VacBad → Type 0
FailsIn disk old new (Tree (trees.Block err)) = FailsAs disk old new err
FailsIn disk old new bad = ⊤

-- The store holds what it held, its devices were read alone, and whatever a crash leaves of them
-- stands for a prefix of it with all that is durable.
pub record StaysAsRead {D : Type 0} (score_of : List ℕ → List ℕ) (disk : DiskOf D) (h : History)
    (old new : CoreState D) : Type 0 where
  pub sound : IsSound score_of disk new h
  pub same : HoldTheSame disk (all_of (devices_of old)) (all_of (devices_of new))
  pub keeps : KeepsAll disk old new
  pub stands : EachStands score_of disk (setup_of old) old.log.tables new.log.durable
      (devices_of new) h

-- What a view leaves of partitions that read as history `g`: they hold it still.
pub record KeepsStored {D : Type 0} (score_of : List ℕ → List ℕ) (disk : DiskOf D) (conf : Conf)
    (new : List ℕ → Standing D) (tables : List Table) (c : Setup) (g : History) : Type 0 where
  pub kept : CoreState D
  pub left : LeftInStore score_of disk conf false (Ok tt) g kept new tables c g
