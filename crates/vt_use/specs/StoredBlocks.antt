-- One block of the store that a configuration names, on partitions that are handed out by name.
use Rattle.std.specs.Prelude.{ℕ, ◌≡◌, ◌⊎◌, true, false, Result, Ok, OnOk, List, length}
use Rattle.vt_base.specs.Protocol.{read, write, r_read, r_write}
use Rattle.vt_base.specs.declared.TheConstants.{MAX_BLOCK}
use Rattle.vt_base.specs.declared.score.Score.{Score}
use Rattle.vt_base.specs.declared.why.Why.{Why}
use Rattle.vt_conf.specs.declared.conf.Conf.{Conf}
use Rattle.vt_disk.specs.Members.{DiskOf}
use Rattle.vt_model.specs.History.{History}
use Rattle.vt_model.specs.Places.{Setup}
use Rattle.vt_part.specs.Table.{Table}
use Rattle.vt_partitions.specs.Parts.{Standing}
use Rattle.vt_handler.specs.Serving.{answered}
use Rattle.vt_core.specs.Core.{CoreState}
use Rattle.vt_core.specs.Mounting.{AllStandFor}
use Rattle.vt_use.specs.Uses.{AreMarkedOn, LeftInStore}
use Rattle.vt_use.specs.Blocks.{IsAnswer, written_to}

-- On partitions that read as history `g`, what is told of a block that was read is true of it, and
-- they hold it still.
pub record ReadsStore {D : Type 0} (score : List ℕ → List ℕ) (disk : DiskOf D) (conf : Conf)
    (kind : ℕ) (s : List ℕ) (result : Result (List ℕ) Why) (new : List ℕ → Standing D)
    (tables : List Table) (c : Setup) (g : History) : Type 0 where
  pub answers : IsAnswer score c g (read s kind MAX_BLOCK)
      (answered (λ (bytes : List ℕ). r_read bytes) result)
  pub kept : CoreState D
  pub left : LeftInStore score disk conf false (Ok tt) g kept new tables c g

-- What a write leaves of such partitions: whatever calls failed, and whatever a crash then leaves of
-- them, they stand for all of the history, perhaps with the block that the model adds. Where a score
-- is told, it is the model's answer, and they stand for the history with that block, as every mark
-- that is read of them says.
pub record WritesStore {D : Type 0} (score : List ℕ → List ℕ) (disk : DiskOf D) (conf : Conf)
    (kind : ℕ) (bytes : List ℕ) (result : Result Score Why) (new : List ℕ → Standing D)
    (tables : List Table) (c : Setup) (g : History) : Type 0 where
  pub answers : IsAnswer score c g (write kind bytes)
      (answered (λ (given : Score). r_write given.0) result)
  pub last : History
  pub last_is : (last ≡ g) ⊎ (last ≡ written_to score c g kind bytes)
  pub kept : CoreState D
  pub closed : Result (Unit {0}) Why
  pub left : LeftInStore score disk conf true closed last kept new tables c g
  pub done : OnOk result ((last ≡ written_to score c g kind bytes)
      × (AreMarkedOn disk (length last) left.back
      × AllStandFor score disk c tables left.back last (length last)))
