-- Why a store failed over a while, by what its devices tell.
use Rattle.std.specs.Prelude.{◌≡◌, ◌⊎◌, ⊤, None, IfErr, true}
use Rattle.std.specs.List.{All}
use Rattle.vt_base.specs.Damage.{Differ}
use Rattle.vt_base.specs.declared.why.Why.{Why}
use Rattle.vt_base.specs.declared.why.Why.TheVariants as whys
use Rattle.vt_disk.specs.Members.{DiskOf}
use Rattle.vt_model.specs.Causes.{NoneFell, OneRose}
use Rattle.vt_handler.specs.Serving.{tells_failure}
use Rattle.vt_core.specs.Core.{CoreState, each_of, stops_of}
use Rattle.vt_use.specs.Stores.{Exchange}

-- no part of it has stopped, and over a while no device counts a failed call
pub record NoCallFails {D : Type 0} (disk : DiskOf D) (old new : CoreState D) : Type 0 where
  pub goes_on : All (λ stop. stop ≡ None) (stops_of old)
  pub none_rose : ¬ OneRose (each_of disk.faults old) (each_of disk.faults new)

-- no count of failed calls fell, and a part stopped only where one rose
pub record TellsStops {D : Type 0} (disk : DiskOf D) (old new : CoreState D) : Type 0 where
  pub fell : NoneFell (each_of disk.faults old) (each_of disk.faults new)
  pub stops : (stops_of new ≡ stops_of old)
      ⊎ OneRose (each_of disk.faults old) (each_of disk.faults new)

-- Why a store failed over a while before which no part had stopped, whatever its devices hold: a
-- device counted a failed call, two values differ, or memory was wanting.
abbrev pub FailsFor : {D : Type 0} → DiskOf D → Why → (old new : CoreState D) → Type 0
FailsFor disk whys.DiskFault old new = OneRose (each_of disk.faults old) (each_of disk.faults new)
FailsFor disk (whys.Stopped call) old new =
    OneRose (each_of disk.faults old) (each_of disk.faults new)
FailsFor disk (whys.Damaged site want found) old new = Differ want found
FailsFor disk whys.NoMemory old new = ⊤
FailsFor disk why old new = ⊥

-- each failure that is told among these has its cause
abbrev pub HasItsCause : {D : Type 0} → DiskOf D → (old new : CoreState D) → Exchange → Type 0
HasItsCause disk old new exchange =
    IfErr exchange.1 (λ why. tells_failure why ≡ true → FailsFor disk why old new)
