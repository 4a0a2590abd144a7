-- One use of a store on devices: it is asked for operations, and its use is ended; and one of the
-- store that a configuration names, which is opened for it and closed behind it.
use Rattle.std.specs.Prelude.{ℕ, ◌≡◌, ◌≤◌, ◌-◌, Bool, true, false, Some, Result, Ok, List, length, slice_get}
use Rattle.std.specs.List.{AllByRecursion}
use Rattle.vt_base.specs.declared.why.Why.{Why}
use Rattle.vt_conf.specs.declared.conf.Conf.{Conf}
use Rattle.vt_disk.specs.Members.{DiskOf}
use Rattle.vt_isect.specs.declared.head.Head.{Head}
use Rattle.vt_model.specs.History.{History}
use Rattle.vt_model.specs.Places.{Setup}
use Rattle.vt_part.specs.Table.{Table}
use Rattle.vt_partitions.specs.Parts.{Standing}
use Rattle.vt_handler.specs.Taking.{DoesCalls}
use Rattle.vt_core.specs.Core.{CoreState, devices_of, history_len, setup_of}
use Rattle.vt_core.specs.Files.{PerDevice, all_of}
use Rattle.vt_core.specs.Mounting.{AllStandFor, EachStands, IsHeadRead, IsMarkRead}
use Rattle.vt_core.specs.Sound.{IsSound}
use Rattle.vt_requests.specs.Answers.{KeepsAll}
use Rattle.vt_requests.specs.Driven.{DrivenState}
use Rattle.vt_requests.specs.Ending.{Ends}
use Rattle.vt_open.specs.Names.{AreUnder, HaveOneShape, files_of}
use Rattle.vt_open.specs.Opening.{Opens}
use Rattle.vt_open.specs.Taking.{AreHandedBack}
use Rattle.vt_use.specs.Stores.{Exchange, AddsNothing, at_time, store_on}

-- ---- what is done

-- Where the store may have been written to, its use was ended, and this came of that; else it is as
-- it was left.
abbrev pub ClosesIf : {D : Type 0} → (List ℕ → List ℕ) → DiskOf D → (writes : Bool)
    → (closed : Result (Unit {0}) Why) → (kept new : CoreState D) → Type 0
ClosesIf score disk true closed kept new = Ends score disk closed kept new
ClosesIf score disk false closed kept new = (closed ≡ Ok tt) × (new ≡ kept)

-- A store was asked for these operations and for nothing else, and its use was ended where it may
-- have been written to.
pub record AsksAndEnds {D : Type 0} (score : List ℕ → List ℕ) (disk : DiskOf D) (now : ℕ) (writes : Bool)
    (exchanges : List Exchange) (closed : Result (Unit {0}) Why) (old kept new : CoreState D)
    : Type 0 where
  pub asked : DoesCalls (store_on score disk) (at_time now old) exchanges (at_time now kept)
  pub reads : writes ≡ false → AllByRecursion AddsNothing exchanges
  pub ends : ClosesIf score disk writes closed kept new

-- This was done with a store: so many blocks are new in it.
pub record UsesCore {D : Type 0} (score : List ℕ → List ℕ) (disk : DiskOf D) (now : ℕ)
    (writes : Bool) (Does : List Exchange → (old new : DrivenState D) → Type 0) (added : ℕ)
    (closed : Result (Unit {0}) Why) (old new : CoreState D) : Type 0 where
  pub exchanges : List Exchange
  pub kept : CoreState D
  pub asks : AsksAndEnds score disk now writes exchanges closed old kept new
  pub does : Does exchanges (at_time now old) (at_time now kept)
  pub added_is : added ≡ history_len new - history_len old

-- The store of a configuration was opened, this was done with it, and it was closed: its partitions
-- are back.
pub record Uses {D : Type 0} (score : List ℕ → List ℕ) (disk : DiskOf D) (told : Type 0)
    (conf : Conf) (Does : (opened left : CoreState D) → Type 0) (old new : List ℕ → Standing D)
    : Type 0 where
  pub opened : CoreState D
  pub left : CoreState D
  pub during : List ℕ → Standing D
  pub opens : Opens score disk told conf 1 old during opened
  pub does : Does opened left
  pub shape : HaveOneShape (devices_of left) (files_of conf)
  pub given : AreHandedBack told (all_of (files_of conf)) during new (all_of (devices_of left))

-- ---- what follows

-- The head of each section and the filter, as they are read of these devices, are marked with so
-- many blocks.
pub record AreMarkedOn {D : Type 0} (disk : DiskOf D) (n : ℕ) (devices : PerDevice D) : Type 0
  where
    pub heads : (i : ℕ) (device : D) → slice_get devices.sections i ≡ Some device
        → (head : Head) × IsHeadRead disk devices i head × (head.mark ≡ n)
    pub filter : (device : D) → slice_get devices.filter 0 ≡ Some device
        → IsMarkRead disk devices n

-- What a use leaves of a store that held this history at its end: it holds it still, what it was
-- mounted with stays, and whatever a crash leaves of its devices, taken together, stands for a
-- prefix of the history with each durable block. Where its use was ended and nothing failed in that,
-- it stands for all of it, and every mark that is read says so.
pub record LeftByUse {D : Type 0} (score : List ℕ → List ℕ) (disk : DiskOf D) (writes : Bool)
    (closed : Result (Unit {0}) Why) (last : History) (old kept new : CoreState D) : Type 0 where
  pub sound : IsSound score disk new last
  pub keeps : KeepsAll disk old new
  pub durable : kept.log.durable ≤ new.log.durable
  pub stands : EachStands score disk (setup_of old) old.log.tables new.log.durable
      (devices_of new) last
  pub done : writes ≡ true → closed ≡ Ok tt → AreMarkedOn disk (length last) (devices_of new)
      × AllStandFor score disk (setup_of old) old.log.tables (devices_of new) last (length last)

-- What a use leaves of the partitions under the names of a configuration, which read as history `g`
-- before: what it leaves of a store, and they are back.
pub record LeftInStore {D : Type 0} (score : List ℕ → List ℕ) (disk : DiskOf D) (conf : Conf)
    (writes : Bool) (closed : Result (Unit {0}) Why) (last : History) (kept : CoreState D)
    (new : List ℕ → Standing D) (tables : List Table) (c : Setup) (g : History) : Type 0 where
  pub back : PerDevice D
  pub under : AreUnder new conf back
  pub least : ℕ
  pub all : length g ≤ least
  pub durable : kept.log.durable ≤ least
  pub stands : EachStands score disk c tables least back last
  pub done : writes ≡ true → closed ≡ Ok tt → AreMarkedOn disk (length last) back
      × AllStandFor score disk c tables back last (length last)
