-- The command `session CONF`: one session over the store that a configuration names (venti(8)).
use Rattle.std.specs.Prelude.{ℕ, ◌≡◌, ◌⊎◌, ◌≤◌, ◌++◌, ◌&&◌, IsTrue, List, length, map}
use Rattle.std.specs.List.{AllByRecursion}
use Rattle.vt_conf.specs.declared.conf.Conf.{Conf}
use Rattle.vt_disk.specs.Members.{DiskOf}
use Rattle.vt_model.specs.History.{History}
use Rattle.vt_model.specs.Places.{Setup}
use Rattle.vt_part.specs.Table.{Table}
use Rattle.vt_handler.specs.Links.{ReadCause}
use Rattle.vt_handler.specs.Sessions.{SinkCause}
use Rattle.vt_model.specs.Causes.{OneRose, Cause}
use Rattle.vt_session.specs.Answered.{Faults}
use Rattle.vt_session.specs.Talk.{Alone}
use Rattle.vt_session.specs.Turns.{Turn, causes_of, synced_numbers}
use Rattle.vt_core.specs.Core.{CoreState, devices_of}
use Rattle.vt_core.specs.Files.{PerDevice, all_of}
use Rattle.vt_core.specs.Mounting.{AllStandFor, EachStands}
use Rattle.vt_open.specs.Names.{AreUnder, files_of, HaveOneShape}
use Rattle.vt_open.specs.Opening.{Opens}
use Rattle.vt_open.specs.Taking.{AreHandedBack}
use Rattle.vt_partitions.specs.Parts.{Standing}
use Rattle.vt_use.specs.declared.session.StoreServed.{StoreServed}
use Rattle.vt_use.specs.Sessions.{AreMarkedOn, AreUnsaid, OnlyMemory, ServesStore}
use Rattle.run_base.specs.Blocks.{FindsNoConf}
use Rattle.run_base.specs.Change.{StreamChange, FilesChange, NoneHandedOut, PartsChange, PassesNothing}
use Rattle.run_base.specs.Configurations.{ReadsConf}
use Rattle.run_base.specs.Errors.{CommandOutcome}
use Rattle.run_base.specs.Served.{PassesOver, outcome_of}
use Rattle.run_base.specs.Unopened.{TellsUnopened}

-- ---- what is done

-- A store that was opened served a session, and was closed: its partitions are back.
pub record ServesOpened {R K D : Type 0} (score : List ℕ → List ℕ) (disk : DiskOf D) (conf : Conf)
    (opened : CoreState D) (outcome : CommandOutcome) (source : StreamChange R)
    (sink : StreamChange K)
    (told : Type 0) (old new : List ℕ → Standing D) : Type 0 where
  -- the second at which the session began
  pub now : ℕ
  pub ended : CoreState D
  pub end : StoreServed
  pub input : List ℕ
  pub output : List ℕ
  pub serves : ServesStore score disk end now opened ended (source.tells && sink.tells) input output
  pub passes : IsTrue (source.tells && sink.tells) → PassesOver end input output source sink
  pub read : ReadCause end.ended source.faults source.faults'
  pub write : SinkCause end.ended sink.faults sink.faults'
  pub shape : HaveOneShape (devices_of ended) (files_of conf)
  pub given : AreHandedBack told (all_of (files_of conf)) old new (all_of (devices_of ended))
  pub outcome_is : outcome ≡ outcome_of end

-- The store of the configuration was opened, served a session, and was closed.
pub record ServesConf {R K P D : Type 0} (score : List ℕ → List ℕ) (disk : DiskOf D)
    (conf : Conf) (outcome : CommandOutcome) (source : StreamChange R) (sink : StreamChange K)
    (parts : PartsChange P D) : Type 0 where
  pub opened : CoreState D
  pub during : List ℕ → Standing D
  pub opens : Opens score disk (IsTrue parts.tells) conf 1 parts.old during opened
  pub serves : ServesOpened score disk conf opened outcome source sink (IsTrue parts.tells) during
      parts.new
  pub faults : parts.faults' ≡ parts.faults

-- The configuration was read, and a session was served over its store, or it is told why that isn't
-- opened; or it is told why none was read, and nothing else is done.
abbrev pub DoesSessionConf : {R K I P D : Type 0} → (List ℕ → List ℕ) → DiskOf D
    → (file : List ℕ) → CommandOutcome → StreamChange R → StreamChange K → FilesChange I
    → PartsChange P D → Type 0
DoesSessionConf score disk file outcome source sink files parts =
    FindsNoConf file outcome files (PassesNothing source sink × NoneHandedOut parts)
    ⊎ ((conf : Conf) × ReadsConf file conf files
    × (TellsUnopened score disk file conf outcome source sink parts
    ⊎ ServesConf score disk conf outcome source sink parts))

-- ---- the promise

-- Where no device counts a failed call, each reply is the model's or `no memory`, and the devices
-- stand for all of the history, which every mark that is read of them says.
pub record EndsQuietly {D : Type 0} (score : List ℕ → List ℕ) (disk : DiskOf D) (c : Setup)
    (tables : List Table) (causes : List Cause) (last : History) (back : PerDevice D) : Type 0
  where
    pub failures : OnlyMemory causes
    pub stands : AllStandFor score disk c tables back last (length last)
    pub marks : AreMarkedOn disk (length last) back

-- What a session promises where all that is handed in tells what it holds, over partitions of which
-- every combination of images stands for a prefix of one legal history, and that read as history
-- `g`: what came in and went out is a session that nobody shares, from `g` to `last`; and whatever
-- device calls failed, what any crash then leaves of the partitions, taken together, stands for a
-- prefix of `last` that has each block behind which a sync was answered.
pub record KeepsConf {D : Type 0} (score : List ℕ → List ℕ) (disk : DiskOf D) (conf : Conf)
    (end : StoreServed) (input output : List ℕ) (new : List ℕ → Standing D) (tables : List Table)
    (devices : PerDevice D) (c : Setup) (g : History) : Type 0 where
  pub faults : Faults
  pub turns : List Turn
  pub between : History
  pub alone : Alone score c faults g input output turns end.ended between
  pub unsaid : List Turn
  pub last : History
  pub are_unsaid : AreUnsaid score c input turns unsaid end.ended between last
  pub back : PerDevice D
  pub under : AreUnder new conf back
  pub least : ℕ
  pub stands : EachStands score disk c tables least back last
  pub synced : AllByRecursion (λ n. n ≤ least) (synced_numbers (turns ++ unsaid))
  pub quiet : ¬ OneRose (map disk.faults (all_of devices)) (map disk.faults (all_of back))
      → EndsQuietly score disk c tables (causes_of (turns ++ unsaid)) last back
