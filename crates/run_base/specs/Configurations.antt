-- What the file of a configuration says, and why none is read (venti.conf(6)); and what is told where
-- a partition that it names is refused.
use Rattle.std.specs.Prelude.{ℕ, ◌≡◌, ◌⊎◌, ◌<◌, ◌≤◌, IsTrue, List, Some, length, slice_get}
use Rattle.std.specs.Option.{option_map_or}
use Rattle.vt_base.specs.Faults.{HasRisen}
use Rattle.vt_base.specs.declared.mount.MountBad.{MountBad}
use Rattle.vt_base.specs.declared.mount.MountBad.TheVariants as mount_bad
use Rattle.vt_conf.specs.declared.TheConstants.{MAX_CONF}
use Rattle.vt_conf.specs.declared.conf.Conf.{Conf}
use Rattle.vt_conf.specs.declared.conf.PartFile.{PartFile}
use Rattle.vt_conf.specs.declared.error.ConfCause.{ConfCause}
use Rattle.vt_conf.specs.declared.error.ConfCause.TheVariants.{TooLong}
use Rattle.vt_conf.specs.Configuration.{Configures, IsFirstCause}
use Rattle.run_base.specs.declared.error.CommandError.{CommandError}
use Rattle.run_base.specs.declared.error.CommandError.TheVariants.{BadConf, NotFormatted, TooSmall, Disagree, SameName, DiskFault, FileFault, NoMemory, Damaged}
use Rattle.run_base.specs.Change.{FilesChange}

-- A file that is longer than a configuration may be is refused for that, whatever it says, and
-- another one for its first cause.
abbrev pub IsWrong : (text : List ℕ) → (line : ℕ) → ConfCause → Type 0
IsWrong text line why = ((MAX_CONF < length text) × (line ≡ 0) × (why ≡ TooLong))
    ⊎ ((length text ≤ MAX_CONF) × IsFirstCause text line why)

-- the file of this name says this configuration
pub record ReadsConf {I : Type 0} (file : List ℕ) (conf : Conf) (files : FilesChange I)
    : Type 0 where
  pub text : List ℕ
  pub says : Configures text conf
  pub content : IsTrue files.tells → files.content file ≡ Some text
  pub quiet : files.faults' ≡ files.faults

-- why none is read: it is refused, its file couldn't be read, or memory ran out
abbrev pub ReadsNone : {I : Type 0} → (file : List ℕ) → CommandError → FilesChange I → Type 0
ReadsNone file (BadConf bad) files = (files.faults' ≡ files.faults)
    × (IsTrue files.tells → (text : List ℕ) × (files.content file ≡ Some text)
    × IsWrong text bad.line bad.why)
ReadsNone file FileFault files = HasRisen files.faults files.faults'
ReadsNone file NoMemory files = files.faults' ≡ files.faults
ReadsNone file failure files = ⊥

-- ---- the partitions that it names

-- the file of the partition with this number, or the configuration's own where it names none
abbrev pub name_at : (file : List ℕ) → List PartFile → (part : ℕ) → List ℕ
name_at file files part = option_map_or (λ named. named.name) (slice_get files part) file

-- what is told where one of these partitions is refused, unless memory runs out
abbrev pub IsRefusalAmong : (file : List ℕ) → List PartFile → MountBad → CommandError → Type 0
IsRefusalAmong file files (mount_bad.NotFormatted part) failure =
    failure ≡ NotFormatted (name_at file files part)
IsRefusalAmong file files (mount_bad.TooSmall part len need) failure =
    failure ≡ TooSmall (name_at file files part) len need
IsRefusalAmong file files (mount_bad.DuplicateName first second) failure =
    failure ≡ SameName (name_at file files second) (name_at file files first)
IsRefusalAmong file files (mount_bad.Disagree part field found want) failure =
    failure ≡ Disagree (name_at file files part) field found want
IsRefusalAmong file files (mount_bad.Damaged site want found) failure = failure ≡ Damaged want found
IsRefusalAmong file files mount_bad.Fault failure = failure ≡ DiskFault
IsRefusalAmong file files mount_bad.NoMemory failure = failure ≡ NoMemory
