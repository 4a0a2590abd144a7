-- A rehearsal as a whole, and what its summary says.
use Rattle.std.specs.Prelude.{◌≡◌, ℕ, ◌+◌, Bool, true, false, List, [], count_by}
use Rattle.sha1.specs.Sha1.{sha1}
use Rattle.vt_core.specs.Core.{history_len}
use Rattle.vt_core.specs.Mounting.{MountsStore, devices_in, tables_in}
use Rattle.vt_recover.specs.declared.devices.Devices.{Devices}
use Rattle.vt_disk.specs.Members.{DiskOf}
use Rattle.vt_empty.specs.Store.{AreFresh}
use Rattle.vt_memdisk.specs.declared.crash.CrashMode.{CrashMode}
use Rattle.vt_rehearse.specs.declared.TheConstants.{SESSIONS}
use Rattle.vt_rehearse.specs.declared.rounds.Round.{Round}
use Rattle.vt_rehearse.specs.declared.rounds.Round.TheVariants.{Write, Read, Sync, Crash}
use Rattle.vt_rehearse.specs.declared.summary.Summary.{Summary}
use Rattle.vt_rehearse.specs.declared.words.TheConstants.{WORDS}
use Rattle.vt_rehearse.specs.Counts.{nothing_done}
use Rattle.vt_rehearse.specs.Memory.{LeavesMemory, memory_disk}
use Rattle.vt_rehearse.specs.Rehearsal.{LooksUpAll, MakesAll}
use Rattle.vt_rehearse.specs.Rounds.{rounds_from}
use Rattle.vt_rehearse.specs.Shape.{the_shape, the_sizes}
use Rattle.vt_rehearse.specs.Stage.{StageState}
use Rattle.vt_rehearse.specs.Words.{all_words}

-- A store without blocks was mounted; just the rounds were made that this seed draws, so many; then
-- all words were looked up; and the summary is what was counted.
pub record IsRehearsal {D : Type 0} (score : List ℕ → List ℕ) (disk : DiskOf D)
    (Leaves : CrashMode → D → List ℕ → Type 0) (seed count : ℕ) (s : Summary) : Type 0 where
  pub devices : Devices D
  pub fresh : AreFresh disk the_shape devices
  pub first : StageState D
  pub mounts : MountsStore score disk (tables_in devices) (devices_in devices) the_sizes SESSIONS
      first.core
  pub unlisted : first.listed ≡ []
  pub uncounted : first.summary ≡ nothing_done
  pub last : StageState D
  pub rounds : MakesAll score disk Leaves (rounds_from seed count) first last
  pub end : StageState D
  pub looks : LooksUpAll score disk all_words last end
  pub summary : s ≡ record end.summary { blocks = history_len end.core }

-- The summary is that of a rehearsal on disks in memory, with scores by SHA-1.
abbrev pub IsRehearsalOf : (seed count : ℕ) → Summary → Type 0
IsRehearsalOf = IsRehearsal sha1 memory_disk LeavesMemory

-- ---- how the numbers of a summary fit together

-- whether the round writes
abbrev pub is_write : Round → Bool
is_write (Write session word) = true
is_write _ = false

-- whether the round reads
abbrev pub is_read : Round → Bool
is_read (Read session word) = true
is_read _ = false

-- whether the round syncs
abbrev pub is_sync : Round → Bool
is_sync (Sync session) = true
is_sync _ = false

-- whether the round is a crash
abbrev pub is_crash : Round → Bool
is_crash (Crash mode) = true
is_crash _ = false

-- Each write, read, sync and crash of these rounds is counted. All that the store gave was compared
-- with the list, and was as the list says.
pub record AddsUp (rounds : List Round) (s : Summary) : Type 0 where
  pub writes : s.writes ≡ count_by is_write rounds
  pub reads : s.reads ≡ count_by is_read rounds
  pub syncs : s.syncs ≡ count_by is_sync rounds
  pub crashes : s.crashes ≡ count_by is_crash rounds
  pub answers : s.accepted + s.held ≡ s.writes
  pub found : s.found + s.missing ≡ s.reads
  pub blocks : s.blocks + s.lost ≡ s.accepted
  pub compared : s.compared ≡ s.writes + s.reads + s.syncs + s.crashes + WORDS
  pub ok : s.ok ≡ true
