-- Why a command ends with a status other than 0: the status, the line that tells it, and the cause,
-- one row for each.
use Rattle.std.specs.Prelude.{ℕ, ◌≡◌, ◌≢◌, ◌⊎◌, ◌<◌, ◌-◌, ◌^◌, ⊤, IsTrue, List, [], ◌∷◌, ◌++◌, Option, Result, Ok, Err, codes, decimal}
use Rattle.std.specs.List.{concat}
use Rattle.vt_base.specs.Damage.{Differ}
use Rattle.vt_base.specs.Faults.{HasRisen}
use Rattle.vt_base.specs.Protocol.{why_words}
use Rattle.vt_client.specs.declared.error.ClientErr.TheVariants as errs
use Rattle.vt_conf.specs.Causes.{cause_text}
use Rattle.vt_conf.specs.declared.address.Address.{Address}
use Rattle.vt_dial.specs.Dialled.{with_back, with_link}
use Rattle.hex.specs.Hex.{encode_lower}
use Rattle.vt_disk.specs.Members.{DiskOf}
use Rattle.vt_partitions.specs.Parts.{there, HandsOut}
use Rattle.run_base.specs.declared.error.CommandError.{CommandError}
use Rattle.run_base.specs.declared.error.CommandError.TheVariants.{BadWords, BadConf, NotFormatted, TooSmall, Disagree, SameName, DiskFault, BadNumber, BadName, BadScore, BadArchive, TooDeep, TooLong, Cut, Malformed, Spent, ReadFault, FileFault, FolderFault, WriteFault, NoMemory, Damaged, IndexFull, ArenasFull, Refused, NoBlock, Server}
use Rattle.run_base.specs.Change.{StreamChange, DialerChange, FilesChange, FoldersChange, PartsChange}
use Rattle.run_base.specs.Fields.{field_name, advice_on, value_text}
use Rattle.vt_remote.specs.declared.talk.RemoteError.{RemoteError}
use Rattle.vt_remote.specs.declared.talk.RemoteError.TheVariants as remote

-- how a command ended: done, or why not
abbrev pub CommandOutcome : Type 0
CommandOutcome = Result (Unit {0}) CommandError

-- where a server is why: it wasn't reached, the link to it failed, memory ran out, a score is another
-- one than was wanted, it says no, or what it said is no answer
abbrev pub server_status : RemoteError → ℕ
server_status remote.Undialled = 6
server_status (remote.Refused errs.ReadFault) = 6
server_status (remote.Refused errs.WriteFault) = 7
server_status (remote.Refused errs.NoMemory) = 8
server_status (remote.Refused (errs.WrongScore want found)) = 9
server_status (remote.Refused (errs.Remote text)) = 11
server_status (remote.Refused errs.Cut) = 11
server_status (remote.Refused (errs.BadReply place)) = 11
server_status (remote.Refused errs.NoVersion) = 11
server_status (remote.Refused errs.Spent) = 11

-- the status that the program ends with, as README.md lists them
abbrev pub status_of : CommandOutcome → ℕ
status_of (Ok done) = 0
status_of (Err BadWords) = 1
status_of (Err (BadConf bad)) = 2
status_of (Err (NotFormatted file)) = 3
status_of (Err (TooSmall file len need)) = 3
status_of (Err (Disagree file field found want)) = 3
status_of (Err (SameName file other)) = 3
status_of (Err DiskFault) = 4
status_of (Err (BadNumber at)) = 5
status_of (Err (BadName at)) = 5
status_of (Err (BadScore at)) = 5
status_of (Err (BadArchive at)) = 5
status_of (Err (TooDeep at)) = 5
status_of (Err (TooLong at)) = 5
status_of (Err (Cut taken)) = 5
status_of (Err (Malformed place)) = 5
status_of (Err (Spent taken)) = 5
status_of (Err ReadFault) = 6
status_of (Err FileFault) = 6
status_of (Err FolderFault) = 6
status_of (Err WriteFault) = 7
status_of (Err NoMemory) = 8
status_of (Err (Damaged want found)) = 9
status_of (Err IndexFull) = 10
status_of (Err ArenasFull) = 10
status_of (Err (Refused why)) = 11
status_of (Err (NoBlock text)) = 11
status_of (Err (Server bad)) = server_status bad

-- a line on the fault sink
abbrev pub line : (pieces : List (List ℕ)) → List ℕ
line pieces = codes "venti: " ++ (concat pieces ++ 10 ∷ [])

-- the line for what a server or the way to it failed by
abbrev pub server_error_line : RemoteError → List ℕ
server_error_line remote.Undialled = line (codes "read fault" ∷ [])
server_error_line (remote.Refused errs.ReadFault) = line (codes "read fault" ∷ [])
server_error_line (remote.Refused errs.WriteFault) = line (codes "write fault" ∷ [])
server_error_line (remote.Refused errs.NoMemory) = line (codes "no memory" ∷ [])
server_error_line (remote.Refused (errs.WrongScore want found)) =
    line (codes "damaged: want " ∷ encode_lower want.0 ∷ codes ", found " ∷ encode_lower found.0
    ∷ [])
server_error_line (remote.Refused (errs.Remote text)) = line (codes "refused: " ∷ text ∷ [])
server_error_line (remote.Refused errs.Cut) = line (codes "refused: " ∷ codes "peer cut" ∷ [])
server_error_line (remote.Refused (errs.BadReply place)) =
    line (codes "refused: " ∷ codes "bad reply" ∷ [])
server_error_line (remote.Refused errs.NoVersion) =
    line (codes "refused: " ∷ codes "no version" ∷ [])
server_error_line (remote.Refused errs.Spent) = line (codes "refused: " ∷ codes "client spent" ∷ [])

-- the line on the fault sink for an outcome; none where all is done
abbrev pub outcome_line : CommandOutcome → List ℕ
outcome_line (Ok done) = []
outcome_line (Err BadWords) = line (codes "bad command line" ∷ [])
outcome_line (Err (BadConf bad)) =
    line (codes "config line " ∷ decimal bad.line ∷ codes ": " ∷ cause_text bad.why ∷ [])
outcome_line (Err (NotFormatted file)) = line (file ∷ codes ": not formatted" ∷ [])
outcome_line (Err (TooSmall file len need)) =
    line (file ∷ codes ": too small: " ∷ decimal len ∷ codes ", need " ∷ decimal need ∷ [])
outcome_line (Err (Disagree file field found want)) =
    line (file ∷ codes ": " ∷ field_name field ∷ codes " is " ∷ decimal found ∷ codes ", want "
    ∷ decimal want ∷ advice_on field found ∷ [])
outcome_line (Err (SameName file other)) = line (file ∷ codes ": name is that of " ∷ other ∷ [])
outcome_line (Err DiskFault) = line (codes "disk fault" ∷ [])
outcome_line (Err (BadNumber at)) = line (codes "bad number at " ∷ decimal at ∷ [])
outcome_line (Err (BadName at)) = line (codes "bad name at " ∷ decimal at ∷ [])
outcome_line (Err (BadScore at)) = line (codes "bad score at " ∷ decimal at ∷ [])
outcome_line (Err (BadArchive at)) = line (codes "bad archive at " ∷ decimal at ∷ [])
outcome_line (Err (TooDeep at)) = line (codes "too deep at " ∷ decimal at ∷ [])
outcome_line (Err (TooLong at)) = line (codes "too long at " ∷ decimal at ∷ [])
outcome_line (Err (Cut taken)) = line (codes "cut at " ∷ decimal taken ∷ [])
outcome_line (Err (Malformed place)) = line (codes "malformed at " ∷ decimal place ∷ [])
outcome_line (Err (Spent taken)) = line (codes "spent at " ∷ decimal taken ∷ [])
outcome_line (Err ReadFault) = line (codes "read fault" ∷ [])
outcome_line (Err FileFault) = line (codes "read fault" ∷ [])
outcome_line (Err FolderFault) = line (codes "read fault" ∷ [])
outcome_line (Err WriteFault) = line (codes "write fault" ∷ [])
outcome_line (Err NoMemory) = line (codes "no memory" ∷ [])
outcome_line (Err (Damaged want found)) =
    line (codes "damaged: want " ∷ value_text want ∷ codes ", found " ∷ value_text found ∷ [])
outcome_line (Err IndexFull) = line (codes "index full" ∷ [])
outcome_line (Err ArenasFull) = line (codes "arenas full" ∷ [])
outcome_line (Err (Refused why)) = line (codes "refused: " ∷ why_words why ∷ [])
outcome_line (Err (NoBlock text)) = line (codes "refused: " ∷ text ∷ [])
outcome_line (Err (Server bad)) = server_error_line bad

-- calls failed meanwhile: the count is higher, or stands at the end of its type
abbrev pub HaveFailed : (old new : ℕ) → Type 0
HaveFailed old new = (old < new) ⊎ (new ≡ 2 ^ 64 - 1)

-- a partition was handed out, calls of it failed, and it stands there again
pub record PartHasFailed {P D : Type 0} (disk : DiskOf D) (parts : PartsChange P D) : Type 0 where
  pub name : List ℕ
  pub before : D
  pub after : D
  pub grow_to : Option ℕ
  pub handed : IsTrue parts.tells → HandsOut disk (parts.old name) grow_to before
  pub back : IsTrue parts.tells → parts.new name ≡ there after
  pub rose : HaveFailed (disk.faults before) (disk.faults after)

-- A link was made, counts a failed call of this kind, and was taken back.
pub record HasLinkFailed {N L : Type 0} (count : L → ℕ) (dialer : DialerChange N L) : Type 0 where
  pub link : L
  pub failed : 0 < count link
  pub address : Address
  pub taken_back : IsTrue dialer.tells → dialer.new ≡ with_back link (with_link address dialer.old)

-- where a server is why: no link to it was made, a call of its link failed, or two scores differ
abbrev pub HasServerCause : {N L : Type 0} → DialerChange N L → RemoteError → Type 0
HasServerCause dialer remote.Undialled = HasRisen dialer.faults dialer.faults'
HasServerCause dialer (remote.Refused errs.ReadFault) = HasLinkFailed dialer.read_faults dialer
HasServerCause dialer (remote.Refused errs.WriteFault) =
    HasLinkFailed dialer.write_faults dialer
HasServerCause dialer (remote.Refused (errs.WrongScore want found)) = want.0 ≢ found.0
HasServerCause dialer (remote.Refused why) = ⊤

-- a call of a partition failed, or what hands them out counted one
abbrev pub HasDiskCause : {P D : Type 0} → DiskOf D → PartsChange P D → Type 0
HasDiskCause disk parts = HasRisen parts.faults parts.faults' ⊎ PartHasFailed disk parts

-- What is told comes of this, by its kind: that the words are no command, and a fault of a partition,
-- of the stream that is read, of a file, of a folder, of the stream that is written, or of a server.
pub record Causes : Type 1 where
  pub words : Type 0
  pub disks : Type 0
  pub source : Type 0
  pub files : Type 0
  pub folders : Type 0
  pub sink : Type 0
  pub server : RemoteError → Type 0

-- the causes of a command that is lent nothing: none
abbrev pub no_cause : Causes
no_cause = record {
  words = ⊥;
  disks = ⊥;
  source = ⊥;
  files = ⊥;
  folders = ⊥;
  sink = ⊥;
  server = λ bad. ⊥;
}

-- ..but of what it is lent: its count rose, or that of a partition, or a server is why
abbrev pub with_parts : {P D : Type 0} → DiskOf D → PartsChange P D → Causes → Causes
with_parts disk parts causes = record causes { disks = HasDiskCause disk parts }

-- a fault of reading is told only where the stream that is read counted one
abbrev pub with_source : {R : Type 0} → StreamChange R → Causes → Causes
with_source source causes = record causes { source = HasRisen source.faults source.faults' }

-- a fault of reading is told only where the files counted one
abbrev pub with_files : {I : Type 0} → FilesChange I → Causes → Causes
with_files files causes = record causes { files = HasRisen files.faults files.faults' }

-- a fault of reading is told only where the folders counted some
abbrev pub with_folders : FoldersChange → Causes → Causes
with_folders folders causes = record causes { folders = HaveFailed folders.faults folders.faults' }

-- a fault of writing is told only where the stream that is written counted one
abbrev pub with_sink : {K : Type 0} → StreamChange K → Causes → Causes
with_sink sink causes = record causes { sink = HasRisen sink.faults sink.faults' }

-- a server's fault is told only where the dialer or a link of it counted one
abbrev pub with_dialer : {N L : Type 0} → DialerChange N L → Causes → Causes
with_dialer dialer causes = record causes { server = HasServerCause dialer }

-- A fault is told only where it comes of one of these, and so never of what isn't lent, and no command
-- tells that it is none; and of a partition that is refused, or damaged, two values are told that
-- differ.
abbrev pub HasCauseIn : Causes → CommandOutcome → Type 0
HasCauseIn causes (Err BadWords) = causes.words
HasCauseIn causes (Err (TooSmall file len need)) = len < need
HasCauseIn causes (Err (Disagree file field found want)) = found ≢ want
HasCauseIn causes (Err DiskFault) = causes.disks
HasCauseIn causes (Err ReadFault) = causes.source
HasCauseIn causes (Err FileFault) = causes.files
HasCauseIn causes (Err FolderFault) = causes.folders
HasCauseIn causes (Err WriteFault) = causes.sink
HasCauseIn causes (Err (Damaged want found)) = Differ want found
HasCauseIn causes (Err (Server bad)) = causes.server bad
HasCauseIn causes outcome = ⊤
