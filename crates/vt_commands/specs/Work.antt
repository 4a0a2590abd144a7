-- What a run did with all that it is lent, before its line on the fault sink; and of which of it a
-- command that isn't lent the rest tells.
use Rattle.std.specs.Prelude.{⊤}
use Rattle.vt_disk.specs.Members.{DiskOf}
use Rattle.run_base.specs.declared.host.Outside.{Outside}
use Rattle.run_base.specs.Change.{AreUnused, StreamChange, DialerChange, FilesChange, FoldersChange, IsUntouched, NoneDialled, NoneHandedOut, NoneRead, PartsChange, dialer_change, files_change, folders_change, parts_change, sink_change, source_change}
use Rattle.run_base.specs.Errors.{Causes, HasCauseIn, CommandOutcome, no_cause, with_dialer, with_files, with_folders, with_parts, with_sink, with_source}
use Rattle.run_base.specs.Members.{SourceOf, SinkOf, FilesOf, PartsOf, FoldersOf, DialerOf, LinkOf}

-- what a run did to all that it was handed
pub record Work (R K I P D N L : Type 0) : Type 0 where
  pub source : StreamChange R
  pub sink : StreamChange K
  pub files : FilesChange I
  pub parts : PartsChange P D
  pub dialer : DialerChange N L
  pub folders : FoldersChange

-- What a run did to all that it was handed, by the members of that.
abbrev pub work_of : {R K F I P D G E N L C T : Type 0} → SourceOf R → SinkOf K → FilesOf I
    → PartsOf P D → FoldersOf G E → DialerOf N L → LinkOf L
    → (before after : Outside R K F I P N G C T) → Work R K I P D N L
work_of source sink files parts folders dialer link before after = record {
  source = source_change source before.streams.source after.streams.source;
  sink = sink_change sink before.streams.sink after.streams.sink;
  files = files_change files before.files after.files;
  parts = parts_change parts before.parts after.parts;
  dialer = dialer_change dialer link before.dialer after.dialer;
  folders = folders_change folders before.folders after.folders;
}

-- What a command may tell of as a cause, if it is lent all that a run was handed.
abbrev pub lent_causes : {R K I P D N L : Type 0} → DiskOf D → Work R K I P D N L → Causes
lent_causes disk work = with_source work.source (with_sink work.sink (with_files work.files
    (with_parts disk work.parts (with_dialer work.dialer (with_folders work.folders no_cause)))))

-- a run tells too that its words are no command
abbrev pub causes_of : {R K I P D N L : Type 0} → DiskOf D → Work R K I P D N L → Causes
causes_of disk work = record (lent_causes disk work) { words = ⊤ }

-- nothing was done
pub record IsIdle {R K I P D N L : Type 0} (work : Work R K I P D N L) : Type 0 where
  pub unread : IsUntouched work.source
  pub unwritten : IsUntouched work.sink
  pub unopened : NoneRead work.files
  pub unused : NoneHandedOut work.parts
  pub undialled : NoneDialled work.dialer
  pub folders : AreUnused work.folders

-- ---- nothing but this was touched, and a fault comes of it

-- the sink
pub record OnlySink {R K I P D N L : Type 0} (outcome : CommandOutcome) (work : Work R K I P D N L)
    : Type 0 where
  pub unread : IsUntouched work.source
  pub unopened : NoneRead work.files
  pub unused : NoneHandedOut work.parts
  pub undialled : NoneDialled work.dialer
  pub folders : AreUnused work.folders
  pub cause : HasCauseIn (with_sink work.sink no_cause) outcome

-- the partitions and the sink
pub record OnlyParts {R K I P D N L : Type 0} (disk : DiskOf D) (outcome : CommandOutcome)
    (work : Work R K I P D N L) : Type 0 where
  pub unread : IsUntouched work.source
  pub unopened : NoneRead work.files
  pub undialled : NoneDialled work.dialer
  pub folders : AreUnused work.folders
  pub cause : HasCauseIn (with_parts disk work.parts (with_sink work.sink no_cause)) outcome

-- the files, the partitions and the sink
pub record OnlyStore {R K I P D N L : Type 0} (disk : DiskOf D) (outcome : CommandOutcome)
    (work : Work R K I P D N L) : Type 0 where
  pub unread : IsUntouched work.source
  pub undialled : NoneDialled work.dialer
  pub folders : AreUnused work.folders
  pub cause : HasCauseIn (with_files work.files (with_parts disk work.parts
      (with_sink work.sink no_cause))) outcome

-- the two streams, the files and the partitions
pub record OnlyServing {R K I P D N L : Type 0} (disk : DiskOf D) (outcome : CommandOutcome)
    (work : Work R K I P D N L) : Type 0 where
  pub undialled : NoneDialled work.dialer
  pub folders : AreUnused work.folders
  pub cause : HasCauseIn (with_source work.source (with_sink work.sink (with_files work.files
      (with_parts disk work.parts no_cause)))) outcome

-- all but the source and the folders
pub record OnlyReading {R K I P D N L : Type 0} (disk : DiskOf D) (outcome : CommandOutcome)
    (work : Work R K I P D N L) : Type 0 where
  pub unread : IsUntouched work.source
  pub folders : AreUnused work.folders
  pub cause : HasCauseIn (with_files work.files (with_parts disk work.parts
      (with_dialer work.dialer (with_sink work.sink no_cause)))) outcome

-- all but the folders
pub record NoFolder {R K I P D N L : Type 0} (disk : DiskOf D) (outcome : CommandOutcome)
    (work : Work R K I P D N L) : Type 0 where
  pub folders : AreUnused work.folders
  pub cause : HasCauseIn (with_source work.source (with_sink work.sink (with_files work.files
      (with_parts disk work.parts (with_dialer work.dialer no_cause))))) outcome

-- all but the source
pub record NoSource {R K I P D N L : Type 0} (disk : DiskOf D) (outcome : CommandOutcome)
    (work : Work R K I P D N L) : Type 0 where
  pub unread : IsUntouched work.source
  pub cause : HasCauseIn (with_files work.files (with_folders work.folders (with_parts disk
      work.parts (with_dialer work.dialer (with_sink work.sink no_cause))))) outcome
