-- What was done to a stream, to files, partitions, folders or links, which a command is lent.
use Rattle.std.specs.Prelude.{ℕ, ◌≡◌, ◌⊎◌, ◌++◌, Bool, IsTrue, List, [], Option}
use Rattle.vt_base.specs.Faults.{HasRisen}
use Rattle.vt_out.specs.Streams.{AppendsPrefix}
use Rattle.vt_out.specs.FolderStanding.{Standing as FolderStanding}
pub use Rattle.vt_use.specs.Change.{PartsChange, parts_change, DialerChange, dialer_change, NoneHandedOut, NoneDialled}
use Rattle.run_base.specs.Members.{SourceOf, SinkOf, FilesOf, FoldersOf}

-- A stream before the run and behind it: the stream itself; its bytes, left or written, where it
-- tells them, and of one that is read those that were taken; and its count of faults.
pub record StreamChange (Stream : Type 0) : Type 0 where
  pub before : Stream
  pub after : Stream
  pub tells : Bool
  pub old : List ℕ
  pub new : List ℕ
  pub taken : List ℕ
  pub taken' : List ℕ
  pub faults : ℕ
  pub faults' : ℕ

-- what a command did to the stream that is read
abbrev pub source_change : {R : Type 0} → SourceOf R → (before after : R) → StreamChange R
source_change source before after = record {
  before = before;
  after = after;
  tells = source.tells;
  old = source.left before;
  new = source.left after;
  taken = source.given before;
  taken' = source.given after;
  faults = source.faults before;
  faults' = source.faults after;
}

-- what a command did to a stream that is written
abbrev pub sink_change : {K : Type 0} → SinkOf K → (before after : K) → StreamChange K
sink_change sink before after = record {
  before = before;
  after = after;
  tells = sink.tells;
  old = sink.written before;
  new = sink.written after;
  taken = [];
  taken' = [];
  faults = sink.faults before;
  faults' = sink.faults after;
}

-- The files before the run and behind it: they themselves; what each holds, where they tell it,
-- which no run changes; and their count of faults.
pub record FilesChange (Files : Type 0) : Type 0 where
  pub before : Files
  pub after : Files
  pub tells : Bool
  pub content : (name : List ℕ) → Option (List ℕ)
  pub faults : ℕ
  pub faults' : ℕ

-- what a command did to the files
abbrev pub files_change : {I : Type 0} → FilesOf I → (before after : I) → FilesChange I
files_change files before after = record {
  before = before;
  after = after;
  tells = files.tells;
  content = files.content before;
  faults = files.faults before;
  faults' = files.faults after;
}

-- The folders before the run and behind it: what stands under which name, where they tell it; and
-- their count of faults.
pub record FoldersChange : Type 0 where
  pub tells : Bool
  pub old : (name : List ℕ) → FolderStanding
  pub new : (name : List ℕ) → FolderStanding
  pub faults : ℕ
  pub faults' : ℕ

-- what a command did to the folders by name
abbrev pub folders_change : {G E : Type 0} → FoldersOf G E → (before after : G) → FoldersChange
folders_change folders before after = record {
  tells = folders.tells;
  old = folders.standing before;
  new = folders.standing after;
  faults = folders.faults before;
  faults' = folders.faults after;
}

-- ---- nothing was done to it

-- a stream is as it was
abbrev pub IsUntouched : {S : Type 0} → StreamChange S → Type 0
IsUntouched stream = stream.after ≡ stream.before

-- nothing was read of a stream, and nothing written to another
pub record PassesNothing {R K : Type 0} (source : StreamChange R) (sink : StreamChange K)
    : Type 0 where
  pub unread : IsUntouched source
  pub unwritten : IsUntouched sink

-- no file was read
abbrev pub NoneRead : {I : Type 0} → FilesChange I → Type 0
NoneRead files = files.after ≡ files.before

-- no folder was handed out, and no call of one failed
abbrev pub AreUnused : FoldersChange → Type 0
AreUnused folders = (folders.new ≡ folders.old) × (folders.faults' ≡ folders.faults)

-- no partition was handed out, no link was made, and nothing was written
pub record UsesNoStore {P D N L K : Type 0} (parts : PartsChange P D) (dialer : DialerChange N L)
    (sink : StreamChange K) : Type 0 where
  pub unused : NoneHandedOut parts
  pub undialled : NoneDialled dialer
  pub unwritten : IsUntouched sink

-- no partition was handed out, and nothing was written
pub record MakesNothing {P D K : Type 0} (parts : PartsChange P D) (sink : StreamChange K)
    : Type 0 where
  pub unused : NoneHandedOut parts
  pub unwritten : IsUntouched sink

-- no file was read either, and no link made
pub record UsesNothing {I P D N L K : Type 0} (files : FilesChange I) (parts : PartsChange P D)
    (dialer : DialerChange N L) (sink : StreamChange K) : Type 0 where
  pub unopened : NoneRead files
  pub unused : NoneHandedOut parts
  pub undialled : NoneDialled dialer
  pub unwritten : IsUntouched sink

-- ---- a line

-- Where the stream tells what was written, the line was; or the write failed behind a front of it.
abbrev pub Attempts : {F : Type 0} → StreamChange F → (line : List ℕ) → Type 0
Attempts change line = IsTrue change.tells
    → (change.new ≡ change.old ++ line)
    ⊎ (AppendsPrefix change.old change.new line × HasRisen change.faults change.faults')
