-- What is told of an archive that was served to a client, or couldn't be read.
use Rattle.std.specs.Prelude.{ℕ, ◌&&◌, Option, Some, None, Result, Ok, Err}
use Rattle.vt_base.specs.declared.why.FieldValue.TheVariants.{Score}
use Rattle.vt_use.specs.declared.used_at.StoreError.{StoreError}
use Rattle.vt_use.specs.declared.used_at.StoreError.TheVariants as stores
use Rattle.vt_tree.specs.declared.error.BlockErr.{BlockErr}
use Rattle.vt_tree.specs.declared.error.BlockErr.TheVariants as blocks
use Rattle.vt_tree.specs.declared.error.TreeErr.{TreeErr}
use Rattle.vt_tree.specs.declared.error.TreeErr.TheVariants as trees
use Rattle.vac_read.specs.declared.error.VacBad.{VacBad}
use Rattle.vac_read.specs.declared.error.VacBad.TheVariants as vac
use Rattle.nine_view.specs.declared.serving.Ended.{Ended}
use Rattle.nine_view.specs.declared.serving.Ended.TheVariants as ends
use Rattle.nine_view.specs.declared.serving.Served.{Served}
use Rattle.vac_view.specs.Viewing.{Passed}
use Rattle.run_base.specs.declared.error.CommandError.{CommandError}
use Rattle.run_base.specs.declared.error.CommandError.TheVariants.{BadArchive, Cut, Damaged, DiskFault, Malformed, NoBlock, NoMemory, ReadFault, Server, Spent, WriteFault}
use Rattle.run_base.specs.Change.{StreamChange}
use Rattle.run_base.specs.Errors.{CommandOutcome}
use Rattle.run_base.specs.Served.{first_outcome}

-- ---- why an archive can't be read

-- a failed call: of a disk, or of the link to a server, which said no so
abbrev pub fault_by : Option StoreError → CommandError
fault_by None = DiskFault
fault_by (Some (stores.Server bad)) = Server bad
fault_by (Some (stores.Unopened bad)) = DiskFault
fault_by (Some (stores.Refused why)) = DiskFault

-- a block isn't given
abbrev pub unread_block : BlockErr → Option StoreError → CommandError
unread_block blocks.Fault refusal = fault_by refusal
unread_block (blocks.Refused text) refusal = NoBlock text
unread_block (blocks.WrongScore want found) refusal = Damaged (Score want) (Score found)
unread_block (blocks.Damaged want found) refusal = Damaged want found
unread_block blocks.NoMemory refusal = NoMemory

-- what is told where a tree of the archive can't be read
abbrev pub unread_tree : TreeErr → Option StoreError → CommandError
unread_tree (trees.Block err) refusal = unread_block err refusal
unread_tree trees.SourceFault refusal = BadArchive 0
unread_tree (trees.BadEntry bad) refusal = BadArchive 0
unread_tree (trees.BadBlock depth len) refusal = BadArchive 0
unread_tree trees.TooLong refusal = BadArchive 0
unread_tree trees.NoMemory refusal = NoMemory

-- what is told where the archive can't be read
abbrev pub unread_for : VacBad → Option StoreError → CommandError
unread_for (vac.Tree err) refusal = unread_tree err refusal
unread_for (vac.Root field) refusal = BadArchive 0
unread_for (vac.Meta at) refusal = BadArchive at
unread_for vac.NoMemory refusal = NoMemory

-- ---- how it ended

-- the outcome by the connection's end alone, of an input of which so many bytes were taken
abbrev pub outcome_of_view_end : Ended → (taken : ℕ) → CommandOutcome
outcome_of_view_end ends.Closed taken = Ok tt
outcome_of_view_end ends.Cut taken = Err (Cut taken)
outcome_of_view_end (ends.Malformed place) taken = Err (Malformed place)
outcome_of_view_end ends.Spent taken = Err (Spent taken)
outcome_of_view_end ends.ReadFault taken = Err ReadFault
outcome_of_view_end ends.WriteFault taken = Err WriteFault
outcome_of_view_end ends.NoMemory taken = Err NoMemory

-- the outcome by what couldn't be read, if anything
abbrev pub unread_in : Option VacBad → Option StoreError → CommandOutcome
unread_in None refusal = Ok tt
unread_in (Some bad) refusal = Err (unread_for bad refusal)

-- the first cause in time: why the archive couldn't be read, or the connection's end
abbrev pub outcome_of_view : Result Served VacBad → Option StoreError → CommandOutcome
outcome_of_view (Ok served) refusal =
    first_outcome (unread_in served.failure refusal) (outcome_of_view_end served.ended served.taken)
outcome_of_view (Err bad) refusal = Err (unread_for bad refusal)

-- ---- what came in and went out

-- what passed over the two streams as one link
abbrev pub passed_over : {R K : Type 0} → (source : StreamChange R) → (sink : StreamChange K)
    → Passed
passed_over source sink = record {
  tells = source.tells && sink.tells;
  given = source.taken;
  given' = source.taken';
  left' = source.new;
  written = sink.old;
  written' = sink.new;
  read_faults = source.faults;
  read_faults' = source.faults';
  write_faults = sink.faults;
  write_faults' = sink.faults';
}
