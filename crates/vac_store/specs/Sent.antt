-- What went over the link to a server at which a folder was archived, or was to be, and why it
-- wasn't (vac(1), venti(6)).
use Rattle.std.specs.Prelude.{ℕ, ◌≡◌, ◌-◌, ◌<◌, ◌^◌, ⊤, min, None, List, [], ◌∷◌, ◌++◌, length, map}
use Rattle.vt_base.specs.Protocol.{Operation, RMessage, TMessage, r_sync, r_write, sync, t_ask}
use Rattle.vt_client.specs.Exchanges.{Traffic}
use Rattle.vt_model.specs.History.{Block}
use Rattle.vt_remote.specs.Exchanged.{Exchanged}
use Rattle.vt_tree.specs.declared.error.TreeErr.TheVariants as trees
use Rattle.vt_tree.specs.Calls.{write_of_block}
use Rattle.vac_model.specs.Archives.{archive_of}
use Rattle.vac_model.specs.Kept.{archived, count, skipped}
use Rattle.vac_model.specs.Limits.{HaveTimes, first_unfit}
use Rattle.vac_write.specs.declared.error.VacErr.{VacErr}
use Rattle.vac_write.specs.declared.error.VacErr.TheVariants.{FolderFault, Tree, BadName, TooDeep, NoMemory}
use Rattle.vac_write.specs.Archiving.{FolderRead, IsGivenUpAs, IsSeen, IsUnlisted, PutsFor}
use Rattle.vac_write.specs.Tried.{Tried, found, failed_at}
use Rattle.vac_store.specs.declared.outcome.ArchivedAt.{ArchivedAt}

-- ---- an archive that was sent

-- a block is written, and taken in with its own score
abbrev pub taken_in : (score_of : List ℕ → List ℕ) → Block → Operation × RMessage
taken_in score_of b = (write_of_block b, r_write (score_of b.bytes))

-- these blocks are, in order, and behind them the server has committed
abbrev pub all_taken_in : (score_of : List ℕ → List ℕ) → List Block → List (Operation × RMessage)
all_taken_in score_of blocks = map (taken_in score_of) blocks ++ (sync, r_sync) ∷ []

-- as messages
abbrev pub as_messages : List (Operation × RMessage) → List (TMessage × RMessage)
as_messages calls = map (λ call. (t_ask call.0, call.1)) calls

-- A count of blocks stands still at the end of its type.
abbrev pub counted_blocks : ℕ → ℕ
counted_blocks n = min n (2 ^ 64 - 1)

-- An archive that was told was sent: its score is that of the archive of what was found in a folder,
-- of which it tells what was skipped, and of what a call has failed; each block that is put for it was
-- written, in order, and taken in with its own score, and behind them the server has committed; it is
-- told how many these are; and nothing else was asked for over the link.
pub record IsSent (score_of : List ℕ → List ℕ) (bsize : ℕ) (folder : FolderRead)
    (sent : ArchivedAt) (back : Traffic) : Type 0 where
  pub tried : Tried
  pub is : IsSeen folder tried
  pub fit : first_unfit (found tried) ≡ None
  pub few : count (archived (found tried)) < 2 ^ 64
  pub times : HaveTimes (found tried)
  pub score_is : sent.archived.score.0 ≡ (archive_of score_of bsize (found tried)).score
  pub left_out : sent.archived.skipped ≡ skipped (found tried)
  pub failed : sent.archived.failed ≡ failed_at [] tried
  pub all : List Block
  pub puts : PutsFor score_of bsize tried all
  pub exchanged : Exchanged (as_messages (all_taken_in score_of all)) back
  pub many : sent.blocks ≡ counted_blocks (length all)

-- ---- one that wasn't

-- the folder is why, and no call of a server
abbrev pub IsOfFolder : VacErr → Type 0
IsOfFolder FolderFault = ⊤
IsOfFolder (Tree (trees.Block err)) = ⊥
IsOfFolder (Tree trees.SourceFault) = ⊥
IsOfFolder (Tree (trees.BadEntry bad)) = ⊥
IsOfFolder (Tree (trees.BadBlock depth len)) = ⊥
IsOfFolder (Tree trees.TooLong) = ⊤
IsOfFolder (Tree trees.NoMemory) = ⊤
IsOfFolder (BadName path) = ⊤
IsOfFolder (TooDeep path) = ⊤
IsOfFolder NoMemory = ⊤

-- what was found in a folder is unfit so, the folder itself may fail to be listed, or memory ran out
pub record IsUnfitFor (folder : FolderRead) (err : VacErr) : Type 0 where
  pub tried : Tried
  pub is : IsSeen folder tried
  pub cause : IsGivenUpAs (IsUnlisted folder) err (first_unfit (found tried))
  pub of_folder : IsOfFolder err
