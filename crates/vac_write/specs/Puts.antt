-- Blocks that are put, and nothing else is asked for.
use Rattle.std.specs.Prelude.{◌≡◌, ⊤, List, [], ◌++◌, map}
use Rattle.vt_model.specs.History.{Block}
use Rattle.vt_tree.specs.declared.error.TreeErr.TheVariants as trees
use Rattle.vt_tree.specs.Calls.{Call, asked_of, write_of_block, refusals_of}
use Rattle.vt_tree.specs.Making.{Makes, EndsBy}
use Rattle.vac_write.specs.declared.error.VacErr.{VacErr}
use Rattle.vac_write.specs.declared.error.VacErr.TheVariants.{FolderFault, Tree, BadName, TooDeep, NoMemory}
use Rattle.vac_write.specs.Archiving.{refusal_of}

-- these blocks were put, in order, and nothing else was asked for
pub record PutsBlocks {S : Type 0} (does : S → Call → S → Type 0) (s s' : S) (blocks : List Block)
    : Type 0 where
  pub calls : List Call
  pub made : Makes does s calls s'
  pub accepted : refusals_of calls ≡ []
  pub puts : map asked_of calls ≡ map write_of_block blocks

-- The error is the answer to a call of the store, or want of memory.
abbrev pub IsOfStore : VacErr → Type 0
IsOfStore FolderFault = ⊥
IsOfStore (Tree (trees.Block err)) = ⊤
IsOfStore (Tree trees.SourceFault) = ⊥
IsOfStore (Tree (trees.BadEntry bad)) = ⊥
IsOfStore (Tree (trees.BadBlock depth len)) = ⊥
IsOfStore (Tree trees.TooLong) = ⊥
IsOfStore (Tree trees.NoMemory) = ⊤
IsOfStore (BadName path) = ⊥
IsOfStore (TooDeep path) = ⊥
IsOfStore NoMemory = ⊤

-- What puts blocks was given up: of these blocks the first were put, and nothing else was asked
-- for. No call was refused but the last, where that is told.
pub record GivesUpBlocks {S : Type 0} (does : S → Call → S → Type 0) (s s' : S)
    (blocks : List Block) (err : VacErr) : Type 0 where
  pub calls : List Call
  pub made : Makes does s calls s'
  pub refused : EndsBy (refusal_of err) calls
  pub rest : List Block
  pub puts : map asked_of calls ++ map write_of_block rest ≡ map write_of_block blocks
