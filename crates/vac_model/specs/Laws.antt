-- What holds of all archives.
use Rattle.std.specs.Prelude.{ℕ, ◌≡◌, List, length}
use Rattle.std.specs.List.{All}
use Rattle.vt_out.specs.declared.folder_item.Facts.{Facts}
use Rattle.vt_out.specs.FolderItems.{Items}
use Rattle.vt_tree.specs.Maps.{BlockMap, Has, IsWriteOnce}
use Rattle.vac_model.specs.Archives.{archive_of}
use Rattle.vac_model.specs.Kept.{Numbered, archived}
use Rattle.vac_model.specs.Limits.{IsArchivable}
use Rattle.vac_model.specs.Trees.{IsTreeOf}

-- A map with the blocks of a folder's archive has that folder under its score: without what is
-- neither a file nor a folder, in the order of names, with nine bits of each mode, and numbered.
abbrev pub ArchivesReadBack : Type 0
ArchivesReadBack = (score_of : List ℕ → List ℕ) (map : BlockMap) (bsize : ℕ) (items : Items Facts)
    → ((block : List ℕ) → length (score_of block) ≡ 20) → IsWriteOnce score_of map
    → IsArchivable bsize items
    → All (Has score_of map) (archive_of score_of bsize items).blocks
    → IsTreeOf map (archive_of score_of bsize items).score (archived items)

-- a score is that of one folder at most
abbrev pub HasOneTree : Type 0
HasOneTree = (map : BlockMap) (score : List ℕ) (a b : Items Numbered)
    → IsTreeOf map score a → IsTreeOf map score b → a ≡ b
