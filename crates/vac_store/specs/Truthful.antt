-- A server that answers truthfully, and what an archive that was sent to it leaves (venti(6)).
use Rattle.std.specs.Prelude.{ℕ, ◌≡◌, ◌++◌, List, [], ◌∷◌}
use Rattle.std.specs.List.{All}
use Rattle.vt_base.specs.Protocol.{Operation, RMessage}
use Rattle.vt_out.specs.declared.folder_item.Facts.{Facts}
use Rattle.vt_out.specs.FolderItems.{Items}
use Rattle.vt_model.specs.Answer.{answer, with_added}
use Rattle.vt_model.specs.History.{History, held}
use Rattle.vt_model.specs.Places.{Setup}
use Rattle.vt_tree.specs.Maps.{Has}
use Rattle.vac_model.specs.Archives.{archive_of}
use Rattle.vac_model.specs.Kept.{archived}
use Rattle.vac_model.specs.Trees.{IsTreeOf}

-- blocks are only ever added
abbrev pub GoesOnTo : (old new : History) → Type 0
GoesOnTo old new = (more : History) × (new ≡ old ++ more)

-- The server had this history before these requests, and that one behind them. Each reply is what
-- the model answers on the history that it had then, to which it added what the model adds. Others
-- may have added blocks too.
abbrev pub AnswersTruly : (score : List ℕ → List ℕ) → Setup → (before : History)
    → List (Operation × RMessage) → (after : History) → Type 0
AnswersTruly score c before [] after = GoesOnTo before after
AnswersTruly score c before (call ∷ calls) after = (now : History) × GoesOnTo before now
    × ((answer score c now call.0).reply ≡ call.1)
    × AnswersTruly score c (with_added now (answer score c now call.0).added) calls after

-- this history has each block of a folder's archive, whose score stands in it for the folder
pub record HoldsArchive (score : List ℕ → List ℕ) (bsize : ℕ) (seen : Items Facts)
    (after : History) : Type 0 where
  pub blocks : All (Has score (held score after)) (archive_of score bsize seen).blocks
  pub tree : IsTreeOf (held score after) (archive_of score bsize seen).score (archived seen)
