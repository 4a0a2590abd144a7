-- What the view says where the archive can't be read, and why.
use Rattle.std.specs.Prelude.{ℕ, ◌-◌, List, codes, take}
use Rattle.vt_tree.specs.declared.error.BlockErr.TheVariants as blocks
use Rattle.vt_tree.specs.declared.error.TreeErr.TheVariants as trees
use Rattle.vac_read.specs.declared.error.VacBad.{VacBad}
use Rattle.vac_read.specs.declared.error.VacBad.TheVariants.{Tree, Root, Meta, NoMemory}

-- how many bytes of an Rerror stand round its text
abbrev pub error_len : ℕ
error_len = 9

-- the text of an Rerror of at most so many bytes
abbrev pub failure_words : (limit : ℕ) → VacBad → List ℕ
failure_words limit (Tree (trees.Block blocks.Fault)) = codes "disk fault"
failure_words limit (Tree (trees.Block (blocks.Refused text))) = take (limit - error_len) text
failure_words limit (Tree (trees.Block (blocks.WrongScore want found))) = codes "block damaged"
failure_words limit (Tree (trees.Block (blocks.Damaged want found))) = codes "block damaged"
failure_words limit (Tree (trees.Block blocks.NoMemory)) = codes "no memory"
failure_words limit (Tree trees.SourceFault) = codes "bad archive"
failure_words limit (Tree (trees.BadEntry bad)) = codes "bad archive"
failure_words limit (Tree (trees.BadBlock depth len)) = codes "bad archive"
failure_words limit (Tree trees.TooLong) = codes "bad archive"
failure_words limit (Tree trees.NoMemory) = codes "no memory"
failure_words limit (Root field) = codes "bad archive"
failure_words limit (Meta at) = codes "bad archive"
failure_words limit NoMemory = codes "no memory"
