-- The files of an archive, as 9P2000 tells of them (intro(5), stat(5); vacfs(4)).
use Rattle.std.specs.Prelude.{ℕ, ◌+◌, Bool, true, false, if◌then◌else◌, List}
use Rattle.vac_read.specs.declared.node.Node.{Node}
use Rattle.vac_read.specs.declared.node.Stored.{Stored}
use Rattle.vac_read.specs.declared.node.Stored.TheVariants as stored
use Rattle.vac_read.specs.Nodes.{AreNodeEntries, FitsToldItem}
use Rattle.nine_wire.specs.Messages.{Qid, Stat, stat_bytes}

-- Whether what an archive keeps is a folder.
abbrev pub is_folder : Stored → Bool
is_folder (stored.File e) = false
is_folder (stored.Folder entries metadata) = true

-- A file's qid: its number in the archive, and whether it is a folder.
abbrev pub qid_of : Node → Qid
qid_of node = record { folder = is_folder node.stored; path = node.qid }

-- the bit that a folder's mode has
abbrev pub folder_bit : Stored → ℕ
folder_bit stored = if is_folder stored then 0x80000000 else 0

-- what is told of an item (stat(5))
abbrev pub stat_of : Node → Stat
stat_of node = record {
  qid = qid_of node;
  mode = folder_bit node.stored + node.item.mode;
  mtime = node.item.mtime;
  len = node.size;
  name = node.item.name;
  uid = node.item.uid;
  gid = node.item.gid;
}

-- what a folder tells of a file in it
abbrev pub stat_in : Node → List ℕ
stat_in node = stat_bytes (stat_of node)

-- what is told of it has room in a message, and its entries are those of a file or of a folder
pub record FitsMessage (node : Node) : Type 0 where
  pub item : FitsToldItem node.item
  pub entries : AreNodeEntries node.stored
