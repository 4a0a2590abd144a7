use Rattle.std.proofs.Common.{◌≡◌, ◌+◌, ◌-◌, ◌*◌, IsTrue, List, [], ◌++◌, length}
use Rattle.std.specs.Vec.Iter.{into_iter_items, into_iter_len}
use Rattle.vt_out.specs.declared.folder_item.Item.{Item}
use Rattle.vt_out.specs.FolderItems.{listing_of}
use Rattle.vac_write.specs.Archiving.{HasRisenBy}
use Rattle.vac_write.specs.Listing.{AreListed}
use Rattle.vac_write.specs.Tried.{Tried, failures, LacksOnly, whole}
use Rattle.vac_write.specs.Walking.{AreItemsAt, ArchivesPart}
use Rattle.vac_write.proofs.archiving.Walk.+walk.Given as goal

abbrev pub decreases-archive_items : goal.decreases-archive_items
decreases-archive_items g l = 3 * (257 - length l.self.now.path.items) + 2

abbrev pub decreases-archive_item : goal.decreases-archive_item
decreases-archive_item g l = 3 * (257 - length l.self.now.path.items) + 1

abbrev pub decreases-archive_folder : goal.decreases-archive_folder
decreases-archive_folder g l = 3 * (257 - length l.self.now.path.items)

-- the items so far were tried
abbrev pub invariant-archive_items-loop-item : goal.invariant-archive_items-loop-item
invariant-archive_items-loop-item g l = record {
  items : List Item;
  listed : AreListed g.F.Folder.tells (g.F.Folder.holds l.fn.folder) l.fn.self.path.items items;
  done : Tried;
  left : items ≡ listing_of (whole done) ++ into_iter_items l.item-iterator;
  len : into_iter_len l.item-iterator ≡ length (into_iter_items l.item-iterator);
  are : AreItemsAt g.F.Folder.tells (g.F.Folder.holds l.fn.folder) l.fn.self.path.items
      (whole done);
  lacks : IsTrue g.F.Folder.tells → LacksOnly (g.F.Folder.may_fail l.fn.folder)
      l.fn.self.path.items done;
  archived : ArchivesPart g.B.Blocks.does g.B.Scorer.score_of l.fn.blocks l.blocks l.fn.self
      l.self l.initial.streams l.streams done;
  no_entries : l.initial.streams.entries.items ≡ [];
  no_metadata : l.initial.streams.metadata.items ≡ [];
  stays : IsTrue g.F.Folder.tells → g.F.Folder.holds l.folder ≡ g.F.Folder.holds l.fn.folder;
  paths : IsTrue g.F.Folder.tells → g.F.Folder.may_fail l.folder ≡ g.F.Folder.may_fail l.fn.folder;
  counted : HasRisenBy (failures done) (g.F.Folder.faults l.fn.folder)
      (g.F.Folder.faults l.folder);
}
