use Rattle.std.proofs.Common.{◌≡◌, take}
use Rattle.vt_out.specs.FolderItems.{listing_of}
use Rattle.vt_out.specs.FolderMemory.{items_in_memory}
use Rattle.vt_out.proofs.finding_items.listing.Given as goal

abbrev pub invariant-loop-item : goal.invariant-loop-item
invariant-loop-item l = l.listing.items ≡ listing_of (items_in_memory (take l.item-index l.items))
