-- Laws of the folder in memory.
use Rattle.std.specs.Prelude.{List, [], ◌∷◌, map}
use Rattle.std.proofs.Common.{sym, subst}
use Rattle.vt_out.specs.declared.mem_folder.MemItem.{MemItem}
use Rattle.vt_out.specs.declared.mem_folder.MemItem.TheOpen.{MemItem-F, File, Folder, Other}
use Rattle.vt_out.specs.declared.mem_folder.MemItem.TheFolds.{fold-MemItem, fold-roll-MemItem, ind-MemItem, map-MemItem}
use Rattle.vt_out.specs.declared.folder_item.Facts.{Facts}
use Rattle.vt_out.specs.FolderItems.{Items, HaveBytes}
use Rattle.vt_out.specs.FolderMemory.{put_all, put_item, items_in_memory}

-- how an item is put before others
abbrev Put : Type 0
Put = Items Facts → Items Facts

-- puts an item in front of items
abbrev put : MemItem → Put
put = fold-MemItem Put put_item

-- put before items with bytes, it and they have bytes
abbrev KeepsBytes : MemItem → Type 0
KeepsBytes x = (others : Items Facts) → HaveBytes others → HaveBytes (put x others)

-- an item with the proof that its files are of bytes
abbrev Kept : Type 0
Kept = (x : MemItem) × KeepsBytes x

-- items whose files are of bytes are so together
all_have_bytes : (kept : List Kept) → HaveBytes (put_all (map put (map (λ k. k.0) kept)))
all_have_bytes [] = tt
all_have_bytes (k ∷ kept) = k.1 _ (all_have_bytes kept)

-- an item in front of such items is so if what is in it is
layer_has_bytes : (y : MemItem-F Kept) (others : Items Facts) → HaveBytes others
    → HaveBytes (put_item (map-MemItem MemItem Put put (map-MemItem Kept MemItem (λ k. k.0) y))
    others)
layer_has_bytes (File about content) others have = (
  record {
    are = content.are_bytes;
    few = content.few;
  },
  have,
)
layer_has_bytes (Folder about inside) others have = (all_have_bytes inside.items, have)
layer_has_bytes (Other about) others have = have

-- each item in memory has files of bytes
item_has_bytes : (x : MemItem) → KeepsBytes x
item_has_bytes = ind-MemItem KeepsBytes (λ x y is others have.
    subst (λ (f : Put). HaveBytes (f others)) (sym (fold-roll-MemItem Put put_item x))
    (subst (λ (z : MemItem-F MemItem). HaveBytes (put_item (map-MemItem MemItem Put put z) others))
    is (layer_has_bytes y others have)))

-- each file in memory has bytes
pub items_have_bytes : (items : List MemItem) → HaveBytes (items_in_memory items)
items_have_bytes [] = tt
items_have_bytes (x ∷ xs) = item_has_bytes x (items_in_memory xs) (items_have_bytes xs)
