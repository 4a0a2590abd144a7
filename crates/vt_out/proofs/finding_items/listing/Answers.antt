use Rattle.std.proofs.Common.{List, [], ◌∷◌, ◌++◌, take, sym, ◌∙◌, ap}
use Rattle.std.proofs.lemmas.List.{take_more}
use Rattle.vt_out.specs.declared.mem_folder.MemItem.{MemItem}
use Rattle.vt_out.specs.FolderItems.{listing_of}
use Rattle.vt_out.specs.FolderMemory.{items_in_memory}
use Rattle.vt_out.proofs.FolderHeads.{last_listed}
use Rattle.vt_out.proofs.finding_items.listing.Goals as goal

pub loop-item-preserved : goal.loop-item-preserved
loop-item-preserved c =
    let xs = c.args.items.now in
    let i = c.loop-item.item-index in
    let x : MemItem = c.item-item.result in
    let grown = take_more xs i x c.loop-item-test.true
    ∙ ap (λ (y : MemItem). take i xs ++ y ∷ []) (sym c.item-item.is) in
    c.in_ok-push.ensures.items
    ∙ (λ k. c.loop-item.invariant k ++ c.in_ok-listed.ensures k)
    ∙ sym (last_listed (take i xs) x)
    ∙ ap (λ (ys : List MemItem). listing_of (items_in_memory ys)) (sym grown)
