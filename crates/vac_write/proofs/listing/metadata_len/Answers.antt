use Rattle.std.proofs.Common.{◌-◌, ◌^◌, ℕ, List, min, sym, ◌∙◌, ap}
use Rattle.std.specs.List.{sum_by}
use Rattle.std.proofs.lemmas.List.{take_all}
use Rattle.vt_out.specs.declared.folder_item.Item.{Item}
use Rattle.vac_write.specs.Listing.{record_len}
use Rattle.vac_write.proofs.Listed.{len_listed}
use Rattle.vac_write.proofs.listing.metadata_len.Goals as goal

pub returns : goal.returns
returns c seen same =
    let items = c.args.items.now in
    c.loop-item.invariant
    ∙ ap (λ (n : ℕ). min n (2 ^ 64 - 1))
    (ap (λ (xs : List Item). sum_by record_len xs)
    (take_all c.loop-item.item-index items c.loop-item-test.false ∙ same)
    ∙ sym (len_listed 1 0 seen))
