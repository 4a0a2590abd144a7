use Rattle.std.proofs.Common.{◌≡◌, ◌-◌, ◌^◌, take, min}
use Rattle.std.specs.List.{sum_by}
use Rattle.vac_write.specs.Listing.{record_len}
use Rattle.vac_write.proofs.listing.metadata_len.Given as goal

abbrev pub invariant-loop-item : goal.invariant-loop-item
invariant-loop-item l = l.len ≡ min (sum_by record_len (take l.item-index l.items)) (2 ^ 64 - 1)
