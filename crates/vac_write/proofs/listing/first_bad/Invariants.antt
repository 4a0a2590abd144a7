use Rattle.std.proofs.Common.{◌≡◌, None, drop}
use Rattle.std.specs.Option.{option_copied}
use Rattle.vac_write.proofs.Listed.{first_bad_in}
use Rattle.vac_write.proofs.listing.first_bad.Given as goal

abbrev pub invariant-loop-item : goal.invariant-loop-item
invariant-loop-item l =
    first_bad_in None l.items ≡ first_bad_in (option_copied l.last) (drop l.item-index l.items)
