use Rattle.std.proofs.Common.{arith}
use Rattle.vt_memdisk.proofs.Sectors.{inverse_at_first}
use Rattle.vt_memdisk.proofs.dirty.Dirty.new.Goals as goal

pub invariant_of-result-clause-inverse : goal.invariant_of-result-clause-inverse
invariant_of-result-clause-inverse c =
    let order = c.in_ok-numbers.ensures in
    let place = c.in_ok-numbers-2.ensures in
    inverse_at_first c.in_ok-numbers.field-0.items c.in_ok-numbers-2.field-0.items
    (omega (arith, order.length, place.length))
    (λ k below. order.own k (omega (arith, order.length)))
    (λ s below. place.own s (omega (arith, order.length)))
