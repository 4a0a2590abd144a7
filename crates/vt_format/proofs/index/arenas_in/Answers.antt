use Rattle.std.proofs.Common.{arith, ap}
use Rattle.vt_part.specs.Parts.{table_of}
use Rattle.vt_format.proofs.ArenaCounts.{count_within}
use Rattle.vt_format.proofs.index.arenas_in.Goals as goal

pub overflow_add-arenas : goal.overflow_add-arenas
overflow_add-arenas g c =
    let within = count_within c.args.parts.now c.loop-part.part-index c.part-item.result (omega arith) in
    let here = ap (λ p. (table_of p).count) c.part-item.is in
    omega (arith, within, here, c.loop-part.invariant, c.count-arenas.ensures.count, c.requires)
