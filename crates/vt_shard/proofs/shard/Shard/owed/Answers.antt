use Rattle.std.proofs.Common.{arith}
use Rattle.vt_shard.proofs.IsWell.{few_left}
use Rattle.vt_shard.proofs.shard.Shard.owed.Goals as goal

pub returns-then-is_changing-clause-most : goal.returns-then-is_changing-clause-most
returns-then-is_changing-clause-most g c =
    omega (arith, c.calls_left.ensures, few_left _ _ _ c.self.invariant (c.is_changing.ensures.under_way.0 c.if-is_changing.true))
