-- The committed blocks are few, and so are the queued ones.
use Rattle.std.proofs.Common.{arith}
use Rattle.vt_log.proofs.IsWhole.{durable_small}
use Rattle.vt_log.proofs.log.Log.front.Goals as goal

pub overflow_add-result : goal.overflow_add-result
overflow_add-result g c =
    let small = durable_small _ _ c.self.invariant in
    let most = c.self.invariant.most in
    omega (arith, small, most, c.len.ensures)

pub returns-clause-most : goal.returns-clause-most
returns-clause-most g c =
    let small = durable_small _ _ c.self.invariant in
    let most = c.self.invariant.most in
    omega (arith, small, most, c.len.ensures)
