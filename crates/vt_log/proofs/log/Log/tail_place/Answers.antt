-- An arena's blocks end within 1 GiB.
use Rattle.std.proofs.Common.{ap, subst, arith}
use Rattle.vt_log.specs.Back.{TailState}
use Rattle.vt_log.specs.Whole.{IsWholeLog}
use Rattle.vt_log.proofs.StepsBack.{tail_small}
use Rattle.vt_log.proofs.log.Log.tail_place.Goals as goal

pub overflow_add-result : goal.overflow_add-result
overflow_add-result g c =
    let small = tail_small g.D.Disk c.args.self.now c.args.tail.now (subst (IsWholeLog g.D.Disk) c.self.view_is c.self.invariant) c.requires in
    let same = ap (λ (t : TailState). t.at.end) c.tail.view_is in
    omega (arith, small, same)

pub overflow_cast-result : goal.overflow_cast-result
overflow_cast-result g c =
    let small = tail_small g.D.Disk c.args.self.now c.args.tail.now (subst (IsWholeLog g.D.Disk) c.self.view_is c.self.invariant) c.requires in
    let same = ap (λ (t : TailState). t.at.end) c.tail.view_is in
    omega (arith, small, same)
