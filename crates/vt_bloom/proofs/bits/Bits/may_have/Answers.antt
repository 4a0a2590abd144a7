use Rattle.std.proofs.Common.{refl, arith, below_more}
use Rattle.vt_bloom.proofs.bits.Bits.may_have.Goals as goal

pub loop-i-preserved : goal.loop-i-preserved
loop-i-preserved c =
    below_more _ _ c.loop-i.invariant
    (rw (c.deref.ensures.value, c.position.ensures.value) at (c.is_set.ensures.0
    c.if-not-is_set.false))

pub returns : goal.returns
returns c = rw (← c.self.view_is) (λ yes i within. c.loop-i.invariant i (omega arith), λ all. refl)
