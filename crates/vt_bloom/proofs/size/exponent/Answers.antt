use Rattle.std.proofs.Common.{◌∙◌, ◌-◌, sym, arith, below_more}
use Rattle.vt_bloom.proofs.Powers.{shifted}
use Rattle.vt_bloom.proofs.size.exponent.Goals as goal

pub loop-m-preserved : goal.loop-m-preserved
loop-m-preserved c =
    below_more _ _ c.loop-m.invariant
    (λ least is. c.if-size-m.false (is ∙ sym (shifted (c.loop-m.m - 3) (omega arith))))

pub returns-clause-none : goal.returns-clause-none
returns-clause-none c m is = c.loop-m.invariant m (omega (arith, is.most)) is.least is.bytes
