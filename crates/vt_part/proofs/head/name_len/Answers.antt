use Rattle.std.proofs.Common.{◌-◌, arith}
use Rattle.std.proofs.lemmas.List.{drop_all}
use Rattle.vt_part.proofs.Names.{more_zeros}
use Rattle.vt_part.proofs.head.name_len.Goals as goal

pub loop-len-init : goal.loop-len-init
loop-len-init c = (omega arith, drop_all 64 c.args.field.now (omega arith))

pub loop-len-preserved : goal.loop-len-preserved
loop-len-preserved c = (
  omega arith,
  more_zeros 64 c.args.field.now c.told-field (c.loop-len.len - 1) c.loop-len.len (omega arith)
      c.loop-len.invariant.0 c.if-field-len-eq0.true c.loop-len.invariant.1,
)
