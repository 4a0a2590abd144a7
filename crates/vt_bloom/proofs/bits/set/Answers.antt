use Rattle.std.proofs.Common.{arith}
use Rattle.vt_bloom.proofs.Marks.{set_bit}
use Rattle.vt_bloom.proofs.bits.set.Goals as goal

pub returns : goal.returns
returns c = set_bit c.args.words.now c.args.p (omega arith)
