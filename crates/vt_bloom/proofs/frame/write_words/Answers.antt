use Rattle.std.proofs.Common.{arith}
use Rattle.vt_bloom.proofs.frame.write_words.Goals as goal

pub returns-clause-fit : goal.returns-clause-fit
returns-clause-fit c i = omega (arith, c.type_inv.words i)
