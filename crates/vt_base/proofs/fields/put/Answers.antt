use Rattle.std.proofs.Common.{arith}
use Rattle.std.proofs.lemmas.Slice.{drop-put_mid}
use Rattle.vt_base.proofs.fields.put.Goals as goal

pub returns-clause-behind : goal.returns-clause-behind
returns-clause-behind c = drop-put_mid c.args.at _ c.args.buf.now c.copy_from_slice.new.self _ (omega arith) (omega (arith, c.requires)) (omega arith)
