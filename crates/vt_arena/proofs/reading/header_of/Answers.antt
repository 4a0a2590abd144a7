use Rattle.std.proofs.Common.{sym, subst, arith}
use Rattle.vt_base.specs.Bytes.{AreBytes}
use Rattle.vt_arena.proofs.Clumps.{taken_bytes}
use Rattle.vt_arena.proofs.reading.header_of.Goals as goal

pub returns-clause-bytes : goal.returns-clause-bytes
returns-clause-bytes c = subst AreBytes (sym c.copy_from_slice.ensures.after) (taken_bytes 38 c.args.bytes.now (λ i. omega (arith, c.type_inv.bytes i)))
