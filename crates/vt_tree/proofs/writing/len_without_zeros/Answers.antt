use Rattle.std.proofs.Common.{ℕ, arith}
use Rattle.std.specs.Prelude.{◌==◌}
use Rattle.std.proofs.lemmas.Bool.{ne_eqb}
use Rattle.vt_tree.proofs.Filling.{end_found}
use Rattle.vt_tree.proofs.writing.len_without_zeros.Goals as goal

pub returns-else-bytes-len-eq0-clause-value : goal.returns-else-bytes-len-eq0-clause-value
returns-else-bytes-len-eq0-clause-value c =
    end_found (λ (b : ℕ). b == 0) c.args.bytes.now c.loop-len.len 0 c.loop-len.invariant.within
    c.loop-len.invariant.zeros (λ some. ne_eqb _ _ c.if-bytes-len-eq0.false)

pub returns-after-loop-len-clause-value : goal.returns-after-loop-len-clause-value
returns-after-loop-len-clause-value c =
    end_found (λ (b : ℕ). b == 0) c.args.bytes.now c.loop-len.len 0 c.loop-len.invariant.within
    c.loop-len.invariant.zeros (λ some. absurd (omega (arith, c.loop-len-test.false)))
