use Rattle.std.proofs.Common.{◌<◌, ℕ}
use Rattle.vt_bloom.specs.Bits.{position_of, IsSetIn}
use Rattle.vt_bloom.proofs.bits.Bits.may_have.Given as goal

-- the bits so far are set
abbrev pub invariant-loop-i : goal.invariant-loop-i
invariant-loop-i l = (i : ℕ) → i < l.i
    → IsSetIn l.self-inside.words.items (position_of l.self-inside.m l.score.0 i)
