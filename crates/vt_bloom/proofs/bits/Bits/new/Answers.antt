use Rattle.std.proofs.Common.{◌-◌, arith}
use Rattle.vt_bloom.proofs.Powers.{shifted, words_fill}
use Rattle.vt_bloom.proofs.bits.Bits.new.Goals as goal

pub invariant_of-result : goal.invariant_of-result
invariant_of-result c = record {
  counts = c.requires;
  whole = omega (
    arith,
    c.in_ok-words.words.ok.0,
    c.in_ok-words.ensures.len,
    shifted (c.args.m - 6) (omega arith),
    words_fill c.args.m (omega arith),
  );
}

pub returns-clause-filter : goal.returns-clause-filter
returns-clause-filter c = invariant_of-result c
