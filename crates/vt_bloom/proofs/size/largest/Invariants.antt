use Rattle.std.proofs.Common.{◌≤◌, ◌-◌}
use Rattle.vt_bloom.specs.Size.{filter_len}
use Rattle.vt_bloom.proofs.size.largest.Given as goal

abbrev pub invariant-loop-m : goal.invariant-loop-m
invariant-loop-m l = record {
  least : 16 ≤ l.m;
  most : l.m ≤ 23;
  fits : filter_len l.m ≤ l.len;
}

abbrev pub decreases-loop-m : goal.decreases-loop-m
decreases-loop-m l = 23 - l.m
