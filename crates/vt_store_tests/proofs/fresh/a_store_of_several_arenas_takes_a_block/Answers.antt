use Rattle.std.proofs.Common.{refl, arith, rules}
use Rattle.vt_store_tests.proofs.fresh.a_store_of_several_arenas_takes_a_block.Goals as goal

pub see-requires : goal.see-requires
see-requires c = record {
  some_arena = omega arith;
  arenas = omega arith;
  arena_len = search rules;
  some_section = omega arith;
  some_bucket = omega arith;
  buckets = omega arith;
  m = 16;
  filter = record { least = omega arith; most = omega arith; bytes = refl };
  counts = record { least = omega arith; most = omega arith; some = omega arith; few = omega arith };
}
