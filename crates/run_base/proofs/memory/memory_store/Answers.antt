-- the shape is one, and a fresh store of it is sound for the empty history
use Rattle.std.proofs.Common.{refl, arith, rules}
use Rattle.run_base.proofs.InMemory.{as_memory}
use Rattle.run_base.proofs.memory.memory_store.Goals as goal

pub fresh_store-requires-clause-shape : goal.fresh_store-requires-clause-shape
fresh_store-requires-clause-shape g c = record {
  some_arena = omega arith;
  arenas = omega arith;
  arena_len = search rules;
  some_section = omega arith;
  some_bucket = omega arith;
  buckets = omega arith;
  m = 16;
  filter = record { least = omega arith; most = omega arith; bytes = refl };
  counts = record { least = omega arith; most = omega arith; some = omega arith; few = omega arith };
}

pub returns : goal.returns
returns g c =
    as_memory g.S.Scorer.score_of _ _ _ c.fresh_store.result refl c.fresh_store.ensures
