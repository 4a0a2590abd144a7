use Rattle.std.proofs.Common.{◌<◌, ◌≢◌}
use Rattle.vt_base.specs.declared.place.Entry.{Entry}
use Rattle.vt_icache.specs.Index.{IsCached}
use Rattle.vt_icache.proofs.cache.IndexCache.find_score.Given as goal

abbrev pub invariant-loop-number : goal.invariant-loop-number
invariant-loop-number l = (entry : Entry) → IsCached l.self entry → entry.key.kind < l.number → entry.key.score.0 ≢ l.score.0
