use Rattle.std.proofs.Common.{◌≡◌, ◌<◌, Ok, length}
use Rattle.std.specs.Option.{option_map_or}
use Rattle.std.specs.Prelude.{slice_get}
use Rattle.vt_core.specs.declared.event.Event.TheVariants.{FileAdvance}
use Rattle.vt_isect.specs.Writeback.{calls_left}
use Rattle.vt_requests.specs.Working.{DoesWork, IsEnding}
use Rattle.vt_requests.proofs.ending.advance_file.Given as goal

-- the writeback went on, and what it leaves is settled where it was
abbrev pub invariant-loop-why : goal.invariant-loop-why
invariant-loop-why g l = record {
  works : DoesWork {T = Unit {0}} g.S.Scorer.score_of g.D.Disk (λ event k. event ≡ FileAdvance l.shard) (Ok tt) l.initial.core l.core;
  within : l.shard < length l.core.shards;
  ends : IsEnding l.shard l.initial.core → IsEnding l.shard l.core;
}

abbrev pub decreases-loop-why : goal.decreases-loop-why
decreases-loop-why g l = option_map_or (λ s. calls_left s.section) (slice_get l.core.shards l.shard) 0
