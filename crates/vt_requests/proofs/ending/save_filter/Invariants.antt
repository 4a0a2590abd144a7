use Rattle.std.proofs.Common.{◌≡◌, Ok}
use Rattle.vt_core.specs.declared.event.Event.TheVariants.{BloomAdvance}
use Rattle.vt_requests.proofs.FilterLeft.{filter_left}
use Rattle.vt_requests.specs.Working.{DoesWork}
use Rattle.vt_requests.proofs.ending.save_filter.Given as goal

-- the save went on
abbrev pub invariant-loop-why : goal.invariant-loop-why
invariant-loop-why g l = record {
  works : DoesWork {T = Unit {0}} g.S.Scorer.score_of g.D.Disk (λ event k. event ≡ BloomAdvance) (Ok tt) l.initial.core l.core;
}

abbrev pub decreases-loop-why : goal.decreases-loop-why
decreases-loop-why g l = filter_left l.core.log.durable l.core.bloom
