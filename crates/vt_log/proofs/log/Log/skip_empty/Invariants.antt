-- No arena that was passed has a block, and the next one is whole.
use Rattle.vt_log.specs.Back.{TailState}
use Rattle.vt_log.proofs.StepsBack.{IsSkipped}
use Rattle.vt_log.proofs.log.Log.skip_empty.Given as goal

abbrev pub invariant-loop-tail : goal.invariant-loop-tail
invariant-loop-tail g l =
    let now : TailState = record { left = l.tail-inside.left; queued = l.tail-inside.queued; arena = l.tail-inside.arena; at = l.tail-inside.at } in
    IsSkipped l.self l.fn.tail now

abbrev pub decreases-loop-tail : goal.decreases-loop-tail
decreases-loop-tail g l = l.tail-inside.arena
