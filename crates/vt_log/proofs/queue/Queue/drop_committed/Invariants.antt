use Rattle.std.proofs.Common.{◌≡◌, ◌≤◌, drop}
use Rattle.std.specs.VecDeque.{deque_capacity}
use Rattle.vt_log.specs.declared.TheConstants.{QUEUE_MAX}
use Rattle.vt_log.proofs.queue.Queue.drop_committed.Given as goal

-- so many places have gone
abbrev pub invariant-loop : goal.invariant-loop
invariant-loop l = record {
  waiting : l.self-inside.waiting.items ≡ l.fn.self.waiting;
  places : l.self-inside.places.items ≡ drop l.counter l.fn.self.places;
  waiting_room : QUEUE_MAX ≤ deque_capacity l.self-inside.waiting;
  places_room : QUEUE_MAX ≤ deque_capacity l.self-inside.places;
}
