-- what came so far was heard and answered, and what was said is written or waits
use Rattle.std.proofs.Common.{◌≡◌, ◌<◌, length, IsTrue, None}
use Rattle.vt_session.specs.Talking.{IsHeardStage}
use Rattle.vt_handler.specs.Condition.{ConditionGoesOn}
use Rattle.vt_handler.specs.Links.{left_to_do}
use Rattle.vt_handler.specs.Taking.{DoesSome}
use Rattle.vt_handler.proofs.Links.{InSession}
use Rattle.vt_handler.proofs.answering.Answering.serve_talker.Given as goal

abbrev pub invariant-loop-ended : goal.invariant-loop-ended
invariant-loop-ended g l = record {
  session : InSession g.T.Store l.fn.store l.store l.self (IsTrue g.C.Client.tells)
      (g.C.Client.left l.fn.client) (g.C.Client.left l.client)
      (g.C.Client.sent l.fn.client) (g.C.Client.sent l.client)
      (g.C.Client.written l.fn.client) (g.C.Client.written l.client) l.talker;
  heard : IsHeardStage l.talker.stage;
  some : 0 < length l.piece;
  goes_on : ConditionGoesOn (g.T.Store.condition l.fn.store) (g.T.Store.condition l.store);
  does : DoesSome g.T.Store l.fn.store l.store None l.self.failure;
  reads : g.C.Client.read_faults l.client ≡ g.C.Client.read_faults l.fn.client;
  writes : g.C.Client.write_faults l.client ≡ g.C.Client.write_faults l.fn.client;
}

abbrev pub decreases-loop-ended : goal.decreases-loop-ended
decreases-loop-ended g l = left_to_do l.talker
