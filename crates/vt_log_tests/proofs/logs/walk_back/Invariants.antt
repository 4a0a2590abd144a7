-- The walk is one of the log.
use Rattle.vt_log.specs.Back.{IsTailOf}
use Rattle.vt_log_tests.proofs.logs.walk_back.Given as goal

abbrev pub invariant-loop : goal.invariant-loop
invariant-loop g l = IsTailOf l.log l.tail
