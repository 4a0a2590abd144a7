-- The walk is one of the log.
use Rattle.vt_log.specs.Back.{IsTailOf}
use Rattle.vt_log_tests.proofs.logs.stops_back.Given as goal

abbrev pub invariant-loop-given : goal.invariant-loop-given
invariant-loop-given g l = IsTailOf l.log l.tail
