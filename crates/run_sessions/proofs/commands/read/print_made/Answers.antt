-- what the store in memory answered
use Rattle.std.proofs.Common.{refl, Ok, Err, append-nil}
use Rattle.run_sessions.proofs.commands.read.print_made.Goals as goal

pub returns-in-Ok : goal.returns-in-Ok
returns-in-Ok g c = record {
  result = Ok c.in-Ok.block;
  answers = c.in-Ok.ensures.answers;
  fails = tt;
  told = rw (c.as_slice.ensures, append-nil c.in-Ok.block) at c.print.ensures;
}

pub returns-in-Err : goal.returns-in-Err
returns-in-Err g c = record {
  result = Err c.in-Err.why;
  answers = c.in-Err.ensures.answers;
  fails = c.in-Err.ensures.fails;
  told = (rw c.refusal_for.ensures refl, refl);
}
