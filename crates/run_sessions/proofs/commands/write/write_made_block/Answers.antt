-- what the store in memory answered
use Rattle.std.proofs.Common.{refl, Ok, Err}
use Rattle.run_sessions.proofs.commands.write.write_made_block.Goals as goal

pub returns-in-Ok : goal.returns-in-Ok
returns-in-Ok g c = record {
  does = record {
    result = Ok c.in-Ok.score;
    answers = c.in-Ok.ensures.answers;
    fails = tt;
    told = c.print_score.ensures;
  };
  scored = c.in-Ok.ensures.scored;
}

pub returns-in-Err : goal.returns-in-Err
returns-in-Err g c = record {
  does = record {
    result = Err c.in-Err.why;
    answers = c.in-Err.ensures.answers;
    fails = c.in-Err.ensures.fails;
    told = (rw c.refusal_for.ensures refl, refl);
  };
  scored = tt;
}
