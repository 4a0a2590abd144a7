-- why the file's partition was refused
use Rattle.std.proofs.Common.{inr, refl, Err}
use Rattle.run_stores.proofs.commands.fmtisect.fmtisect.Goals as goal

pub returns-in-Err-clause-does : goal.returns-in-Err-clause-does
returns-in-Err-clause-does g c = inr (
  c.in_ok-len.len,
  c.in_ok-len.ensures.good,
  record {
    result = Err c.in-Err.bad;
    worked = c.in-Err.ensures.worked;
    others = c.in-Err.ensures.others;
    told = ((c.refused.result, refl, c.refused.ensures), refl);
  },
)
