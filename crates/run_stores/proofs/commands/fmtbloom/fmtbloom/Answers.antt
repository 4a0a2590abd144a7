-- the filter that was asked for
use Rattle.std.proofs.Common.{refl, inr, Ok, Err}
use Rattle.run_stores.proofs.commands.fmtbloom.fmtbloom.Goals as goal

pub returns-in-Ok-clause-does : goal.returns-in-Ok-clause-does
returns-in-Ok-clause-does g c =
    let asked = c.in_ok-bytes.ensures.good in
    inr (
      asked.0,
      c.in_ok-bytes.bytes,
      c.in_ok-bytes.bits,
      asked.1,
      record {
        result = Ok tt;
        worked = c.in-Ok.ensures.worked asked.0 asked.1.size_is.fits;
        others = c.in-Ok.ensures.others;
        told = c.print_filter.ensures;
      },
    )

pub returns-in-Err-clause-does : goal.returns-in-Err-clause-does
returns-in-Err-clause-does g c =
    let asked = c.in_ok-bytes.ensures.good in
    inr (
      asked.0,
      c.in_ok-bytes.bytes,
      c.in_ok-bytes.bits,
      asked.1,
      record {
        result = Err c.in-Err.bad;
        worked = c.in-Err.ensures.worked asked.0 asked.1.size_is.fits;
        others = c.in-Err.ensures.others;
        told = ((c.refused.result, refl, c.refused.ensures), refl);
      },
    )
