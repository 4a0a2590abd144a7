use Rattle.std.proofs.Common.{arith}
use Rattle.vt_session.proofs.Causes.{one_rose, one_none_fell}
use Rattle.vt_session.proofs.laws.one_count_rises.Goals as goal

pub returns : goal.returns
returns c = record {
  rose = one_rose;
  none_fell = one_none_fell;
  told = λ before after stops counts. record {
    counts = (λ k. omega arith, counts, λ k. omega arith);
    stops = (tt, tt);
  };
  stand = λ counts stops. record { counts = λ k. omega arith; stops = tt };
}
