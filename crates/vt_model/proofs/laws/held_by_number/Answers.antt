use Rattle.vt_model.proofs.Numbers.{held-at, held-none, held-zero, held-by, held-absent}
use Rattle.vt_model.proofs.laws.held_by_number.Goals as goal

pub returns : goal.returns
returns c = record {
  block = held-at;
  none = held-none;
  zero = held-zero;
  found = held-by;
  absent = held-absent;
}
