use Rattle.std.proofs.Common.{◌+◌, ◌*◌, ◌%◌, ℕ, ap}
use Rattle.vt_isect.proofs.Follows.{first_byte}
use Rattle.vt_isect.proofs.remembered.Remembered.read.Goals as goal

pub returns-clause-named : goal.returns-clause-named
returns-clause-named g c told =
    ap (λ (b : ℕ). b % 2) (first_byte c.read_at.new.buf _ (c.args.place.start + 2 * 8192) (c.in_ok-read_at.ensures.read told))
