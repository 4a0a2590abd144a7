-- What tells nothing meets each clause on what is told.
use Rattle.std.specs.Prelude.{false, IsTrue}
use Rattle.std.proofs.Common.{sym}
use Rattle.std.proofs.lemmas.Bool.{true≢false}

-- nothing is told by what tells nothing
pub untold : {P : Type 0} → IsTrue false → P
untold tells = absurd (true≢false (sym tells))
