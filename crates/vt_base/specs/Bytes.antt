-- Lists of bytes.
use Rattle.std.specs.Prelude.{ℕ, zero, suc, ◌<◌, List, [], ◌∷◌, ◌++◌, slice_index}
use Rattle.std.proofs.Common.{arith}

-- each number is below 256
abbrev pub AreBytes : List ℕ → Type 0
AreBytes bytes = (i : ℕ) → slice_index bytes i < 256

-- An empty list is one of bytes.
pub AreBytes-none : AreBytes []
AreBytes-none i = omega arith

-- a byte in front of bytes
pub AreBytes-cons : (b : ℕ) (bytes : List ℕ) → b < 256 → AreBytes bytes → AreBytes (b ∷ bytes)
AreBytes-cons b bytes first others zero = first
AreBytes-cons b bytes first others (suc i) = others i

-- bytes behind bytes
pub AreBytes-append : (a b : List ℕ) → AreBytes a → AreBytes b → AreBytes (a ++ b)
AreBytes-append [] b front back = back
AreBytes-append (x ∷ a) b front back = AreBytes-cons x (a ++ b) (front 0) (AreBytes-append a b (λ i. front (suc i)) back)
