-- What writing a field into a buffer leaves.
use Rattle.std.specs.Prelude.{◌≡◌, ◌+◌, ℕ, List, ◌++◌, length, take, drop}

-- a field stands between these places, and what stands before and behind it stayed
pub record WritesField (at end : ℕ) (old new field : List ℕ) : Type 0 where
  pub ends : end ≡ at + length field
  pub written : take end new ≡ take at old ++ field
  pub behind : drop end new ≡ drop end old
