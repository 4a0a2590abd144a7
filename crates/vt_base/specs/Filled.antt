-- Bytes that zeros fill up to the length of their field.
use Rattle.std.specs.Prelude.{ℕ, ◌-◌, List, ◌++◌, length, replicate}

-- the bytes with zeros behind them up to this length; as they are where they are longer
abbrev pub filled : (len : ℕ) → List ℕ → List ℕ
filled len bytes = bytes ++ replicate (len - length bytes) 0
