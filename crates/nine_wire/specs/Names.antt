-- The names of a walk, which stand one behind another in its message.
use Rattle.std.specs.Prelude.{ℕ, zero, suc, ◌≡◌, ◌+◌, List, [], ◌∷◌, take, drop}
use Rattle.std.specs.List.{AllByRecursion, flat_map}
use Rattle.byteorder.specs.Endian.{little_number}
use Rattle.nine_wire.specs.Messages.{string, IsString}

-- so many strings in front of bytes
abbrev pub names_in : ℕ → List ℕ → List (List ℕ)
names_in zero bytes = []
names_in (suc n) bytes =
    let len = little_number 2 bytes in
    take len (drop 2 bytes) ∷ names_in n (drop (2 + len) bytes)

-- these names and nothing more are the bytes
pub record SpellNames (names : List (List ℕ)) (bytes : List ℕ) : Type 0 where
  pub each : AllByRecursion IsString names
  pub is : bytes ≡ flat_map string names
