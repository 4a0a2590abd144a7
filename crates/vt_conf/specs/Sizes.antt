-- Sizes as text (venti.conf(6)): a number of bytes, or of 1,024 bytes, the square or the cube of
-- that, where a letter stands behind it.
use Rattle.std.specs.Prelude.{ℕ, ◌≡◌, ◌==◌, ◌||◌, ◌*◌, ◌<◌, ◌^◌, if◌then◌else◌, Option, Some, None, List, [], ◌∷◌, ◌++◌, decimal}

-- what a letter stands for: k, m or g, in either case
abbrev pub unit_of : ℕ → Option ℕ
unit_of letter =
    if letter == 107 || letter == 75 then Some (2 ^ 10)
    else if letter == 109 || letter == 77 then Some (2 ^ 20)
    else if letter == 103 || letter == 71 then Some (2 ^ 30)
    else None

-- at most one letter
abbrev pub IsUnit : (unit : ℕ) → List ℕ → Type 0
IsUnit unit [] = unit ≡ 1
IsUnit unit (letter ∷ []) = unit_of letter ≡ Some unit
IsUnit unit (letter ∷ other ∷ others) = ⊥

-- the text says a size of so many bytes
pub record SpellsSize (size : ℕ) (text : List ℕ) : Type 0 where
  pub number : ℕ
  pub unit : ℕ
  pub letter : List ℕ
  pub spelled : text ≡ decimal number ++ letter
  pub unit_is : IsUnit unit letter
  pub value : size ≡ number * unit
  pub most : size < 2 ^ 63
