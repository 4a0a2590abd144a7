-- A set of numbers below a bound, kept as an order of all of them and the place of each in it:
-- those at the first places are in the set (Briggs and Torczon, "An efficient representation for
-- sparse sets", 1993).
use Rattle.std.specs.Prelude.{◌≡◌, ℕ, ◌<◌, List, length, slice_index}

-- each number stands at one place, and each place has one number
pub record AreInverse (order place : List ℕ) : Type 0 where
  pub same_length : length place ≡ length order
  pub number_in_range : (k : ℕ) → k < length order → slice_index order k < length order
  pub place_in_range : (s : ℕ) → s < length order → slice_index place s < length order
  pub place_of_number : (k : ℕ) → k < length order → slice_index place (slice_index order k) ≡ k
  pub number_at_place : (s : ℕ) → s < length order → slice_index order (slice_index place s) ≡ s

-- the number stands at one of the first places
abbrev pub IsAmongFirst : (place : List ℕ) → (count number : ℕ) → Type 0
IsAmongFirst place count number = slice_index place number < count
