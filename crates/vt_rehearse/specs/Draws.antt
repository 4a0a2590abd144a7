-- Numbers that follow from a number: a linear congruence modulo 2^64 (Knuth's MMIX), of which the
-- high bits are taken.
use Rattle.std.specs.Prelude.{ℕ, ◌+◌, ◌*◌, ◌/◌, ◌%◌, ◌^◌}

-- the number behind this one: a linear congruential generator modulo 2 ^ 64 (Knuth's MMIX
-- constants)
abbrev pub next_draw : ℕ → ℕ
next_draw x = (x * 6364136223846793005 + 1442695040888963407) % 2 ^ 64

-- what is drawn at x
abbrev pub drawn : (x below : ℕ) → ℕ
drawn x below = next_draw x / 2 ^ 33 % below
