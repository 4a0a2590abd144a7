-- The time in seconds.
use Rattle.std.specs.Prelude.{ℕ, ◌/◌, ◌-◌, ◌^◌, min, Option, Some, None}
use Rattle.std.specs.Duration.{as_nanos}
use Rattle.std.specs.declared.time.Duration.{Duration}

-- what a clock of 32 bits says where the system's answers this, or fails
abbrev pub seconds : Option Duration → ℕ
seconds None = 0
seconds (Some time) = min (as_nanos time / 1_000_000_000) (2 ^ 32 - 1)
