-- Values of all commands: a command has none that it wasn't given.
use Rattle.std.proofs.Common.{◌≡◌, ◌||◌, Bool, true, false, refl}

pub or_not : (a b : Bool) → b ≡ false → (a || b) ≡ a
or_not true b is = refl
or_not false b is = is
