-- A writeback is under way where calls of it are owed.
use Rattle.std.proofs.Common.{◌≡◌, ℕ, ◌<◌, Option, Some, None, refl, arith}
use Rattle.std.specs.Prelude.{◌↔◌, IsSome}

pub under_way : (writeback : Option ℕ) (owed : ℕ) → ((owed ≡ 0) ↔ (writeback ≡ None)) → 0 < owed → IsSome writeback
under_way None owed none some = let e : owed ≡ 0 = none.1 refl in absurd (omega (arith, e, some))
under_way (Some below) owed none some = refl
