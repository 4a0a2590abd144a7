-- Disks of which no call fails.
use Rattle.std.proofs.Common.{◌≡◌, ℕ, zero, suc, List, [], ◌∷◌, map, refl, arith}
use Rattle.std.specs.Prelude.{slice_index}
use Rattle.vt_base.specs.Faults.{HasRisen}
use Rattle.vt_disk.specs.Members.{DiskOf}
use Rattle.vt_log.specs.Faults.{OneHasRisen}

module _ {D : Type 0} (disk : DiskOf D) (never : (d : D) → disk.faults d ≡ 0) where
  pub not_risen : (a b : D) → HasRisen (disk.faults a) (disk.faults b) → ⊥
  not_risen a b it = omega (arith, never a, never b, it)

  zeros : (ds : List D) (i : ℕ) → slice_index (map disk.faults ds) i ≡ 0
  zeros [] i = refl
  zeros (d ∷ ds) zero = never d
  zeros (d ∷ ds) (suc i) = zeros ds i

  pub none_risen : (old new : List D) → OneHasRisen (map disk.faults old) (map disk.faults new) → ⊥
  none_risen old new it = omega (arith, zeros old it.which, zeros new it.which, it.rose)
