-- What a call of the saved filter keeps, and what it calls.
use Rattle.std.specs.Prelude.{◌≡◌, ℕ, IsTrue, Option, List, map}
use Rattle.std.specs.Option.{option_to_list}
use Rattle.vt_disk.specs.Disk.{WithinCall}
use Rattle.vt_disk.specs.Members.{DiskOf}
use Rattle.vt_model.specs.History.{History}
use Rattle.vt_bloom.specs.Bits.{Filter}
use Rattle.vt_bloom.specs.Bloom.{BloomState}
use Rattle.vt_bloom.specs.Frame.{Covers}
use Rattle.vt_core.specs.declared.event.Out.{Out}
use Rattle.vt_core.specs.Causes.{CallsOnce, CountsOut}
use Rattle.vt_core.specs.Sound.{IsSoundFilter}
use Rattle.vt_core.specs.Stands.{FilterStandsFor, scores_of}

-- Where these bits and this number are true of a history, a device that is sound for it stays so,
-- and what a crash at any moment leaves stands for it.
pub record SavesSoundly {D : Type 0} (disk : DiskOf D) (bits : Filter) (durable : ℕ)
    (old new : BloomState D) : Type 0 where
  pub sound : (score : List ℕ → List ℕ) (g : History) → IsTrue disk.tells
      → Covers (scores_of score g) (record { filter = bits; mark = durable })
      → IsSoundFilter score disk old g → IsSoundFilter score disk new g
  pub crash : (score : List ℕ → List ℕ) (g : History) → IsTrue disk.tells
      → Covers (scores_of score g) (record { filter = bits; mark = durable })
      → IsSoundFilter score disk old g → (file : List ℕ)
      → WithinCall (disk.images old.disk) (disk.images new.disk) file
      → FilterStandsFor score g file

-- the device of a filter, if there is one
abbrev pub devices_of : {D : Type 0} → Option (BloomState D) → List D
devices_of bloom = map (λ b. b.disk) (option_to_list bloom)

-- the calls of a filter's device, if there is one
pub record CallsDevice {D : Type 0} (disk : DiskOf D) (out : Out) (old new : List D) : Type 0 where
  pub calls : CallsOnce disk out old new
  pub faults : CountsOut out (map disk.faults old) (map disk.faults new)
  pub sizes : map disk.size new ≡ map disk.size old
