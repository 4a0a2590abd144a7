-- How an archive's streams are cut.
use Rattle.std.proofs.Common.{◌≡◌, ℕ, ◌*◌, ◌/◌, Bool, true, false}
use Rattle.vt_tree.specs.Streams.{Shape}
use Rattle.vac_write.specs.Walking.{item_shape}

pub shape_is : (bsize psize dsize : ℕ) (is_dir : Bool) → psize ≡ bsize / 20 * 20
    → dsize ≡ (item_shape bsize is_dir).dsize
    → ◌≡◌ {A = Shape} (record { psize = psize; dsize = dsize; is_dir = is_dir })
    (item_shape bsize is_dir)
shape_is bsize psize dsize true p d = λ i. record { psize = p i; dsize = d i; is_dir = true }
shape_is bsize psize dsize false p d = λ i. record { psize = p i; dsize = d i; is_dir = false }
