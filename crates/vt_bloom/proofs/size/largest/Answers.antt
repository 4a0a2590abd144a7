use Rattle.std.proofs.Common.{◌≡◌, ◌+◌, ℕ, ap, arith}
use Rattle.vt_disk.specs.declared.region.Region.{Region}
use Rattle.vt_bloom.specs.Size.{filter_len}
use Rattle.vt_bloom.proofs.Powers.{largest_at}
use Rattle.vt_bloom.proofs.size.largest.Goals as goal

pub returns-else-region-len : goal.returns-else-region-len
returns-else-region-len c =
    let m : ℕ = c.loop-m.m in
    let len : c.region.result.len ≡ filter_len (m + 1) = ap (λ (r : Region). r.len)
    c.region.ensures in
    largest_at c.args.len m c.loop-m.invariant.least c.loop-m.invariant.most
    c.loop-m.invariant.fits
    (λ low. omega (arith, len))
