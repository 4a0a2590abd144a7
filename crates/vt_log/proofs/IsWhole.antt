-- What a log in memory keeps says of its numbers.
use Rattle.std.proofs.Common.{◌≡◌, ℕ, ◌^◌, ◌≤◌, arith, Some}
use Rattle.std.specs.Prelude.{slice_get}
use Rattle.std.proofs.lemmas.Option.{slice_get-get_or}
use Rattle.std.proofs.lemmas.List.Sums.{sum_by-le}
use Rattle.vt_disk.specs.Members.{DiskOf}
use Rattle.vt_arena.specs.declared.head.Found.{Found}
use Rattle.vt_arena.proofs.Layouts.{entries_least}
use Rattle.vt_log.specs.Log.{LogState}
use Rattle.vt_log.specs.Whole.{IsOnDisk, IsWholeLog}
use Rattle.vt_log.proofs.Lists.{slice_get_other, at_slice}

-- an arena's head has few clumps, and few bytes of them
pub head_small : {D : Type 0} (disk : DiskOf D) (l : LogState D) (i : ℕ) (found : Found) → IsWholeLog disk l → slice_get l.heads i ≡ Some found
    → (found.head.clumps ≤ 42949672) × (found.head.used ≤ 2 ^ 30)
head_small disk l i found whole at =
    let r = slice_get_other l.layout l.heads i found whole.many at in
    let on = at_slice (IsOnDisk disk l.disks) l.layout i r.0 whole.regions r.1 in
    let fit = (whole.heads i r.0 found r.1 at).fit in
    let least = entries_least found.head.version found.head.clumps in
    (omega (arith, fit, least, on.region.len.1), omega (arith, fit, on.region.len.1))

-- so that all of them have few
pub durable_small : {D : Type 0} (disk : DiskOf D) (l : LogState D) → IsWholeLog disk l → l.durable ≤ 184467440000000000
durable_small disk l whole =
    let most = sum_by-le (λ (found : Found). found.head.clumps) 42949672 l.heads
    (λ i d below. (head_small disk l i _ whole (slice_get-get_or l.heads i d below)).0) in
    let e = whole.durable in
    let few = whole.few in
    let many = whole.many in
    omega (arith, most, e, few, many)
