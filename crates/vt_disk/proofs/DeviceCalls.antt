-- A device call that was made, by another answer that tells the same of it.
use Rattle.std.proofs.Common.{Result, Ok, Err, refl}
use Rattle.std.specs.Prelude.{◌↔◌, IsOk}
use Rattle.vt_disk.specs.declared.call.CallCount.{CallCount}
use Rattle.vt_disk.specs.DeviceCalls.{DeviceCall, CallMade}
use Rattle.vt_disk.specs.Members.{DiskOf}

module _ {D T E U F : Type 0} (disk : DiskOf D) (call : DeviceCall) (old new : CallCount) (before after : D) where
  pub makes_told : (said : Result T E) (tells : Result U F) → IsOk tells ↔ IsOk said
      → CallMade disk call said old new before after → CallMade disk call tells old new before after
  makes_told (Ok v) (Ok u) same makes = record {
    runs = makes.runs;
    counts = makes.counts;
    written = makes.written;
    settled = makes.settled;
    writes = makes.writes;
    calls = makes.calls;
    cause = makes.cause;
  }
  makes_told (Err e) (Err f) same makes = record {
    runs = makes.runs;
    counts = makes.counts;
    written = makes.written;
    settled = makes.settled;
    writes = makes.writes;
    calls = makes.calls;
    cause = makes.cause;
  }
  makes_told (Ok v) (Err f) same makes = absurd (let is = same.1 refl in cc)
  makes_told (Err e) (Ok u) same makes = absurd (let is = same.0 refl in cc)
