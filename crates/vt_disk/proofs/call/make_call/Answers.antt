use Rattle.std.proofs.Common.{arith}
use Rattle.vt_disk.proofs.call.make_call.Goals as goal

-- src/call.rt:74:1
pub returns-in-Write-clause-writes : goal.returns-in-Write-clause-writes
returns-in-Write-clause-writes g c = rw c.in-Write.is (record {
  bytes = c.write_at.ensures.others;
  images = c.write_at.ensures.images;
  size = c.write_at.ensures.size;
  calls = λ told. omega (arith, c.write_at.ensures.calls told);
})
