use Rattle.std.proofs.Common.{◌≡◌, length}
use Rattle.std.specs.Prelude.{All}
use Rattle.vt_memdisk.specs.Memory.{memory_bytes}
use Rattle.vt_empty.proofs.sections.make_disks.Given as goal

abbrev pub invariant-loop : goal.invariant-loop
invariant-loop l = record {
  many : length l.disks.items ≡ l.counter;
  len : All (λ disk. length (memory_bytes disk) ≡ l.len) l.disks.items;
}
