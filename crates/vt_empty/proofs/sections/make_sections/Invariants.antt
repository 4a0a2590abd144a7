use Rattle.std.proofs.Common.{◌≡◌, ◌+◌, length}
use Rattle.std.specs.Prelude.{All}
use Rattle.vt_empty.specs.Sections.{IsSectionOf, len_for}
use Rattle.vt_empty.proofs.sections.make_sections.Given as goal

-- a section of each disk that was taken, and the others wait
abbrev pub invariant-loop-disk : goal.invariant-loop-disk
invariant-loop-disk g l = record {
  many : length l.sections.items + length l.disks.items ≡ length l.fn.disks.items;
  len : All (λ disk. g.D.Disk.size disk ≡ len_for l.buckets) l.disks.items;
  each : All (IsSectionOf g.D.Disk (len_for l.buckets)) l.sections.items;
}

abbrev pub decreases-loop-disk : goal.decreases-loop-disk
decreases-loop-disk g l = length l.disks.items
