use Rattle.std.proofs.Common.{◌≡◌, ◌≤◌, length, take, vec_capacity}
use Rattle.std.specs.Prelude.{IsTrue}
use Rattle.vt_open.specs.Taking.{AreTaken}
use Rattle.vt_open.proofs.taking.take_sections.Given as goal

-- those of the first files were handed out
abbrev pub invariant-loop-number : goal.invariant-loop-number
invariant-loop-number g l = record {
  room : length l.files ≤ vec_capacity l.disks;
  many : length l.disks.items ≡ l.number;
  taken : AreTaken (IsTrue g.P.Parts.tells) (take l.number l.files) (g.P.Parts.standing l.initial.parts) (g.P.Parts.standing l.parts) l.disks.items;
  faults : g.P.Parts.faults l.parts ≡ g.P.Parts.faults l.initial.parts;
}
