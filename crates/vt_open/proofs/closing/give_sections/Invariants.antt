use Rattle.std.proofs.Common.{◌≡◌, length}
use Rattle.std.specs.Prelude.{IsTrue}
use Rattle.vt_open.proofs.Giving.{IsGivenTo}
use Rattle.vt_open.proofs.closing.give_sections.Given as goal

-- those behind are back
abbrev pub invariant-loop-disk : goal.invariant-loop-disk
invariant-loop-disk g l = record {
  given : IsGivenTo (IsTrue g.P.Parts.tells) (λ disk. disk) l.files l.fn.disks.items l.disks.items (g.P.Parts.standing l.initial.parts) (g.P.Parts.standing l.parts);
  faults : g.P.Parts.faults l.parts ≡ g.P.Parts.faults l.initial.parts;
}

abbrev pub decreases-loop-disk : goal.decreases-loop-disk
decreases-loop-disk g l = length l.disks.items
