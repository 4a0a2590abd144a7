use Rattle.std.proofs.Common.{◌≡◌, length}
use Rattle.std.specs.Prelude.{IsTrue}
use Rattle.vt_open.proofs.Giving.{IsGivenTo}
use Rattle.vt_open.proofs.closing.give_arenas.Given as goal

-- those behind are back
abbrev pub invariant-loop-part : goal.invariant-loop-part
invariant-loop-part g l = record {
  given : IsGivenTo (IsTrue g.P.Parts.tells) (λ part. part.disk) l.files l.fn.arenas.items l.arenas.items (g.P.Parts.standing l.initial.parts) (g.P.Parts.standing l.parts);
  faults : g.P.Parts.faults l.parts ≡ g.P.Parts.faults l.initial.parts;
}

abbrev pub decreases-loop-part : goal.decreases-loop-part
decreases-loop-part g l = length l.arenas.items
