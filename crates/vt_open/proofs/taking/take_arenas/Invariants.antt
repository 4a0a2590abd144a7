use Rattle.std.proofs.Common.{◌≡◌, ◌≤◌, length, take, vec_capacity}
use Rattle.std.specs.Prelude.{IsTrue}
use Rattle.vt_open.specs.Taking.{AreTakenArenas}
use Rattle.vt_open.proofs.taking.take_arenas.Given as goal

-- those of the first files were handed out
abbrev pub invariant-loop-number : goal.invariant-loop-number
invariant-loop-number g l = record {
  room : length l.files ≤ vec_capacity l.arenas;
  many : length l.arenas.items ≡ l.number;
  taken : AreTakenArenas g.P.Disk.Disk (IsTrue g.P.Parts.tells) (take l.number l.files) (g.P.Parts.standing l.initial.parts) (g.P.Parts.standing l.parts) l.arenas.items;
  faults : g.P.Parts.faults l.parts ≡ g.P.Parts.faults l.initial.parts;
}
