use Rattle.std.proofs.Common.{◌≡◌, ◌+◌, ◌≤◌}
use Rattle.vt_model.specs.Places.{clump_len_in}
use Rattle.vt_model.proofs.Room.{taken}
use Rattle.vt_model.proofs.stored.room_left.Given as goal

abbrev pub invariant-loop-b : goal.invariant-loop-b
invariant-loop-b l = record {
  room : l.left + taken (clump_len_in l.version) l.arena l.blocks l.b-index ≡ l.room;
  many : l.clumps ≡ taken (λ n. 1) l.arena l.blocks l.b-index;
  few : l.clumps ≤ l.b-index;
}
