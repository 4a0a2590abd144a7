use Rattle.std.proofs.Common.{◌≡◌, ◌≤◌, length, take}
use Rattle.std.specs.Prelude.{vec_capacity}
use Rattle.vt_core.specs.Steps.{Runs}
use Rattle.vt_core.proofs.store.Core.run.Given as goal

-- the events so far ran
abbrev pub invariant-loop-i : goal.invariant-loop-i
invariant-loop-i g l = record {
  runs : Runs g.S.Scorer.score_of g.D.Disk (take l.i l.events) l.outs.items l.initial.self l.self;
  many : length l.outs.items ≡ l.i;
  room : length l.events ≤ vec_capacity l.outs;
  sessions : length l.self.waiting ≡ length l.initial.self.waiting;
  shards : length l.self.shards ≡ length l.initial.self.shards;
}
