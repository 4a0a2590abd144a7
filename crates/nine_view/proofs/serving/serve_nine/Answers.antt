use Rattle.std.proofs.Common.{ℕ, ◌∙◌, subst}
use Rattle.std.specs.Prelude.{IsTrue}
use Rattle.nine_view.specs.Serving.{ReadCause, WriteCause}
use Rattle.nine_view.proofs.SoFar.{serves_all, serves_more, serves_nothing}
use Rattle.nine_view.proofs.serving.serve_nine.Goals as goal

pub returns-in_default-clause-serves : goal.returns-in_default-clause-serves
returns-in_default-clause-serves g c =
    serves_nothing g.B.Blocks.does g.B.Blocks.holds g.B.Scorer.score_of c.args.blocks.now c.args.view.now
    (IsTrue g.L.Link.tells) (g.L.Link.given c.args.link.now) (g.L.Link.written c.args.link.now)
    (g.L.Link.left c.args.link.now)

pub loop-ended-preserved : goal.loop-ended-preserved
loop-ended-preserved g c = record {
  message = c.in_default-turn.ensures.message;
  reply = c.in_default-turn.ensures.reply;
  most = c.in_default-turn.ensures.most;
  so_far = serves_more g.B.Blocks.does g.B.Blocks.holds g.B.Scorer.score_of
      c.args.blocks.now c.loop-ended.blocks c.turn.new.blocks c.args.view.now c.loop-ended.view
      c.turn.new.view (IsTrue g.L.Link.tells) (g.L.Link.given c.args.link.now)
      (g.L.Link.given c.loop-ended.link) (g.L.Link.given c.turn.new.link) (g.L.Link.written c.args.link.now)
      (g.L.Link.written c.loop-ended.link) (g.L.Link.written c.turn.new.link) (g.L.Link.left c.turn.new.link)
      c.loop-ended.served.taken c.turn.new.served.taken c.loop-ended.served.failure
      c.turn.new.served.failure c.loop-ended.invariant.so_far c.in_default-turn.ensures.turns;
  reads = c.in_default-turn.ensures.reads ∙ c.loop-ended.invariant.reads;
  writes = c.in_default-turn.ensures.writes ∙ c.loop-ended.invariant.writes;
}

pub returns-in-Err-clause-serves : goal.returns-in-Err-clause-serves
returns-in-Err-clause-serves g c =
    serves_all g.B.Blocks.does g.B.Blocks.holds g.B.Scorer.score_of c.args.blocks.now
    c.loop-ended.blocks c.turn.new.blocks c.args.view.now c.loop-ended.view c.turn.new.view
    (IsTrue g.L.Link.tells) (g.L.Link.given c.args.link.now) (g.L.Link.given c.loop-ended.link)
    (g.L.Link.given c.turn.new.link) (g.L.Link.written c.args.link.now) (g.L.Link.written c.loop-ended.link)
    (g.L.Link.written c.turn.new.link) (g.L.Link.left c.turn.new.link) c.loop-ended.served.taken
    c.turn.new.served.taken c.loop-ended.served.failure c.turn.new.served.failure
    c.loop-ended.invariant.so_far c.in-Err.ended c.in-Err.ensures.turns

pub returns-in-Err-clause-reads : goal.returns-in-Err-clause-reads
returns-in-Err-clause-reads g c =
    subst (λ (n : ℕ). ReadCause c.in-Err.ended n (g.L.Link.read_faults c.turn.new.link))
    c.loop-ended.invariant.reads c.in-Err.ensures.reads

pub returns-in-Err-clause-writes : goal.returns-in-Err-clause-writes
returns-in-Err-clause-writes g c =
    subst (λ (n : ℕ). WriteCause c.in-Err.ended n (g.L.Link.write_faults c.turn.new.link))
    c.loop-ended.invariant.writes c.in-Err.ensures.writes

pub returns-in-Err-clause-memory : goal.returns-in-Err-clause-memory
returns-in-Err-clause-memory g c = λ short. absurd (c.in-Err.ensures.memory short)
