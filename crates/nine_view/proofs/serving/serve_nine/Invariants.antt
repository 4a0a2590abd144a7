use Rattle.std.proofs.Common.{◌≡◌, ◌-◌, ◌≤◌, length}
use Rattle.std.specs.Prelude.{IsTrue}
use Rattle.vt_session.specs.Talk.{spent_len}
use Rattle.nine_view.proofs.SoFar.{ServesSoFar}
use Rattle.nine_view.proofs.serving.serve_nine.Given as goal

-- the messages so far were answered, and their replies went out
abbrev pub invariant-loop-ended : goal.invariant-loop-ended
invariant-loop-ended g l = record {
  message : length l.buffers.message.items ≡ 65536;
  reply : length l.buffers.reply.items ≡ 65536;
  most : l.served.taken ≤ spent_len;
  so_far : ServesSoFar g.B.Blocks.does g.B.Blocks.holds g.B.Scorer.score_of l.fn.blocks l.blocks
      l.fn.view l.view (IsTrue g.L.Link.tells) (g.L.Link.given l.fn.link) (g.L.Link.given l.link)
      (g.L.Link.written l.fn.link) (g.L.Link.written l.link) l.served.taken l.served.failure;
  reads : g.L.Link.read_faults l.link ≡ g.L.Link.read_faults l.fn.link;
  writes : g.L.Link.write_faults l.link ≡ g.L.Link.write_faults l.fn.link;
}

abbrev pub decreases-loop-ended : goal.decreases-loop-ended
decreases-loop-ended g l = spent_len - l.served.taken
