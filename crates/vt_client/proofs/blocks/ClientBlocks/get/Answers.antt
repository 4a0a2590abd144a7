use Rattle.std.proofs.Common.{Ok}
use Rattle.vt_client.specs.Clients.{wanted_block}
use Rattle.vt_client.proofs.Storing.{gave, kept, refused, refused_counts, refused_sent}
use Rattle.vt_client.proofs.blocks.ClientBlocks.get.Goals as goal

pub returns-in-Ok-clause-done : goal.returns-in-Ok-clause-done
returns-in-Ok-clause-done g c =
    let w = wanted_block c.args.score.now.0 c.args.kind in
    let stays = kept g.L.Link g.S.Scorer.score_of w c.args.self.now c.get.new.self
    (Ok c.in-Ok.bytes) c.in-Ok.ensures.asks in
    record {
      asks = gave g.L.Link g.S.Scorer.score_of w c.args.self.now c.get.new.self c.in-Ok.bytes
          c.get.new.self.sent c.in-Ok.ensures.asks;
      counts = stays.counts;
      sent = stays.sent;
    }

pub returns-in-Err-clause-done : goal.returns-in-Err-clause-done
returns-in-Err-clause-done g c =
    let w = wanted_block c.args.score.now.0 c.args.kind in
    record {
      asks = refused g.L.Link g.S.Scorer.score_of w c.args.self.now c.get.new.self c.in-Err.why
          c.refuse.result c.refuse.ensures.err c.refuse.new.self c.refuse.ensures.left
          c.in-Err.ensures.asks;
      counts = refused_counts g.L.Link g.S.Scorer.score_of w c.args.self.now c.get.new.self
          c.in-Err.why c.refuse.result c.refuse.ensures.err c.refuse.new.self
          c.refuse.ensures.left c.in-Err.ensures.asks;
      sent = refused_sent g.L.Link g.S.Scorer.score_of w c.args.self.now c.get.new.self
          c.in-Err.why c.refuse.result c.refuse.ensures.err c.refuse.new.self
          c.refuse.ensures.left c.in-Err.ensures.asks;
    }
