use Rattle.std.proofs.Common.{Ok}
use Rattle.vt_client.specs.Clients.{committing}
use Rattle.vt_client.proofs.Storing.{gave, kept, refused, refused_counts, refused_sent}
use Rattle.vt_client.proofs.blocks.ClientBlocks.sync.Goals as goal

pub returns-in-Ok : goal.returns-in-Ok
returns-in-Ok g c =
    let w = committing in
    let stays = kept g.L.Link g.S.Scorer.score_of w c.args.self.now c.sync.new.self (Ok tt)
    c.in-Ok.ensures in
    record {
      asks = gave g.L.Link g.S.Scorer.score_of w c.args.self.now c.sync.new.self tt
          c.sync.new.self.sent c.in-Ok.ensures;
      counts = stays.counts;
      sent = stays.sent;
    }

pub returns-in-Err : goal.returns-in-Err
returns-in-Err g c =
    let w = committing in
    record {
      asks = refused g.L.Link g.S.Scorer.score_of w c.args.self.now c.sync.new.self c.in-Err.why
          c.refuse.result c.refuse.ensures.err c.refuse.new.self c.refuse.ensures.left
          c.in-Err.ensures;
      counts = refused_counts g.L.Link g.S.Scorer.score_of w c.args.self.now c.sync.new.self
          c.in-Err.why c.refuse.result c.refuse.ensures.err c.refuse.new.self
          c.refuse.ensures.left c.in-Err.ensures;
      sent = refused_sent g.L.Link g.S.Scorer.score_of w c.args.self.now c.sync.new.self
          c.in-Err.why c.refuse.result c.refuse.ensures.err c.refuse.new.self
          c.refuse.ensures.left c.in-Err.ensures;
    }
