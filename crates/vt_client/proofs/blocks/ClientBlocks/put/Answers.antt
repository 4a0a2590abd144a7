use Rattle.std.proofs.Common.{Ok, sym, ◌∙◌, ap, subst}
use Rattle.vt_base.specs.Faults.{one_more}
use Rattle.vt_client.specs.Clients.{AsksRequest, ClientState, taking_in}
use Rattle.vt_client.proofs.Storing.{gave, kept, refused, refused_counts, refused_sent}
use Rattle.vt_client.proofs.blocks.ClientBlocks.put.Goals as goal

pub returns-in-Ok-clause-done : goal.returns-in-Ok-clause-done
returns-in-Ok-clause-done g c =
    let link = g.L.Link in
    let score_of = g.S.Scorer.score_of in
    let w = taking_in score_of c.args.kind c.args.bytes.now in
    let old = c.self.inside in
    let now : ClientState g.row.L.Denot = record {
      link = old.link;
      tag = old.tag;
      spent = old.spent;
      counts = record { faults = old.faults; refusals = old.refusals };
      refused = old.refused;
      sent = old.sent;
    } in
    let asks = subst (λ (s : ClientState g.row.L.Denot). AsksRequest link score_of w c.args.self.now s
    (Ok c.in-Ok.score)) (sym c.self.view_is) c.in-Ok.ensures.asks in
    let stays = kept link score_of w c.args.self.now now (Ok c.in-Ok.score) asks in
    record {
      asks = gave link score_of w c.args.self.now now c.in-Ok.score
          c.saturating_add-self-inside.result asks;
      counts = stays.counts;
      sent = c.saturating_add-self-inside.ensures ∙ ap one_more stays.sent;
    }

pub returns-in-Err-clause-done : goal.returns-in-Err-clause-done
returns-in-Err-clause-done g c =
    let w = taking_in g.S.Scorer.score_of c.args.kind c.args.bytes.now in
    record {
      asks = refused g.L.Link g.S.Scorer.score_of w c.args.self.now c.put.new.self c.in-Err.why
          c.refuse.result c.refuse.ensures.err c.refuse.new.self c.refuse.ensures.left
          c.in-Err.ensures.asks;
      counts = refused_counts g.L.Link g.S.Scorer.score_of w c.args.self.now c.put.new.self
          c.in-Err.why c.refuse.result c.refuse.ensures.err c.refuse.new.self
          c.refuse.ensures.left c.in-Err.ensures.asks;
      sent = refused_sent g.L.Link g.S.Scorer.score_of w c.args.self.now c.put.new.self
          c.in-Err.why c.refuse.result c.refuse.ensures.err c.refuse.new.self
          c.refuse.ensures.left c.in-Err.ensures.asks;
    }
