use Rattle.std.proofs.Common.{◌≡◌, ℕ, ◌+◌, ◌%◌, List, length, drop, subst, ◌∙◌}
use Rattle.vt_client.specs.Clients.{AsksRequest, ClientState, taking_in}
use Rattle.vt_client.proofs.Asking.{Asked, asked_by_buffer, asked_in_vain, asks_so}
use Rattle.vt_client.proofs.client.Client.put.Goals as goal
use Rattle.vt_client.proofs.client.Client.put.Goals.{in-Ok, in-Err}

pub returns-clause-asks : goal.returns-clause-asks
returns-clause-asks g c =
    let old = c.self.inside in
    let new = c.exchange.new in
    let score_of = g.S.Scorer.score_of in
    let was : ClientState g.row.L.Denot = record {
      link = old.link;
      tag = old.tag;
      spent = old.spent;
      counts = record { faults = old.faults; refusals = old.refusals };
      refused = old.refused;
      sent = old.sent;
    } in
    let answer = c.match-exchange.answer in
    let sent = taking_in g.S.Scorer.score_of c.wire.result c.args.bytes.now in
    let asked : Asked g.L.Link score_of old.tag sent old.link new.link answer =
    elim c.match-exchange.branch [
      | in-Ok w ↦ asked_by_buffer g.L.Link score_of old.tag sent old.link new.link new.buf
          (drop (length new.buf) old.buf.items) w.deref.result.now old.buf.len w.in-Ok.len
          w.score_in-answer.result answer w.answer-is w.deref.ensures.value
          (c.exchange.auto.buf ∙ c.deref_mut.ensures.len)
          w.in-Ok.ensures.frame w.in-Ok.ensures.exchanged w.in-Ok.ensures.sides
          (w.score_in-answer.ensures.reads score_of c.wire.result c.args.bytes.now
          c.score-want.ensures)
      | in-Err w ↦ asked_in_vain g.L.Link score_of old.tag sent old.link new.link w.in-Err.err
          answer w.answer-is w.in-Err.ensures.exchanged w.in-Err.ensures.about
          w.in-Err.ensures.sides
    ] in
    let wanted = taking_in score_of c.args.kind c.args.bytes.now in
    subst (λ (s : ClientState g.row.L.Denot). AsksRequest g.L.Link score_of wanted s
    (record was { link = new.link; tag = (old.tag + 1) % 256; spent = c.ends-self-inside.result })
    answer) c.self.view_is
    (asks_so g.L.Link score_of wanted was new.link c.ends-self-inside.result answer
    c.if-self.false c.ends-self-inside.ensures
    (subst (λ (k : ℕ). Asked g.L.Link score_of old.tag (taking_in score_of k c.args.bytes.now)
    old.link new.link answer) c.wire.ensures.number asked))
