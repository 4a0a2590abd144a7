use Rattle.std.proofs.Common.{Err, refl, inr, subst, take}
use Rattle.vt_wire.specs.Messages.{asked}
use Rattle.vt_base.specs.Protocol.{t_goodbye}
use Rattle.vt_client.specs.Clients.{ClientState, SaysGoodbye}
use Rattle.vt_client.specs.declared.error.ClientErr.TheVariants.{WriteFault}
use Rattle.vt_client.proofs.Moving.{Moves-part}
use Rattle.vt_client.proofs.client.Client.goodbye.Goals as goal

pub returns : goal.returns
returns g c =
    let old = c.self.inside in
    let after = c.put.new.self in
    subst (λ (s : ClientState g.row.L.Denot). SaysGoodbye g.L.Link s (Err (record {
      link = after;
      why = WriteFault;
    })))
    c.self.view_is
    (inr (
      c.if-spent.false,
      refl,
      record { reads = c.in-Err.ensures.read_faults; writes = c.in-Err.ensures.cause },
      λ told.
          Moves-part g.L.Link old.link after
          (take c.encode_request-len.result c.encode_request-len.new.buf)
          (asked old.tag t_goodbye) c.encode_request-len.ensures.written
          (c.in-Err.ensures.failed told) (c.in-Err.ensures.given told)
          (c.in-Err.ensures.left told),
    ))
