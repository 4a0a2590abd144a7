-- the server was met, the job was done, and it was parted from
use Rattle.std.proofs.Common.{◌∙◌, refl, ap, subst}
use Rattle.vt_client.specs.Clients.{ClientState, SaysGoodbye}
use Rattle.vt_dial.specs.Dialled.{Dialled, with_back}
use Rattle.vt_use.specs.Places.{as_server}
use Rattle.vt_use.proofs.Parted.{says_same}
use Rattle.vt_remote.specs.Remote.{link_in}
use Rattle.vt_use.proofs.server.use_server.Goals as goal

pub returns-clause-uses : goal.returns-clause-uses
returns-clause-uses g c =
    let link = g.N.Link.Link in
    let met = c.in-Ok.ensures in
    let run = c.run-output.ensures in
    let last = c.run-output.new.blocks in
    let parts = c.part.ensures.parts in
    record {
      calls = run.0;
      met = c.in-Ok.client;
      last = last;
      back = link_in parts.parted;
      talks = record {
        meets = met.0;
        made = run.1;
        parted = parts.parted;
        says = says_same link last parts.parted (subst (λ (l : ClientState _).
            SaysGoodbye link l parts.parted) c.take_refused-refused.ensures.left parts.says);
        back_is = refl;
      };
      reads = run.2;
      does = run.3;
      is_back = λ told. parts.back told
          ∙ ap (λ (d : Dialled _). with_back (link_in parts.parted) d) (met.1 told);
      faults = c.part.ensures.faults ∙ met.2;
      refusal_is = c.as_server.ensures ∙ ap as_server c.take_refused-refused.ensures.refused;
      blocks_are = c.sent-blocks.ensures
          ∙ ap (λ (l : ClientState _). l.sent) c.take_refused-refused.ensures.left;
      closed_is = refl;
    }
