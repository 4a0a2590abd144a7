use Rattle.std.proofs.Common.{Ok, refl, subst, arith}
use Rattle.nine_wire.specs.Messages.{r_flush}
use Rattle.nine_view.specs.Answers.{stays}
use Rattle.nine_view.specs.Handling.{SettlesRequest}
use Rattle.nine_view.specs.Known.{ViewState}
use Rattle.nine_view.proofs.Limits.{least_limit}
use Rattle.nine_view.proofs.Settled.{said_here}
use Rattle.nine_view.proofs.view.View.flush.Goals as goal

pub returns : goal.returns
returns c =
    let known : ViewState = record {
      top = c.self.inside.top;
      msize = c.self.inside.msize;
      fids = c.self.inside.fids;
      kept = c.self.inside.kept;
      way = c.self.inside.way;
    } in
    let least = least_limit known c.self.invariant.1 in
    subst (λ (k : ViewState). SettlesRequest c.args.tag k k c.encode.new.buf (Ok c.encode.result)
    (stays k r_flush)) c.self.view_is
    (said_here c.args.tag known c.encode.new.buf c.encode.result known (stays known r_flush) tt
    c.encode.ensures.written c.encode.ensures.len (omega arith) refl (λ map right. right))
