use Rattle.std.proofs.Common.{ℕ, List, Ok, sym, subst, ◌∙◌}
use Rattle.nine_wire.specs.Messages.{r_clunk}
use Rattle.nine_view.specs.declared.fid.Fid.{Fid}
use Rattle.nine_view.specs.Answers.{of_fid, settled, with_known}
use Rattle.nine_view.specs.Handling.{SettlesSo}
use Rattle.nine_view.specs.Kept.{IsKeptView}
use Rattle.nine_view.specs.Known.{ViewState, without_fid}
use Rattle.nine_view.proofs.Keeping.{kept_without}
use Rattle.nine_view.proofs.Settled.{clunked}
use Rattle.nine_view.proofs.view.View.clunk.Goals as goal

pub invariant_of-self : goal.invariant_of-self
invariant_of-self c = (
  c.self.invariant.0,
  subst (λ (l : List (ℕ × Fid)). IsKeptView
      (record { top = c.self.inside.top; msize = c.self.inside.msize; fids = l; kept = c.self.inside.kept; way = c.self.inside.way }))
      (sym c.remove.ensures)
      (kept_without (record {
        top = c.self.inside.top;
        msize = c.self.inside.msize;
        fids = c.self.inside.fids;
        kept = c.self.inside.kept;
        way = c.self.inside.way;
      }) c.args.fid c.self.invariant.1),
)

pub returns : goal.returns
returns c =
    let known : ViewState = record {
      top = c.self.inside.top;
      msize = c.self.inside.msize;
      fids = c.self.inside.fids;
      kept = c.self.inside.kept;
      way = c.self.inside.way;
    } in
    subst (λ (k : ViewState). SettlesSo c.args.tag k
    (record { top = c.self.inside.top; msize = c.self.inside.msize; fids = c.remove.new.self; kept = c.self.inside.kept; way = c.self.inside.way })
    c.encode.new.buf (Ok c.encode.result) (of_fid k c.args.fid
    (λ f. settled (with_known k (without_fid c.args.fid k.fids) r_clunk)))) c.self.view_is
    (clunked c.args.tag known c.encode.new.buf c.args.fid c.remove.new.self c.encode.result
    c.self.invariant.1 (sym c.contains.ensures ∙ c.if-not-contains.false) c.remove.ensures
    c.encode.ensures.written c.encode.ensures.len)
