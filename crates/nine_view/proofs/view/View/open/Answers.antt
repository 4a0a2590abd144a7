use Rattle.std.proofs.Common.{◌≡◌, ◌<◌, ◌^◌, ℕ, Option, Some, Ok, Err, List, length, take, sym, ◌∙◌, ap, subst, arith}
use Rattle.std.specs.Prelude.{IfSome}
use Rattle.nine_wire.specs.Frames.{spelled_reply}
use Rattle.nine_wire.specs.Messages.{Qid, r_open}
use Rattle.nine_view.specs.declared.error.AnswerError.TheVariants.{Refused}
use Rattle.nine_view.specs.declared.fid.Fid.{Fid}
use Rattle.nine_view.specs.declared.fid.Reading.{Reading}
use Rattle.nine_view.specs.declared.request_error.RequestError.TheVariants.{FidIsOpen, ReadOnly, UnknownFid}
use Rattle.nine_view.specs.Answers.{iounit, of_fid, settled, to_open, unread}
use Rattle.nine_view.specs.Handling.{SettlesSo}
use Rattle.nine_view.specs.Kept.{IsKeptView}
use Rattle.nine_view.specs.Known.{ViewState, fid_at, with_fid}
use Rattle.nine_view.proofs.Keeping.{kept_fid, kept_with}
use Rattle.nine_view.proofs.Limits.{least_agreed}
use Rattle.nine_view.proofs.Settled.{not_opened, opened, opened_for_less, unknown_at}
use Rattle.nine_view.proofs.view.View.open.Goals as goal

pub returns-in_default : goal.returns-in_default
returns-in_default c =
    let known : ViewState = record {
      top = c.self.inside.top;
      msize = c.self.inside.msize;
      fids = c.self.inside.fids;
      kept = c.self.inside.kept;
      way = c.self.inside.way;
    } in
    rw c.into.ensures (subst (λ (k : ViewState). SettlesSo c.args.tag k k c.args.out.now
    (Err (Refused UnknownFid)) (of_fid k c.args.fid
    (λ f. settled (to_open k c.args.msize c.args.fid c.args.mode f)))) c.self.view_is
    (unknown_at c.args.tag known c.args.out.now c.args.fid
    (λ f. settled (to_open known c.args.msize c.args.fid c.args.mode f)) (sym c.in_default.ensures)))

pub returns-then-is_some : goal.returns-then-is_some
returns-then-is_some c =
    let known : ViewState = record {
      top = c.self.inside.top;
      msize = c.self.inside.msize;
      fids = c.self.inside.fids;
      kept = c.self.inside.kept;
      way = c.self.inside.way;
    } in
    let f : Fid = c.in-Some.f.now in
    let at : fid_at c.args.fid known.fids ≡ Some f = sym c.in-Some.ensures in
    rw c.into-then-is_some.ensures (subst (λ (k : ViewState). SettlesSo c.args.tag k k c.args.out.now
    (Err (Refused FidIsOpen)) (of_fid k c.args.fid
    (λ f. settled (to_open k c.args.msize c.args.fid c.args.mode f)))) c.self.view_is
    (not_opened c.args.tag known c.args.out.now c.args.msize c.args.fid c.args.mode f at
    (sym c.is_some.ensures ∙ c.if-is_some.true)))

pub returns-then-not-may_open : goal.returns-then-not-may_open
returns-then-not-may_open c =
    let known : ViewState = record {
      top = c.self.inside.top;
      msize = c.self.inside.msize;
      fids = c.self.inside.fids;
      kept = c.self.inside.kept;
      way = c.self.inside.way;
    } in
    let f : Fid = c.in-Some.f.now in
    let at : fid_at c.args.fid known.fids ≡ Some f = sym c.in-Some.ensures in
    rw c.into-then-not-may_open.ensures (subst (λ (k : ViewState). SettlesSo c.args.tag k k c.args.out.now
    (Err (Refused ReadOnly)) (of_fid k c.args.fid
    (λ f. settled (to_open k c.args.msize c.args.fid c.args.mode f)))) c.self.view_is
    (opened_for_less c.args.tag known c.args.out.now c.args.msize c.args.fid c.args.mode f at
    (sym c.is_some.ensures ∙ c.if-is_some.false) (sym c.may_open.ensures ∙ c.if-not-may_open.true)))

pub invariant_of-self : goal.invariant_of-self
invariant_of-self c =
    let known : ViewState = record {
      top = c.self.inside.top;
      msize = c.self.inside.msize;
      fids = c.self.inside.fids;
      kept = c.self.inside.kept;
      way = c.self.inside.way;
    } in
    let f : Fid = c.in-Some.f.now in
    let at : fid_at c.args.fid known.fids ≡ Some f = sym c.in-Some.ensures in
    let fids' : List (ℕ × Fid) = c.set_reading.new.self in
    let set : fids' ≡ with_fid c.args.fid (record f { reading = Some unread }) known.fids =
    subst (λ (o : Option Fid). IfSome o (λ (h : Fid).
    fids' ≡ with_fid c.args.fid (record h { reading = Some c.new.result }) known.fids)) at
    c.set_reading.ensures
    ∙ ap (λ (r : Reading). with_fid c.args.fid (record f { reading = Some r }) known.fids)
    c.new.ensures in
    let old = kept_fid known c.args.fid f c.self.invariant.1 at in (
      c.self.invariant.0,
      subst (λ (l : List (ℕ × Fid)). IsKeptView (record known { fids = l })) (sym set)
          (kept_with known c.args.fid (record f { reading = Some unread }) c.self.invariant.1
          (record { node = old.node; above = old.above; files = old.files })),
    )

pub overflow_sub-iounit : goal.overflow_sub-iounit
overflow_sub-iounit c =
    let known : ViewState = record {
      top = c.self.inside.top;
      msize = c.self.inside.msize;
      fids = c.self.inside.fids;
      kept = c.self.inside.kept;
      way = c.self.inside.way;
    } in
    let least = least_agreed known c.args.msize c.self.invariant.1
    (ap (λ (k : ViewState). k.msize) c.self.view_is ∙ c.requires.agreed) in
    omega arith

pub returns : goal.returns
returns c =
    let known : ViewState = record {
      top = c.self.inside.top;
      msize = c.self.inside.msize;
      fids = c.self.inside.fids;
      kept = c.self.inside.kept;
      way = c.self.inside.way;
    } in
    let f : Fid = c.in-Some.f.now in
    let at : fid_at c.args.fid known.fids ≡ Some f = sym c.in-Some.ensures in
    let fids' : List (ℕ × Fid) = c.set_reading.new.self in
    let set : fids' ≡ with_fid c.args.fid (record f { reading = Some unread }) known.fids =
    subst (λ (o : Option Fid). IfSome o (λ (h : Fid).
    fids' ≡ with_fid c.args.fid (record h { reading = Some c.new.result }) known.fids)) at
    c.set_reading.ensures
    ∙ ap (λ (r : Reading). with_fid c.args.fid (record f { reading = Some r }) known.fids)
    c.new.ensures in
    let agreed : known.msize ≡ Some c.args.msize =
    ap (λ (k : ViewState). k.msize) c.self.view_is ∙ c.requires.agreed in
    let path : f.node.qid < 2 ^ 64 =
    let e = ap (λ (q : Qid). q.path) c.qid_of-qid.ensures in omega arith in
    subst (λ (k : ViewState). SettlesSo c.args.tag k
    (record { top = c.self.inside.top; msize = c.self.inside.msize; fids = fids'; kept = c.self.inside.kept; way = c.self.inside.way })
    c.encode.new.buf (Ok c.encode.result) (of_fid k c.args.fid
    (λ f. settled (to_open k c.args.msize c.args.fid c.args.mode f)))) c.self.view_is
    (opened c.args.tag known c.encode.new.buf c.args.msize c.args.fid c.args.mode f fids'
    c.encode.result c.self.invariant.1 agreed (omega arith) path at
    (sym c.is_some.ensures ∙ c.if-is_some.false) (sym c.may_open.ensures ∙ c.if-not-may_open.false)
    set
    (subst (λ (q : Qid). take c.encode.result c.encode.new.buf
    ≡ spelled_reply c.args.tag (r_open q (iounit c.args.msize))) c.qid_of-qid.ensures
    c.encode.ensures.written)
    (subst (λ (q : Qid). c.encode.result
    ≡ length (spelled_reply c.args.tag (r_open q (iounit c.args.msize)))) c.qid_of-qid.ensures
    c.encode.ensures.len))
