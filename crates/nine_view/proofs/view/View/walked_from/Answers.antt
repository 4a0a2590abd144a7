use Rattle.std.proofs.Common.{◌≡◌, ◌≤◌, Some, None, Err, List, sym, ◌∙◌, subst, inr, arith}
use Rattle.std.specs.List.{AllByRecursion}
use Rattle.std.proofs.lemmas.Result.{err_from_is_err_and}
use Rattle.vt_tree.specs.Maps.{BlockMap}
use Rattle.vac_read.specs.declared.error.VacBad.TheVariants.{NoMemory}
use Rattle.vac_read.specs.declared.node.Node.{Node}
use Rattle.nine_view.specs.declared.error.AnswerError.TheVariants.{Refused, Failed}
use Rattle.nine_view.specs.declared.fid.Fid.{Fid}
use Rattle.nine_view.specs.declared.place.Place.{Place}
use Rattle.nine_view.specs.declared.request_error.RequestError.TheVariants.{BadFid, FidInUse, FidIsOpen, TooManyFids, TooManyNames, UnknownFid}
use Rattle.nine_view.specs.Files.{FitsMessage}
use Rattle.nine_view.specs.Known.{ViewState, IsRightView, IsWay, fid_at}
use Rattle.nine_view.specs.Walking.{MayWalk}
use Rattle.nine_view.proofs.Beginning.{may_bad, may_full, may_lack, may_many, may_open, may_unknown, may_used, walks_itself}
use Rattle.nine_view.proofs.Keeping.{kept_fid, right_fid}
use Rattle.nine_view.proofs.view.View.walked_from.Goals as goal

pub returns-in_default-clause-may : goal.returns-in_default-clause-may
returns-in_default-clause-may c =
    let known : ViewState = record {
      top = c.self.inside.top;
      msize = c.self.inside.msize;
      fids = c.self.inside.fids;
      kept = c.self.inside.kept;
      way = c.self.inside.way;
    } in
    let none : fid_at c.args.fid known.fids ≡ None = sym c.in_default.ensures in
    rw c.into.ensures (subst (λ (k : ViewState). MayWalk k c.args.fid c.args.newfid c.args.names (Err (Refused UnknownFid)))
    c.self.view_is (may_unknown known c.args.fid c.args.newfid c.args.names none))

pub returns-then-names-gt-MAX_NAMES-clause-may : goal.returns-then-names-gt-MAX_NAMES-clause-may
returns-then-names-gt-MAX_NAMES-clause-may c =
    let known : ViewState = record {
      top = c.self.inside.top;
      msize = c.self.inside.msize;
      fids = c.self.inside.fids;
      kept = c.self.inside.kept;
      way = c.self.inside.way;
    } in
    let at : fid_at c.args.fid known.fids ≡ Some c.in-Some.f.now = sym c.in-Some.ensures in
    rw c.into-then-names-gt-MAX_NAMES.ensures (subst (λ (k : ViewState). MayWalk k c.args.fid c.args.newfid c.args.names (Err (Refused TooManyNames)))
    c.self.view_is (may_many known c.args.fid c.args.newfid c.args.names c.in-Some.f.now at c.if-names-gt-MAX_NAMES.true))

pub returns-then-is_some-clause-may : goal.returns-then-is_some-clause-may
returns-then-is_some-clause-may c =
    let known : ViewState = record {
      top = c.self.inside.top;
      msize = c.self.inside.msize;
      fids = c.self.inside.fids;
      kept = c.self.inside.kept;
      way = c.self.inside.way;
    } in
    let at : fid_at c.args.fid known.fids ≡ Some c.in-Some.f.now = sym c.in-Some.ensures in
    let few : c.args.names ≤ 16 = c.if-names-gt-MAX_NAMES.false in
    rw c.into-then-is_some.ensures (subst (λ (k : ViewState). MayWalk k c.args.fid c.args.newfid c.args.names (Err (Refused FidIsOpen)))
    c.self.view_is (may_open known c.args.fid c.args.newfid c.args.names c.in-Some.f.now at few (sym c.is_some.ensures ∙ c.if-is_some.true)))

pub returns-then-newfid-eq-NO_FID-clause-may : goal.returns-then-newfid-eq-NO_FID-clause-may
returns-then-newfid-eq-NO_FID-clause-may c =
    let known : ViewState = record {
      top = c.self.inside.top;
      msize = c.self.inside.msize;
      fids = c.self.inside.fids;
      kept = c.self.inside.kept;
      way = c.self.inside.way;
    } in
    let at : fid_at c.args.fid known.fids ≡ Some c.in-Some.f.now = sym c.in-Some.ensures in
    let few : c.args.names ≤ 16 = c.if-names-gt-MAX_NAMES.false in
    let closed = sym c.is_some.ensures ∙ c.if-is_some.false in
    rw c.into-then-newfid-eq-NO_FID.ensures (subst (λ (k : ViewState). MayWalk k c.args.fid c.args.newfid c.args.names (Err (Refused BadFid)))
    c.self.view_is (may_bad known c.args.fid c.args.newfid c.args.names c.in-Some.f.now at few closed c.if-newfid-eq-NO_FID.true))

pub returns-then-contains-clause-may : goal.returns-then-contains-clause-may
returns-then-contains-clause-may c =
    let known : ViewState = record {
      top = c.self.inside.top;
      msize = c.self.inside.msize;
      fids = c.self.inside.fids;
      kept = c.self.inside.kept;
      way = c.self.inside.way;
    } in
    let at : fid_at c.args.fid known.fids ≡ Some c.in-Some.f.now = sym c.in-Some.ensures in
    let few : c.args.names ≤ 16 = c.if-names-gt-MAX_NAMES.false in
    let closed = sym c.is_some.ensures ∙ c.if-is_some.false in
    let good = c.if-newfid-eq-NO_FID.false in
    rw c.into-then-contains.ensures (subst (λ (k : ViewState). MayWalk k c.args.fid c.args.newfid c.args.names (Err (Refused FidInUse)))
    c.self.view_is (may_used known c.args.fid c.args.newfid c.args.names c.in-Some.f.now at few closed good
    c.if-newfid-fid.false (sym c.contains.ensures ∙ c.if-contains.true)))

pub returns-then-len-ge-MAX_FIDS-clause-may : goal.returns-then-len-ge-MAX_FIDS-clause-may
returns-then-len-ge-MAX_FIDS-clause-may c =
    let known : ViewState = record {
      top = c.self.inside.top;
      msize = c.self.inside.msize;
      fids = c.self.inside.fids;
      kept = c.self.inside.kept;
      way = c.self.inside.way;
    } in
    let at : fid_at c.args.fid known.fids ≡ Some c.in-Some.f.now = sym c.in-Some.ensures in
    let few : c.args.names ≤ 16 = c.if-names-gt-MAX_NAMES.false in
    let closed = sym c.is_some.ensures ∙ c.if-is_some.false in
    let good = c.if-newfid-eq-NO_FID.false in
    rw c.into-then-len-ge-MAX_FIDS.ensures (subst (λ (k : ViewState). MayWalk k c.args.fid c.args.newfid c.args.names (Err (Refused TooManyFids)))
    c.self.view_is (may_full known c.args.fid c.args.newfid c.args.names c.in-Some.f.now at few closed good
    (sym c.contains.ensures ∙ c.if-contains.false)
    (let l = c.len.ensures in let b = c.if-len-ge-MAX_FIDS.true in omega arith)))

pub returns-in_err-place-clause-may : goal.returns-in_err-place-clause-may
returns-in_err-place-clause-may c =
    let p = err_from_is_err_and c.from_residual.result c.from_residual.ensures.1 in
    let known : ViewState = record {
      top = c.self.inside.top;
      msize = c.self.inside.msize;
      fids = c.self.inside.fids;
      kept = c.self.inside.kept;
      way = c.self.inside.way;
    } in
    let f : Fid = c.in-Some.f.now in
    let at : fid_at c.args.fid known.fids ≡ Some f = sym c.in-Some.ensures in
    let few : c.args.names ≤ 16 = c.if-names-gt-MAX_NAMES.false in
    let closed = sym c.is_some.ensures ∙ c.if-is_some.false in
    let good = c.if-newfid-eq-NO_FID.false in
    rw (p.1, p.2) (subst (λ (k : ViewState). MayWalk k c.args.fid c.args.newfid c.args.names (Err (Failed NoMemory))) c.self.view_is
    (may_lack known c.args.fid c.args.newfid c.args.names f at few closed good
    (walks_itself known c.args.fid c.args.newfid c.args.names f at c.if-newfid-fid.true)))

pub returns-in_err-place-2-clause-may : goal.returns-in_err-place-2-clause-may
returns-in_err-place-2-clause-may c =
    let p = err_from_is_err_and c.from_residual-in_err-place-2.result c.from_residual-in_err-place-2.ensures.1 in
    let known : ViewState = record {
      top = c.self.inside.top;
      msize = c.self.inside.msize;
      fids = c.self.inside.fids;
      kept = c.self.inside.kept;
      way = c.self.inside.way;
    } in
    let f : Fid = c.in-Some.f.now in
    let at : fid_at c.args.fid known.fids ≡ Some f = sym c.in-Some.ensures in
    let few : c.args.names ≤ 16 = c.if-names-gt-MAX_NAMES.false in
    let closed = sym c.is_some.ensures ∙ c.if-is_some.false in
    let good = c.if-newfid-eq-NO_FID.false in
    rw (p.1, p.2) (subst (λ (k : ViewState). MayWalk k c.args.fid c.args.newfid c.args.names (Err (Failed NoMemory))) c.self.view_is
    (may_lack known c.args.fid c.args.newfid c.args.names f at few closed good
    (inr (
      sym c.contains.ensures ∙ c.if-contains.false,
      let l = c.len.ensures in let b = c.if-len-ge-MAX_FIDS.false in omega arith,
    ))))

pub returns-then-newfid-fid-clause-told : goal.returns-then-newfid-fid-clause-told
returns-then-newfid-fid-clause-told c =
    let known : ViewState = record {
      top = c.self.inside.top;
      msize = c.self.inside.msize;
      fids = c.self.inside.fids;
      kept = c.self.inside.kept;
      way = c.self.inside.way;
    } in
    let f : Fid = c.in-Some.f.now in
    let at : fid_at c.args.fid known.fids ≡ Some f = sym c.in-Some.ensures in
    let kept = kept_fid known c.args.fid f c.self.invariant.1 at in
    record {
      node = subst (λ (n : Node). FitsMessage n) (sym c.in_ok-place.ensures.0) kept.node;
      above = subst (λ (l : List Node). AllByRecursion FitsMessage l) (sym c.in_ok-place.ensures.1) kept.above;
    }

pub returns-then-newfid-fid-clause-way : goal.returns-then-newfid-fid-clause-way
returns-then-newfid-fid-clause-way c =
    let known : ViewState = record {
      top = c.self.inside.top;
      msize = c.self.inside.msize;
      fids = c.self.inside.fids;
      kept = c.self.inside.kept;
      way = c.self.inside.way;
    } in
    let f : Fid = c.in-Some.f.now in
    let at : fid_at c.args.fid known.fids ≡ Some f = sym c.in-Some.ensures in
    let place : Place = c.in_ok-place.field-0 in
    subst (λ (k : ViewState). (map : BlockMap) → IsRightView map k → IsWay map k.top place.node place.above)
    c.self.view_is
    (λ map right.
    subst (λ (n : Node). IsWay map known.top n place.above) (sym c.in_ok-place.ensures.0)
    (subst (λ (l : List Node). IsWay map known.top f.node l) (sym c.in_ok-place.ensures.1)
    (right_fid map known c.args.fid f right at).way))

pub returns-clause-told : goal.returns-clause-told
returns-clause-told c =
    let known : ViewState = record {
      top = c.self.inside.top;
      msize = c.self.inside.msize;
      fids = c.self.inside.fids;
      kept = c.self.inside.kept;
      way = c.self.inside.way;
    } in
    let f : Fid = c.in-Some.f.now in
    let at : fid_at c.args.fid known.fids ≡ Some f = sym c.in-Some.ensures in
    let kept = kept_fid known c.args.fid f c.self.invariant.1 at in
    record {
      node = subst (λ (n : Node). FitsMessage n) (sym c.in_ok-place-2.ensures.0) kept.node;
      above = subst (λ (l : List Node). AllByRecursion FitsMessage l) (sym c.in_ok-place-2.ensures.1) kept.above;
    }

pub returns-clause-way : goal.returns-clause-way
returns-clause-way c =
    let known : ViewState = record {
      top = c.self.inside.top;
      msize = c.self.inside.msize;
      fids = c.self.inside.fids;
      kept = c.self.inside.kept;
      way = c.self.inside.way;
    } in
    let f : Fid = c.in-Some.f.now in
    let at : fid_at c.args.fid known.fids ≡ Some f = sym c.in-Some.ensures in
    let place : Place = c.in_ok-place-2.field-0 in
    subst (λ (k : ViewState). (map : BlockMap) → IsRightView map k → IsWay map k.top place.node place.above)
    c.self.view_is
    (λ map right.
    subst (λ (n : Node). IsWay map known.top n place.above) (sym c.in_ok-place-2.ensures.0)
    (subst (λ (l : List Node). IsWay map known.top f.node l) (sym c.in_ok-place-2.ensures.1)
    (right_fid map known c.args.fid f right at).way))
