use Rattle.std.proofs.Common.{◌≡◌, ◌<◌, ◌^◌, ℕ, Ok, Err, List, length, take, sym, ◌∙◌, ap, subst, arith}
use Rattle.std.proofs.lemmas.Result.{err_from_is_err_and}
use Rattle.vac_read.specs.declared.error.VacBad.TheVariants.{NoMemory}
use Rattle.vac_read.specs.declared.node.Node.{Node}
use Rattle.nine_wire.specs.Frames.{spelled_reply}
use Rattle.nine_wire.specs.Messages.{Qid, r_attach}
use Rattle.nine_view.specs.declared.error.AnswerError.TheVariants.{Failed}
use Rattle.nine_view.specs.declared.fid.Fid.{Fid}
use Rattle.nine_view.specs.Answers.{to_attach, unopened}
use Rattle.nine_view.specs.Handling.{SetsFid}
use Rattle.nine_view.specs.Kept.{IsKeptView}
use Rattle.nine_view.specs.Known.{ViewState, with_fid}
use Rattle.nine_view.proofs.Attaching.{at_top, attach_set, attach_unset}
use Rattle.nine_view.proofs.Keeping.{kept_with}
use Rattle.nine_view.proofs.view.View.attach.Goals as goal

pub returns-in_err-copied : goal.returns-in_err-copied
returns-in_err-copied c =
    let p = err_from_is_err_and c.from_residual.result c.from_residual.ensures.1 in
    let known : ViewState = record {
      top = c.self.inside.top;
      msize = c.self.inside.msize;
      fids = c.self.inside.fids;
      kept = c.self.inside.kept;
      way = c.self.inside.way;
    } in
    let new = sym c.contains.ensures ∙ c.if-contains.false in
    let few : length known.fids < 1024 =
    let l = c.len.ensures in let b = c.if-len-ge-MAX_FIDS.false in omega arith in
    rw (p.1, p.2) (subst (λ (k : ViewState). SetsFid c.args.tag k k c.args.out.now
    (Err (Failed NoMemory)) (to_attach k c.args.fid c.args.afid)) c.self.view_is
    (attach_unset c.args.tag known c.args.out.now c.args.fid c.args.afid
    c.if-afid-ne-NO_FID.false c.if-fid-eq-NO_FID.false new few))

pub returns-in_err-set : goal.returns-in_err-set
returns-in_err-set c =
    let p = err_from_is_err_and c.from_residual-in_err-set.result
    c.from_residual-in_err-set.ensures.1 in
    let known : ViewState = record {
      top = c.self.inside.top;
      msize = c.self.inside.msize;
      fids = c.self.inside.fids;
      kept = c.self.inside.kept;
      way = c.self.inside.way;
    } in
    let new = sym c.contains.ensures ∙ c.if-contains.false in
    let few : length known.fids < 1024 =
    let l = c.len.ensures in let b = c.if-len-ge-MAX_FIDS.false in omega arith in
    rw (p.1, p.2) (subst (λ (k : ViewState). SetsFid c.args.tag k
    (record known { fids = c.set.new.self }) c.args.out.now (Err (Failed NoMemory))
    (to_attach k c.args.fid c.args.afid)) c.self.view_is
    (subst (λ (l : List (ℕ × Fid)). SetsFid c.args.tag known (record known { fids = l })
    c.args.out.now (Err (Failed NoMemory)) (to_attach known c.args.fid c.args.afid))
    (sym c.in_err-set.ensures.err)
    (attach_unset c.args.tag known c.args.out.now c.args.fid c.args.afid
    c.if-afid-ne-NO_FID.false c.if-fid-eq-NO_FID.false new few)))

pub invariant_of-self-2 : goal.invariant_of-self-2
invariant_of-self-2 c =
    let known : ViewState = record {
      top = c.self.inside.top;
      msize = c.self.inside.msize;
      fids = c.self.inside.fids;
      kept = c.self.inside.kept;
      way = c.self.inside.way;
    } in
    let set : c.set.new.self ≡ with_fid c.args.fid (at_top known) known.fids =
    c.in_ok-set.ensures.ok ∙ ap (λ (x : Fid). with_fid c.args.fid x known.fids)
    (c.unopened.ensures
    ∙ ap (λ (n : Node). unopened (record { node = n; above = c.new.result })) c.in_ok-copied.ensures
    ∙ ap (λ (a : List Node). unopened (record { node = known.top; above = a })) c.new.ensures) in
    let kept = c.self.invariant.1 in (
      c.self.invariant.0,
      subst (λ (l : List (ℕ × Fid)). IsKeptView (record known { fids = l })) (sym set)
          (kept_with known c.args.fid (at_top known) kept
          (record { node = kept.top; above = tt; files = tt })),
    )

pub returns : goal.returns
returns c =
    let known : ViewState = record {
      top = c.self.inside.top;
      msize = c.self.inside.msize;
      fids = c.self.inside.fids;
      kept = c.self.inside.kept;
      way = c.self.inside.way;
    } in
    let new = sym c.contains.ensures ∙ c.if-contains.false in
    let few : length known.fids < 1024 =
    let l = c.len.ensures in let b = c.if-len-ge-MAX_FIDS.false in omega arith in
    let set : c.set.new.self ≡ with_fid c.args.fid (at_top known) known.fids =
    c.in_ok-set.ensures.ok ∙ ap (λ (x : Fid). with_fid c.args.fid x known.fids)
    (c.unopened.ensures
    ∙ ap (λ (n : Node). unopened (record { node = n; above = c.new.result })) c.in_ok-copied.ensures
    ∙ ap (λ (a : List Node). unopened (record { node = known.top; above = a })) c.new.ensures) in
    let qid : known.top.qid < 2 ^ 64 =
    let e = ap (λ (q : Qid). q.path) c.qid_of.ensures in omega arith in
    subst (λ (k : ViewState). SetsFid c.args.tag k (record known { fids = c.set.new.self })
    c.encode.new.buf (Ok c.encode.result) (to_attach k c.args.fid c.args.afid)) c.self.view_is
    (attach_set c.args.tag known c.encode.new.buf c.args.fid c.args.afid
    c.if-afid-ne-NO_FID.false c.if-fid-eq-NO_FID.false c.set.new.self c.encode.result new few
    c.self.invariant.1 qid set
    (subst (λ (q : Qid). take c.encode.result c.encode.new.buf
    ≡ spelled_reply c.args.tag (r_attach q)) c.qid_of.ensures c.encode.ensures.written)
    (subst (λ (q : Qid). c.encode.result ≡ length (spelled_reply c.args.tag (r_attach q)))
    c.qid_of.ensures c.encode.ensures.len))
