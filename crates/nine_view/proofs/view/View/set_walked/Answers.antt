use Rattle.std.proofs.Common.{◌≡◌, ℕ, List, map, sym, ◌∙◌, ap, subst, arith}
use Rattle.std.proofs.lemmas.List.{length-map}
use Rattle.nine_wire.specs.Messages.{r_walk}
use Rattle.nine_wire.specs.Views.{wire_qid}
use Rattle.nine_view.specs.declared.fid.Fid.{Fid}
use Rattle.nine_view.specs.Answers.{unopened}
use Rattle.nine_view.specs.Handling.{Says}
use Rattle.nine_view.specs.Kept.{IsKeptView}
use Rattle.nine_view.specs.Known.{ViewState, limit, with_fid}
use Rattle.nine_view.proofs.Keeping.{kept_with}
use Rattle.nine_view.proofs.Limits.{least_limit}
use Rattle.nine_view.proofs.Sizes.{walk_len}
use Rattle.nine_view.proofs.view.View.set_walked.Goals as goal

pub encode-requires-clause-fits : goal.encode-requires-clause-fits
encode-requires-clause-fits c =
    let len = length-map c.args.qids.now wire_qid in
    let few = c.requires.few in
    (omega arith, c.requires.paths)

pub encode-requires-clause-room : goal.encode-requires-clause-room
encode-requires-clause-room c =
    let len = length-map c.args.qids.now wire_qid in
    let few = c.requires.few in
    let whole = walk_len c.args.tag (map wire_qid c.args.qids.now) in
    omega (arith, c.requires.room)

pub invariant_of-self-2 : goal.invariant_of-self-2
invariant_of-self-2 c =
    let known : ViewState = record {
      top = c.self.inside.top;
      msize = c.self.inside.msize;
      fids = c.self.inside.fids;
      kept = c.self.inside.kept;
      way = c.self.inside.way;
    } in
    let set : c.set.new.self ≡ with_fid c.args.fid (unopened c.args.at) known.fids =
    c.in_ok-set.ensures.ok ∙ ap (λ (x : Fid). with_fid c.args.fid x known.fids) c.unopened.ensures in
    let told = c.requires.told in (
      c.self.invariant.0,
      subst (λ (l : List (ℕ × Fid)). IsKeptView (record known { fids = l })) (sym set)
          (kept_with known c.args.fid (unopened c.args.at) c.self.invariant.1
          (record { node = told.node; above = told.above; files = tt })),
    )

pub returns-clause-says : goal.returns-clause-says
returns-clause-says c =
    let known : ViewState = record {
      top = c.self.inside.top;
      msize = c.self.inside.msize;
      fids = c.self.inside.fids;
      kept = c.self.inside.kept;
      way = c.self.inside.way;
    } in
    let least = least_limit known c.self.invariant.1 in
    let len = length-map c.args.qids.now wire_qid in
    let few = c.requires.few in
    let whole = walk_len c.args.tag (map wire_qid c.args.qids.now) in
    let written = c.encode.ensures.len in
    subst (λ (k : ViewState). Says c.args.tag (limit k) c.encode.new.buf c.encode.result
    (r_walk (map wire_qid c.args.qids.now))) c.self.view_is
    (record {
      fits = (omega arith, c.requires.paths);
      is = c.encode.ensures.written;
      len_is = c.encode.ensures.len;
      short = omega arith;
    })
