use Rattle.std.proofs.Common.{Ok, map, refl, sym, ◌∙◌, subst, arith}
use Rattle.std.proofs.lemmas.List.{length-map}
use Rattle.nine_wire.specs.Views.{wire_qid}
use Rattle.nine_view.specs.Known.{ViewState, limit}
use Rattle.nine_view.specs.Walking.{EndsShort}
use Rattle.nine_view.proofs.Limits.{least_limit}
use Rattle.nine_view.proofs.Sizes.{walk_len}
use Rattle.nine_view.proofs.WalkNames.{no_qids, some_qids}
use Rattle.nine_view.proofs.view.View.tell_short.Goals as goal

pub returns-then-is_empty : goal.returns-then-is_empty
returns-then-is_empty c =
    rw c.into.ensures (
      no_qids c.args.qids.now (sym c.is_empty.ensures ∙ c.if-is_empty.true),
      refl,
    )

pub encode-requires-clause-fits : goal.encode-requires-clause-fits
encode-requires-clause-fits c =
    let len = length-map c.args.qids.now wire_qid in
    let few = c.requires.few in
    (omega arith, c.requires.paths)

pub encode-requires-clause-room : goal.encode-requires-clause-room
encode-requires-clause-room c =
    let len = length-map c.args.qids.now wire_qid in
    let few = c.requires.few in
    let whole = walk_len c.args.tag (map wire_qid c.args.qids.now) in
    omega (arith, c.requires.room)

pub returns : goal.returns
returns c =
    let known : ViewState = record {
      top = c.self.inside.top;
      msize = c.self.inside.msize;
      fids = c.self.inside.fids;
      kept = c.self.inside.kept;
      way = c.self.inside.way;
    } in
    let least = least_limit known c.self.invariant.1 in
    let len = length-map c.args.qids.now wire_qid in
    let few = c.requires.few in
    let whole = walk_len c.args.tag (map wire_qid c.args.qids.now) in
    let written = c.encode.ensures.len in
    subst (λ (k : ViewState). EndsShort c.args.tag (limit k) c.encode.new.buf (Ok c.encode.result)
    (map wire_qid c.args.qids.now) c.args.why) c.self.view_is (
      some_qids c.args.qids.now (sym c.is_empty.ensures ∙ c.if-is_empty.false),
      record {
        fits = (omega arith, c.requires.paths);
        is = c.encode.ensures.written;
        len_is = c.encode.ensures.len;
        short = omega arith;
      },
    )
