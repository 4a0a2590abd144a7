use Rattle.std.proofs.Common.{◌≡◌, ℕ, Result, Ok, Err, List, [], map, sym, ◌∙◌, subst}
use Rattle.std.specs.Prelude.{IfOk}
use Rattle.std.proofs.lemmas.Result.{err_from_is_err_and}
use Rattle.vt_tree.specs.Maps.{BlockMap}
use Rattle.vac_read.specs.declared.kept.KeptFolder.{KeptFolder}
use Rattle.nine_wire.specs.declared.stat.Qid as wire
use Rattle.nine_wire.specs.Messages.{Qid, r_walk}
use Rattle.nine_wire.specs.Views.{wire_qid}
use Rattle.nine_view.specs.declared.error.AnswerError.{AnswerError}
use Rattle.nine_view.specs.declared.error.AnswerError.TheVariants.{Failed}
use Rattle.nine_view.specs.declared.place.Place.{Place}
use Rattle.nine_view.specs.declared.request_error.RequestError.{RequestError}
use Rattle.nine_view.specs.declared.walking.Walked.{Walked}
use Rattle.nine_view.specs.Answers.{Answer, of_fid, to_names, to_walk}
use Rattle.nine_view.specs.Handling.{Handles, Says}
use Rattle.nine_view.specs.Known.{ViewState, IsRightView, IsWay, keeping, limit}
use Rattle.nine_view.specs.Walking.{EndsShort, MayWalk}
use Rattle.nine_view.specs.Walks.{Walks}
use Rattle.nine_view.proofs.Steps.{a_walk}
use Rattle.nine_view.proofs.WalkHandled.{ReadsWalk, no_names, some_names, walk_ends, walk_failed, walk_stops, walk_still, walk_unbegun}
use Rattle.nine_view.proofs.view.View.walk.Goals as goal

pub returns-in_err-from : goal.returns-in_err-from
returns-in_err-from g c =
    let p = err_from_is_err_and c.from_residual.result c.from_residual.ensures.1 in
    rw (p.1, p.2) (walk_unbegun g.B.Blocks.does g.B.Blocks.holds g.B.Scorer.score_of
    c.args.blocks.now c.args.tag c.args.self.now c.args.out.now c.args.newfid c.args.fid
    c.args.names.now c.in_err-from.field-0.0
    (subst (λ (n : ℕ). MayWalk c.args.self.now c.args.fid c.args.newfid n
    (Err c.in_err-from.field-0.0)) c.len.ensures c.in_err-from.ensures.may))

pub returns-then-is_empty : goal.returns-then-is_empty
returns-then-is_empty g c =
    let from : Place = c.in_ok-from.from in
    let words : List (List ℕ) = c.args.names.now in
    let begun = c.in_ok-from.ensures.may words (sym c.len.ensures) in
    let none : words ≡ [] = no_names words (sym c.is_empty.ensures ∙ c.if-is_empty.true) in
    subst (λ (a : Answer). Handles g.B.Blocks.does g.B.Blocks.holds g.B.Scorer.score_of
    c.args.blocks.now c.args.blocks.now c.args.tag c.args.self.now c.set_walked.new.self c.set_walked.new.out c.set_walked.result a) (sym begun)
    (subst (λ (l : List (List ℕ)). Handles g.B.Blocks.does g.B.Blocks.holds g.B.Scorer.score_of
    c.args.blocks.now c.args.blocks.now c.args.tag c.args.self.now c.set_walked.new.self
    c.set_walked.new.out c.set_walked.result (to_names c.args.newfid from l)) (sym none)
    (walk_still g.B.Blocks.does g.B.Blocks.holds g.B.Scorer.score_of c.args.blocks.now c.args.tag
    c.args.self.now c.set_walked.new.out c.args.newfid from c.set_walked.new.self
    c.set_walked.result c.in_ok-from.ensures.way c.set_walked.ensures.known
    c.set_walked.ensures.says c.set_walked.ensures.err c.set_walked.ensures.same))

pub returns-in_err-walked : goal.returns-in_err-walked
returns-in_err-walked g c =
    let p = err_from_is_err_and c.from_residual-in_err-walked.result
    c.from_residual-in_err-walked.ensures.1 in
    let bad = c.in_err-walked.field-0.0 in
    let from : Place = c.in_ok-from.from in
    let words : List (List ℕ) = c.args.names.now in
    let known : ViewState = record {
      top = c.self.inside.top;
      msize = c.self.inside.msize;
      fids = c.self.inside.fids;
      kept = c.self.inside.kept;
      way = c.self.inside.way;
    } in
    let new : ViewState = keeping c.walk_names.new.kept known in
    let some = some_names words (sym c.is_empty.ensures ∙ c.if-is_empty.false) in
    let reads = walk_failed {W = Walked} g.B.Blocks.does g.B.Blocks.holds g.B.Scorer.score_of
    c.args.blocks.now c.walk_names.new.blocks c.args.tag known c.walk_names.new.kept c.args.out.now
    c.args.newfid from words bad some c.in_err-walked.ensures.reads in
    rw (p.1, p.2)
    (subst (λ (k : ViewState).
    of_fid k c.args.fid (to_walk k c.args.fid c.args.newfid words) ≡ to_names c.args.newfid from words
    → Handles g.B.Blocks.does g.B.Blocks.holds g.B.Scorer.score_of c.args.blocks.now
    c.walk_names.new.blocks c.args.tag k new c.args.out.now (Err (Failed bad))
    (of_fid k c.args.fid (to_walk k c.args.fid c.args.newfid words))) c.self.view_is
    (λ begun. subst (λ (a : Answer). Handles g.B.Blocks.does g.B.Blocks.holds g.B.Scorer.score_of
    c.args.blocks.now c.walk_names.new.blocks c.args.tag known new c.args.out.now
    (Err (Failed bad)) a) (sym begun) reads)
    (c.in_ok-from.ensures.may words (sym c.len.ensures)))

pub returns-in-Ok : goal.returns-in-Ok
returns-in-Ok g c =
    let from : Place = c.in_ok-from.from in
    let words : List (List ℕ) = c.args.names.now in
    let known : ViewState = record {
      top = c.self.inside.top;
      msize = c.self.inside.msize;
      fids = c.self.inside.fids;
      kept = c.self.inside.kept;
      way = c.self.inside.way;
    } in
    let kept : List KeptFolder = c.walk_names.new.kept in
    let new : ViewState = c.set_walked-in-Ok.new.self in
    let out : List ℕ = c.set_walked-in-Ok.new.out in
    let result : Result ℕ AnswerError = c.set_walked-in-Ok.result in
    let some = some_names words (sym c.is_empty.ensures ∙ c.if-is_empty.false) in
    let w : Walked = c.in_ok-walked.walked in
    let qids : List Qid = map wire_qid w.qids.items in
    let reads : ReadsWalk g.B.Blocks.does g.B.Blocks.holds g.B.Scorer.score_of c.args.blocks.now
    c.walk_names.new.blocks known.kept kept from words (Ok w)
    (λ blocks. Walks blocks (Ok from) words (a_walk qids (Ok c.in-Ok.at))) =
    subst (λ (e : Result Place RequestError). ReadsWalk g.B.Blocks.does g.B.Blocks.holds
    g.B.Scorer.score_of c.args.blocks.now c.walk_names.new.blocks known.kept kept from words (Ok w)
    (λ blocks. Walks blocks (Ok from) words (a_walk qids e))) c.in-Ok.is
    c.in_ok-walked.ensures.reads in
    let says : IfOk result (λ len. Says c.args.tag (limit known) out len (r_walk qids)) =
    subst (λ (l : List wire.Qid). IfOk result (λ len. Says c.args.tag (limit known) out len
    (r_walk (map wire_qid l)))) c.deref.ensures.value c.set_walked-in-Ok.ensures.says in
    subst (λ (k : ViewState).
    of_fid k c.args.fid (to_walk k c.args.fid c.args.newfid words) ≡ to_names c.args.newfid from words
    → ((blocks : BlockMap) → IsRightView blocks k → IsWay blocks k.top from.node from.above)
    → Handles g.B.Blocks.does g.B.Blocks.holds g.B.Scorer.score_of c.args.blocks.now
    c.walk_names.new.blocks c.args.tag k new out result
    (of_fid k c.args.fid (to_walk k c.args.fid c.args.newfid words))) c.self.view_is
    (λ begun way. subst (λ (a : Answer). Handles g.B.Blocks.does g.B.Blocks.holds g.B.Scorer.score_of
    c.args.blocks.now c.walk_names.new.blocks c.args.tag known new out result a) (sym begun)
    (walk_ends g.B.Blocks.does g.B.Blocks.holds g.B.Scorer.score_of c.args.blocks.now
    c.walk_names.new.blocks c.args.tag known kept out c.args.newfid from words w qids c.in-Ok.at new
    result some way reads c.set_walked-in-Ok.ensures.known says c.set_walked-in-Ok.ensures.err
    c.set_walked-in-Ok.ensures.same))
    (c.in_ok-from.ensures.may words (sym c.len.ensures)) c.in_ok-from.ensures.way

pub returns : goal.returns
returns g c =
    let from : Place = c.in_ok-from.from in
    let words : List (List ℕ) = c.args.names.now in
    let known : ViewState = record {
      top = c.self.inside.top;
      msize = c.self.inside.msize;
      fids = c.self.inside.fids;
      kept = c.self.inside.kept;
      way = c.self.inside.way;
    } in
    let kept : List KeptFolder = c.walk_names.new.kept in
    let out : List ℕ = c.tell_short.new.out in
    let some = some_names words (sym c.is_empty.ensures ∙ c.if-is_empty.false) in
    let w : Walked = c.in_ok-walked.walked in
    let qids : List Qid = map wire_qid w.qids.items in
    let reads : ReadsWalk g.B.Blocks.does g.B.Blocks.holds g.B.Scorer.score_of c.args.blocks.now
    c.walk_names.new.blocks known.kept kept from words (Ok w)
    (λ blocks. Walks blocks (Ok from) words (a_walk qids (Err c.in-Err.why))) =
    subst (λ (e : Result Place RequestError). ReadsWalk g.B.Blocks.does g.B.Blocks.holds
    g.B.Scorer.score_of c.args.blocks.now c.walk_names.new.blocks known.kept kept from words (Ok w)
    (λ blocks. Walks blocks (Ok from) words (a_walk qids e))) c.in-Err.is
    c.in_ok-walked.ensures.reads in
    let ends : EndsShort c.args.tag (limit known) out c.tell_short.result qids c.in-Err.why =
    subst (λ (l : List wire.Qid). EndsShort c.args.tag (limit known) out c.tell_short.result
    (map wire_qid l) c.in-Err.why) c.deref-in-Err.ensures.value c.tell_short.ensures in
    subst (λ (k : ViewState).
    of_fid k c.args.fid (to_walk k c.args.fid c.args.newfid words) ≡ to_names c.args.newfid from words
    → Handles g.B.Blocks.does g.B.Blocks.holds g.B.Scorer.score_of c.args.blocks.now
    c.walk_names.new.blocks c.args.tag k (keeping kept known) out c.tell_short.result
    (of_fid k c.args.fid (to_walk k c.args.fid c.args.newfid words))) c.self.view_is
    (λ begun. subst (λ (a : Answer). Handles g.B.Blocks.does g.B.Blocks.holds g.B.Scorer.score_of
    c.args.blocks.now c.walk_names.new.blocks c.args.tag known (keeping kept known) out
    c.tell_short.result a) (sym begun)
    (walk_stops g.B.Blocks.does g.B.Blocks.holds g.B.Scorer.score_of
    c.args.blocks.now c.walk_names.new.blocks c.args.tag known kept out
    c.args.newfid from words w qids c.in-Err.why c.tell_short.result some
    ends reads))
    (c.in_ok-from.ensures.may words (sym c.len.ensures))
