use Rattle.std.proofs.Common.{◌≡◌, ℕ, Option, Some, None, Ok, Err, List, sym, ◌∙◌, ap, subst}
use Rattle.std.proofs.lemmas.Result.{err_from_is_err_and}
use Rattle.std.specs.Prelude.{IfSome}
use Rattle.vac_read.specs.declared.node.Node.{Node}
use Rattle.nine_view.specs.declared.fid.Fid.{Fid}
use Rattle.nine_view.specs.Handling.{KeepsFiles}
use Rattle.nine_view.specs.Kept.{IsKeptView}
use Rattle.nine_view.specs.Known.{ViewState, fid_at, with_fid}
use Rattle.nine_view.proofs.FolderHandled.{listed, with_files}
use Rattle.nine_view.proofs.Keeping.{kept_fid, kept_with, told_all}
use Rattle.nine_view.proofs.Listing.{files_kept, files_lacking, files_listed}
use Rattle.nine_view.proofs.view.View.list_files.Goals as goal

pub returns-in_default-clause-keeps : goal.returns-in_default-clause-keeps
returns-in_default-clause-keeps g c = λ f at.
    let no : None ≡ Some f =
    c.in_default.ensures ∙ ap (λ (k : ViewState). fid_at c.args.fid k.fids) c.self.view_is ∙ at in
    absurd (cc)

pub returns-then-is_some-clause-keeps : goal.returns-then-is_some-clause-keeps
returns-then-is_some-clause-keeps g c = λ f at.
    let here : Some c.in-Some.f.now ≡ Some f =
    c.in-Some.ensures ∙ ap (λ (k : ViewState). fid_at c.args.fid k.fids) c.self.view_is ∙ at in
    let same : c.in-Some.f.now ≡ f = cc in
    subst (λ (x : Fid). KeepsFiles g.B.Blocks.does g.B.Blocks.holds g.B.Scorer.score_of
    c.args.blocks.now c.args.blocks.now c.args.self.now c.args.self.now c.args.fid x (Ok tt) x.files)
    same
    (files_kept g.B.Blocks.does g.B.Blocks.holds g.B.Scorer.score_of c.args.blocks.now
    c.args.blocks.now c.args.self.now c.args.fid c.in-Some.f.now c.in-Some.f.now.files
    (sym c.is_some.ensures ∙ c.if-is_some.true))

pub returns-in_err-files-clause-keeps : goal.returns-in_err-files-clause-keeps
returns-in_err-files-clause-keeps g c = λ f at.
    let p = err_from_is_err_and c.from_residual.result c.from_residual.ensures.1 in
    let bad = c.in_err-files.field-0.0 in
    let here : Some c.in-Some.f.now ≡ Some f =
    c.in-Some.ensures ∙ ap (λ (k : ViewState). fid_at c.args.fid k.fids) c.self.view_is ∙ at in
    let same : c.in-Some.f.now ≡ f = cc in
    rw (p.1, p.2) (subst (λ (x : Fid). KeepsFiles g.B.Blocks.does g.B.Blocks.holds
    g.B.Scorer.score_of c.args.blocks.now c.list.new.blocks c.args.self.now c.args.self.now
    c.args.fid x (Err bad) x.files)
    same
    (files_lacking g.B.Blocks.does g.B.Blocks.holds g.B.Scorer.score_of c.args.blocks.now
    c.list.new.blocks c.args.self.now c.args.fid c.in-Some.f.now c.in-Some.f.now.files bad
    (sym c.is_some.ensures ∙ c.if-is_some.false) c.in_err-files.ensures.lists.reads))

pub list-requires : goal.list-requires
list-requires g c =
    let known : ViewState = record {
      top = c.self.inside.top;
      msize = c.self.inside.msize;
      fids = c.self.inside.fids;
      kept = c.self.inside.kept;
      way = c.self.inside.way;
    } in
    let f₀ : Fid = c.in-Some.f.now in
    let at₀ : fid_at c.args.fid known.fids ≡ Some f₀ = sym c.in-Some.ensures in
    (kept_fid known c.args.fid f₀ c.self.invariant.1 at₀).node.entries

pub invariant_of-self : goal.invariant_of-self
invariant_of-self g c =
    let known : ViewState = record {
      top = c.self.inside.top;
      msize = c.self.inside.msize;
      fids = c.self.inside.fids;
      kept = c.self.inside.kept;
      way = c.self.inside.way;
    } in
    let f₀ : Fid = c.in-Some.f.now in
    let at₀ : fid_at c.args.fid known.fids ≡ Some f₀ = sym c.in-Some.ensures in
    let files : List Node = c.in_ok-files.files in
    let fids : List (ℕ × Fid) = c.keep.new.self in
    let set : fids ≡ with_fid c.args.fid (with_files f₀ files) known.fids =
    subst (λ (o : Option Fid). IfSome o (λ (h : Fid).
    fids ≡ with_fid c.args.fid (with_files h files) known.fids)) at₀ c.keep.ensures in
    let old = kept_fid known c.args.fid f₀ c.self.invariant.1 at₀ in (
      c.self.invariant.0,
      subst (λ (l : List (ℕ × Fid)). IsKeptView (record known { fids = l })) (sym set)
          (kept_with known c.args.fid (with_files f₀ files) c.self.invariant.1
          (record {
            node = old.node;
            above = old.above;
            files = told_all files c.in_ok-files.ensures.entries c.in_ok-files.ensures.items;
          })),
    )

pub returns-clause-keeps : goal.returns-clause-keeps
returns-clause-keeps g c = λ f at.
    let known : ViewState = record {
      top = c.self.inside.top;
      msize = c.self.inside.msize;
      fids = c.self.inside.fids;
      kept = c.self.inside.kept;
      way = c.self.inside.way;
    } in
    let f₀ : Fid = c.in-Some.f.now in
    let at₀ : fid_at c.args.fid known.fids ≡ Some f₀ = sym c.in-Some.ensures in
    let files : List Node = c.in_ok-files.files in
    let fids : List (ℕ × Fid) = c.keep.new.self in
    let set : fids ≡ with_fid c.args.fid (with_files f₀ files) known.fids =
    subst (λ (o : Option Fid). IfSome o (λ (h : Fid).
    fids ≡ with_fid c.args.fid (with_files h files) known.fids)) at₀ c.keep.ensures in
    let here : Some f₀ ≡ Some f =
    c.in-Some.ensures ∙ ap (λ (k : ViewState). fid_at c.args.fid k.fids) c.self.view_is ∙ at in
    let same : f₀ ≡ f = cc in
    let new : ViewState =
    record { top = c.self.inside.top; msize = c.self.inside.msize; fids = fids; kept = c.self.inside.kept; way = c.self.inside.way } in
    subst (λ (x : Fid). KeepsFiles g.B.Blocks.does g.B.Blocks.holds g.B.Scorer.score_of
    c.args.blocks.now c.list.new.blocks c.args.self.now new c.args.fid x (Ok tt) x.files) same
    (files_listed g.B.Blocks.does g.B.Blocks.holds g.B.Scorer.score_of c.args.blocks.now
    c.list.new.blocks c.args.self.now c.args.fid f₀ f₀.files files new
    (sym c.is_some.ensures ∙ c.if-is_some.false) c.in_ok-files.ensures.lists.reads
    (ap (λ (l : List (ℕ × Fid)). record known { fids = l }) set
    ∙ ap (λ (k : ViewState). listed k c.args.fid f₀ files) c.self.view_is))
