use Rattle.std.proofs.Common.{◌≡◌, ◌==◌, ℕ, Some, None, List, [], ◌∷◌, ◌++◌, sym, ap, ◌∙◌}
use Rattle.std.specs.Prelude.{position}
use Rattle.nine_view.specs.declared.fid.Fid.{Fid}
use Rattle.nine_view.specs.Known.{with_fid}
use Rattle.nine_view.proofs.Entries.{appended, set_at}
use Rattle.nine_view.proofs.fids.Fids.set.Goals as goal
use Rattle.nine_view.proofs.fids.Fids.set.Goals.{in-Some-1, in-None-1}

pub returns-in-Some-clause-ok : goal.returns-in-Some-clause-ok
returns-in-Some-clause-ok c =
    let fids : List (ℕ × Fid) = c.self.inside.entries.items in
    let at : position (λ e. e.0 == c.args.fid) fids ≡ Some c.in-Some.at =
    ap (λ (l : List (ℕ × Fid)). position (λ e. e.0 == c.args.fid) l) (sym c.deref.ensures.value)
    ∙ sym c.place_of.ensures ∙ c.in-Some.is in
    let there = sym (set_at c.args.fid c.args.f fids c.in-Some.at at)
    ∙ ap (λ (l : List (ℕ × Fid)). with_fid c.args.fid c.args.f l) c.self.view_is in
    elim c.match-index_mut.branch [
      | in-Some-1 w ↦ w.self-is ∙ there
      | in-None-1 w ↦ w.self-is ∙ there
    ]

pub returns-in_ok-push-in-None-clause-ok : goal.returns-in_ok-push-in-None-clause-ok
returns-in_ok-push-in-None-clause-ok c =
    let none : position (λ e. e.0 == c.args.fid) c.args.self.now ≡ None =
    ap (λ (l : List (ℕ × Fid)). position (λ e. e.0 == c.args.fid) l)
    (sym c.self.view_is ∙ sym c.deref.ensures.value)
    ∙ sym c.place_of.ensures ∙ c.in-None.is in
    c.in_ok-push-in-None.ensures.items
    ∙ ap (λ (l : List (ℕ × Fid)). l ++ (c.args.fid, c.args.f) ∷ []) c.self.view_is
    ∙ sym (appended c.args.fid c.args.f c.args.self.now none)
