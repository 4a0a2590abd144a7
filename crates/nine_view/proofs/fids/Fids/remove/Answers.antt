use Rattle.std.proofs.Common.{◌≡◌, ◌==◌, ℕ, Some, None, List, sym, ap, ◌∙◌}
use Rattle.std.specs.Prelude.{position}
use Rattle.nine_view.specs.declared.fid.Fid.{Fid}
use Rattle.nine_view.specs.Known.{without_fid}
use Rattle.nine_view.proofs.Entries.{kept_all, removed_at}
use Rattle.nine_view.proofs.fids.Fids.remove.Goals as goal
use Rattle.nine_view.proofs.fids.Fids.remove.Goals.{in-Some-1, in-None-1}

pub returns-in-Some : goal.returns-in-Some
returns-in-Some c =
    let fids : List (ℕ × Fid) = c.self.inside.entries.items in
    let at : position (λ e. e.0 == c.args.fid) fids ≡ Some c.in-Some.at =
    ap (λ (l : List (ℕ × Fid)). position (λ e. e.0 == c.args.fid) l) (sym c.deref.ensures.value)
    ∙ sym c.place_of.ensures ∙ c.in-Some.is in
    let gone : c.remove.new.self.items ≡ without_fid c.args.fid c.args.self.now =
    c.remove.ensures.items ∙ sym (removed_at c.args.fid fids c.in-Some.at at)
    ∙ ap (λ (l : List (ℕ × Fid)). without_fid c.args.fid l) c.self.view_is in
    elim c.match-remove.branch [
      | in-Some-1 w ↦ w.self-is ∙ gone
      | in-None-1 w ↦ w.self-is ∙ gone
    ]

pub returns-in_default : goal.returns-in_default
returns-in_default c =
    let none : position (λ e. e.0 == c.args.fid) c.args.self.now ≡ None =
    ap (λ (l : List (ℕ × Fid)). position (λ e. e.0 == c.args.fid) l)
    (sym c.self.view_is ∙ sym c.deref.ensures.value)
    ∙ sym c.place_of.ensures ∙ c.in_default.is in
    sym (kept_all c.args.fid c.args.self.now none)
