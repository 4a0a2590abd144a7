use Rattle.std.proofs.Common.{◌≡◌, ◌==◌, ℕ, Some, None, List, sym, ap, subst, ◌∙◌}
use Rattle.std.specs.Prelude.{IfSome, position}
use Rattle.std.proofs.Math.ListN.{set}
use Rattle.nine_view.specs.declared.fid.Fid.{Fid}
use Rattle.nine_view.specs.Known.{fid_at, with_fid}
use Rattle.nine_view.proofs.Entries.{absent_so, changed_at}
use Rattle.nine_view.proofs.fids.Fids.set_reading.Goals as goal

pub returns-in-Some : goal.returns-in-Some
returns-in-Some c =
    let fids : List (ℕ × Fid) = c.self.inside.entries.items in
    let at : position (λ e. e.0 == c.args.fid) fids ≡ Some c.in-Some.at =
    ap (λ (l : List (ℕ × Fid)). position (λ e. e.0 == c.args.fid) l) (sym c.deref.ensures.value)
    ∙ sym c.place_of.ensures ∙ c.in-Some.is in
    let change : Fid → Fid = λ f. record f { reading = Some c.args.reading } in
    let e : ℕ × Fid = c.index_mut.result.now in
    let set_so : IfSome (fid_at c.args.fid c.args.self.now) (λ f.
    set fids c.in-Some.at (e.0, change e.1) ≡ with_fid c.args.fid (change f) c.args.self.now) =
    subst (λ (l : List (ℕ × Fid)). IfSome (fid_at c.args.fid l) (λ f.
    set fids c.in-Some.at (e.0, change e.1) ≡ with_fid c.args.fid (change f) l)) c.self.view_is
    (changed_at c.args.fid change fids c.in-Some.at e at c.index_mut.ensures.value) in
    set_so

pub returns-in_default : goal.returns-in_default
returns-in_default c =
    let none : position (λ e. e.0 == c.args.fid) c.args.self.now ≡ None =
    ap (λ (l : List (ℕ × Fid)). position (λ e. e.0 == c.args.fid) l)
    (sym c.self.view_is ∙ sym c.deref.ensures.value)
    ∙ sym c.place_of.ensures ∙ c.in_default.is in
    absent_so c.args.fid c.args.self.now (λ (f : Fid).
    c.args.self.now ≡ with_fid c.args.fid (record f { reading = Some c.args.reading }) c.args.self.now)
    none
