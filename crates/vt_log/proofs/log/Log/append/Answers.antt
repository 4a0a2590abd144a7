-- The block goes where the model puts it.
use Rattle.std.proofs.Common.{◌≡◌, ◌<◌, ◌+◌, sym, ◌∙◌, subst, ap, refl, Some, None, Option, option_map}
use Rattle.vt_log.specs.declared.filling.Filling.{Filling}
use Rattle.vt_log.specs.Log.{LogState, queued, next_filling}
use Rattle.vt_log.proofs.Appends.{append_whole, append_at, next_arena_is}
use Rattle.vt_log.proofs.log.Log.append.Goals as goal

pub invariant_of-self : goal.invariant_of-self
invariant_of-self g c =
    let f = c.in-Some.filling in
    let next : next_filling c.args.self.now c.args.packed.len ≡ Some f = sym c.next_filling.ensures.next ∙ c.in-Some.is in
    rw (c.push.ensures, c.with-self-inside.ensures)
    (append_whole _ _ c.args.packed (record { arena = f.arena; offset = 24576 + f.used }) f c.self.invariant
    (subst (λ (l : LogState _). queued l < 64) (sym c.self.view_is) c.requires)
    (subst (λ (l : LogState _). next_filling l c.args.packed.len ≡ Some f) (sym c.self.view_is) next) refl)

pub returns-in_default-clause-appends : goal.returns-in_default-clause-appends
returns-in_default-clause-appends g c h well sound =
    next_arena_is _ _ c.args.self.now h sound c.args.packed.len
    ∙ ap (λ (o : Option Filling). option_map (λ (f : Filling). f.arena) o) (sym c.next_filling.ensures.next ∙ none c.next_filling.result c.in_default.not-Some)
  where
    none : (o : Option Filling) → ((f : Filling) → o ≡ Some f → ⊥) → o ≡ None
    none None h = refl
    none (Some f) h = absurd (h f refl)

pub returns-clause-appends : goal.returns-clause-appends
returns-clause-appends g c h well sound =
    let f = c.in-Some.filling in
    let next : next_filling c.args.self.now c.args.packed.len ≡ Some f = sym c.next_filling.ensures.next ∙ c.in-Some.is in
    let k = append_at _ _ _ c.args.self.now h c.args.packed (record { arena = f.arena; offset = 24576 + f.used }) f c.self.view_is well sound c.requires next refl in
    (k.0, k.1, rw (c.push.ensures, c.with-self-inside.ensures) k.2)
