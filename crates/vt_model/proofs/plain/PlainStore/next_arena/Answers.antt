use Rattle.std.proofs.Common.{◌≡◌, ◌++◌, ◌∷◌, [], false, ◌∙◌, ap}
use Rattle.std.specs.Prelude.{max}
use Rattle.vt_model.specs.Places.{current_arena, lengths_in, takes}
use Rattle.vt_model.specs.Stored.{history_of}
use Rattle.vt_model.proofs.Room.{full_takes_none, other_takes_none, next_arena_none}
use Rattle.vt_model.proofs.plain.PlainStore.next_arena.Goals as goal
use Rattle.vt_model.proofs.plain.PlainStore.next_arena.Goals.{else-version_of-eq-WRITTEN_VERSION-via-then-version_of-eq-WRITTEN_VERSION+else-fits, else-version_of-eq-WRITTEN_VERSION-via-else-version_of-eq-WRITTEN_VERSION}

pub returns-in_err-next : goal.returns-in_err-next
returns-in_err-next g c =
    let layout = c.self.inside.layout in
    let history = history_of c.self.inside.blocks.items in
    let current : c.max-current.result ≡ current_arena layout history =
    c.max-current.ensures ∙ ap (λ a. max a c.last_arena.result) c.base.ensures
    ∙ ap (max layout.base) (rw c.deref.ensures.value at c.last_arena.ensures) in
    let a = current_arena layout history in
    let full : false ≡ takes layout a (lengths_in a history ++ c.args.len ∷ []) =
    elim c.else-version_of-eq-WRITTEN_VERSION.branch [
      | else-version_of-eq-WRITTEN_VERSION-via-then-version_of-eq-WRITTEN_VERSION+else-fits w ↦
          full_takes_none layout a (lengths_in a history ++ c.args.len ∷ [])
          (rw (← c.self.view_is, current) at w.if-fits.ensures)
      | else-version_of-eq-WRITTEN_VERSION-via-else-version_of-eq-WRITTEN_VERSION w ↦
          other_takes_none layout a (lengths_in a history ++ c.args.len ∷ [])
          (rw (c.version_of.ensures, current) at w.if-version_of-eq-WRITTEN_VERSION.false)
    ] in
    rw (c.from_residual.ensures, ← c.self.view_is)
    (next_arena_none layout history c.args.len full (rw current at c.in_err-next.ensures))
