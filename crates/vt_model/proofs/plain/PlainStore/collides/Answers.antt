use Rattle.std.proofs.Common.{sym, ◌∙◌, ap}
use Rattle.std.specs.Str.{bytes_eq}
use Rattle.vt_model.proofs.Blocks.{collides_from_any}
use Rattle.vt_model.proofs.plain.PlainStore.collides.Goals as goal

pub returns-else-eq : goal.returns-else-eq
returns-else-eq g c =
    let nonzero = sym (c.if-eq.ensures ∙ ap (bytes_eq c.args.score.now.0) c.score.ensures) in
    rw (← c.self.view_is)
    ((rw c.deref.ensures.value at c.has_other_bytes.ensures)
    ∙ collides_from_any g.S.Scorer.score_of c.self.inside.blocks.items c.self.invariant c.args.score.now.0 c.args.bytes.now c.requires nonzero)
