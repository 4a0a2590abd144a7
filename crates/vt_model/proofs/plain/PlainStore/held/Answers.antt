use Rattle.std.proofs.Common.{Some, None, sym, ◌∙◌, ap}
use Rattle.std.specs.Str.{bytes_eq}
use Rattle.vt_model.proofs.Blocks.{held_from_find}
use Rattle.vt_model.proofs.plain.PlainStore.held.Goals as goal

pub returns-in_err-block : goal.returns-in_err-block
returns-in_err-block g c =
    let nonzero = sym (c.if-eq.ensures ∙ ap (bytes_eq c.args.key.now.score.0) c.score.ensures) in
    rw (c.from_residual.ensures, ← c.self.view_is)
    (held_from_find g.S.Scorer.score_of c.self.inside.blocks.items c.self.invariant c.args.key.now.score.0 c.args.key.now.kind None nonzero
    (rw c.deref.ensures.value at c.in_err-block.ensures))

pub returns : goal.returns
returns g c =
    let nonzero = sym (c.if-eq.ensures ∙ ap (bytes_eq c.args.key.now.score.0) c.score.ensures) in
    rw (c.as_slice.ensures, ← c.self.view_is)
    (held_from_find g.S.Scorer.score_of c.self.inside.blocks.items c.self.invariant c.args.key.now.score.0 c.args.key.now.kind (Some c.in_ok-block.block.now) nonzero
    (rw c.deref.ensures.value at c.in_ok-block.ensures))
