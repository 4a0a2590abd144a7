use Rattle.std.proofs.Common.{◌≡◌, [], true, false, sym, ◌∙◌, ap}
use Rattle.std.specs.List.{list_any}
use Rattle.std.specs.Str.{bytes_eq}
use Rattle.vt_tree.specs.Memory.{BlocksMemory}
use Rattle.vt_tree.proofs.Collisions.{is_other, zero_told, others_told}
use Rattle.vt_tree.proofs.mem_blocks.MemBlocks.collides.Goals as goal

pub returns-then-eq : goal.returns-then-eq
returns-then-eq g c =
    let score_of = g.S.Scorer.score_of in
    let zero : bytes_eq (score_of c.args.bytes.now) (score_of []) ≡ true =
    (λ i. bytes_eq (sym c.requires i) (sym c.score.ensures i)) ∙ sym c.eq.ensures ∙ c.if-eq.true in
    zero_told score_of c.args.self.now c.args.bytes.now zero c.is_empty.result c.is_empty.ensures

pub returns : goal.returns
returns g c =
    let score_of = g.S.Scorer.score_of in
    let bytes = c.args.bytes.now in
    let kept = c.self.inside.kept.items in
    let other : bytes_eq (score_of bytes) (score_of []) ≡ false =
    (λ i. bytes_eq (sym c.requires i) (sym c.score.ensures i)) ∙ sym c.eq.ensures ∙ c.if-eq.false in
    others_told score_of kept c.args.self.now bytes
    (ap (λ (m : BlocksMemory). m.blocks) (sym c.self.view_is))
    c.self.invariant other c.has_other_bytes.result
    (c.has_other_bytes.ensures
    ∙ (λ i. list_any (is_other (c.requires i) bytes) (c.deref.ensures.value i)))
