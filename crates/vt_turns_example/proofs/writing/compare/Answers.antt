use Rattle.std.proofs.Common.{◌∙◌, ap, sym, eq-eqb, ne_eqb, if◌then◌else◌}
use Rattle.vt_turns_example.specs.declared.part.Block.{Block}
use Rattle.vt_turns_example.specs.declared.link.Said.TheVariants.{Held, Collision}
use Rattle.vt_turns_example.proofs.Answering.{at_get}
use Rattle.vt_turns_example.proofs.writing.compare.Goals as goal

pub returns-then-index-value : goal.returns-then-index-value
returns-then-index-value c = λ b at.
    let r = c.index.result.now in
    let is = at_get c.args.log.now.blocks.items c.args.number b r at ∙ sym c.index.ensures in
    sym (ap (λ t. if t then Held else Collision) (eq-eqb b.value c.args.value (ap (λ (x : Block). x.value) is ∙ c.if-index-value.true)))

pub returns-else-index-value : goal.returns-else-index-value
returns-else-index-value c = λ b at.
    let r = c.index.result.now in
    let is = at_get c.args.log.now.blocks.items c.args.number b r at ∙ sym c.index.ensures in
    sym (ap (λ t. if t then Held else Collision) (ne_eqb b.value c.args.value (λ e. c.if-index-value.false (sym (ap (λ (x : Block). x.value) is) ∙ e))))
