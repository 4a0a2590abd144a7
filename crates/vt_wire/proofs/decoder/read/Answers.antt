use Rattle.std.proofs.Common.{◌∙◌, get_or, refl, sym, subst, arith}
use Rattle.vt_wire.specs.Messages.{SpellsRead}
use Rattle.vt_wire.proofs.RequestForms.{read_spelled}
use Rattle.vt_wire.proofs.decoder.read.Goals as goal

pub returns : goal.returns
returns c =
    let parameters = c.args.parameters.now in
    let score = c.in_ok-score.ensures.found in
    let kind = c.in_ok-kind.ensures.found in
    let pad = c.in_ok-_pad.ensures.found in
    let count = c.in_ok-count.ensures.found in
    let end = c.in_ok-at_end.ensures.found in
    let spelled = read_spelled c.in_ok-score.score.now c.in_ok-kind.field-0-0.now c.in_ok-_pad._pad.now c.in_ok-count.count.now parameters c.in_ok-score.rest.now c.in_ok-kind.rest.now c.in_ok-_pad.rest.now c.in_ok-count.rest.now
    score.0 score.1 kind.0 kind.1 pad.0 pad.1 count.0 count.1 end (λ i. omega (arith, c.type_inv.parameters i)) in
    record {
      type_is = refl;
      parameters_are = subst (λ n. SpellsRead c.in_ok-score.score.now (get_or c.in_ok-kind.field-0-0.now 0 0) n parameters) (sym (c.from.ensures ∙ c.u16_at.ensures)) spelled;
    }
