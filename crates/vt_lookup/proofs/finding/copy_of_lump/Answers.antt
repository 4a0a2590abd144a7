use Rattle.std.proofs.Common.{◌∙◌}
use Rattle.vt_lookup.proofs.finding.copy_of_lump.Goals as goal

pub returns-in-Ok-clause-right : goal.returns-in-Ok-clause-right
returns-in-Ok-clause-right g c = λ score setup h durable sound.
    let it = c.in-Some.ensures.right score setup h durable 0 sound in
    (it.0, it.1, c.in-Ok.ensures ∙ c.as_slice.ensures ∙ it.2)
