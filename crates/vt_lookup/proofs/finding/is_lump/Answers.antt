use Rattle.std.proofs.Common.{ℕ, List, ◌∙◌, ap}
use Rattle.std.specs.Str.{bytes_eq}
use Rattle.vt_lookup.proofs.finding.is_lump.Goals as goal

pub returns-clause-right : goal.returns-clause-right
returns-clause-right g c = λ score setup h durable sound. (
  c.in-Some.bytes.now,
  c.in-Some.ensures.right score setup h durable 0 sound,
  c.eq.ensures ∙ ap (λ (bytes : List ℕ). bytes_eq bytes c.args.block.now) c.as_slice.ensures,
)
