use Rattle.std.proofs.Common.{inl, inr, ℕ, ◌+◌, ◌*◌, List, refl, ◌∙◌, ap}
use Rattle.vt_disk.specs.Disk.{part}
use Rattle.vt_disk.proofs.Calls.{made_then}
use Rattle.vt_arena.specs.declared.TheConstants.{FRAME_LEN, FIELDS_LEN}
use Rattle.vt_arena.specs.Heads.{own_fields}
use Rattle.vt_arena.specs.Layout.{fields_at}
use Rattle.vt_arena.proofs.Finds.{selector_named, fields_read, own_tested, finds_head_bad}
use Rattle.vt_arena.proofs.mounting.find_head.Goals as goal

pub returns-in_default-clause-answer : goal.returns-in_default-clause-answer
returns-in_default-clause-answer g c = (fields_at c.args.region (g.D.Disk.bytes c.args.disk.now), (λ told. refl), tt)

pub returns-in_default-read_at-clause-answer : goal.returns-in_default-read_at-clause-answer
returns-in_default-read_at-clause-answer g c = (fields_at c.args.region (g.D.Disk.bytes c.args.disk.now), (λ told. refl), tt)

pub returns-in-Ok-decode-clause-answer : goal.returns-in-Ok-decode-clause-answer
returns-in-Ok-decode-clause-answer g c = (
  own_fields c.read_at-2.new.buf,
  (λ told. (fields_read c.args.region (g.D.Disk.bytes c.args.disk.now) c.read_at-2.new.buf c.from.result
      (c.from.ensures ∙ selector_named c.args.region (g.D.Disk.bytes c.args.disk.now) c.read_at.new.buf (c.in-Ok.ensures.read told))
      (c.in-Ok-read_at.ensures.read told ∙ ap (λ (l : List ℕ). part (c.args.region.start + FRAME_LEN * c.from.result) FIELDS_LEN l) c.read_at.ensures.reads.bytes))),
  (own_tested c.read_at-2.new.buf c.args.number c.args.region.len ∙ c.in-Ok-decode.ensures.refused, c.in-Ok-decode.ensures.spelling),
)

pub returns-in-Err-clause-answer : goal.returns-in-Err-clause-answer
returns-in-Err-clause-answer g c = (
  own_fields c.read_at-2.new.buf,
  (λ told. (fields_read c.args.region (g.D.Disk.bytes c.args.disk.now) c.read_at-2.new.buf c.from.result
      (c.from.ensures ∙ selector_named c.args.region (g.D.Disk.bytes c.args.disk.now) c.read_at.new.buf (c.in-Ok.ensures.read told))
      (c.in-Ok-read_at.ensures.read told ∙ ap (λ (l : List ℕ). part (c.args.region.start + FRAME_LEN * c.from.result) FIELDS_LEN l) c.read_at.ensures.reads.bytes))),
  finds_head_bad c.args.number c.args.region.len (own_fields c.read_at-2.new.buf) c.in-Err.bad
      (own_tested c.read_at-2.new.buf c.args.number c.args.region.len ∙ c.in-Err.ensures.refused) c.in-Err.ensures.memory,
)

pub returns-in_default-clause-calls : goal.returns-in_default-clause-calls
returns-in_default-clause-calls g c = inl (refl, c.read_at.ensures.calls)

pub returns-in_default-read_at-clause-calls : goal.returns-in_default-read_at-clause-calls
returns-in_default-read_at-clause-calls g c = inr (made_then g.D.Disk 1 1 _ _ _ c.read_at.ensures.calls c.read_at-2.ensures.calls)

pub returns-in-Ok-decode-clause-calls : goal.returns-in-Ok-decode-clause-calls
returns-in-Ok-decode-clause-calls g c = inr (made_then g.D.Disk 1 1 _ _ _ c.read_at.ensures.calls c.read_at-2.ensures.calls)

pub returns-in-Err-clause-calls : goal.returns-in-Err-clause-calls
returns-in-Err-clause-calls g c = inr (made_then g.D.Disk 1 1 _ _ _ c.read_at.ensures.calls c.read_at-2.ensures.calls)

pub returns-in-Ok-decode-clause-selector : goal.returns-in-Ok-decode-clause-selector
returns-in-Ok-decode-clause-selector g c told = selector_named c.args.region (g.D.Disk.bytes c.args.disk.now) c.read_at.new.buf (c.in-Ok.ensures.read told)
