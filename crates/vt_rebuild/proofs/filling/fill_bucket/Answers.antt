use Rattle.std.proofs.Common.{◌≡◌, ◌∙◌, ◌≤◌, ◌<◌, ℕ, sym, subst, arith}
use Rattle.std.proofs.lemmas.Result.{err_from_is_err_and}
use Rattle.vt_isect.specs.Section.{SectionState}
use Rattle.vt_bucket.specs.Buckets.{bucket_entries}
use Rattle.vt_model.specs.Places.{crowd}
use Rattle.vt_model.specs.declared.TheConstants.{BUCKET_ROOM}
use Rattle.vt_rebuild.specs.Gathering.{CanIndex}
use Rattle.vt_rebuild.proofs.Fills.{puts_bucket}
use Rattle.vt_rebuild.proofs.filling.fill_bucket.Goals as goal

pub returns-in_err-cover-clause-fits : goal.returns-in_err-cover-clause-fits
returns-in_err-cover-clause-fits g c = λ setup h can fits.
    let p = err_from_is_err_and c.from_residual.result c.from_residual.ensures.1 in
    rw (p.1, p.2) (c.in_err-cover.ensures.undamaged h can.log)

pub returns-in-Err-clause-fits : goal.returns-in-Err-clause-fits
returns-in-Err-clause-fits g c = λ setup h can fits.
    let score = g.S.Scorer.score_of in
    let total : c.cover.new.gathered.total ≡ c.args.gathered.now.total = c.cover.ensures.total in
    let index : CanIndex score setup h c.cover.new.gathered.total = record { buckets = can.index.buckets ∙ sym total; keys = can.index.keys } in
    let full : BUCKET_ROOM < crowd score c.cover.new.gathered.total h c.args.number =
    c.in-Err.ensures.blocks score setup h index (c.in_ok-cover.ensures.gathers setup h can) c.in_ok-cover.ensures.covered.0 c.in_ok-cover.ensures.covered.1 in
    let few : crowd score c.args.gathered.now.total h c.args.number ≤ BUCKET_ROOM = fits c.args.number (omega (arith, c.requires.number, c.requires.total)) in
    let same : BUCKET_ROOM < crowd score c.args.gathered.now.total h c.args.number = subst (λ (n : ℕ). BUCKET_ROOM < crowd score n h c.args.number) total full in
    absurd (omega (arith, few, same))

pub returns-in-Ok-fill-clause-filled : goal.returns-in-Ok-fill-clause-filled
returns-in-Ok-fill-clause-filled g c =
    let score = g.S.Scorer.score_of in
    let old : SectionState g.row.D.Denot = c.args.section.now in
    let new : SectionState g.row.D.Denot = c.fill.new.self in
    let total : c.cover.new.gathered.total ≡ c.args.gathered.now.total = c.cover.ensures.total in (
      bucket_entries c.in-Ok.bucket,
      puts_bucket g.D.Disk old new _ c.args.number (bucket_entries c.in-Ok.bucket) c.in-Ok.ensures.number c.in-Ok-fill.ensures.read,
      λ setup h can.
          c.in-Ok.ensures.blocks score setup h (record { buckets = can.index.buckets ∙ sym total; keys = can.index.keys })
          (c.in_ok-cover.ensures.gathers setup h can) c.in_ok-cover.ensures.covered.0 c.in_ok-cover.ensures.covered.1,
    )
