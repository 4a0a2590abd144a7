use Rattle.std.proofs.Common.{arith}
use Rattle.std.proofs.lemmas.Result.{err_from_is_err_and}
use Rattle.vt_isect.specs.Section.{SectionState}
use Rattle.vt_rebuild.proofs.Finishing.{finishes, stops, unfilled}
use Rattle.vt_rebuild.proofs.rebuilding.finish.Goals as goal

pub returns-in_err-fill_section-clause-left : goal.returns-in_err-fill_section-clause-left
returns-in_err-fill_section-clause-left g c =
    let p = err_from_is_err_and c.from_residual.result c.from_residual.ensures.1 in
    rw p.1 (λ setup h can blocks.
    unfilled g.S.Scorer.score_of g.D.Disk setup h c.args.gathered.now.total c.args.section.now c.fill_section.new.section c.requires.begun c.fill_section.ensures.same
    c.fill_section.ensures.size (c.fill_section.ensures.holds can.log.tells))

pub returns-in-Ok-clause-finished : goal.returns-in-Ok-clause-finished
returns-in-Ok-clause-finished g c = λ setup h can blocks.
    let old : SectionState g.row.D.Denot = c.args.section.now in
    let mid : SectionState g.row.D.Denot = c.fill_section.new.section in
    let filled = c.in_ok-fill_section.ensures.filled setup h can in
    finishes g.S.Scorer.score_of g.D.Disk setup h c.args.gathered.now.total c.args.blocks old mid c.put_to_use.new.section can.log.tells c.requires.begun
    c.fill_section.ensures.same filled.0 (c.fill_section.ensures.holds can.log.tells) can.index blocks c.fill_section.ensures.size c.put_to_use.ensures.same
    c.in-Ok.ensures.head c.in-Ok.ensures.used
    (omega (arith, c.fill_section.ensures.calls can.log.tells, c.put_to_use.ensures.calls can.log.tells))

pub returns-in-Err-clause-left : goal.returns-in-Err-clause-left
returns-in-Err-clause-left g c = λ setup h can blocks.
    let old : SectionState g.row.D.Denot = c.args.section.now in
    let mid : SectionState g.row.D.Denot = c.fill_section.new.section in
    let filled = c.in_ok-fill_section.ensures.filled setup h can in
    stops g.S.Scorer.score_of g.D.Disk setup h c.args.gathered.now.total c.args.blocks old mid c.put_to_use.new.section can.log.tells c.requires.begun
    c.fill_section.ensures.same filled.0 (c.fill_section.ensures.holds can.log.tells) can.index blocks c.fill_section.ensures.size c.put_to_use.ensures.same
    c.in-Err.ensures.stops
