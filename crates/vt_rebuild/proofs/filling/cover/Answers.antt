use Rattle.vt_rebuild.proofs.filling.cover.Goals as goal

pub returns-then-number-gathered-clause-gathers : goal.returns-then-number-gathered-clause-gathers
returns-then-number-gathered-clause-gathers g c = λ setup h can. c.refill.ensures.gathered setup h can.log.tells can.log.sound can.versions can.index.buckets

pub returns-then-number-gathered-clause-undamaged : goal.returns-then-number-gathered-clause-undamaged
returns-then-number-gathered-clause-undamaged g c = λ h is. c.refill.ensures.undamaged h is.tells is.sound
