-- The block was let in where it fits, and goes to the arena for which it waited.
use Rattle.vt_log.proofs.Stages.{staged_whole, staged_fits, staged_sound}
use Rattle.vt_log.proofs.log.Log.stage_next.Goals as goal

pub stage-requires-clause-fits : goal.stage-requires-clause-fits
stage-requires-clause-fits g c = staged_fits _ _ c.in-Some.packed c.take_for.new.self c.self.invariant (c.in-Some.ensures).0

pub invariant_of-self : goal.invariant_of-self
invariant_of-self g c =
    rw c.stage.ensures (staged_whole g.S.Scorer.score_of _ _ c.args.self.now c.in-Some.packed c.take_for.new.self c.self.view_is c.self.invariant c.requires.rest (c.in-Some.ensures).0 (c.in-Some.ensures).1)

pub returns-in-Some-clause-sound : goal.returns-in-Some-clause-sound
returns-in-Some-clause-sound g c h sound =
    rw c.stage.ensures (staged_sound _ _ _ c.args.self.now h c.in-Some.packed c.take_for.new.self c.self.view_is g.met.S.Scorer.score_len sound c.requires.rest (c.in-Some.ensures).0 (c.in-Some.ensures).1)
