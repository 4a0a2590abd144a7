use Rattle.vt_disk.proofs.DeviceCalls.{makes_told}
use Rattle.vt_disk.specs.DeviceCalls.{CallMade}
use Rattle.vt_twin.specs.Twin.{next_call}
use Rattle.vt_twin.proofs.Advances.{none_failed, step_sound, step_crash, step_within}
use Rattle.vt_twin.proofs.twin.Twin.advance.Goals as goal

made : (g : _) (c : goal.After-go_on g) → CallMade g.D.Disk (next_call c.args.self.now c.args.region) c.go_on.result c.args.calls.now c.make-outcome.new.self
    c.args.disk.now c.make-outcome.new.disk
made g c =
    makes_told g.D.Disk (next_call c.args.self.now c.args.region) _ _ _ _ _ _ c.go_on.ensures.outcome
    (rw c.next_call.ensures.call at c.make-outcome.ensures)

pub returns-clause-makes : goal.returns-clause-makes
returns-clause-makes g c runs = made g c

pub returns-clause-sound : goal.returns-clause-sound
returns-clause-sound g c old told sound =
    step_sound g.D.Disk c.args.self.now c.args.region _ _ c.requires.room c.next_call.ensures.stage.0 c.next_call.ensures.stage.1
    c.next_call.ensures.whole _ _ old told (g.met.D.Disk.images_fit _ _ (g.met.D.Disk.read_is_image _ told)).0 sound
    c.go_on.result _ c.go_on.ensures.steps c.go_on.ensures.done (made g c)

pub returns-clause-crash : goal.returns-clause-crash
returns-clause-crash g c old told sound =
    step_crash g.D.Disk c.args.self.now c.args.region _ _ c.requires.room c.next_call.ensures.stage.0 c.next_call.ensures.stage.1
    c.next_call.ensures.whole c.args.calls.now c.make-outcome.new.self old told (g.met.D.Disk.images_fit _ _ (g.met.D.Disk.read_is_image _ told)).0 sound
    c.go_on.result _ c.go_on.ensures.steps c.go_on.ensures.done (none_failed _ _ c.requires.lent c.make-outcome.ensures.runs)
    (returns-clause-sound g c old told sound)

pub returns-clause-read : goal.returns-clause-read
returns-clause-read g c old told sound =
    (returns-clause-sound g c old told sound).kept _ (g.met.D.Disk.read_is_image _ told)

pub returns-clause-within : goal.returns-clause-within
returns-clause-within g c =
    step_within g.D.Disk c.args.self.now c.args.region _ c.args.disk.now c.make-outcome.new.disk c.requires.room (rw (← c.self.view_is) c.self.invariant.0)
    c.next_call.ensures.stage.0 c.next_call.ensures.stage.1 c.next_call.ensures.whole (made g c).writes
