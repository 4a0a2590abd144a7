use Rattle.std.proofs.Common.{◌≡◌, true, Ok, Err, ◌∙◌, ap, arith}
use Rattle.vt_disk.specs.declared.call.CallError.{CallError}
use Rattle.vt_twin.specs.declared.step.Step.TheVariants.{More, Done}
use Rattle.vt_twin.specs.Twin.{TwinState, without_spare}
use Rattle.vt_twin.proofs.Advances.{is_the_fault}
use Rattle.vt_arena.specs.Whole.{state_of}
use Rattle.vt_arena.proofs.Commits.{head_step}
use Rattle.vt_arena.proofs.Memory.{failed_whole, more_whole}
use Rattle.vt_arena.proofs.Pieces.{writes_in_head}
use Rattle.vt_arena.proofs.arena.Arena.advance_head.Goals as goal

pub invariant_of-self-in-Ok-More : goal.invariant_of-self-in-Ok-More
invariant_of-self-in-Ok-More g c =
    let last = rw c.in-Ok-More.field-0-is at c.in-Ok-More.ensures.done in
    more_whole c.self.inside c.advance.new.self (rw c.in-Ok-More.field-0-is at (c.in-Ok-More.ensures.steps c.requires.runs.1)) (rw (← c.self.view_is) at c.requires.begun)
    (λ is_last. let wrong : More ≡ Done = last.1 is_last in cc) c.self.invariant

pub invariant_of-self-in-Err : goal.invariant_of-self-in-Err
invariant_of-self-in-Err g c = failed_whole c.self.inside c.advance.new.self (c.in-Err.ensures.steps c.requires.runs.1) c.self.invariant

pub returns-in-Ok-More-clause-sound : goal.returns-in-Ok-More-clause-sound
returns-in-Ok-More-clause-sound g c score_of old told sound =
    head_step {E = CallError} score_of _ c.args.region old _ _ _ _ c.requires.region.len.0 c.advance.ensures.within.images (c.advance.ensures.within.bytes told)
    (rw (← c.self.view_is) at sound) (rw (← c.self.view_is) at c.requires.begun) c.advance.new.self c.advance.ensures.len (Ok More) _
    (ap (λ (t : TwinState). record (state_of c.self.inside) { twin = t }) (rw c.in-Ok-More.field-0-is at (c.in-Ok-More.ensures.steps c.requires.runs.1)))
    (rw c.in-Ok-More.field-0-is at (c.in-Ok-More.ensures.steps c.requires.runs.1)) (rw c.in-Ok-More.field-0-is at c.in-Ok-More.ensures.done)
    (λ syncs. (c.in-Ok-More.ensures.makes c.requires.runs.1).settled syncs told) (λ frame. (rw c.in-Ok-More.field-0-is at c.in-Ok-More.ensures.sound) frame told)

pub returns-in-Err-clause-sound : goal.returns-in-Err-clause-sound
returns-in-Err-clause-sound g c score_of old told sound =
    head_step {E = CallError} score_of _ c.args.region old _ _ _ _ c.requires.region.len.0 c.advance.ensures.within.images (c.advance.ensures.within.bytes told)
    (rw (← c.self.view_is) at sound) (rw (← c.self.view_is) at c.requires.begun) c.advance.new.self c.advance.ensures.len (Err c.in-Err.err) _
    (ap (λ (t : TwinState). record (state_of c.self.inside) { twin = t; failed = true }) (c.in-Err.ensures.steps c.requires.runs.1))
    (c.in-Err.ensures.steps c.requires.runs.1) tt tt (λ frame. c.in-Err.ensures.sound frame told)

pub returns-in-Ok-Done-clause-sound : goal.returns-in-Ok-Done-clause-sound
returns-in-Ok-Done-clause-sound g c score_of old told sound =
    let steps = rw c.in-Ok-Done.field-0-is at (c.in-Ok-Done.ensures.steps c.requires.runs.1) in
    let idle = c.idle.ensures.same ∙ ap (λ (t : TwinState). without_spare t) steps in
    rw (← c.self.view_is)
    (head_step {E = CallError} score_of _ c.args.region old _ _ _ _ c.requires.region.len.0 c.advance.ensures.within.images (c.advance.ensures.within.bytes told)
    (rw (← c.self.view_is) at sound) (rw (← c.self.view_is) at c.requires.begun) c.advance.new.self c.advance.ensures.len (Ok Done) _
    (λ i. record (state_of c.self.inside) { twin = idle i; head = c.self.inside.next; staged = c.clear.ensures.items i; written = 0 })
    (rw c.in-Ok-Done.field-0-is at (c.in-Ok-Done.ensures.steps c.requires.runs.1)) (rw c.in-Ok-Done.field-0-is at c.in-Ok-Done.ensures.done)
    (λ syncs. (c.in-Ok-Done.ensures.makes c.requires.runs.1).settled syncs told) (λ frame. (rw c.in-Ok-Done.field-0-is at c.in-Ok-Done.ensures.sound) frame told))

pub returns-in-Err-clause-fault : goal.returns-in-Err-clause-fault
returns-in-Err-clause-fault g c = is_the_fault c.in-Err.err _ c.requires.runs.1 c.in-Err.ensures.stopped

pub returns-in-Err-clause-writes : goal.returns-in-Err-clause-writes
returns-in-Err-clause-writes g c = writes_in_head g.D.Disk c.args.region (omega (arith, c.requires.region.len.0)) _ _ c.advance.ensures.within
