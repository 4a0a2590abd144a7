-- What waits behind is for the next arena.
use Rattle.std.proofs.Common.{◌<◌, sym, ◌∙◌, subst, length, arith}
use Rattle.vt_log.specs.Log.{LogState}
use Rattle.vt_log.specs.Queue.{WaitsFor}
use Rattle.vt_log.proofs.Owed.{prepared_owed}
use Rattle.vt_log.proofs.Stages.{seal_version, seal_whole, seal_sound}
use Rattle.vt_log.proofs.log.Log.stage_all.Goals as goal

pub invariant_of-self : goal.invariant_of-self
invariant_of-self g c =
    let out = c.stage_next.ensures.none c.loop-test.false in
    rw c.seal.ensures (seal_whole _ _ c.stage_next.new.self c.self.view_is c.self.invariant c.stage_next.ensures.stages.rest (omega (arith, c.waiting.ensures, c.if-waiting-gt0.true))
    (subst (λ (l : LogState _). ¬ WaitsFor l.committing l.queue.waiting) (sym (c.self.view_is ∙ out.0)) out.1))

pub seal-requires-clause-version : goal.seal-requires-clause-version
seal-requires-clause-version g c =
    let out = c.stage_next.ensures.none c.loop-test.false in
    seal_version _ _ c.self.invariant (omega (arith, c.waiting.ensures, c.if-waiting-gt0.true))
    (subst (λ (l : LogState _). ¬ WaitsFor l.committing l.queue.waiting) (sym (c.self.view_is ∙ out.0)) out.1)

pub returns-then-waiting-gt0-clause-owed : goal.returns-then-waiting-gt0-clause-owed
returns-then-waiting-gt0-clause-owed g c =
    let out = c.stage_next.ensures.none c.loop-test.false in
    let same = c.self.view_is ∙ out.0 in
    rw c.seal.ensures (prepared_owed c.args.self.now c.loop.self _ same c.loop.invariant.stages c.requires.rest
    (subst (λ (l : LogState _). 0 < length l.queue.waiting) same (omega (arith, c.waiting.ensures, c.if-waiting-gt0.true))) out.1)

pub returns-then-waiting-gt0-clause-sound : goal.returns-then-waiting-gt0-clause-sound
returns-then-waiting-gt0-clause-sound g c h sound =
    let out = c.stage_next.ensures.none c.loop-test.false in
    rw c.seal.ensures (seal_sound _ _ _ c.stage_next.new.self h c.self.view_is
    (c.stage_next.ensures.sound h (c.loop.invariant.sound h sound))
    c.stage_next.ensures.stages.rest (omega (arith, c.waiting.ensures, c.if-waiting-gt0.true))
    (subst (λ (l : LogState _). ¬ WaitsFor l.committing l.queue.waiting) (sym (c.self.view_is ∙ out.0)) out.1))

pub returns-else-waiting-gt0-clause-sound : goal.returns-else-waiting-gt0-clause-sound
returns-else-waiting-gt0-clause-sound g c h sound = c.stage_next.ensures.sound h (c.loop.invariant.sound h sound)
