use Rattle.std.proofs.Common.{Err, refl, sym, ap, ◌∙◌, subst}
use Rattle.std.proofs.lemmas.Result.{IfErr-weaker}
use Rattle.vt_isect.specs.declared.error.ShardErr.TheVariants.{Stopped}
use Rattle.vt_isect.specs.Section.{PutsEntries}
use Rattle.vt_isect.specs.View.{state_of}
use Rattle.vt_isect.proofs.Follows.{keeps_quiet}
use Rattle.vt_isect.proofs.IsCovered.{covered_kept}
use Rattle.vt_isect.proofs.IsDamage.{undamaged_by}
use Rattle.vt_isect.proofs.NamesDamage.{differs_by}
use Rattle.vt_isect.proofs.WithinCall.{crash_within, agrees_within}
use Rattle.vt_isect.proofs.Members.{Groups}
use Rattle.vt_isect.proofs.WritesBack.{wrote_is}
use Rattle.vt_isect.proofs.CallsLeft.{head_made, advance_lower, ends_none}
use Rattle.vt_isect.proofs.section.Section.advance.Goals as goal

pub returns-in-Some-clause-crash : goal.returns-in-Some-clause-crash
returns-in-Some-clause-crash g c known told sound whole first =
    crash_within (Err (Stopped c.in-Some.call)) c.args.self.now c.args.self.now _ _ _ _
    (keeps_quiet _ _ _ _ _ _ _ (λ n done. let e = done.0 in cc) (λ k it. it) (λ score setup h k it. it))
    (ap (λ x. x.stopped) (sym c.self.view_is) ∙ c.in-Some.is, refl) known sound whole first

pub returns-in-Some-clause-agrees : goal.returns-in-Some-clause-agrees
returns-in-Some-clause-agrees g c score setup h known told sound agrees =
    agrees_within (Err (Stopped c.in-Some.call)) c.args.self.now c.args.self.now _ _ _ _
    (keeps_quiet _ _ _ _ _ _ _ (λ n done. let e = done.0 in cc) (λ k it. it) (λ s u l k it. it))
    (ap (λ x. x.stopped) (sym c.self.view_is) ∙ c.in-Some.is, refl) score setup h known sound agrees

pub returns-in-Some-clause-covers : goal.returns-in-Some-clause-covers
returns-in-Some-clause-covers g c score setup h known knows agrees follows =
    covered_kept score setup h c.args.self.now c.args.self.now known knows agrees (subst Groups c.self.view_is c.self.invariant.group) (Err (Stopped c.in-Some.call))
    (ap (λ x. x.stopped) (sym c.self.view_is) ∙ c.in-Some.is, refl) follows

pub returns-in-Some-clause-ended : goal.returns-in-Some-clause-ended
returns-in-Some-clause-ended g c =
    ends_none (Err (Stopped c.in-Some.call)) c.args.self.now c.args.self.now
    (ap (λ x. x.stopped) (sym c.self.view_is) ∙ c.in-Some.is, refl)

pub returns-in-Some-clause-wrote : goal.returns-in-Some-clause-wrote
returns-in-Some-clause-wrote g c entry =
    wrote_is c.args.self.now c.args.self.now (subst Groups c.self.view_is c.self.invariant.group) entry
    (Err (Stopped c.in-Some.call)) (ap (λ x. x.stopped) (sym c.self.view_is) ∙ c.in-Some.is, refl)

pub returns-clause-crash : goal.returns-clause-crash
returns-clause-crash g c known told sound whole first =
    crash_within _ _ _ _ _ _ _ (c.make_call.ensures.step.sound told) c.make_call.ensures.step.steps known sound whole first

pub returns-clause-agrees : goal.returns-clause-agrees
returns-clause-agrees g c score setup h known told sound agrees =
    agrees_within _ _ _ _ _ _ _ (c.make_call.ensures.step.sound told) c.make_call.ensures.step.steps score setup h known sound agrees

pub returns-clause-left : goal.returns-clause-left
returns-clause-left g c =
    rw (← c.self.view_is)
    (advance_lower c.make_call.result _ _ (rw (← c.self.view_is) at c.make_call.ensures.step.steps)
    (λ j e. (c.self.invariant.group (subst PutsEntries (sym e) tt)).selector j e) (head_made (state_of c.self.inside) _ c.self.invariant.buffer))

pub returns-clause-covers : goal.returns-clause-covers
returns-clause-covers g c score setup h known knows agrees follows =
    covered_kept score setup h _ _ known knows agrees (subst Groups c.self.view_is c.self.invariant.group) _ c.make_call.ensures.step.steps follows

pub returns-clause-ended : goal.returns-clause-ended
returns-clause-ended g c = ends_none c.make_call.result _ _ c.make_call.ensures.step.steps

pub returns-clause-wrote : goal.returns-clause-wrote
returns-clause-wrote g c entry =
    wrote_is _ _ (subst Groups c.self.view_is c.self.invariant.group) entry
    c.make_call.result c.make_call.ensures.step.steps

pub returns-clause-differs : goal.returns-clause-differs
returns-clause-differs g c = differs_by g.D.Disk c.make_call.result _ _ c.make_call.ensures.step.steps c.make_call.ensures.damaged

pub returns-clause-undamaged : goal.returns-clause-undamaged
returns-clause-undamaged g c score setup h known told sound agrees room =
    undamaged_by g.D.Disk score setup h _ _ known agrees (subst Groups c.self.view_is c.self.invariant.group) told (g.met.D.Disk.read_is_image _ told) sound room
    c.make_call.result c.make_call.ensures.step.steps c.make_call.ensures.damaged

pub returns-clause-damaged : goal.returns-clause-damaged
returns-clause-damaged g c s = IfErr-weaker c.make_call.result _ _ (λ bad it other none phase. it other phase) (c.make_call.ensures.damaged s)
