use Rattle.std.proofs.Common.{◌≡◌, ◌+◌, List, [], ◌∷◌, length, take, sym, ◌∙◌, ap, arith, subst, length-append}
use Rattle.std.proofs.lemmas.List.{take_all}
use Rattle.vt_core.specs.declared.event.Event.{Event}
use Rattle.vt_core.specs.declared.event.Out.{Out}
use Rattle.vt_core.specs.Steps.{Runs}
use Rattle.vt_core.proofs.Runs.{runs_on}
use Rattle.vt_core.proofs.store.Core.run.Goals as goal

pub loop-i-preserved : goal.loop-i-preserved
loop-i-preserved g c =
    let before : List Out = c.loop-i.outs.items in
    let out : Out = c.step-out.result in
    let pushed = c.push_reserved.ensures.items in
    let longer : length c.push_reserved.new.self.items ≡ length before + 1 = ap (λ (os : List Out). length os) pushed ∙ length-append before (out ∷ []) in
    record {
      runs = subst (λ (os : List Out). Runs g.S.Scorer.score_of g.D.Disk (take (c.loop-i.i + 1) c.args.events.now) os c.args.self.now c.step-out.new.self) (sym pushed)
          (runs_on g.S.Scorer.score_of g.D.Disk c.args.events.now before c.loop-i.i _ out c.args.self.now c.loop-i.self c.step-out.new.self
          (omega arith) c.loop-i.invariant.runs c.step-out.ensures);
      many = omega (arith, longer, c.loop-i.invariant.many);
      room = omega (arith, c.loop-i.invariant.room, c.push_reserved.ensures.capacity);
      sessions = c.step-out.ensures.goes_on.store.sessions ∙ c.loop-i.invariant.sessions;
      shards = c.step-out.ensures.goes_on.store.shards ∙ c.loop-i.invariant.shards;
    }

pub returns-clause-runs : goal.returns-clause-runs
returns-clause-runs g c =
    subst (λ (es : List Event). Runs g.S.Scorer.score_of g.D.Disk es c.loop-i.outs.items c.args.self.now c.loop-i.self) (take_all c.loop-i.i c.args.events.now (omega arith)) c.loop-i.invariant.runs
