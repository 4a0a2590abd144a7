use Rattle.std.proofs.Common.{Ok, refl, arith}
use Rattle.vt_core.specs.declared.event.Event.TheVariants.{LogAdvance}
use Rattle.vt_core.specs.declared.event.Out.TheVariants.{Moved}
use Rattle.vt_requests.proofs.WorkDone.{no_work, one_piece, step_worked, work_then}
use Rattle.vt_requests.specs.Working.{NeedsDurable}
use Rattle.vt_requests.proofs.working.commit.Goals as goal

pub loop-alloc-init : goal.loop-alloc-init
loop-alloc-init g c = record {
  works = no_work g.S.Scorer.score_of g.D.Disk (NeedsDurable c.args.number) tt c.args.core.now;
  low = c.requires;
}

pub loop-alloc-preserved : goal.loop-alloc-preserved
loop-alloc-preserved g c =
    let worked = step_worked g.S.Scorer.score_of g.D.Disk LogAdvance Moved c.loop-alloc.core c.step.new.self tt c.in-Moved.ensures in
    record {
      works = work_then g.S.Scorer.score_of g.D.Disk (NeedsDurable c.args.number) tt (Ok tt) c.args.core.now c.loop-alloc.core c.step.new.self c.loop-alloc.invariant.works
          (one_piece g.S.Scorer.score_of g.D.Disk (NeedsDurable c.args.number) tt _ _ c.loop-alloc.core c.step.new.self (refl, omega arith) tt c.in-Moved.ensures);
      low = omega (arith, c.loop-alloc.invariant.low, worked.len);
    }
