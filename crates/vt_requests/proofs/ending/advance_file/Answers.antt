use Rattle.std.proofs.Common.{◌≡◌, Ok, refl, arith}
use Rattle.vt_core.specs.declared.event.Event.TheVariants.{FileAdvance}
use Rattle.vt_core.specs.declared.event.Out.TheVariants.{Moved, Nothing}
use Rattle.vt_requests.proofs.AtShard.{advances_calls, ending_moves, idle_rests, ending_idles}
use Rattle.vt_requests.proofs.WorkDone.{no_work, one_piece, work_then}
use Rattle.vt_requests.proofs.ending.advance_file.Goals as goal

pub loop-why-init : goal.loop-why-init
loop-why-init g c = record {
  works = no_work g.S.Scorer.score_of g.D.Disk (λ event k. event ≡ FileAdvance c.args.shard) tt c.args.core.now;
  within = c.requires;
  ends = λ is. is;
}

pub loop-why-smaller : goal.loop-why-smaller
loop-why-smaller g c = advances_calls g.D.Disk c.args.shard c.loop-why.core c.step.new.self c.in-Moved.ensures.does

pub loop-why-preserved : goal.loop-why-preserved
loop-why-preserved g c = record {
  works = work_then {T = Unit {0}} {U = Unit {0}} g.S.Scorer.score_of g.D.Disk (λ event k. event ≡ FileAdvance c.args.shard) tt (Ok tt) c.args.core.now c.loop-why.core c.step.new.self
      c.loop-why.invariant.works
      (one_piece g.S.Scorer.score_of g.D.Disk (λ event k. event ≡ FileAdvance c.args.shard) tt (FileAdvance c.args.shard) Moved c.loop-why.core c.step.new.self refl tt c.in-Moved.ensures);
  within = omega (arith, c.loop-why.invariant.within, c.in-Moved.ensures.goes_on.store.shards);
  ends = λ is. ending_moves g.D.Disk c.args.shard c.loop-why.core c.step.new.self c.in-Moved.ensures.does (c.loop-why.invariant.ends is);
}

pub returns-in-Nothing-clause-works : goal.returns-in-Nothing-clause-works
returns-in-Nothing-clause-works g c =
    work_then {T = Unit {0}} {U = Unit {0}} g.S.Scorer.score_of g.D.Disk (λ event k. event ≡ FileAdvance c.args.shard) tt (Ok tt) c.args.core.now c.loop-why.core c.step.new.self
    c.loop-why.invariant.works
    (one_piece g.S.Scorer.score_of g.D.Disk (λ event k. event ≡ FileAdvance c.args.shard) tt (FileAdvance c.args.shard) Nothing c.loop-why.core c.step.new.self refl tt c.in-Nothing.ensures)

pub returns-in-Nothing-clause-rests : goal.returns-in-Nothing-clause-rests
returns-in-Nothing-clause-rests g c =
    let idle = idle_rests g.D.Disk c.args.shard c.loop-why.core c.step.new.self c.in-Nothing.ensures.does in
    record { state = c.in-Nothing.ensures.does.before; at = idle.0.at; none = idle.1 }

pub returns-in-Nothing-clause-filed : goal.returns-in-Nothing-clause-filed
returns-in-Nothing-clause-filed g c = λ is.
    ending_idles g.D.Disk c.args.shard c.loop-why.core c.step.new.self c.in-Nothing.ensures.does (c.loop-why.invariant.ends is)
