-- a run of events keeps how many devices there are; the partitions are those that were handed out
use Rattle.vt_core.specs.Core.{devices_of}
use Rattle.vt_open.specs.Names.{files_of}
use Rattle.vt_use.proofs.Uses.{shape_more}
use Rattle.vt_use.proofs.using.use_store.Goals as goal

pub close_store-requires : goal.close_store-requires
close_store-requires g c =
    let used = c.use_core-used in
    let uses = used.ensures.uses in
    let run = c.calls_are_runs.ensures.run g.S.Scorer.score_of c.args.now (g.J.Job.writes c.args.job.now) uses.exchanges
    used.result.0.closed c.in_ok-core.core uses.kept used.result.1 uses.asks in
    shape_more (devices_of used.result.1) (devices_of c.in_ok-core.core) (files_of c.args.conf.now)
    (c.shapes_are_kept.ensures.run g.S.Scorer.score_of run.0 run.1 c.in_ok-core.core used.result.1 run.2)
    c.in_ok-core.ensures.opens.devices

pub returns-clause-uses : goal.returns-clause-uses
returns-clause-uses g c =
    let used = c.use_core-used in
    let uses = used.ensures.uses in
    let run = c.calls_are_runs.ensures.run g.S.Scorer.score_of c.args.now (g.J.Job.writes c.args.job.now) uses.exchanges
    used.result.0.closed c.in_ok-core.core uses.kept used.result.1 uses.asks in
    let shape = shape_more (devices_of used.result.1) (devices_of c.in_ok-core.core) (files_of c.args.conf.now)
    (c.shapes_are_kept.ensures.run g.S.Scorer.score_of run.0 run.1 c.in_ok-core.core used.result.1 run.2)
    c.in_ok-core.ensures.opens.devices in
    record {
      opened = c.in_ok-core.core;
      left = used.result.1;
      during = g.P.Parts.standing c.open_store.new.parts;
      opens = c.in_ok-core.ensures.opens;
      does = uses;
      shape = shape;
      given = c.close_store.ensures.given;
    }
