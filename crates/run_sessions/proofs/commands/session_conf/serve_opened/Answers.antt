-- a session is a run of events, which keeps how many devices there are
use Rattle.std.proofs.Common.{◌∙◌}
use Rattle.vt_handler.specs.Links.{since}
use Rattle.run_sessions.proofs.commands.session_conf.serve_opened.Goals as goal

pub close_store-requires : goal.close_store-requires
close_store-requires g c =
    let score = g.S.Scorer.score_of in
    let core = c.serve_store-core.result.1 in
    let run = c.sessions_are_runs.ensures.run score c.serve_store-core.result.0 c.args.now c.args.core
    core _ _ _ c.serve_store-core.ensures.serves in
    let kept = c.shapes_are_kept.ensures.run score run.0 run.1 c.args.core core run.2 in
    record {
      partitions = kept.partitions ∙ c.requires.shape.partitions;
      sections = kept.sections ∙ c.requires.shape.sections;
      filter = kept.filter ∙ c.requires.shape.filter;
    }

pub returns-clause-serves : goal.returns-clause-serves
returns-clause-serves g c =
    let score = g.S.Scorer.score_of in
    let core = c.serve_store-core.result.1 in
    let serve = c.serve_store-core.ensures in
    let client = c.serve_store-core.new.client in
    let run = c.sessions_are_runs.ensures.run score c.serve_store-core.result.0 c.args.now c.args.core
    core _ _ _ serve.serves in
    let kept = c.shapes_are_kept.ensures.run score run.0 run.1 c.args.core core run.2 in
    record {
      now = c.args.now;
      ended = core;
      end = c.serve_store-core.result.0;
      input = since (g.R.Source.given c.args.streams.now.source)
          (g.R.Source.given client.source);
      output = since (g.K.Sink.written c.args.streams.now.sink)
          (g.K.Sink.written client.sink);
      serves = serve.serves;
      passes = λ tells. record {
        bytes = g.met.R.Source.left_bytes _;
        took = serve.took tells;
        taken = serve.taken tells;
        written = serve.written tells;
      };
      read = serve.reads;
      write = serve.writes;
      shape = record {
        partitions = kept.partitions ∙ c.requires.shape.partitions;
        sections = kept.sections ∙ c.requires.shape.sections;
        filter = kept.filter ∙ c.requires.shape.filter;
      };
      given = c.close_store.ensures.given;
      outcome_is = c.outcome_of.ensures;
    }
