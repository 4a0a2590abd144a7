-- the store that was made is sound for the empty history, and no call of its disks fails
use Rattle.std.proofs.Common.{[], refl, ap}
use Rattle.vt_handler.specs.Links.{since}
use Rattle.run_base.proofs.InMemory.{never_fails}
use Rattle.run_sessions.proofs.MemorySessions.{serves_none, session_in}
use Rattle.run_sessions.proofs.commands.session.serve_memory.Goals as goal

pub returns-in_default-clause-serves : goal.returns-in_default-clause-serves
returns-in_default-clause-serves g c =
    serves_none g.S.Scorer.score_of _ _ (g.met.R.Source.left_bytes _) refl refl refl refl

pub returns-clause-serves : goal.returns-clause-serves
returns-clause-serves g c =
    let score = g.S.Scorer.score_of in
    let core = c.in-Ok.core in
    let fresh = c.in-Ok.ensures in
    let end = c.serve_store.result.0 in
    let ended = c.serve_store.result.1 in
    let serve = c.serve_store.ensures in
    let client = c.serve_store.new.client in
    let never = c.memory_never_fails.ensures in
    let input = since (g.R.Source.given c.args.streams.now.source)
    (g.R.Source.given client.source) in
    let output = since (g.K.Sink.written c.args.streams.now.sink)
    (g.K.Sink.written client.sink) in
    record {
      input = input;
      output = output;
      passes = λ tells. record {
        bytes = g.met.R.Source.left_bytes _;
        took = serve.took tells;
        taken = serve.taken tells;
        written = serve.written tells;
      };
      session = λ tells. session_in score _ end c.args.now core serve.serves.served input output
          fresh.setup (never_fails _ never score core serve.serves.served fresh)
          (serve.serves.session [] refl fresh.sound tells);
      needs = c.sound_stores_need_memory.ensures score end c.args.now core ended _ input output []
          serve.serves refl fresh.sound (never_fails _ never score core ended fresh);
      read = serve.reads;
      write = serve.writes;
    }

pub returns-clause-idle : goal.returns-clause-idle
returns-clause-idle g c none =
    let same = c.serve_store.ensures.memory none in
    record { unread = ap (λ s. s.source) same; unwritten = ap (λ s. s.sink) same }
