-- what came of the use of the store, and what is told of it
use Rattle.std.proofs.Common.{ℕ, List, Result, Err, refl, subst, append-nil}
use Rattle.vt_use.specs.declared.used_at.StoreError.{StoreError}
use Rattle.run_base.specs.Blocks.{TellsBlock}
use Rattle.run_base.specs.Change.{dialer_change, parts_change, sink_change}
use Rattle.run_sessions.proofs.Scored.{read_scored}
use Rattle.run_sessions.proofs.commands.read.print_at.Goals as goal

pub returns-in-Ok : goal.returns-in-Ok
returns-in-Ok g c =
    let parts = parts_change g.P.Parts c.args.parts.now c.use_at-used.new.parts in
    let dialer = dialer_change g.N.Dialer g.N.Link.Link c.args.dialer.now c.use_at-used.new.dialer in
    record {
      used = c.use_at-used.result;
      uses = c.use_at-used.ensures.uses;
      told = subst (λ (r : Result (List ℕ) StoreError). TellsBlock c.args.file.now c.args.at.now
          (λ (bytes : List ℕ). bytes) r c.print.result
          (sink_change g.K.Sink c.args.sink.now c.print.new.sink)) c.in-Ok.ensures
          (rw (c.as_slice.ensures, append-nil c.in-Ok.block) at c.print.ensures);
      scored = read_scored g.S.Scorer.score_of g.P.Disk.Disk g.N.Link.Link parts dialer c.args.kind
          c.args.score.now.0 c.args.at.now c.use_at-used.result c.use_at-used.ensures.uses;
    }

pub returns-in-Err : goal.returns-in-Err
returns-in-Err g c =
    let parts = parts_change g.P.Parts c.args.parts.now c.use_at-used.new.parts in
    let dialer = dialer_change g.N.Dialer g.N.Link.Link c.args.dialer.now c.use_at-used.new.dialer in
    record {
      used = c.use_at-used.result;
      uses = c.use_at-used.ensures.uses;
      told = subst (λ (r : Result (List ℕ) StoreError). TellsBlock c.args.file.now c.args.at.now
          (λ (bytes : List ℕ). bytes) r (Err c.told_at.result)
          (sink_change g.K.Sink c.args.sink.now c.args.sink.now)) c.in-Err.ensures
          ((c.told_at.result, refl, c.told_at.ensures), refl);
      scored = read_scored g.S.Scorer.score_of g.P.Disk.Disk g.N.Link.Link parts dialer c.args.kind
          c.args.score.now.0 c.args.at.now c.use_at-used.result c.use_at-used.ensures.uses;
    }
