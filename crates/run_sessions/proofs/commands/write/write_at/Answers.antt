-- what came of the use of the store, and what is told of it
use Rattle.std.proofs.Common.{Result, Err, refl, subst}
use Rattle.vt_base.specs.declared.score.Score.{Score}
use Rattle.vt_use.specs.declared.used_at.StoreError.{StoreError}
use Rattle.run_base.specs.Blocks.{TellsBlock}
use Rattle.run_base.specs.Change.{dialer_change, parts_change, sink_change}
use Rattle.run_sessions.specs.Write.{score_line}
use Rattle.run_sessions.proofs.Scored.{written_scored}
use Rattle.run_sessions.proofs.commands.write.write_at.Goals as goal

pub returns-in-Ok : goal.returns-in-Ok
returns-in-Ok g c =
    let parts = parts_change g.P.Parts c.args.parts.now c.use_at-used.new.parts in
    let dialer = dialer_change g.N.Dialer g.N.Link.Link c.args.dialer.now c.use_at-used.new.dialer in
    record {
      used = c.use_at-used.result;
      uses = c.use_at-used.ensures.uses;
      told = subst (λ (r : Result Score StoreError). TellsBlock c.args.file.now c.args.at.now
          score_line r c.print_score.result
          (sink_change g.K.Sink c.args.sink.now c.print_score.new.sink)) c.in-Ok.ensures
          c.print_score.ensures;
      scored = written_scored g.S.Scorer.score_of g.P.Disk.Disk g.N.Link.Link parts dialer c.args.now
          c.args.kind c.args.bytes.now c.args.at.now c.use_at-used.result c.use_at-used.ensures.uses;
    }

pub returns-in-Err : goal.returns-in-Err
returns-in-Err g c =
    let parts = parts_change g.P.Parts c.args.parts.now c.use_at-used.new.parts in
    let dialer = dialer_change g.N.Dialer g.N.Link.Link c.args.dialer.now c.use_at-used.new.dialer in
    record {
      used = c.use_at-used.result;
      uses = c.use_at-used.ensures.uses;
      told = subst (λ (r : Result Score StoreError). TellsBlock c.args.file.now c.args.at.now
          score_line r (Err c.told_at.result)
          (sink_change g.K.Sink c.args.sink.now c.args.sink.now)) c.in-Err.ensures
          ((c.told_at.result, refl, c.told_at.ensures), refl);
      scored = written_scored g.S.Scorer.score_of g.P.Disk.Disk g.N.Link.Link parts dialer c.args.now
          c.args.kind c.args.bytes.now c.args.at.now c.use_at-used.result c.use_at-used.ensures.uses;
    }
