-- what was served of the store, or why it wasn't used
use Rattle.std.proofs.Common.{◌≡◌, false, Result, Ok, Err, refl}
use Rattle.std.proofs.lemmas.Result.{on_err_weaker}
use Rattle.std.specs.Prelude.{OnErr}
use Rattle.vt_use.specs.Change.{dialer_change, parts_change}
use Rattle.vt_use.proofs.Narrower.{told_beside, uses_less}
use Rattle.vac_read.specs.declared.error.VacBad.{VacBad}
use Rattle.nine_view.specs.declared.serving.Served.{Served}
use Rattle.vac_view.specs.Viewing.{ViewsBy}
use Rattle.run_base.specs.Change.{sink_change, source_change}
use Rattle.run_archives.specs.Viewed.{passed_over}
use Rattle.run_archives.proofs.commands.vacfs.view_at.Goals as goal

pub returns-in-Ok : goal.returns-in-Ok
returns-in-Ok g c =
    let score = g.S.Scorer.score_of in
    let disk = g.P.Disk.Disk in
    let link = g.N.Link.Link in
    let before = c.args.streams.now in
    let after = c.use_at.new.beside in
    let passed = passed_over (source_change g.R.Source before.source after.source)
    (sink_change g.K.Sink before.sink after.sink) in
    let parts = parts_change g.P.Parts c.args.parts.now c.use_at.new.parts in
    let dialer = dialer_change g.N.Dialer link c.args.dialer.now c.use_at.new.dialer in
    record {
      used = Ok c.in-Ok.used;
      uses = uses_less score disk link 0 false parts dialer c.args.at.now _
          (λ result S act holds calls from to.
          ViewsBy act holds score c.args.score.now.0 passed result calls from to)
          (λ result S act holds calls from to does. does.0) (Ok c.in-Ok.used) c.in-Ok.ensures.uses;
      told = (
        c.outcome_of_view.ensures,
        on_err_weaker c.in-Ok.used.output (λ same. record { unread = cc; unwritten = cc })
            (told_beside score disk link 0 false parts dialer c.args.at.now _
            (λ (output : Result Served VacBad). OnErr output (after ≡ before))
            (λ result S act holds calls from to does. does.1) (Ok c.in-Ok.used)
            c.in-Ok.ensures.uses),
      );
    }

pub returns-in-Err : goal.returns-in-Err
returns-in-Err g c =
    let score = g.S.Scorer.score_of in
    let disk = g.P.Disk.Disk in
    let link = g.N.Link.Link in
    let before = c.args.streams.now in
    let after = c.use_at.new.beside in
    let passed = passed_over (source_change g.R.Source before.source after.source)
    (sink_change g.K.Sink before.sink after.sink) in
    let parts = parts_change g.P.Parts c.args.parts.now c.use_at.new.parts in
    let dialer = dialer_change g.N.Dialer link c.args.dialer.now c.use_at.new.dialer in
    let same : after ≡ before = c.in-Err.ensures.untouched in
    record {
      used = Err c.in-Err.bad;
      uses = uses_less score disk link 0 false parts dialer c.args.at.now _
          (λ result S act holds calls from to.
          ViewsBy act holds score c.args.score.now.0 passed result calls from to)
          (λ result S act holds calls from to does. does.0) (Err c.in-Err.bad) c.in-Err.ensures.uses;
      told = (
        (c.told_at.result, refl, c.told_at.ensures),
        record { unread = cc; unwritten = cc },
      );
    }
