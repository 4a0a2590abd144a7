-- the lines of what was left out, and then the line of the archive
use Rattle.run_archives.specs.Skipped.{left_out_lines}
use Rattle.run_base.proofs.SaidBefore.{said_as}
use Rattle.run_archives.proofs.commands.vac.tell.Goals as goal

pub returns-clause-said : goal.returns-clause-said
returns-clause-said g c =
    let x = c.tell_left_out-said.ensures in
    said_as g.F.Sink c.args.fault_sink.now c.tell_left_out-said.new.sink
    (left_out_lines c.args.archived.now) c.tell_left_out-said.result x.appended x.failed x.cause
