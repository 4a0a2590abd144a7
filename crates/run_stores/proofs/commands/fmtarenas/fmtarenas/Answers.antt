-- why the file's partition was refused
use Rattle.std.proofs.Common.{inr, refl, Err}
use Rattle.vt_format.specs.Arenas.{FormatsArenas}
use Rattle.run_base.specs.Change.{parts_change, sink_change}
use Rattle.run_stores.proofs.FormatCauses.{arenas, of_one_file, refused}
use Rattle.run_stores.proofs.commands.fmtarenas.fmtarenas.Goals as goal

pub refused-requires : goal.refused-requires
refused-requires g c =
    let disk = g.P.Disk.Disk in
    of_one_file disk g.P.Parts.tells c.in_ok-len.len (FormatsArenas disk c.args.name.now c.in_ok-len.size) _ _ _ _ c.in-Err.bad
    (arenas disk c.args.name.now c.in_ok-len.size) c.in-Err.ensures.worked

pub returns-in-Err-clause-does : goal.returns-in-Err-clause-does
returns-in-Err-clause-does g c = inr (
  c.in_ok-len.len,
  c.in_ok-len.size,
  c.in_ok-len.ensures.good,
  record {
    result = Err c.in-Err.bad;
    worked = c.in-Err.ensures.worked;
    others = c.in-Err.ensures.others;
    told = ((c.refused.result, refl, c.refused.ensures), refl);
  },
)

pub returns-in-Err-clause-cause : goal.returns-in-Err-clause-cause
returns-in-Err-clause-cause g c =
    let disk = g.P.Disk.Disk in
    refused disk c.args.file c.in_ok-len.len
    (FormatsArenas disk c.args.name.now c.in_ok-len.size)
    (arenas disk c.args.name.now c.in_ok-len.size)
    (parts_change g.P.Parts c.args.parts.now c.format_arenas.new.parts)
    (sink_change g.K.Sink c.args.sink.now c.args.sink.now) c.in-Err.bad c.refused.result
    c.refused.ensures c.in-Err.ensures.worked
