-- what became of the sections is told
use Rattle.std.proofs.Common.{refl, Ok, Err}
use Rattle.run_stores.proofs.commands.fmtindex.index_conf.Goals as goal

pub returns-in-Ok : goal.returns-in-Ok
returns-in-Ok g c =
    let it = c.in-Ok.ensures in
    record {
      result = Ok c.in-Ok.index;
      formats = record {
        used = it.used;
        sections = it.sections;
        stopped = it.stopped;
        found = it.found;
        differs = it.differs;
        cause = it.cause;
        faults = it.faults;
        back = it.back;
        stays = it.stays;
      };
      told = c.print_index.ensures;
    }

pub returns-in-Err : goal.returns-in-Err
returns-in-Err g c =
    let it = c.in-Err.ensures in
    record {
      result = Err c.in-Err.bad;
      formats = record {
        used = it.used;
        sections = it.sections;
        stopped = it.stopped;
        found = it.found;
        differs = it.differs;
        cause = it.cause;
        faults = it.faults;
        back = it.back;
        stays = it.stays;
      };
      told = ((c.told.result, refl, c.told.ensures), refl);
    }
