-- what became of the index is told
use Rattle.std.proofs.Common.{refl, Ok, Err}
use Rattle.vt_maintain.specs.declared.error.MaintainError.TheVariants.{Unopened, Ended}
use Rattle.run_stores.proofs.commands.buildindex.rebuild_conf.Goals as goal

pub returns-in-Ok : goal.returns-in-Ok
returns-in-Ok g c = record {
  result = Ok c.in-Ok.blocks;
  uses = c.in-Ok.ensures.uses;
  differs = c.in-Ok.ensures.differs;
  told = c.print_blocks.ensures;
}

pub returns-in-Err-Unopened : goal.returns-in-Err-Unopened
returns-in-Err-Unopened g c =
    let ensures = rw c.in-Err-Unopened.field-0-is at c.in-Err-Unopened.ensures in
    record {
      result = Err (Unopened c.in-Err-Unopened.bad);
      uses = ensures.uses;
      differs = ensures.differs;
      told = ((c.told_on.result, refl, c.told_on.ensures), refl);
    }

pub returns-in-Err-Ended : goal.returns-in-Err-Ended
returns-in-Err-Ended g c =
    let ensures = rw c.in-Err-Ended.field-0-is at c.in-Err-Ended.ensures in
    record {
      result = Err (Ended c.in-Err-Ended.bad);
      uses = ensures.uses;
      differs = ensures.differs;
      told = ((c.rebuild_failure.result, refl, c.rebuild_failure.ensures), refl);
    }
