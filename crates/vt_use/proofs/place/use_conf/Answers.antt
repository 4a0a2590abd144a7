-- one use of the store, by a job of blocks
use Rattle.vt_use.proofs.place.use_conf.Goals as goal

pub returns-in-Ok-clause-uses : goal.returns-in-Ok-clause-uses
returns-in-Ok-clause-uses g c = record {
  said = c.in-Ok.used.output.1;
  ended = c.in-Ok.used.closed;
  uses = c.in-Ok.ensures.uses;
  faults = c.in-Ok.ensures.faults;
  refusal_is = c.as_refused.ensures;
  closed_is = c.as_ended.ensures;
}
