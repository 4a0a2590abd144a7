-- the store that was opened, or why none was
use Rattle.std.proofs.Common.{◌∙◌, inl, inr, refl}
use Rattle.run_sessions.proofs.commands.session_conf.serve_conf.Goals as goal

pub returns-in-Ok : goal.returns-in-Ok
returns-in-Ok g c = inr (record {
  opened = c.in-Ok.core;
  during = g.P.Parts.standing c.open_store.new.parts;
  opens = c.in-Ok.ensures.opens;
  serves = c.serve_opened.ensures.serves;
  faults = c.serve_opened.ensures.faults ∙ c.in-Ok.ensures.faults;
})

pub returns-in-Err : goal.returns-in-Err
returns-in-Err g c = inl (record {
  bad = c.in-Err.bad;
  refused = c.in-Err.ensures.refused;
  differs = c.in-Err.ensures.differs;
  failure = c.told.result;
  told = c.told.ensures;
  outcome_is = refl;
  unread = refl;
  unwritten = refl;
})
