use Rattle.std.proofs.Common.{[], ◌∷◌, inr, sym, subst}
use Rattle.vt_core.specs.declared.event.Out.{Out}
use Rattle.vt_core.specs.Saving.{CallsDevice}
use Rattle.vt_core.specs.Work.{out_of_save}
use Rattle.vt_core.proofs.FilterWork.{begun_made, calls_begun, rests_soundly, save_calls, save_soundly}
use Rattle.vt_core.proofs.advancing.advance_save.Goals as goal

pub returns-then-not-begin_save-clause-sound : goal.returns-then-not-begin_save-clause-sound
returns-then-not-begin_save-clause-sound g c =
    rests_soundly g.D.Disk c.args.bits.now c.args.durable c.args.bloom.now c.begin_save.new.bloom (c.begin_save.ensures.done c.if-not-begin_save.true).1 c.crash_gives_old_or_new.ensures.covered

pub returns-clause-saves : goal.returns-clause-saves
returns-clause-saves g c = inr (record {
  begun = c.begin_save.new.bloom;
  answer = c.advance-answer.result;
  begins = c.begin_save.ensures.begun c.if-not-begin_save.false;
  made = begun_made c.args.bits.now c.args.durable c.args.bloom.now c.begin_save.new.bloom (c.begin_save.ensures.begun c.if-not-begin_save.false) c.requires.made;
  advances = c.advance-answer.ensures.steps;
  done = c.advance-answer.ensures.done;
  stopped = c.advance-answer.ensures.stopped;
  out_is = c.out_of_save.ensures;
})

pub returns-clause-sound : goal.returns-clause-sound
returns-clause-sound g c =
    save_soundly g.D.Disk c.args.bits.now c.args.durable c.args.bloom.now c.begin_save.new.bloom c.advance-answer.new.self c.advance-answer.result
    (c.begin_save.ensures.begun c.if-not-begin_save.false) (c.begin_save.ensures.under_way c.if-not-begin_save.false) c.begin_save.ensures.sound
    c.advance-answer.ensures.sound c.advance-answer.ensures.covered

pub returns-clause-calls : goal.returns-clause-calls
returns-clause-calls g c =
    subst (λ (o : Out). CallsDevice g.D.Disk o (c.args.bloom.now.disk ∷ []) (c.advance-answer.new.self.disk ∷ [])) (sym c.out_of_save.ensures)
    (calls_begun g.D.Disk c.args.bits.now c.args.durable (out_of_save c.advance-answer.result) c.args.bloom.now c.begin_save.new.bloom (c.advance-answer.new.self.disk ∷ [])
    (c.begin_save.ensures.begun c.if-not-begin_save.false)
    (save_calls g.D.Disk c.begin_save.new.bloom c.advance-answer.new.self c.advance-answer.result c.advance-answer.ensures.stopped
    (λ goes. (c.advance-answer.ensures.makes goes).calls)
    c.advance-answer.ensures.untouched c.advance-answer.ensures.faults c.advance-answer.ensures.within.size))
