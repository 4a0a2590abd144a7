use Rattle.std.proofs.Common.{inr, sym, ◌∙◌}
use Rattle.vt_arena.proofs.Commits.{none_is}
use Rattle.vt_core.proofs.advancing.begin_save.Goals as goal

pub returns-clause-begun : goal.returns-clause-begun
returns-clause-begun g c = λ _. inr (
  none_is c.args.bloom.now.twin.change (sym c.saving.ensures ∙ c.if-saving.false),
  (λ same. c.if-mark-durable.false (c.mark.ensures ∙ same)),
  c.save.ensures.begun,
)

pub returns-clause-sound : goal.returns-clause-sound
returns-clause-sound g c = λ score h tells covers was. record {
  saved = was.saved;
  coming = record { filter = c.args.bits.now; mark = c.args.durable };
  sound = c.save.ensures.sound was.saved was.coming tells was.sound;
  covers = was.covers;
  coming_covers = λ _. covers;
}
