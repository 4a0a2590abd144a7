-- no score is spelled by a word that isn't read as one
use Rattle.std.proofs.Common.{◌∙◌, ap, subst, sym}
use Rattle.vt_base.specs.ScoreText.{SpellsScore, wrong_place}
use Rattle.run_base.specs.declared.error.CommandError.TheVariants.{BadScore}
use Rattle.run_base.proofs.block.score_in.Goals as goal

pub returns-in-Err-clause-bad : goal.returns-in-Err-clause-bad
returns-in-Err-clause-bad c = (
  λ s spells. c.in-Err.ensures.only s (subst (SpellsScore s) (sym c.as_slice.ensures) spells),
  ap BadScore (c.in-Err.ensures.bad ∙ ap wrong_place c.as_slice.ensures),
)
