use Rattle.vt_wire.proofs.Texts.{why_fits, rule_fits}
use Rattle.vt_wire.proofs.laws.texts_fit.Goals as goal

pub returns-clause-why : goal.returns-clause-why
returns-clause-why c = why_fits

pub returns-clause-rule : goal.returns-clause-rule
returns-clause-rule c = rule_fits
