use Rattle.vt_isect.proofs.OneSection.{one_head, one_section}
use Rattle.vt_isect.proofs.laws.sections_are_told_apart.Goals as goal

pub returns-clause-head : goal.returns-clause-head
returns-clause-head c = one_head

pub returns-clause-entries : goal.returns-clause-entries
returns-clause-entries c = one_section
