use Rattle.vt_model.proofs.Buckets.{section_lies, lies_section}
use Rattle.vt_model.proofs.laws.sections_have_ranges.Goals as goal

pub returns : goal.returns
returns c = λ sections i b lt. (section_lies sections i b lt, lies_section sections i b lt)
