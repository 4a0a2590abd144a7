use Rattle.vt_mount_errors.proofs.NamesTwo.{of_filter_two, of_log_two, of_part_two, of_section_two}
use Rattle.vt_mount_errors.proofs.laws.refusals_name_two.Goals as goal

pub returns-clause-part : goal.returns-clause-part
returns-clause-part c = of_part_two

pub returns-clause-log : goal.returns-clause-log
returns-clause-log c = of_log_two

pub returns-clause-section : goal.returns-clause-section
returns-clause-section c = of_section_two

pub returns-clause-filter : goal.returns-clause-filter
returns-clause-filter c = of_filter_two
