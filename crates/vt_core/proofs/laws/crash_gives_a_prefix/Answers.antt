use Rattle.vt_core.proofs.Combined.{combined, moment_stands}
use Rattle.vt_core.proofs.laws.crash_gives_a_prefix.Goals as goal

pub returns-clause-prefix : goal.returns-clause-prefix
returns-clause-prefix g c = λ score k h files sound left.
    moment_stands g.D.Disk c.crash_gives_a_prefix.ensures c.files_agree.ensures c.crash_gives_old_or_new.ensures.covered c.true_marks_stay.ensures.more score k h sound files left

pub returns-clause-each : goal.returns-clause-each
returns-clause-each g c = λ score k h files n sound sections filter le within tables log.
    combined g.D.Disk c.crash_gives_a_prefix.ensures c.files_agree.ensures c.crash_gives_old_or_new.ensures.covered c.true_marks_stay.ensures.more score k h sound n le within files sections filter tables log
