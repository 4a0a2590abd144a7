use Rattle.vt_bucket.proofs.Frames.{one_frame, accepted, one_fault}
use Rattle.vt_bucket.proofs.laws.frames_are_told_apart.Goals as goal

pub returns-clause-one : goal.returns-clause-one
returns-clause-one c = one_frame

pub returns-clause-accepted : goal.returns-clause-accepted
returns-clause-accepted c = accepted

pub returns-clause-one_fault : goal.returns-clause-one_fault
returns-clause-one_fault c = one_fault
