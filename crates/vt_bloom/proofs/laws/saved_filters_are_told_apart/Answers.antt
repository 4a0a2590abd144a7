use Rattle.vt_bloom.proofs.Frames.{frame_unique, saved_unique, writes_frames}
use Rattle.vt_bloom.proofs.laws.saved_filters_are_told_apart.Goals as goal

pub returns-clause-one : goal.returns-clause-one
returns-clause-one c = frame_unique

pub returns-clause-one_saved : goal.returns-clause-one_saved
returns-clause-one_saved c = saved_unique

pub returns-clause-written : goal.returns-clause-written
returns-clause-written c = writes_frames
