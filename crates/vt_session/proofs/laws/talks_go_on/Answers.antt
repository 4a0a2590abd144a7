use Rattle.vt_session.proofs.Talks.{talk_begins, so_far_longer, talk_behind}
use Rattle.vt_session.proofs.laws.talks_go_on.Goals as goal

pub returns : goal.returns
returns c = record { begins = talk_begins; longer = so_far_longer; behind = talk_behind }
