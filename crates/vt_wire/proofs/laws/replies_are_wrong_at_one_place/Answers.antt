use Rattle.vt_wire.proofs.Awaited.{reply_or_wrong, not_reply_and_wrong, wrong_one}
use Rattle.vt_wire.proofs.laws.replies_are_wrong_at_one_place.Goals as goal

pub returns : goal.returns
returns c = record { some = reply_or_wrong; none = not_reply_and_wrong; one = wrong_one }
