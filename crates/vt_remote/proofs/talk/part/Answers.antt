-- the link that is taken back is the one that the goodbye gave
use Rattle.std.proofs.Common.{◌≡◌, subst}
use Rattle.vt_dial.specs.Dialled.{with_back}
use Rattle.vt_remote.proofs.talk.part.Goals as goal

pub returns-clause-parts : goal.returns-clause-parts
returns-clause-parts g c = record {
  parted = c.goodbye.result;
  says = c.goodbye.ensures;
  back = λ told. rw c.link_in.ensures at (c.done.ensures.back told);
}
