use Rattle.vt_isect.proofs.LeavesSection.{leaves, head_gives}
use Rattle.vt_isect.proofs.AgreesWith.{leaves_agree}
use Rattle.vt_isect.proofs.laws.images_agree.Goals as goal

pub returns-clause-crash : goal.returns-clause-crash
returns-clause-crash g c = λ t known sound whole first file left. leaves t known _ _ sound file left whole first

pub returns-clause-agrees : goal.returns-clause-agrees
returns-clause-agrees g c = λ score setup h t known sound agrees file left.
    let it = leaves t known _ _ sound file left agrees.whole agrees.same_first in
    (it, leaves_agree score setup h t known agrees file it)

pub returns-clause-head : goal.returns-clause-head
returns-clause-head g c = λ t known sound file left. head_gives t known _ _ sound file left
