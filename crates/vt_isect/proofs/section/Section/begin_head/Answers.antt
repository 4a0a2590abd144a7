use Rattle.std.proofs.Common.{refl}
use Rattle.vt_isect.proofs.BeginsBehind.{agrees_begins}
use Rattle.vt_isect.proofs.Heads.{frame_has}
use Rattle.vt_isect.proofs.IsSoundSection.{head_begins}
use Rattle.vt_isect.proofs.section.Section.begin_head.Goals as goal

pub returns-clause-sound : goal.returns-clause-sound
returns-clause-sound g c known told sound =
    let phase = rw (← c.self.view_is) at c.requires.rest in
    rw (c.begin_next.ensures.same, ← c.self.view_is)
    (head_begins _ _ _ known _ _ refl refl refl refl phase refl (frame_has _ _ c.begin_next.ensures.fits c.self.invariant.name_len) (λ none. none) (rw (← c.self.view_is) at sound))

pub returns-clause-agrees : goal.returns-clause-agrees
returns-clause-agrees g c score setup h known agrees first total cover =
    rw c.begin_next.ensures.same
    (agrees_begins score setup h c.args.self.now _ _ known agrees first total cover)
