-- no call of the disk fails, and its head was written
use Rattle.std.proofs.Common.{◌≡◌, ⊎_elim, subst}
use Rattle.vt_isect.specs.declared.error.SectBad.{SectBad}
use Rattle.vt_isect.specs.declared.error.SectBad.TheVariants.{Fault, NoMemory}
use Rattle.vt_isect.specs.Faults.{refuses_by_fault}
use Rattle.vt_base.specs.Faults.{HasRisen}
use Rattle.std.specs.Prelude.{MatchBool}
use Rattle.vt_empty.proofs.Never.{not_risen}
use Rattle.vt_empty.proofs.sections.fresh_section.Goals as goal

pub unreachable-requires-in_default-bad : goal.unreachable-requires-in_default-bad
unreachable-requires-in_default-bad g c =
    let disk = g.D.Disk in
    let made = c.make_section.new.disk in
    let told = c.requires.tells in
    let becomes = c.in-Ok.ensures.formatted in
    let size = c.make_section.ensures.writes.size in
    let head = becomes.head told (disk.bytes made) (g.met.D.Disk.read_is_image made told) in
    let room = subst (λ (n : _). Rattle.std.proofs.Common.◌≤◌ Rattle.vt_isect.specs.declared.TheConstants.LEAST_LEN n) (Rattle.std.proofs.Common.sym size) becomes.room in
    ⊎_elim
    (λ (fault : c.in-Err.bad ≡ Fault). not_risen disk c.requires.never made c.in-Err.field-0-1
    (subst (λ (b : SectBad). MatchBool (refuses_by_fault b) (HasRisen (disk.faults made) (disk.faults c.in-Err.field-0-1)) (disk.faults c.in-Err.field-0-1 ≡ disk.faults made)) fault c.in-Err.ensures.cause))
    (λ (none : c.in-Err.bad ≡ NoMemory). c.in_default-bad.not-NoMemory none)
    (c.in-Err.ensures.all_are_found _ _ told room head)
