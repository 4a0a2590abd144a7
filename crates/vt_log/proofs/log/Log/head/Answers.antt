-- Each arena has its head, room for what that counts, and its region on its disk.
use Rattle.std.proofs.Common.{◌≡◌, length, get_or, refl, sym, ◌∙◌, ap, subst, arith, Some}
use Rattle.std.specs.Prelude.{slice_get}
use Rattle.std.proofs.lemmas.Option.{same_Some, slice_get_read}
use Rattle.vt_arena.specs.declared.head.Found.{Found}
use Rattle.vt_disk.specs.Region.{FitsDisk}
use Rattle.vt_log.specs.Log.{LogState}
use Rattle.vt_log.specs.Whole.{IsOnDisk, IsWholeLog}
use Rattle.vt_log.proofs.Lists.{at_slice}
use Rattle.vt_log.proofs.log.Log.head.Goals as goal

pub returns-clause-stands : goal.returns-clause-stands
returns-clause-stands g c r at =
    let l : LogState _ = c.args.self.now in
    let whole : IsWholeLog g.D.Disk l = subst (IsWholeLog g.D.Disk) c.self.view_is c.self.invariant in
    let found : Found = c.index.result.now in
    let has : slice_get l.heads c.args.arena ≡ Some found =
    slice_get_read l.heads (length l.heads) c.args.arena found refl (omega (arith, c.requires, whole.many))
    (c.index.ensures ∙ ap (λ (m : LogState _). get_or m.heads c.args.arena found) c.self.view_is) in
    whole.heads c.args.arena r found at has

pub returns-clause-fit : goal.returns-clause-fit
returns-clause-fit g c r at = (returns-clause-stands g c r at).fit

pub returns-clause-within : goal.returns-clause-within
returns-clause-within g c r disk at =
    let l : LogState _ = c.args.self.now in
    let whole : IsWholeLog g.D.Disk l = subst (IsWholeLog g.D.Disk) c.self.view_is c.self.invariant in
    let on : IsOnDisk g.D.Disk l.disks r = at_slice (IsOnDisk g.D.Disk l.disks) l.layout c.args.arena r whole.regions at.arena in
    subst (λ (d : _). FitsDisk r.region (g.D.Disk.size d)) (same_Some on.device disk (sym on.has ∙ at.disk_is)) on.region.within
