use Rattle.vt_isect.specs.View.{state_of}
use Rattle.vt_isect.proofs.Follows.{fault_of}
use Rattle.vt_isect.proofs.GroupCalls.{step_goes, step_stops}
use Rattle.vt_isect.proofs.section.Section.change_group.Goals as goal

pub returns-in_err-make_next : goal.returns-in_err-make_next
returns-in_err-make_next g c =
    let s = c.self.inside in
    let phase = rw (← c.self.view_is) at c.requires.phase in
    let goes = rw (← c.self.view_is) at c.requires.goes in
    let is = fault_of c.from_residual.result c.from_residual.ensures.1 in
    rw (← is, ← c.self.view_is)
    (step_stops g.D.Disk (state_of s) _ _ _ c.self.invariant phase goes (g.met.D.Disk.read_is_image s.disk) (λ told. (g.met.D.Disk.images_fit _ _ (g.met.D.Disk.read_is_image s.disk told)).0)
    c.make_next.new.self _ (rw (← c.self.view_is) at c.in_err-make_next.ensures))

pub returns : goal.returns
returns g c =
    let s = c.self.inside in
    let phase = rw (← c.self.view_is) at c.requires.phase in
    let goes = rw (← c.self.view_is) at c.requires.goes in
    rw (← c.self.view_is)
    (step_goes g.D.Disk (state_of s) _ _ _ c.self.invariant phase goes (g.met.D.Disk.read_is_image s.disk) (λ told. (g.met.D.Disk.images_fit _ _ (g.met.D.Disk.read_is_image s.disk told)).0)
    c.make_next.new.self tt (rw (← c.self.view_is) at c.in_ok-make_next.ensures) c.come_next.new.self c.come_next.ensures)
