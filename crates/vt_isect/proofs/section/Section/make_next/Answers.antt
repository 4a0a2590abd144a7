use Rattle.vt_isect.specs.View.{state_of}
use Rattle.vt_isect.proofs.GroupCalls.{changes_puts}
use Rattle.vt_isect.proofs.Members.{well_called}
use Rattle.vt_isect.proofs.Remembers.{sync_remembers}
use Rattle.vt_isect.proofs.section.Section.make_next.Goals as goal

pub invariant_of-self : goal.invariant_of-self
invariant_of-self g c =
    let s = c.self.inside in
    let changes = rw (← c.self.view_is) at c.requires.phase in
    let goes = rw (← c.self.view_is) at c.requires.goes in
    let wrote = c.make.ensures.writes in
    rw wrote.size (well_called g.D.Disk (state_of s) (changes_puts s.phase changes) goes c.self.invariant.frame_len
    (sync_remembers g.D.Disk s.disk c.make.new.disk s.buckets s.frames wrote c.self.invariant.remembers) c.self.invariant)
