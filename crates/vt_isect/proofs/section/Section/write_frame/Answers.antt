use Rattle.std.proofs.Common.{◌-◌, refl, sym, subst, arith}
use Rattle.vt_isect.specs.Layout.{bucket_place}
use Rattle.vt_isect.specs.Section.{PutsEntries}
use Rattle.vt_isect.specs.View.{state_of}
use Rattle.vt_isect.proofs.Members.{well_called}
use Rattle.vt_isect.proofs.Places.{is_place}
use Rattle.vt_isect.proofs.Remembers.{frame_remembers}
use Rattle.vt_isect.proofs.section.Section.write_frame.Goals as goal

pub invariant_of-self : goal.invariant_of-self
invariant_of-self g c =
    let s = c.self.inside in
    let phase = rw (← c.self.view_is) at c.requires.phase in
    let goes = rw (← c.self.view_is) at c.requires.goes in
    let wrote = (rw (c.frame_write.ensures, c.deref.ensures.value) at c.make.ensures).writes in
    rw wrote.size (well_called g.D.Disk (state_of s) (subst PutsEntries (sym phase) tt) goes c.self.invariant.frame_len
    (frame_remembers g.D.Disk s.disk c.make.new.disk s.buckets s.frames (s.bucket - s.head.first) (bucket_place (s.bucket - s.head.first)) (1 - c.args.current) s.frame.items c.self.invariant.frame_len
    (omega arith) (is_place (s.bucket - s.head.first)) wrote c.self.invariant.remembers) c.self.invariant)

pub returns : goal.returns
returns g c =
    let s = c.self.inside in
    let phase = rw (← c.self.view_is) at c.requires.phase in
    rw (← c.self.view_is) (record { makes = rw phase (rw (c.frame_write.ensures, c.deref.ensures.value) at c.make.ensures); same = refl })
