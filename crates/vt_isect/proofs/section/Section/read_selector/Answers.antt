use Rattle.std.proofs.Common.{◌-◌, refl, sym, subst}
use Rattle.vt_isect.specs.declared.error.ShardErr.TheVariants.{Fault}
use Rattle.vt_isect.specs.declared.phase.Phase.TheVariants.{ReadSelector, ReadFrame}
use Rattle.vt_isect.specs.Section.{HasBucket, PutsEntries}
use Rattle.vt_isect.specs.View.{state_of}
use Rattle.vt_isect.specs.Writeback.{NextCallReads}
use Rattle.vt_isect.proofs.Follows.{selector_read}
use Rattle.vt_isect.proofs.Members.{well_called, well_moves}
use Rattle.vt_isect.proofs.ReadCalls.{read_ends, read_goes}
use Rattle.vt_isect.proofs.Remembers.{reads, remembers_same}
use Rattle.vt_isect.proofs.section.Section.read_selector.Goals as goal

pub invariant_of-self : goal.invariant_of-self
invariant_of-self g c =
    let s = c.self.inside in
    let phase = rw (← c.self.view_is) at c.requires.phase in
    let goes = rw (← c.self.view_is) at c.requires.goes in
    rw (c.read.ensures.reads.size, c.in-Ok.ensures.remembers)
    (well_moves g.D.Disk (state_of s) (subst PutsEntries (sym phase) tt) tt (λ has. subst HasBucket (sym phase) tt) (λ has. absurd has) (λ k e. cc) (λ k e. cc) goes c.self.invariant.frame_len
    (reads g.D.Disk s.disk c.read.new.disk s.buckets s.frames (s.bucket - s.head.first) c.bucket_place.result c.in-Ok.number c.bucket_place.ensures.place c.read.ensures.reads.bytes
    (λ told. sym (c.in-Ok.ensures.named told)) c.self.invariant.remembers) c.self.invariant)

pub invariant_of-self-in-Err : goal.invariant_of-self-in-Err
invariant_of-self-in-Err g c =
    let phase = rw (← c.self.view_is) at c.requires.phase in
    let goes = rw (← c.self.view_is) at c.requires.goes in
    rw (c.read.ensures.reads.size, c.in-Err.ensures.failed)
    (well_called g.D.Disk (state_of c.self.inside) (subst PutsEntries (sym phase) tt) goes c.self.invariant.frame_len
    (remembers_same g.D.Disk _ _ _ _ c.read.ensures.reads.bytes c.self.invariant.remembers) c.self.invariant)

pub returns-in-Ok : goal.returns-in-Ok
returns-in-Ok g c =
    let s = c.self.inside in
    let phase = rw (← c.self.view_is) at c.requires.phase in
    let goes = rw (← c.self.view_is) at c.requires.goes in
    rw (c.count.ensures, ← c.self.view_is)
    (read_goes g.D.Disk (state_of s) (subst NextCallReads (sym phase) tt) goes c.read.new.disk c.in-Ok.ensures.reads c.in-Ok.ensures.calls ReadSelector (ReadFrame c.in-Ok.number) s.frame.items phase tt (λ j. refl)
    ((c.in-Ok.number, refl), record { written = refl; framed = refl; begun = refl; bucket = refl; group = refl }) c.in-Ok.ensures.cause
    (λ told k e region place. selector_read c.in-Ok.number k (s.bucket - s.head.first) _ c.bucket_place.result region c.bucket_place.ensures.place place c.in-Ok.ensures.bound (c.in-Ok.ensures.named told) e)
    (λ told known sound k e. absurd (cc)))

pub returns-in-Err : goal.returns-in-Err
returns-in-Err g c =
    let s = c.self.inside in
    let phase = rw (← c.self.view_is) at c.requires.phase in
    let goes = rw (← c.self.view_is) at c.requires.goes in
    rw (c.end.ensures, c.count.ensures, ← c.self.view_is)
    (read_ends g.D.Disk (state_of s) (subst NextCallReads (sym phase) tt) goes c.read.new.disk c.in-Err.ensures.reads c.in-Err.ensures.calls Fault s.frame.items c.in-Err.ensures.cause (λ no. absurd (no refl)) (λ n e. cc))
