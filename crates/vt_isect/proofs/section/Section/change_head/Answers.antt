use Rattle.std.proofs.Common.{refl}
use Rattle.vt_isect.specs.View.{state_of}
use Rattle.vt_isect.proofs.HeadCalls.{head_ends, head_more, head_stops}
use Rattle.vt_isect.proofs.section.Section.change_head.Goals as goal

pub returns-in-Err : goal.returns-in-Err
returns-in-Err g c =
    let s = c.self.inside in
    let phase = rw (← c.self.view_is) at c.requires.phase in
    let goes = rw (← c.self.view_is) at c.requires.goes in
    rw (← c.self.view_is)
    (head_stops g.D.Disk (state_of s) _ _ _ c.self.invariant phase goes c.advance.new.disk c.advance.new.self c.advance.new.calls.made c.advance.new.calls.stopped (rw c.head_place.ensures at c.advance.ensures.within) c.advance.ensures.len _
    (rw c.head_place.ensures at (c.in-Err.ensures.makes goes)) (c.in-Err.ensures.steps goes) (λ old told it. rw c.head_place.ensures at (c.in-Err.ensures.sound old told (rw c.head_place.ensures it))))

pub returns-in-Ok-More : goal.returns-in-Ok-More
returns-in-Ok-More g c =
    let s = c.self.inside in
    let phase = rw (← c.self.view_is) at c.requires.phase in
    let goes = rw (← c.self.view_is) at c.requires.goes in
    rw (← c.self.view_is)
    (head_more g.D.Disk (state_of s) _ _ _ c.self.invariant phase goes c.advance.new.disk c.advance.new.self c.advance.new.calls.made c.advance.new.calls.stopped (rw c.head_place.ensures at c.advance.ensures.within) c.advance.ensures.len
    (rw (c.in-Ok-More.field-0-is, c.head_place.ensures) at (c.in-Ok-More.ensures.makes goes)) (rw c.in-Ok-More.field-0-is at (c.in-Ok-More.ensures.steps goes))
    (λ old told it. rw (c.in-Ok-More.field-0-is, c.head_place.ensures) at (c.in-Ok-More.ensures.sound old told (rw c.head_place.ensures it)))
    (λ three. let e = (rw c.in-Ok-More.field-0-is at c.in-Ok-More.ensures.done).1 three in cc))

pub returns-in-Ok-Done : goal.returns-in-Ok-Done
returns-in-Ok-Done g c =
    let s = c.self.inside in
    let phase = rw (← c.self.view_is) at c.requires.phase in
    let goes = rw (← c.self.view_is) at c.requires.goes in
    rw (c.idle.ensures.same, ← c.self.view_is)
    (head_ends g.D.Disk (state_of s) _ _ _ c.self.invariant phase goes c.advance.new.disk c.advance.new.self c.advance.new.calls.made c.advance.new.calls.stopped (rw c.head_place.ensures at c.advance.ensures.within) c.advance.ensures.len
    (rw (c.in-Ok-Done.field-0-is, c.head_place.ensures) at (c.in-Ok-Done.ensures.makes goes)) (rw c.in-Ok-Done.field-0-is at (c.in-Ok-Done.ensures.steps goes))
    (λ old told it. rw (c.in-Ok-Done.field-0-is, c.head_place.ensures) at (c.in-Ok-Done.ensures.sound old told (rw c.head_place.ensures it)))
    ((rw c.in-Ok-Done.field-0-is at c.in-Ok-Done.ensures.done).0 refl))
