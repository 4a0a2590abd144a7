use Rattle.std.proofs.Common.{◌≡◌, ◌-◌, ◌<◌, ℕ, List, Option, Some, None, Result, Ok, Err, length, length-set, get_or, refl, sym, ap, ◌∙◌, subst, arith}
use Rattle.std.specs.Prelude.{slice_get, IsErr}
use Rattle.std.proofs.lemmas.List.{length-replicate}
use Rattle.std.proofs.lemmas.Option.{slice_get-get_or}
use Rattle.vt_base.specs.declared.why.Failed.{Failed}
use Rattle.vt_isect.specs.declared.groups.Member.{Member}
use Rattle.vt_isect.specs.declared.phase.Phase.TheVariants.{WriteSelector}
use Rattle.vt_isect.specs.Layout.{bucket_place, InRange}
use Rattle.vt_isect.specs.Section.{SectionState, PutsEntries}
use Rattle.vt_isect.specs.View.{state_of}
use Rattle.vt_isect.proofs.Members.{Groups, well_called}
use Rattle.vt_isect.proofs.Places.{is_place, place_room}
use Rattle.vt_isect.proofs.Remembers.{selector_forgets, selector_learns, set_twice}
use Rattle.vt_isect.proofs.section.Section.write_selector.Goals as goal

-- the member is one of the section's buckets
its : {D : Type 0} (t : SectionState D) (j : ℕ) (m : Member) → Groups t → t.phase ≡ WriteSelector j → m ≡ get_or t.group j m
    → (slice_get t.group j ≡ Some m) × InRange t.head t.buckets m.bucket × (m.current < 2)
its t j m groups phase is =
    let group = groups (subst PutsEntries (sym phase) tt) in
    let low = group.selector j phase in
    let it = group.members m (j, low, sym is) in
    (slice_get-get_or t.group j m low ∙ ap (λ (x : Member). Some x) (sym is), it.0, it.1)

-- a failure passed on is one
same_failed : (failed : Failed) (r : Result Unit Failed) → IsErr r → Err failed ≡ r
same_failed failed (Ok value) is = absurd (cc)
same_failed failed (Err other) is = refl

pub overflow_sub-current : goal.overflow_sub-current
overflow_sub-current g c =
    let phase = rw (← c.self.view_is) at c.requires.phase in
    let it = its (state_of c.self.inside) c.args.member c.index.result.now c.self.invariant.group phase c.index.ensures in
    omega (arith, it.2)

pub overflow_sub-current-2 : goal.overflow_sub-current-2
overflow_sub-current-2 g c =
    let phase = rw (← c.self.view_is) at c.requires.phase in
    let it = its (state_of c.self.inside) c.args.member c.index.result.now c.self.invariant.group phase c.index.ensures in
    omega (arith, it.2)

pub overflow_sub-index : goal.overflow_sub-index
overflow_sub-index g c =
    let phase = rw (← c.self.view_is) at c.requires.phase in
    let it = its (state_of c.self.inside) c.args.member c.index.result.now c.self.invariant.group phase c.index.ensures in
    it.1.0

pub forget-requires : goal.forget-requires
forget-requires g c =
    let phase = rw (← c.self.view_is) at c.requires.phase in
    let it = its (state_of c.self.inside) c.args.member c.index.result.now c.self.invariant.group phase c.index.ensures in
    omega (arith, it.1.0, it.1.1, c.self.invariant.remembers.each)

pub make-requires-clause-fits : goal.make-requires-clause-fits
make-requires-clause-fits g c =
    let s = c.self.inside in
    let m = c.index.result.now in
    let phase = rw (← c.self.view_is) at c.requires.phase in
    let it = its (state_of s) c.args.member m c.self.invariant.group phase c.index.ensures in
    let at = m.bucket - s.head.first in
    let within = (place_room 8192 (g.D.Disk.size s.disk) s.buckets s.head m.bucket (bucket_place at) refl c.self.invariant.room it.1 (is_place at)).within in
    rw (c.selector_write.ensures, c.selector_naming-selector.ensures) (omega (arith, within, length-replicate {A = ℕ} 511 0))

pub put-requires-clause-bucket : goal.put-requires-clause-bucket
put-requires-clause-bucket g c =
    let s = c.self.inside in
    let phase = rw (← c.self.view_is) at c.requires.phase in
    let it = its (state_of s) c.args.member c.index.result.now c.self.invariant.group phase c.index.ensures in
    omega (arith, it.1.0, it.1.1, c.self.invariant.remembers.each, ap (λ (l : List (Option ℕ)). length l) c.forget.ensures, length-set s.frames (c.index.result.now.bucket - s.head.first) None)

pub invariant_of-self : goal.invariant_of-self
invariant_of-self g c =
    let s = c.self.inside in
    let m = c.index.result.now in
    let phase = rw (← c.self.view_is) at c.requires.phase in
    let goes = rw (← c.self.view_is) at c.requires.goes in
    let at = m.bucket - s.head.first in
    let wrote = (rw (c.selector_write.ensures, c.selector_naming-selector.ensures) at c.make.ensures).writes in
    rw (wrote.size, c.forget.ensures)
    (well_called g.D.Disk (state_of s) (subst PutsEntries (sym phase) tt) goes c.self.invariant.frame_len
    (selector_forgets g.D.Disk s.disk c.make.new.disk s.buckets s.frames at (bucket_place at) (is_place at) (1 - m.current) wrote c.self.invariant.remembers) c.self.invariant)

pub invariant_of-self-2 : goal.invariant_of-self-2
invariant_of-self-2 g c =
    let s = c.self.inside in
    let m = c.index.result.now in
    let phase = rw (← c.self.view_is) at c.requires.phase in
    let goes = rw (← c.self.view_is) at c.requires.goes in
    let it = its (state_of s) c.args.member m c.self.invariant.group phase c.index.ensures in
    let at = m.bucket - s.head.first in
    let within = (place_room 8192 (g.D.Disk.size s.disk) s.buckets s.head m.bucket (bucket_place at) refl c.self.invariant.room it.1 (is_place at)).within in
    let made = rw (c.selector_write.ensures, c.selector_naming-selector.ensures) at c.in_ok-make.ensures in
    rw (made.writes.size, c.put.ensures, c.forget.ensures, set_twice)
    (well_called g.D.Disk (state_of s) (subst PutsEntries (sym phase) tt) goes c.self.invariant.frame_len
    (selector_learns g.D.Disk s.disk c.make.new.disk s.buckets s.frames at (bucket_place at) (is_place at) (1 - m.current) made.writes c.self.invariant.remembers (omega arith) made.written
    (λ told. omega (arith, within, (g.met.D.Disk.images_fit _ _ (g.met.D.Disk.read_is_image s.disk told)).0))) c.self.invariant)

pub returns-in_err-make : goal.returns-in_err-make
returns-in_err-make g c =
    let s = c.self.inside in
    let phase = rw (← c.self.view_is) at c.requires.phase in
    let it = its (state_of s) c.args.member c.index.result.now c.self.invariant.group phase c.index.ensures in
    let is = same_failed c.in_err-make.field-0.0 c.from_residual.result c.from_residual.ensures.0 in
    rw (← is, ← c.self.view_is) (record { makes = rw (phase, it.0) (rw (c.selector_write.ensures, c.selector_naming-selector.ensures) at c.in_err-make.ensures); same = refl })

pub returns : goal.returns
returns g c =
    let s = c.self.inside in
    let phase = rw (← c.self.view_is) at c.requires.phase in
    let it = its (state_of s) c.args.member c.index.result.now c.self.invariant.group phase c.index.ensures in
    rw (← c.self.view_is) (record { makes = rw (phase, it.0) (rw (c.selector_write.ensures, c.selector_naming-selector.ensures) at c.in_ok-make.ensures); same = refl })
