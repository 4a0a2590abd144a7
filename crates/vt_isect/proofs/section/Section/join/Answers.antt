use Rattle.std.proofs.Common.{◌-◌, inl, inr, refl, sym, subst, arith}
use Rattle.vt_isect.specs.Layout.{InRange}
use Rattle.vt_isect.specs.Section.{HasBucket, PutsEntries}
use Rattle.vt_isect.specs.View.{state_of}
use Rattle.vt_isect.proofs.IsRead.{read_whole}
use Rattle.vt_isect.proofs.Joining.{joins_next, well_joined}
use Rattle.vt_isect.proofs.Remembers.{first_named}
use Rattle.vt_isect.proofs.section.Section.join.Goals as goal

pub overflow_sub-bucket : goal.overflow_sub-bucket
overflow_sub-bucket g c =
    let s = c.self.inside in
    let phase = rw (← c.self.view_is) at c.requires.phase in
    let group = c.self.invariant.group (subst PutsEntries (sym phase) tt) in
    let first = c.in-Some.ensures.first in
    let it = subst (InRange s.head s.buckets) first.2 (group.in_range first.0 first.1) in
    it.0

pub get-requires : goal.get-requires
get-requires g c =
    let s = c.self.inside in
    let phase = rw (← c.self.view_is) at c.requires.phase in
    let group = c.self.invariant.group (subst PutsEntries (sym phase) tt) in
    let first = c.in-Some.ensures.first in
    let it = subst (InRange s.head s.buckets) first.2 (group.in_range first.0 first.1) in
    omega (arith, it.0, it.1, c.self.invariant.remembers.each)

pub invariant_of-self : goal.invariant_of-self
invariant_of-self g c =
    let s = c.self.inside in
    let phase = rw (← c.self.view_is) at c.requires.phase in
    let goes = rw (← c.self.view_is) at c.requires.goes in
    let group = c.self.invariant.group (subst PutsEntries (sym phase) tt) in
    well_joined g.D.Disk (state_of s) c.args.current phase goes c.in-Ok.ensures.items (inr refl) (omega arith) group.order.2 (omega (arith, c.push.ensures.capacity, c.self.invariant.memory))
    (λ has. absurd has) (λ has. absurd has) (λ has. refl) c.self.invariant

pub invariant_of-self-in-Some : goal.invariant_of-self-in-Some
invariant_of-self-in-Some g c =
    let s = c.self.inside in
    let phase = rw (← c.self.view_is) at c.requires.phase in
    let goes = rw (← c.self.view_is) at c.requires.goes in
    let group = c.self.invariant.group (subst PutsEntries (sym phase) tt) in
    let next = c.in-Some.ensures.next in
    let first = c.in-Some.ensures.first in
    let reads = c.first_read-self-inside.ensures.reads in
    well_joined g.D.Disk (state_of s) c.args.current phase goes c.in-Ok.ensures.items (inl reads) (omega (arith, next.0)) next.1.within (omega (arith, c.push.ensures.capacity, c.self.invariant.memory))
    (λ has. subst (InRange s.head s.buckets) first.2 (group.in_range first.0 first.1))
    (λ has. (next.0, omega (arith, c.in-Ok.ensures.len, c.self.invariant.few, c.if-len-self.false, c.len.ensures, c.push.new.self.ok.0, c.self.inside.group.ok.0, (group.next (subst HasBucket (sym phase) tt)).1), next.1))
    (λ has. absurd (read_whole c.first_read-self-inside.result reads has)) c.self.invariant

pub invariant_of-self-in_default-bucket_behind : goal.invariant_of-self-in_default-bucket_behind
invariant_of-self-in_default-bucket_behind g c =
    let s = c.self.inside in
    let phase = rw (← c.self.view_is) at c.requires.phase in
    let goes = rw (← c.self.view_is) at c.requires.goes in
    let group = c.self.invariant.group (subst PutsEntries (sym phase) tt) in
    well_joined g.D.Disk (state_of s) c.args.current phase goes c.in-Ok.ensures.items (inr refl) (omega arith) group.order.2 (omega (arith, c.push.ensures.capacity, c.self.invariant.memory))
    (λ has. absurd has) (λ has. absurd has) (λ has. refl) c.self.invariant

pub returns-then-len-self : goal.returns-then-len-self
returns-then-len-self g c =
    let phase = rw (← c.self.view_is) at c.requires.phase in
    rw (← c.self.view_is) (joins_next g.D.Disk (state_of c.self.inside) c.args.current phase c.in-Ok.ensures.items (inr refl) (inr (refl, refl, refl, inl (omega (arith, c.len.ensures, c.if-len-self.true, c.push.new.self.ok.0)))) (λ k told e. absurd (cc)))

pub returns-in-Some : goal.returns-in-Some
returns-in-Some g c =
    let s = c.self.inside in
    let phase = rw (← c.self.view_is) at c.requires.phase in
    let group = c.self.invariant.group (subst PutsEntries (sym phase) tt) in
    let next = c.in-Some.ensures.next in
    let reads = c.first_read-self-inside.ensures.reads in
    rw (← c.self.view_is) (joins_next g.D.Disk (state_of s) c.args.current phase c.in-Ok.ensures.items (inl reads)
    (inl (omega (arith, c.in-Ok.ensures.len, (group.next (subst HasBucket (sym phase) tt)).1, c.if-len-self.false, c.len.ensures, c.push.new.self.ok.0, s.group.ok.0), (reads, refl, next.0, next.1)))
    (λ k told is region place. first_named g.D.Disk _ _ _ (c.in-Some.bucket - s.head.first) c.get.result _ k c.get.ensures.number c.get.ensures.bound c.first_read-self-inside.ensures.first is region told place c.self.invariant.remembers))

pub returns-in_default-bucket_behind : goal.returns-in_default-bucket_behind
returns-in_default-bucket_behind g c =
    let s = c.self.inside in
    let phase = rw (← c.self.view_is) at c.requires.phase in
    let group = c.self.invariant.group (subst PutsEntries (sym phase) tt) in
    rw (← c.self.view_is) (joins_next g.D.Disk (state_of s) c.args.current phase c.in-Ok.ensures.items (inr refl) (inr (refl, refl, refl, inr (omega (arith, c.in_default-bucket_behind.ensures.none refl, group.order)))) (λ k told e. absurd (cc)))
