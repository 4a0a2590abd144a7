use Rattle.std.proofs.Common.{◌≡◌, ℕ, length, Vec, Global, vec_len, refl, sym, ap, ◌∙◌, subst, arith}
use Rattle.vt_isect.specs.declared.groups.Member.{Member}
use Rattle.vt_isect.specs.declared.phase.Phase.TheVariants.{SyncFrames, WriteSelector}
use Rattle.vt_isect.specs.Section.{HasGroup, PutsEntries}
use Rattle.vt_isect.specs.View.{state_of}
use Rattle.vt_isect.specs.Writeback.{BeginsBehind}
use Rattle.vt_isect.proofs.Keeps.{goes_next}
use Rattle.vt_isect.proofs.Selecting.{IsBehind, behind_whole, behind_within, comes_whole, well_whole}
use Rattle.vt_isect.proofs.section.Section.come_next.Goals as goal

-- in a group of so many
behind : (v : Vec Member Global) (many member : ℕ) (p : _) → many ≡ vec_len v → IsBehind member many p → IsBehind member (length v.items) p
behind v many member p is it = subst (λ (n : ℕ). IsBehind member n p) (let e : many ≡ length v.items = omega (arith, is, v.ok.0) in e) it

index_is : (a b : ℕ) → WriteSelector a ≡ WriteSelector b → a ≡ b
index_is a b is = cc

pub invariant_of-self : goal.invariant_of-self
invariant_of-self g c =
    let goes = rw (← c.self.view_is) at c.requires.goes in
    let is = c.in-SyncFrames.is in
    let group = c.self.invariant.group (subst PutsEntries (sym is) tt) in
    well_whole g.D.Disk (state_of c.self.inside) (subst HasGroup (sym is) tt) tt (λ k e. omega (arith, index_is 0 k e, (group.whole (subst HasGroup (sym is) tt)).0)) goes c.self.invariant

pub invariant_of-self-in-WriteSelector : goal.invariant_of-self-in-WriteSelector
invariant_of-self-in-WriteSelector g c =
    let s = c.self.inside in
    let goes = rw (← c.self.view_is) at c.requires.goes in
    let p = c.behind_selector-self-inside.result in
    let at = behind s.group c.len.result c.in-WriteSelector.member p c.len.ensures c.behind_selector-self-inside.ensures in
    well_whole g.D.Disk (state_of s) (subst HasGroup (sym c.in-WriteSelector.is) tt) (behind_whole _ _ p at) (behind_within _ _ p at) goes c.self.invariant

pub returns-in-SyncFrames : goal.returns-in-SyncFrames
returns-in-SyncFrames g c = rw (← c.self.view_is)
    (comes_whole g.D.Disk (state_of c.self.inside) SyncFrames (WriteSelector 0) c.in-SyncFrames.is tt (refl, record { written = refl; framed = refl; begun = refl; bucket = refl; group = refl }))

pub returns-in-WriteSelector : goal.returns-in-WriteSelector
returns-in-WriteSelector g c =
    let s = c.self.inside in
    let p = c.behind_selector-self-inside.result in
    let at = behind s.group c.len.result c.in-WriteSelector.member p c.len.ensures c.behind_selector-self-inside.ensures in
    rw (← c.self.view_is)
    (comes_whole g.D.Disk (state_of s) (WriteSelector c.in-WriteSelector.member) p c.in-WriteSelector.is (behind_whole _ _ p at) (record { written = refl; framed = refl; begun = refl; bucket = refl; group = refl }, at))

pub go_on-requires-clause-in_range : goal.go_on-requires-clause-in_range
go_on-requires-clause-in_range g c = rw (c.end.ensures, ← c.self.view_is) (c.self.invariant.group (subst PutsEntries (sym c.in-SyncSelectors.is) tt)).in_range

pub returns-in-SyncSelectors : goal.returns-in-SyncSelectors
returns-in-SyncSelectors g c =
    let s = c.self.inside in
    let t = state_of s in
    let v = c.go_on-in-SyncSelectors.new.self in
    let from : c.go_on.inside.begun ≡ s.begun = ap (λ x. x.begun) (c.go_on.view_is ∙ c.end.ensures) ∙ ap (λ x. x.begun) (sym c.self.view_is) in
    rw (← c.self.view_is)
    (goes_next g.D.Disk t v c.in-SyncSelectors.is (subst (λ (k : ℕ). BeginsBehind k v) from c.go_on-in-SyncSelectors.ensures.begins) (rw (from, c.end.ensures, ← c.self.view_is) at c.go_on-in-SyncSelectors.ensures.same)
    c.go_on-in-SyncSelectors.ensures.fits c.go_on-in-SyncSelectors.ensures.named)
