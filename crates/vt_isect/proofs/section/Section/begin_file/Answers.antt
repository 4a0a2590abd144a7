use Rattle.std.proofs.Common.{◌≡◌, ◌≤◌, ℕ, ◌+◌, ◌*◌, ◌%◌, Option, refl, sym, ⊎_elim, ap, subst}
use Rattle.std.specs.List.{Contains}
use Rattle.std.proofs.lemmas.List.Sorted.{Contains-permutation, IsPermutation-sym, length_permutation}
use Rattle.vt_base.specs.declared.place.Entry.{Entry}
use Rattle.vt_isect.specs.Entries.{EntriesState, Orders}
use Rattle.vt_isect.specs.Section.{PutsEntries}
use Rattle.vt_isect.specs.Sound.{IsSoundSection, StillNames}
use Rattle.vt_isect.specs.Writeback.{calls_left}
use Rattle.vt_isect.specs.View.{state_of}
use Rattle.vt_isect.proofs.BeginsBehind.{begins_of, file_agrees, file_sound}
use Rattle.vt_isect.proofs.IsCovered.{file_covers}
use Rattle.vt_isect.proofs.CallsLeft.{begun_left}
use Rattle.vt_isect.proofs.Follows.{covers_more}
use Rattle.vt_isect.proofs.section.Section.begin_file.Goals as goal

-- an entry is among them in either order
given : (total : ℕ) (behind : Option ℕ) (old new : EntriesState) → Orders total behind old new → (entry : Entry) → Contains new.items entry → Contains old.items entry
given total behind old new orders entry has = Contains-permutation new.items old.items entry (IsPermutation-sym old.items new.items orders.same) has

taken : (total : ℕ) (behind : Option ℕ) (old new : EntriesState) → Orders total behind old new → (entry : Entry) → Contains old.items entry → Contains new.items entry
taken total behind old new orders entry has = Contains-permutation old.items new.items entry orders.same has

pub go_on-requires-clause-in_range : goal.go_on-requires-clause-in_range
go_on-requires-clause-in_range g c entry has =
    (rw (← c.self.view_is) at c.requires.in_range) entry (given _ _ _ _ c.order.ensures entry has)

pub returns-clause-sound : goal.returns-clause-sound
returns-clause-sound g c known told sound =
    let s = c.self.inside in
    let t = state_of s in
    let phase = rw (← c.self.view_is) at c.requires.rest in
    let disk : c.go_on.new.self.disk ≡ s.disk = ⊎_elim (λ e. ap (λ x. x.disk) e.1) (λ e. ap (λ x. x.disk) e) c.go_on.ensures.same in
    subst (λ (d : g.row.D.Denot). IsSoundSection c.go_on.new.self known (g.D.Disk.bytes d) (g.D.Disk.images d)) (sym disk)
    (file_sound t c.args.mark c.order.new.self c.go_on.new.self known (g.D.Disk.bytes s.disk) (g.D.Disk.images s.disk) phase (c.self.invariant.alone (λ puts. subst PutsEntries phase puts)) c.self.invariant.name_len c.ranges.mark.fits (begins_of t c.args.mark _ c.order.new.self c.go_on.new.self c.go_on.ensures.same)
    (λ k is. subst (λ (d : g.row.D.Denot). StillNames c.go_on.new.self (k % 2) (g.D.Disk.bytes d)) disk (c.go_on.ensures.named k told is)) (rw (← c.self.view_is) at sound))

pub returns-clause-agrees : goal.returns-clause-agrees
returns-clause-agrees g c score setup h known agrees of cover =
    let s = c.self.inside in
    let t = state_of s in
    file_agrees score setup h t c.args.mark c.order.new.self c.go_on.new.self known c.go_on.ensures.begins (begins_of t c.args.mark _ c.order.new.self c.go_on.new.self c.go_on.ensures.same)
    (rw (← c.self.view_is) at agrees) (λ entry has. of entry (given _ _ _ _ c.order.ensures entry has))
    (λ live. covers_more score setup h t t known (Contains c.args.entries.items) (Contains c.order.new.self.items) c.args.mark refl refl
    (λ entry has. taken _ _ _ _ c.order.ensures entry has) ((rw (← c.self.view_is) at cover) live))

pub returns-clause-left : goal.returns-clause-left
returns-clause-left g c = subst (λ (n : ℕ). calls_left c.go_on.new.self ≤ 6 * n + 4) (length_permutation _ _ c.order.ensures.same)
    (begun_left c.go_on.new.self c.order.new.self c.go_on.ensures.begins
    (⊎_elim (λ e. ap (λ x. x.entries) e.1) (λ e. ap (λ x. x.entries) e) c.go_on.ensures.same))

pub returns-clause-covers : goal.returns-clause-covers
returns-clause-covers g c score setup h known covered cover =
    let s = c.self.inside in
    let t = state_of s in
    file_covers score setup h t c.args.mark c.order.new.self c.go_on.new.self known covered
    c.go_on.ensures.begins (begins_of t c.args.mark _ c.order.new.self c.go_on.new.self c.go_on.ensures.same)
    (covers_more score setup h t t known (Contains c.args.entries.items) (Contains c.order.new.self.items) covered refl refl
    (λ entry has. taken _ _ _ _ c.order.ensures entry has) (rw (← c.self.view_is) at cover))
