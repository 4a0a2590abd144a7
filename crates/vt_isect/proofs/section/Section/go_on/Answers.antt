use Rattle.std.proofs.Common.{◌≡◌, ◌-◌, List, [], length, inl, inr, refl, ap, subst, arith}
use Rattle.std.specs.List.{Contains}
use Rattle.vt_isect.specs.declared.groups.Member.{Member}
use Rattle.vt_isect.specs.Entries.{listed_entries}
use Rattle.vt_isect.specs.Layout.{InRange}
use Rattle.vt_isect.specs.Section.{PutsEntries}
use Rattle.vt_isect.specs.View.{state_of}
use Rattle.vt_isect.proofs.AreNext.{none_written}
use Rattle.vt_isect.proofs.IsRead.{read_frame, read_puts, read_selector, read_whole}
use Rattle.vt_isect.proofs.Members.{well_on}
use Rattle.vt_isect.proofs.Remembers.{first_named}
use Rattle.vt_isect.proofs.section.Section.go_on.Goals as goal

pub overflow_sub-bucket : goal.overflow_sub-bucket
overflow_sub-bucket g c =
    let s = c.self.inside in
    let ranged = rw (← c.self.view_is) at c.requires.in_range in
    let first = c.in-Some.ensures.first in
    let it = subst (InRange s.head s.buckets) first.2 (ranged first.0 first.1) in
    it.0

pub get-requires : goal.get-requires
get-requires g c =
    let s = c.self.inside in
    let ranged = rw (← c.self.view_is) at c.requires.in_range in
    let first = c.in-Some.ensures.first in
    let it = subst (InRange s.head s.buckets) first.2 (ranged first.0 first.1) in
    omega (arith, it.0, it.1, c.self.invariant.remembers.each)

pub invariant_of-self : goal.invariant_of-self
invariant_of-self g c =
    let s = c.self.inside in
    let rest = rw (← c.self.view_is) at c.requires.rest in
    let ranged = rw (← c.self.view_is) at c.requires.in_range in
    let ordered = rw (← c.self.view_is) at c.requires.ordered in
    let none : s.group.items ≡ [] = c.self.invariant.alone (λ puts. subst PutsEntries rest puts) in
    let many : length s.group.items ≡ 0 = ap (λ (l : List Member). length l) none in
    let next = c.in-Some.ensures.next in
    let first = c.in-Some.ensures.first in
    let p = c.first_read-self-inside.result in
    let reads = c.first_read-self-inside.ensures.reads in
    let no_member : (m : Member) → ¬ Contains s.group.items m = λ m has. omega (arith, has.1, many) in
    well_on g.D.Disk (state_of s) (λ e. cc) (read_puts p reads) (record {
      order = (omega arith, omega (arith, next.0), next.1.within);
      ordered = ordered;
      in_range = ranged;
      own = λ entry has. absurd (none_written c.args.from (listed_entries s.entries) entry has);
      behind = λ entry has way. no_member way.0 way.1.1;
      apart = λ i j d low within. absurd (omega (arith, within, many));
      members = λ m has. absurd (no_member m has);
      bucket = λ has. subst (InRange s.head s.buckets) first.2 (ranged first.0 first.1);
      next = λ has. (next.0, omega (arith, many, c.self.invariant.most), next.1);
      current = λ k e. absurd (read_frame k p reads e);
      whole = λ has. absurd (read_whole p reads has);
      selector = λ k e. absurd (read_selector k p reads e);
    }) c.self.invariant.few c.self.invariant.memory c.self.invariant.frame_len (λ none. none) c.self.invariant.remembers c.self.invariant

pub returns-in-None-clause-begins : goal.returns-in-None-clause-begins
returns-in-None-clause-begins g c =
    let rest = rw (← c.self.view_is) at c.requires.rest in
    let bound = rw (← c.self.view_is) at c.requires.from in
    let all = c.in-None.ensures.none refl in
    rw c.begin_next.ensures.same (inr (refl, refl, c.self.invariant.alone (λ puts. subst PutsEntries rest puts), omega (arith, all, bound), refl, refl))

pub returns-in-None-clause-same : goal.returns-in-None-clause-same
returns-in-None-clause-same g c = rw (← c.self.view_is) (inr c.begin_next.ensures.same)

pub returns-in-Some-clause-begins : goal.returns-in-Some-clause-begins
returns-in-Some-clause-begins g c =
    let rest = rw (← c.self.view_is) at c.requires.rest in
    inl ((c.first_read-self-inside.ensures.reads, refl, c.in-Some.ensures.next.0, c.in-Some.ensures.next.1), refl, c.self.invariant.alone (λ puts. subst PutsEntries rest puts))

pub returns-in-Some-clause-same : goal.returns-in-Some-clause-same
returns-in-Some-clause-same g c = rw (← c.self.view_is) (inl (c.first_read-self-inside.ensures.reads, refl))

pub returns-in-Some-clause-named : goal.returns-in-Some-clause-named
returns-in-Some-clause-named g c k told is region place =
    first_named g.D.Disk _ _ _ (c.in-Some.bucket - c.self.inside.head.first) c.get.result _ k c.get.ensures.number c.get.ensures.bound c.first_read-self-inside.ensures.first is region told place c.self.invariant.remembers
