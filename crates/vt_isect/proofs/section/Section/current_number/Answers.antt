use Rattle.std.proofs.Common.{◌≡◌, ◌≢◌, ◌⊎◌, inl, inr, ⊎_elim, ◌-◌, ◌<◌, ℕ, zero, suc, List, [], ◌∷◌, get_or, Option, Some, None, Result, Ok, Err, length, refl, sym, ap, ◌∙◌, subst, arith}
use Rattle.std.specs.Prelude.{slice_get, IfOk, IsOk}
use Rattle.std.specs.List.{AllPairs, Contains}
use Rattle.std.proofs.lemmas.Option.{slice_get-get_or}
use Rattle.std.proofs.lemmas.Result.{IfOk-weaker}
use Rattle.vt_disk.specs.declared.region.Region.{Region}
use Rattle.vt_twin.specs.Frames.{named_number}
use Rattle.vt_isect.specs.declared.groups.Member.{Member}
use Rattle.vt_isect.specs.Section.{SectionState, IsChanging, IsMember, PutsEntries}
use Rattle.vt_isect.specs.View.{state_of}
use Rattle.vt_isect.proofs.Members.{one_member, puts_or_not, well_read}
use Rattle.vt_isect.proofs.Places.{one_place}
use Rattle.vt_isect.proofs.Remembers.{found}
use Rattle.vt_isect.proofs.section.Section.current_number.Goals as goal
use Rattle.vt_isect.proofs.section.Section.current_number.Goals.{In-Some}

-- where a member stands
place_in : (group : List Member) (m : Member) → Contains group m → (j : ℕ) × (slice_get group j ≡ Some m)
place_in [] m has = absurd (omega (arith, has.1))
place_in (x ∷ xs) m (zero, lt, is) = (0, ap (λ (y : Member). Some y) is)
place_in (x ∷ xs) m (suc k, lt, is) = let it = place_in xs m (k, omega (arith, lt), is) in (suc it.0, it.1)

some_one : (a b : Member) → Some a ≡ Some b → a ≡ b
some_one a b e = cc

-- a bucket has one member
same_member : (group : List Member) → AllPairs (λ a b. a.bucket ≢ b.bucket) group → (m k : Member) → Contains group m → Contains group k → m.bucket ≡ k.bucket → m ≡ k
same_member group apart m k one two same =
    let a = place_in group m one in
    let b = place_in group k two in
    some_one m k (sym a.1 ∙ ap (λ (j : ℕ). slice_get group j) (one_member group apart a.0 b.0 m k a.1 b.1 same) ∙ b.1)

-- there are members only while entries are put into their buckets
puts_members : {D : Type 0} (t : SectionState D) → (¬ PutsEntries t.phase → t.group ≡ []) → (m : Member) → Contains t.group m → PutsEntries t.phase
puts_members t alone m has = ⊎_elim
    (λ (puts : PutsEntries t.phase). puts)
    (λ (no : ¬ PutsEntries t.phase). absurd (omega (arith, ap (λ (l : List Member). length l) (alone no), has.1)))
    (puts_or_not t.phase)

-- the member that was found
member : (g : _) (c : In-Some g) → Contains c.self.inside.group.items c.in-Some.member
member g c = subst (λ (l : List Member). Contains l c.in-Some.member) c.deref.ensures.value c.in-Some.ensures.some.0

pub returns-in-Some-clause-bound : goal.returns-in-Some-clause-bound
returns-in-Some-clause-bound g c =
    let has = member g c in
    ((c.self.invariant.group (puts_members (state_of c.self.inside) c.self.invariant.alone c.in-Some.member has)).members c.in-Some.member has).1

pub returns-in-Some-clause-changing : goal.returns-in-Some-clause-changing
returns-in-Some-clause-changing g c k of =
    let it = subst (λ (t : SectionState g.row.D.Denot). IsMember t c.args.number k) (sym c.self.view_is) of in
    let has = member g c in
    ap (λ (m : Member). m.current)
    (same_member c.self.inside.group.items (c.self.invariant.group it.0).apart c.in-Some.member k has it.1 (c.in-Some.ensures.some.1 ∙ sym it.2))

-- the bucket isn't one of the group
apart : {D : Type 0} (t u : SectionState D) (n : ℕ) (group : List Member) → t ≡ u → group ≡ t.group → ((m : Member) → Contains group m → m.bucket ≢ n) → ¬ IsChanging u n
apart t u n group same here none way =
    let it = subst (λ x. IsChanging x n) (sym same) way in
    none it.0 (subst (λ (l : List Member). Contains l it.0) (sym here) it.1.1) it.1.2

-- something is remembered, or nothing is
either : {P Q : Type 0} (o : Option ℕ) → ((number : ℕ) → o ≡ Some number → P) → (o ≡ None → Q) → P ⊎ Q
either None some none = inr (none refl)
either (Some number) some none = inl (some number refl)

-- what holds of each answer
anyway : {T E : Type 0} (r : Result T E) (P : T → Type 0) → ((x : T) → P x) → IfOk r P
anyway (Ok x) P all = all x
anyway (Err e) P all = tt

pub invariant_of-self : goal.invariant_of-self
invariant_of-self g c =
    let s = c.self.inside in
    rw c.find.ensures.reads.size (well_read g.D.Disk (state_of s)
    (found g.D.Disk s.disk c.find.new.disk s.buckets s.frames c.find.new.self (c.args.number - s.head.first) c.bucket_place.result c.find.result c.bucket_place.ensures.place
    c.find.ensures.reads.bytes (c.find.ensures.named s.buckets) c.find.ensures.remembers c.find.ensures.failed c.self.invariant.remembers)
    c.self.invariant)

pub returns-clause-changing : goal.returns-clause-changing
returns-clause-changing g c k = anyway c.find.result _
    (λ current of. absurd (apart (state_of c.self.inside) _ c.args.number _ c.self.view_is c.deref.ensures.value (λ m has. c.member_of.ensures.none m c.in_default.is has) (k, of)))

pub returns-clause-of_change : goal.returns-clause-of_change
returns-clause-of_change g c way = absurd (apart (state_of c.self.inside) _ c.args.number _ c.self.view_is c.deref.ensures.value (λ m has. c.member_of.ensures.none m c.in_default.is has) way)

pub returns-clause-named : goal.returns-clause-named
returns-clause-named g c =
    let s = c.self.inside in
    rw (← c.self.view_is) (IfOk-weaker c.find.result _ _
    (λ current it told still region place. it c.self.invariant.remembers told
    ∙ ap (λ (r : Region). named_number r 8192 (g.D.Disk.bytes s.disk)) (one_place (c.args.number - s.head.first) c.bucket_place.result region c.bucket_place.ensures.place place))
    (c.find.ensures.named s.buckets))

pub returns-clause-calls : goal.returns-clause-calls
returns-clause-calls g c still =
    let s = c.self.inside in
    let i : ℕ = c.args.number - s.head.first in
    let range = rw (← c.self.view_is) at c.requires in
    let lt : i < length s.frames = omega (arith, range.0, range.1, c.self.invariant.remembers.each) in
    let at = slice_get-get_or s.frames i None lt in
    rw (← c.self.view_is) (either (get_or s.frames i None)
    (λ number is.
    let it = c.find.ensures.known number (at ∙ ap (λ (o : Option ℕ). Some o) is) in
    (subst IsOk (sym it.0) refl, ap (λ (d : g.row.D.Denot). record (state_of s) { disk = d }) it.1))
    (λ none. c.find.ensures.unknown (at ∙ ap (λ (o : Option ℕ). Some o) none)))
