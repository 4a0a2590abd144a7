-- The members of a group.
use Rattle.std.proofs.Common.{◌≡◌, ◌≢◌, ◌⊎◌, inl, inr, ⊎_elim, ℕ, zero, suc, ◌<◌, ◌≤◌, List, [], ◌∷◌, ◌++◌, length, length-drop, length-take, take, Option, Some, None, refl, sym, ap, ◌∙◌, subst, arith}
use Rattle.std.specs.Prelude.{slice_get}
use Rattle.std.specs.List.{AllPairs, Contains}
use Rattle.std.proofs.lemmas.Bool.{cases_eq, cases_order}
use Rattle.std.proofs.lemmas.Option.{get_or_from_slice_get, slice_get_within}
use Rattle.vt_base.specs.declared.place.Entry.{Entry}
use Rattle.vt_isect.specs.declared.TheConstants.{GROUP_MAX}
use Rattle.vt_isect.specs.declared.groups.Member.{Member}
use Rattle.vt_isect.specs.declared.head.Head.{Head}
use Rattle.vt_isect.specs.declared.phase.Phase.{Phase}
use Rattle.vt_isect.specs.declared.phase.Phase.TheVariants.{Rest, ReadSelector, ReadFrame, WriteFrame, SyncFrames, WriteSelector, SyncSelectors, ChangeHead}
use Rattle.vt_isect.proofs.AreNext.{of_group}
use Rattle.vt_disk.specs.Members.{DiskOf}
use Rattle.vt_isect.specs.Remembered.{Remembers}
use Rattle.vt_isect.specs.Section.{SectionState, HasBucket, HasGroup, IsChanging, IsGroup, IsMember, IsWell, PutsEntries, entering, entries_of}

-- one of the group has this number, or none has
abbrev pub Found : List Member → (n : ℕ) → Type 0
Found group n = (j : ℕ) × (m : Member) × (slice_get group j ≡ Some m) × (m.bucket ≡ n)

cons_cases : (x : Member) (xs : List Member) (m : Member) → Contains (x ∷ xs) m → (x ≡ m) ⊎ Contains xs m
cons_cases x xs m (zero, lt, is) = inl is
cons_cases x xs m (suc k, lt, is) = inr (k, omega (arith, lt), is)

pub find_member : (group : List Member) (n : ℕ) → Found group n ⊎ ((m : Member) → Contains group m → m.bucket ≢ n)
find_member [] n = inr (λ m has. absurd (omega (arith, has.1)))
find_member (x ∷ xs) n = ⊎_elim
    (λ (here : x.bucket ≡ n). inl (0, x, refl, here))
    (λ (not : x.bucket ≢ n). ⊎_elim
    (λ (found : Found xs n). inl (suc found.0, found.1, found.2, found.3))
    (λ (none : (m : Member) → Contains xs m → m.bucket ≢ n). inr (λ m has. ⊎_elim
    (λ (first : x ≡ m). subst (λ (y : Member). y.bucket ≢ n) first not)
    (λ (later : Contains xs m). none m later)
    (cons_cases x xs m has)))
    (find_member xs n))
    (cases_eq x.bucket n)

-- it is one of them
pub at_member : (group : List Member) (j : ℕ) (m : Member) → slice_get group j ≡ Some m → Contains group m
at_member group j m at = (j, slice_get_within group j m at, get_or_from_slice_get group j m m at)

pub puts_or_not : (p : Phase) → PutsEntries p ⊎ ¬ PutsEntries p
puts_or_not Rest = inr (λ no. no)
puts_or_not ReadSelector = inl tt
puts_or_not (ReadFrame s) = inl tt
puts_or_not (WriteFrame s) = inl tt
puts_or_not SyncFrames = inl tt
puts_or_not (WriteSelector j) = inl tt
puts_or_not SyncSelectors = inl tt
puts_or_not ChangeHead = inr (λ no. no)

-- bucket n is one of the group, at a place, or it isn't
abbrev pub Stands : {D : Type 0} → SectionState D → (n : ℕ) → Type 0
Stands t n = (j : ℕ) × (m : Member) × (slice_get t.group j ≡ Some m) × IsMember t n m

pub standing : {D : Type 0} (t : SectionState D) (n : ℕ) → Stands t n ⊎ ¬ IsChanging t n
standing t n = ⊎_elim
    (λ (puts : PutsEntries t.phase). ⊎_elim
    (λ (found : Found t.group n). inl (found.0, found.1, found.2, (puts, at_member t.group found.0 found.1 found.2, found.3)))
    (λ none. inr (λ way. none way.0 way.1.1 way.1.2))
    (find_member t.group n))
    (λ (not : ¬ PutsEntries t.phase). inr (λ way. not way.1.0))
    (puts_or_not t.phase)

-- no bucket is in the group twice
pub one_member : (group : List Member) → AllPairs (λ a b. a.bucket ≢ b.bucket) group → (i j : ℕ) (m k : Member)
    → slice_get group i ≡ Some m → slice_get group j ≡ Some k → m.bucket ≡ k.bucket → i ≡ j
one_member group apart i j m k one two same = ⊎_elim
    (λ (same : i ≡ j). same)
    (λ rest. ⊎_elim
    (λ (low : i < j). absurd (apart i j m low (slice_get_within group j k two)
    (ap (λ (x : Member). x.bucket) (get_or_from_slice_get group i m m one) ∙ same ∙ sym (ap (λ (x : Member). x.bucket) (get_or_from_slice_get group j k m two)))))
    (λ (high : j < i). absurd (apart j i m high (slice_get_within group i m one)
    (ap (λ (x : Member). x.bucket) (get_or_from_slice_get group j k m two) ∙ sym same ∙ sym (ap (λ (x : Member). x.bucket) (get_or_from_slice_get group i m m one)))))
    rest)
    (cases_order i j)

-- behind a member that joins
pub joined_cases : (group : List Member) (y : Member) (j : ℕ) (m : Member) → slice_get (group ++ y ∷ []) j ≡ Some m
    → (slice_get group j ≡ Some m) ⊎ ((j ≡ length group) × (m ≡ y))
joined_cases [] y zero m at = inr (refl, cc)
joined_cases [] y (suc j) m at = absurd (cc)
joined_cases (x ∷ xs) y zero m at = inl at
joined_cases (x ∷ xs) y (suc j) m at = ⊎_elim (λ (was : slice_get xs j ≡ Some m). inl was) (λ last. inr (ap suc last.0, last.1)) (joined_cases xs y j m at)

-- while entries are put into their buckets
abbrev pub Groups : {D : Type 0} → SectionState D → Type 0
Groups t = PutsEntries t.phase → IsGroup t

some_entry : (xs : List Entry) → 0 < length xs → (e : Entry) × Contains xs e
some_entry [] some = absurd (omega arith)
some_entry (x ∷ xs) some = (x, (0, some, refl))

-- the bucket under way isn't one of the group
pub under_way_apart : {D : Type 0} (t : SectionState D) → IsGroup t → HasBucket t.phase → ¬ IsChanging t t.bucket
under_way_apart t group has way =
    let next = group.next has in
    let one = some_entry (entering t) (omega (arith, next.0, group.order.2, length-drop t.framed (take t.begun (entries_of t)), length-take t.begun (entries_of t))) in
    group.behind one.0 (of_group t.framed t.begun (entries_of t) one.0 one.1) (subst (IsChanging t) (sym (next.2.own one.0 one.1)) way)

-- the group stays while another call of it is made
pub group_moves : {D : Type 0} (t : SectionState D) (d : D) (p : Phase) (frame : List ℕ) (calls : ℕ) (stopped : Option ℕ)
    → PutsEntries t.phase → PutsEntries p → (HasBucket p → HasBucket t.phase) → (HasGroup p → HasGroup t.phase)
    → ((s : ℕ) → p ≡ WriteFrame s → s < 2) → ((j : ℕ) → p ≡ WriteSelector j → j < length t.group)
    → IsGroup t → IsGroup (record t { disk = d; phase = p; frame = frame; calls = calls; stopped = stopped })
group_moves t d p frame calls stopped puts puts_on bucket whole current selector group = record {
  order = group.order;
  ordered = group.ordered;
  in_range = group.in_range;
  own = λ entry has. let it = group.own entry has in (it.0, (puts_on, it.1.1, it.1.2));
  behind = λ entry has way. group.behind entry has (way.0, (puts, way.1.1, way.1.2));
  apart = group.apart;
  members = group.members;
  bucket = λ has. group.bucket (bucket has);
  next = λ has. group.next (bucket has);
  current = current;
  whole = λ has. group.whole (whole has);
  selector = selector;
}

-- a read
pub well_read : {D : Type 0} {size capacity : ℕ} {buffer : Option (List ℕ)} {frames was : List (Option ℕ)} {d : D} (disk : DiskOf D) (t : SectionState D)
    → Remembers disk d t.buckets frames → IsWell disk size t buffer capacity was → IsWell disk size (record t { disk = d }) buffer capacity frames
well_read {d} disk t remembers well = record {
  room = well.room;
  name_len = well.name_len;
  head_len = well.head_len;
  frame_len = well.frame_len;
  buffer = record { lent = well.buffer.lent; here = well.buffer.here };
  most = well.most;
  memory = well.memory;
  few = well.few;
  group = λ puts.
      let group = well.group puts in
      group_moves t d t.phase t.frame t.calls t.stopped puts puts (λ has. has) (λ has. has) group.current group.selector group;
  alone = well.alone;
  rest = λ rest. record { goes = (well.rest rest).goes; next = (well.rest rest).next };
  goes = well.goes;
  remembers = remembers;
}

-- entries go on to be put into their buckets
pub well_on : {D : Type 0} {size capacity more written framed begun bucket calls : ℕ} {frame : List ℕ} {group : List Member} {buffer : Option (List ℕ)} {frames was : List (Option ℕ)} {d : D} {next : Head} {p : Phase} {stopped : Option ℕ}
    (disk : DiskOf D) (t : SectionState D) → t.phase ≢ ChangeHead → PutsEntries p
    → IsGroup (record t { disk = d; next = next; phase = p; written = written; framed = framed; begun = begun; bucket = bucket; frame = frame; group = group; calls = calls; stopped = stopped })
    → length group ≤ t.most → GROUP_MAX ≤ more → length frame ≡ 8192 → (stopped ≡ None → t.stopped ≡ None) → Remembers disk d t.buckets frames
    → IsWell disk size t buffer capacity was
    → IsWell disk size (record t { disk = d; next = next; phase = p; written = written; framed = framed; begun = begun; bucket = bucket; frame = frame; group = group; calls = calls; stopped = stopped }) buffer more frames
well_on disk t no_head puts group few memory whole goes remembers well = record {
  room = well.room;
  name_len = well.name_len;
  head_len = well.head_len;
  frame_len = whole;
  buffer = record { lent = λ e. absurd (subst PutsEntries e puts); here = λ no. well.buffer.here no_head };
  most = well.most;
  memory = memory;
  few = few;
  group = λ u. group;
  alone = λ no. absurd (no puts);
  rest = λ rest. absurd (subst PutsEntries rest puts);
  goes = λ none. well.goes (goes none);
  remembers = remembers;
}

-- another call for the group is next
pub well_moves : {D : Type 0} {size capacity calls : ℕ} {frame : List ℕ} {buffer : Option (List ℕ)} {frames was : List (Option ℕ)} {d : D} {p : Phase} {stopped : Option ℕ}
    (disk : DiskOf D) (t : SectionState D) → PutsEntries t.phase → PutsEntries p → (HasBucket p → HasBucket t.phase) → (HasGroup p → HasGroup t.phase)
    → ((s : ℕ) → p ≡ WriteFrame s → s < 2) → ((j : ℕ) → p ≡ WriteSelector j → j < length t.group) → t.stopped ≡ None → length frame ≡ 8192 → Remembers disk d t.buckets frames
    → IsWell disk size t buffer capacity was → IsWell disk size (record t { disk = d; phase = p; frame = frame; calls = calls; stopped = stopped }) buffer capacity frames
well_moves disk t puts puts_on bucket whole current selector goes len remembers well =
    well_on disk t (λ e. subst PutsEntries e puts) puts_on (group_moves t _ _ _ _ _ puts puts_on bucket whole current selector (well.group puts)) well.few well.memory len (λ none. goes) remembers well

-- a call for it was made
pub well_called : {D : Type 0} {size capacity calls : ℕ} {frame : List ℕ} {buffer : Option (List ℕ)} {frames was : List (Option ℕ)} {d : D} {stopped : Option ℕ}
    (disk : DiskOf D) (t : SectionState D) → PutsEntries t.phase → t.stopped ≡ None → length frame ≡ 8192 → Remembers disk d t.buckets frames
    → IsWell disk size t buffer capacity was → IsWell disk size (record t { disk = d; frame = frame; calls = calls; stopped = stopped }) buffer capacity frames
well_called disk t puts goes len remembers well =
    well_moves disk t puts puts (λ has. has) (λ has. has) (well.group puts).current (well.group puts).selector goes len remembers well
