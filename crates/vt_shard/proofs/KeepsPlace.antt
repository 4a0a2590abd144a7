-- The head and the place of a section through a step of its writeback.
use Rattle.std.proofs.Common.{◌≡◌, ◌≢◌, ◌⊎◌, inl, inr, ⊎_elim, ℕ, ◌+◌, ◌-◌, ◌<◌, ◌≤◌, length, Result, Ok, Err, refl, sym, ◌∙◌, ap, subst, arith}
use Rattle.std.specs.Prelude.{OnOk}
use Rattle.vt_isect.specs.Entries.{listed_entries}
use Rattle.vt_isect.specs.Layout.{InRange}
use Rattle.vt_isect.specs.Section.{SectionState, HasBucket, HasGroup, PutsEntries}
use Rattle.vt_isect.specs.Writeback.{SectionAdvances, BeginsBehind, Completes, EndsWith, SectionGoesOn, NextPhase, SameGroup, calls_left, most_calls}
use Rattle.vt_isect.specs.declared.error.ShardErr.{ShardErr}
use Rattle.vt_isect.specs.declared.error.ShardErr.TheVariants.{Fault, Damaged, Stopped}
use Rattle.vt_isect.specs.declared.head.Head.{Head}
use Rattle.vt_isect.proofs.IsRead.{read_apart, read_runs, read_whole}
use Rattle.vt_isect.specs.declared.phase.Phase.{Phase}
use Rattle.vt_isect.specs.declared.phase.Phase.TheVariants.{Rest, ReadSelector, ReadFrame, WriteFrame, SyncFrames, WriteSelector, SyncSelectors, ChangeHead}
use Rattle.vt_twin.specs.Twin.{twin_calls_made}
use Rattle.vt_twin.specs.declared.step.Step.{Step}
use Rattle.vt_twin.specs.declared.step.Step.TheVariants.{More, Done}
use Rattle.vt_shard.specs.Shard.{IsFiling, OnlyMark}
use Rattle.vt_shard.proofs.IsFiling.{comes, joins_filing, same_filing}

-- what stays of a section
pub record Stays {D : Type 0} (t v : SectionState D) : Type 0 where
  pub head : OnlyMark t.head v.head
  pub next : OnlyMark v.head v.next
  pub buckets : v.buckets ≡ t.buckets
  pub name : v.name ≡ t.name
  pub entries : v.entries ≡ t.entries

module _ {D : Type 0} (t v : SectionState D) where
  ends : (head : Head) → OnlyMark t.head head → EndsWith head t v → Stays t v
  ends head only it = record {
    head = subst (λ (x : Head). OnlyMark t.head x) (sym it.head_is) only;
    next = subst (λ (x : Head). OnlyMark x v.next) (it.next_is ∙ sym it.head_is) refl;
    buckets = it.section.buckets;
    name = it.section.name;
    entries = it.section.entries;
  }

  goes : OnlyMark t.head t.next → SectionGoesOn t v → Stays t v
  goes only it = record {
    head = subst (λ (x : Head). OnlyMark t.head x) (sym it.head_is) refl;
    next = subst (λ (x : Head). OnlyMark x v.next) (sym it.head_is) (subst (λ (x : Head). OnlyMark t.head x) (sym it.next_is) only);
    buckets = it.section.buckets;
    name = it.section.name;
    entries = it.section.entries;
  }

  pub stays : (result : Result Step ShardErr) → OnlyMark t.head t.next → SectionAdvances result t v → Stays t v
  stays (Ok More) only it = goes only it.0
  stays (Ok Done) only it = ends t.next only it.2
  stays (Err Fault) only it = ⊎_elim (λ end. ends t.head refl end.1) (λ stop. goes only stop.1) it
  stays (Err (Damaged b w f)) only it = ends t.head refl it.1
  stays (Err (Stopped n)) only it = record {
    head = subst (λ (x : SectionState D). OnlyMark t.head x.head) (sym it.1) refl;
    next = subst (λ (x : SectionState D). OnlyMark x.head x.next) (sym it.1) only;
    buckets = ap (λ (x : SectionState D). x.buckets) it.1;
    name = ap (λ (x : SectionState D). x.name) it.1;
    entries = ap (λ (x : SectionState D). x.entries) it.1;
  }

  -- the mark doesn't fall
  pub marks : (result : Result Step ShardErr) → t.head.mark ≤ t.next.mark → SectionAdvances result t v
      → (t.head.mark ≤ v.head.mark) × (v.head.mark ≤ v.next.mark)
  marks (Ok More) rises it =
      let head = ap (λ (x : Head). x.mark) it.0.head_is in
      let next = ap (λ (x : Head). x.mark) it.0.next_is in
      (omega (arith, head), omega (arith, head, next, rises))
  marks (Ok Done) rises it =
      let head = ap (λ (x : Head). x.mark) it.2.head_is in
      let next = ap (λ (x : Head). x.mark) it.2.next_is in
      (omega (arith, head, rises), omega (arith, head, next))
  marks (Err Fault) rises it = ⊎_elim
      (λ end.
      let head = ap (λ (x : Head). x.mark) end.1.head_is in
      let next = ap (λ (x : Head). x.mark) end.1.next_is in
      (omega (arith, head), omega (arith, head, next)))
      (λ stop.
      let head = ap (λ (x : Head). x.mark) stop.1.head_is in
      let next = ap (λ (x : Head). x.mark) stop.1.next_is in
      (omega (arith, head), omega (arith, head, next, rises)))
      it
  marks (Err (Damaged b w f)) rises it =
      let head = ap (λ (x : Head). x.mark) it.1.head_is in
      let next = ap (λ (x : Head). x.mark) it.1.next_is in
      (omega (arith, head), omega (arith, head, next))
  marks (Err (Stopped n)) rises it =
      let head = ap (λ (x : SectionState D). x.head.mark) it.1 in
      let next = ap (λ (x : SectionState D). x.next.mark) it.1 in
      (omega (arith, head), omega (arith, head, next, rises))

  -- No more entries are in their buckets, and what is under way goes on.
  pub record SameEntries : Type 0 where
    pub written : v.written ≡ t.written
    pub head : v.phase ≡ ChangeHead → t.phase ≡ ChangeHead
    pub puts : PutsEntries v.phase → PutsEntries t.phase
    pub filing : PutsEntries v.phase → IsFiling t → IsFiling v

  -- the selectors of the group are synced
  abbrev pub EndsGroup : Result Step ShardErr → Type 0
  EndsGroup result = (result ≡ Ok More) × (t.phase ≡ SyncSelectors) × BeginsBehind t.begun v

  module _ (entries : v.entries ≡ t.entries) (head : v.head ≡ t.head) where
    the_same : SameGroup t v → (v.phase ≡ ChangeHead → t.phase ≡ ChangeHead) → (PutsEntries v.phase → PutsEntries t.phase)
        → (HasBucket v.phase → HasBucket t.phase) → (HasGroup v.phase → HasGroup t.phase) → SameEntries
    the_same same head_phase puts bucket whole = record {
      written = same.written;
      head = head_phase;
      puts = puts;
      filing = λ has filing. same_filing t v entries head filing same bucket whole;
    }

    by_phase : (p : Phase) → t.phase ≡ p → NextPhase p t v → ((t.phase ≡ SyncSelectors) × BeginsBehind t.begun v) ⊎ SameEntries
    by_phase Rest is next = absurd next
    by_phase ReadSelector is next = inr (the_same next.1
        (λ e. absurd (let no = sym e ∙ next.0.1 in cc))
        (λ has. subst PutsEntries (sym is) tt)
        (λ has. subst HasBucket (sym is) tt)
        (λ has. absurd (subst HasGroup next.0.1 has)))
    by_phase (ReadFrame s) is next = inr (the_same next.1
        (λ e. absurd (let no = sym e ∙ next.0 in cc))
        (λ has. subst PutsEntries (sym is) tt)
        (λ has. subst HasBucket (sym is) tt)
        (λ has. absurd (subst HasGroup next.0 has)))
    by_phase (WriteFrame s) is next = inr (⊎_elim
        (λ begins. record {
          written = next.0.written;
          head = λ e. absurd (read_apart v.phase begins.1.0 e);
          puts = λ has. subst PutsEntries (sym is) tt;
          filing = λ has filing. joins_filing t v entries head filing s next.0 (subst HasBucket (sym is) tt) begins.1.1
              (let lt = begins.1.2 in omega (arith, lt))
              (subst (λ o. v.begun ≤ length (listed_entries o)) entries begins.1.3.within)
              (λ bucket. comes v t.begun begins.1)
              (λ whole. absurd (read_whole v.phase begins.1.0 whole));
        })
        (λ full. record {
          written = next.0.written;
          head = λ e. absurd (let no = sym e ∙ full.0 in cc);
          puts = λ has. subst PutsEntries (sym is) tt;
          filing = λ has filing. joins_filing t v entries head filing s next.0 (subst HasBucket (sym is) tt) full.1
              (let e = full.2 in omega (arith, e))
              (let e = full.2 in let within = filing.order.2 in omega (arith, e, within))
              (λ bucket. absurd (subst HasBucket full.0 bucket))
              (λ whole. full.1 ∙ sym full.2);
        })
        next.1)
    by_phase SyncFrames is next = inr (the_same next.1
        (λ e. absurd (let no = sym e ∙ next.0 in cc))
        (λ has. subst PutsEntries (sym is) tt)
        (λ has. absurd (subst HasBucket next.0 has))
        (λ has. subst HasGroup (sym is) tt))
    by_phase (WriteSelector j) is next = inr (⊎_elim
        (λ on. the_same next.0
        (λ e. absurd (let no = sym e ∙ on.1 in cc))
        (λ has. subst PutsEntries (sym is) tt)
        (λ has. absurd (subst HasBucket on.1 has))
        (λ has. subst HasGroup (sym is) tt))
        (λ last. the_same next.0
        (λ e. absurd (let no = sym e ∙ last.1 in cc))
        (λ has. subst PutsEntries (sym is) tt)
        (λ has. absurd (subst HasBucket last.1 has))
        (λ has. subst HasGroup (sym is) tt))
        next.1)
    by_phase SyncSelectors is next = inl (is, next)
    by_phase ChangeHead is next = inr (the_same next.3
        (λ e. is)
        (λ has. absurd (subst PutsEntries next.1 has))
        (λ has. absurd (subst HasBucket next.1 has))
        (λ has. absurd (subst HasGroup next.1 has)))

  -- a step puts the entries of the group into their buckets, or none
  pub steps_on : (result : Result Step ShardErr) → v.phase ≢ Rest → SectionAdvances result t v → EndsGroup result ⊎ SameEntries
  steps_on (Ok More) on it = ⊎_elim
      (λ last. inl (refl, last.0, last.1))
      (λ same. inr same)
      (by_phase it.0.section.entries it.0.head_is t.phase refl it.2)
  steps_on (Ok Done) on it = absurd (on it.2.phase)
  steps_on (Err Fault) on it = ⊎_elim
      (λ end. absurd (on end.1.phase))
      (λ stop. inr (the_same stop.1.section.entries stop.1.head_is stop.3
      (λ e. sym stop.2 ∙ e)
      (λ has. subst PutsEntries stop.2 has)
      (λ has. subst HasBucket stop.2 has)
      (λ has. subst HasGroup stop.2 has)))
      it
  steps_on (Err (Damaged b w f)) on it = absurd (on it.1.phase)
  steps_on (Err (Stopped n)) on it = inr (record {
    written = ap (λ (x : SectionState D). x.written) it.1;
    head = λ e. sym (ap (λ (x : SectionState D). x.phase) it.1) ∙ e;
    puts = λ has. subst (λ (x : SectionState D). PutsEntries x.phase) it.1 has;
    filing = λ has filing. subst IsFiling (sym it.1) filing;
  })

  -- behind the sync of a group's selectors the next entries are under way
  pub completes_begins : (result : Result Step ShardErr) (n : ℕ) → Completes result t n → SectionAdvances result t v
      → BeginsBehind t.begun v
  completes_begins result n done steps =
      let it = subst (λ (r : Result Step ShardErr). SectionAdvances r t v) done.0 steps in
      subst (λ (p : Phase). NextPhase p t v) done.1 it.2

  begins_busy : (from : ℕ) → BeginsBehind from v → v.phase ≢ Rest
  begins_busy from begins is = ⊎_elim
      (λ next. read_runs v.phase next.0.0 is)
      (λ head. let no = sym head.0 ∙ is in cc)
      begins

  -- where the writeback ends, as many entries are written
  pub ends_same : (result : Result Step ShardErr) → v.phase ≡ Rest → t.phase ≢ Rest → SectionAdvances result t v → v.written ≡ t.written
  ends_same (Ok More) rest was it = ⊎_elim
      (λ last. absurd (begins_busy t.begun last.1 rest))
      (λ same. same.written)
      (by_phase it.0.section.entries it.0.head_is t.phase refl it.2)
  ends_same (Ok Done) rest was it = it.2.written
  ends_same (Err Fault) rest was it = ⊎_elim (λ end. end.1.written) (λ stop. absurd (was (sym stop.2 ∙ rest))) it
  ends_same (Err (Damaged b w f)) rest was it = it.1.written
  ends_same (Err (Stopped n)) rest was it = ap (λ (x : SectionState D). x.written) it.1

  -- no more calls are left
  same_left : (p : Phase) → p ≢ ChangeHead → SameGroup t v → v.entries ≡ t.entries → most_calls p v ≡ most_calls p t
  same_left Rest other same entries = refl
  same_left ReadSelector other same entries = rw (same.begun, same.group, entries) refl
  same_left (ReadFrame s) other same entries = rw (same.begun, same.group, entries) refl
  same_left (WriteFrame s) other same entries = rw (same.begun, same.group, entries) refl
  same_left SyncFrames other same entries = rw (same.begun, same.group, entries) refl
  same_left (WriteSelector j) other same entries = rw (same.begun, same.group, entries) refl
  same_left SyncSelectors other same entries = rw (same.begun, entries) refl
  same_left ChangeHead other same entries = absurd (other refl)

  none_left : v.phase ≡ Rest → calls_left v ≡ 0
  none_left rest = ap (λ (p : Phase). most_calls p v) rest

  is_head : (p : Phase) → (p ≡ ChangeHead) ⊎ (p ≢ ChangeHead)
  is_head Rest = inr (λ e. cc)
  is_head ReadSelector = inr (λ e. cc)
  is_head (ReadFrame s) = inr (λ e. cc)
  is_head (WriteFrame s) = inr (λ e. cc)
  is_head SyncFrames = inr (λ e. cc)
  is_head (WriteSelector j) = inr (λ e. cc)
  is_head SyncSelectors = inr (λ e. cc)
  is_head ChangeHead = inl refl

  pub stays_few : (result : Result Step ShardErr) (most : ℕ) → 4 ≤ most → calls_left t ≤ most → OnOk result (calls_left v < calls_left t)
      → SectionAdvances result t v → calls_left v ≤ most
  stays_few (Ok step) most four few less it = omega (arith, few, less)
  stays_few (Err Fault) most four few less it = ⊎_elim
      (λ end. let none = none_left end.1.phase in omega (arith, none))
      (λ stop. ⊎_elim
      (λ (head : t.phase ≡ ChangeHead).
      let e : calls_left v ≡ 4 - twin_calls_made v.head_twin = ap (λ (p : Phase). most_calls p v) (stop.2 ∙ head) in
      omega (arith, e, four))
      (λ (other : t.phase ≢ ChangeHead).
      let e : calls_left v ≡ calls_left t =
      ap (λ (p : Phase). most_calls p v) stop.2 ∙ same_left t.phase other stop.3 stop.1.section.entries in
      omega (arith, e, few))
      (is_head t.phase))
      it
  stays_few (Err (Damaged b w f)) most four few less it = let none = none_left it.1.phase in omega (arith, none)
  stays_few (Err (Stopped n)) most four few less it = subst (λ (x : SectionState D). calls_left x ≤ most) (sym it.1) few

  -- the buckets keep their numbers
  module _ (same : Stays t v) where
    pub first_same : v.head.first ≡ t.head.first
    first_same = ap (λ (x : Head). x.first) same.head

    pub total_same : v.head.total ≡ t.head.total
    total_same = ap (λ (x : Head). x.total) same.head

    pub state_same : v.head.state ≡ t.head.state
    state_same = ap (λ (x : Head). x.state) same.head

    pub back : (n : ℕ) → InRange v.head v.buckets n → InRange t.head t.buckets n
    back n within =
        subst (λ (b : ℕ). (t.head.first ≤ n) × (n < t.head.first + b)) same.buckets
        (subst (λ (k : ℕ). (k ≤ n) × (n < k + v.buckets)) first_same within)

    pub forth : (n : ℕ) → InRange t.head t.buckets n → InRange v.head v.buckets n
    forth n within =
        subst (λ (k : ℕ). (k ≤ n) × (n < k + v.buckets)) (sym first_same)
        (subst (λ (b : ℕ). (t.head.first ≤ n) × (n < t.head.first + b)) (sym same.buckets) within)
