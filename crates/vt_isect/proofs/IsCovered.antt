-- Marks that are covered stay so.
use Rattle.std.proofs.Common.{◌≡◌, ◌⊎◌, inl, inr, ⊎_elim, ℕ, ◌+◌, ◌<◌, ◌≤◌, List, drop, take, Option, Some, None, Result, Ok, Err, refl, sym, ◌∙◌, ap, subst, arith}
use Rattle.std.proofs.lemmas.Option.{same_Some}
use Rattle.std.specs.Prelude.{IsSome, OnOk}
use Rattle.std.specs.List.{Contains}
use Rattle.std.proofs.lemmas.Bool.{false≢true}
use Rattle.vt_base.specs.declared.place.Entry.{Entry}
use Rattle.vt_model.specs.History.{History}
use Rattle.vt_model.specs.Places.{Setup}
use Rattle.vt_twin.specs.Twin.{with_change}
use Rattle.vt_twin.specs.declared.step.Step.{Step}
use Rattle.vt_twin.specs.declared.step.Step.TheVariants.{More, Done}
use Rattle.vt_isect.specs.declared.error.ShardErr.{ShardErr}
use Rattle.vt_isect.specs.declared.head.Head.{Head}
use Rattle.vt_isect.specs.declared.phase.Phase.{Phase}
use Rattle.vt_isect.specs.declared.phase.Phase.TheVariants.{Rest, ReadSelector, ReadFrame, WriteFrame, SyncFrames, WriteSelector, SyncSelectors, ChangeHead}
use Rattle.vt_isect.specs.Agreement.{IsEntryOf, HasBlock, IsInBucket, IsMarkCovered, NoOthers, KnownAgrees}
use Rattle.vt_isect.specs.Entries.{EntriesState, listed_entries}
use Rattle.vt_isect.specs.Head.{encoded}
use Rattle.vt_isect.specs.Layout.{InRange}
use Rattle.vt_isect.specs.Section.{SectionState, HasGroup, IsChanging, IsGroup, IsOfGroup, IsTodo, PutsEntries, entries_of}
use Rattle.vt_isect.specs.Sound.{KnownBuckets}
use Rattle.vt_isect.specs.Writeback.{SectionAdvances, BeginsBehind, BeginsGroup, BeginsHead, Completes, Follows, SectionGoesOn, KeepsCovered, NextPhase}
use Rattle.vt_isect.proofs.AgreesWith.{merged_has}
use Rattle.vt_isect.proofs.AreNext.{group_or_behind, none_behind}
use Rattle.vt_isect.proofs.BeginsBehind.{Begins, no_entries}
use Rattle.vt_isect.proofs.Follows.{covers_more}
use Rattle.vt_isect.proofs.IsRead.{read_puts}
use Rattle.vt_isect.proofs.KnownAgrees.{its_bucket}
use Rattle.vt_isect.proofs.Members.{Groups}
use Rattle.vt_isect.proofs.WithinCall.{Stands, stands, completes_or}

-- ---- a step

module _ {D : Type 0} (score : List ℕ → List ℕ) (c : Setup) (h : History) (t u : SectionState D)
    (known knows : KnownBuckets) (agrees : KnownAgrees score c h t known)
    (group : Groups t) where
  module _ (result : Result Step ShardErr) (steps : SectionAdvances result t u)
      (follows : Follows result t u known knows) where
    -- each of the others is put into the bucket that is completed, or is among more
    covers : (others more : Entry → Type 0) (mark : ℕ)
        → ((n i : ℕ) (entry : Entry) → IsInBucket score c h n i → IsEntryOf score c h i entry
        → others entry → (Completes result t n × IsOfGroup t n entry) ⊎ more entry)
        → IsMarkCovered score c h t known others mark → IsMarkCovered score c h u knows more mark
    covers others more mark split cover = record {
      fits = cover.fits;
      has = λ n i entries within is below at.
          ⊎_elim
          (λ (done : Completes result t n). merged n i entries (here n within) is below at done)
          (λ (not_done : ¬ Completes result t n).
          let was : known n ≡ Some entries = sym (follows.kept n first not_done) ∙ is in
          let it = cover.has n i entries (here n within) was below at in
          ⊎_elim
          (λ (has : Contains entries it.0). (it.0, inl has, it.2))
          (λ (other : others it.0). ⊎_elim
          (λ (put : Completes result t n × IsOfGroup t n it.0). absurd (not_done put.0))
          (λ (m : more it.0). (it.0, inr m, it.2))
          (split n i it.0 at it.2 other))
          it.1)
          (completes_or result t n);
    }
      where
        stays : Stands t u
        stays = stands result t u agrees.same_first steps

        first : u.head.first ≡ t.head.first
        first = stays.first

        here : (n : ℕ) → InRange u.head u.buckets n → InRange t.head t.buckets n
        here n within =
            subst (λ (b : ℕ). (t.head.first ≤ n) × (n < t.head.first + b)) stays.buckets
            (subst (λ (k : ℕ). (k ≤ n) × (n < k + u.buckets)) first within)

        merged : (n i : ℕ) (entries : List Entry) → InRange t.head t.buckets n
            → knows n ≡ Some entries → i < mark → IsInBucket score c h n i → Completes result t n
            → HasBlock score c h (λ entry. Contains entries entry ⊎ more entry) i
        merged n i entries within is below at done = by (known n) refl (agrees.whole n within)
          where
            by : (o : Option (List Entry)) → known n ≡ o → IsSome o
                → HasBlock score c h (λ entry. Contains entries entry ⊎ more entry) i
            by None was some = absurd (false≢true some)
            by (Some old) was some =
                let new = follows.merged n old first done was in
                let same : new.0 ≡ entries = same_Some new.0 entries (sym new.1 ∙ is) in
                let it = cover.has n i old within was below at in
                let put : Contains old it.0 ⊎ IsOfGroup t n it.0
                → HasBlock score c h (λ entry. Contains entries entry ⊎ more entry) i =
                λ of.
                let found = merged_has score c h t known agrees (subst PutsEntries (sym done.1) tt) n
                within old new.0 was new.2 i it.0 it.2 of in (
                  found.0,
                  inl (subst (λ (l : List Entry). Contains l found.0) same found.1),
                  found.2,
                ) in
                ⊎_elim
                (λ (has : Contains old it.0). put (inl has))
                (λ (other : others it.0). ⊎_elim
                (λ (of : Completes result t n × IsOfGroup t n it.0). put (inr of.1))
                (λ (m : more it.0). (it.0, inr m, it.2))
                (split n i it.0 at it.2 other))
                it.1

  -- the entries stay
  listed : SectionGoesOn t u → entries_of u ≡ entries_of t
  listed goes = ap (λ (o : Option EntriesState). listed_entries o) goes.section.entries

  -- what is still to be put is so after a step, or the step completes its bucket
  still : SectionGoesOn t u → PutsEntries u.phase → u.written ≡ t.written → (entry : Entry) → IsTodo t entry
      → IsTodo u entry
  still goes has same entry way = (
    has,
    subst (λ (k : ℕ). Contains (drop k (entries_of u)) entry) (sym same)
        (subst (λ (l : List Entry). Contains (drop t.written l) entry) (sym (listed goes)) way.1),
  )

  behind_todo : IsGroup t → t.framed ≡ t.begun → SectionGoesOn t u → BeginsBehind t.begun u → (entry : Entry)
      → IsTodo t entry → Contains (drop t.written (take t.framed (entries_of t))) entry ⊎ IsTodo u entry
  behind_todo it whole goes begins entry way = ⊎_elim
      (λ (of : Contains (drop t.written (take t.framed (entries_of t))) entry). inl of)
      (λ (rest : Contains (drop t.framed (entries_of t)) entry).
      let has : Contains (drop t.begun (entries_of u)) entry =
      subst (λ (l : List Entry). Contains (drop t.begun l) entry) (sym (listed goes))
      (subst (λ (k : ℕ). Contains (drop k (entries_of t)) entry) whole rest) in
      ⊎_elim
      (λ (here : BeginsGroup t.begun u). inr (
        read_puts u.phase here.0.0,
        subst (λ (k : ℕ). Contains (drop k (entries_of u)) entry) (sym here.1) has,
      ))
      (λ (there : BeginsHead t.begun u).
      absurd (none_behind t.begun (entries_of u) (omega (arith, there.3)) entry has))
      begins)
      (group_or_behind t.written t.framed (entries_of t) it.order.0 (omega (arith, it.order)) entry way.1)

  split_more : (q : Phase) → t.phase ≡ q → SectionGoesOn t u → NextPhase q t u → (n i : ℕ) (entry : Entry)
      → IsInBucket score c h n i → IsEntryOf score c h i entry → IsTodo t entry
      → (Completes (Ok More) t n × IsOfGroup t n entry) ⊎ IsTodo u entry
  split_more Rest is goes next n i entry at of way = absurd next
  split_more ReadSelector is goes next n i entry at of way =
      inr (still goes (subst PutsEntries (sym next.0.1) tt) next.1.written entry way)
  split_more (ReadFrame s) is goes next n i entry at of way =
      inr (still goes (subst PutsEntries (sym next.0) tt) next.1.written entry way)
  split_more (WriteFrame s) is goes next n i entry at of way = inr (still goes
      (⊎_elim (λ here. read_puts u.phase here.1.0) (λ there. subst PutsEntries (sym there.0) tt) next.1)
      next.0.written entry way)
  split_more SyncFrames is goes next n i entry at of way =
      inr (still goes (subst PutsEntries (sym next.0) tt) next.1.written entry way)
  split_more (WriteSelector j) is goes next n i entry at of way = inr (still goes
      (⊎_elim (λ on. subst PutsEntries (sym on.1) tt) (λ last. subst PutsEntries (sym last.1) tt) next.1)
      next.0.written entry way)
  split_more SyncSelectors is goes next n i entry at of way =
      let it = group (subst PutsEntries (sym is) tt) in
      ⊎_elim
      (λ (has : Contains (drop t.written (take t.framed (entries_of t))) entry).
      let number = its_bucket score c h t known agrees n i entry of at in
      inl ((refl, is, subst (IsChanging t) number (it.own entry has)), (has, number)))
      (λ (todo : IsTodo u entry). inr todo)
      (behind_todo it (it.whole (subst HasGroup (sym is) tt)).1 goes next entry way)
  split_more ChangeHead is goes next n i entry at of way = absurd (subst PutsEntries is way.0)

  todo_kept : (result : Result Step ShardErr) → SectionAdvances result t u
      → Follows result t u known knows → (mark : ℕ)
      → OnOk result (IsMarkCovered score c h t known (IsTodo t) mark
      → IsMarkCovered score c h u knows (IsTodo u) mark)
  todo_kept (Ok More) steps follows mark = covers (Ok More) steps follows (IsTodo t) (IsTodo u) mark
      (split_more t.phase refl steps.0 steps.2)
  todo_kept (Ok Done) steps follows mark = covers (Ok Done) steps follows (IsTodo t) (IsTodo u) mark
      (λ n i entry at of way. absurd (subst PutsEntries steps.0 way.0))
  todo_kept (Err bad) steps follows mark = tt

  pub covered_kept : (result : Result Step ShardErr) → SectionAdvances result t u
      → Follows result t u known knows → KeepsCovered score c h result t u known knows
  covered_kept result steps follows mark = (
    λ others cover. covers result steps follows (Contains others) (Contains others) mark
        (λ n i entry at of has. inr has) cover,
    todo_kept result steps follows mark,
  )

-- ---- entries that begin to be written

pub file_covers : {D : Type 0} (score : List ℕ → List ℕ) (c : Setup) (h : History)
    (t : SectionState D) (mark : ℕ) (es : EntriesState) (v : SectionState D) (known : KnownBuckets)
    (covered : ℕ) → BeginsBehind 0 v → Begins t mark es v
    → IsMarkCovered score c h t known (Contains es.items) covered
    → IsMarkCovered score c h v known (IsTodo v) covered
file_covers score c h t mark es v known covered begins (inl e) cover =
    let w = record t {
      next = record t.head { mark = mark };
      phase = v.phase;
      entries = Some es;
      written = 0;
      framed = 0;
      begun = v.begun;
      bucket = v.bucket;
      most = v.most;
    } in
    subst (λ x. IsMarkCovered score c h x known (IsTodo x) covered) (sym e.1)
    (covers_more score c h t w known (Contains es.items) (IsTodo w) covered refl refl
    (λ entry has. (read_puts v.phase e.0, has)) cover)
file_covers score c h t mark es v known covered begins (inr e) cover =
    let next : Head = record t.head { mark = mark } in
    let w = record t {
      next = next;
      phase = ChangeHead;
      entries = Some es;
      written = 0;
      most = v.most;
      head_twin = with_change (encoded t.name next) t.head_twin;
    } in
    subst (λ x. IsMarkCovered score c h x known (IsTodo x) covered) (sym e)
    (covers_more score c h t w known (Contains es.items) (IsTodo w) covered refl refl
    (λ entry has. absurd (no_entries t mark es v begins e entry has)) cover)

-- ---- at rest

-- nothing is still to be put
pub covered_at_rest : {D : Type 0} (score : List ℕ → List ℕ) (c : Setup) (h : History)
    (t : SectionState D) (known : KnownBuckets) (mark : ℕ) → t.phase ≡ Rest
    → IsMarkCovered score c h t known (IsTodo t) mark → IsMarkCovered score c h t known NoOthers mark
covered_at_rest score c h t known mark rest cover =
    covers_more score c h t t known (IsTodo t) NoOthers mark refl refl
    (λ entry way. subst PutsEntries rest way.0) cover
