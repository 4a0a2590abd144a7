-- What is known of a section goes on to agree with a history, and so do its images.
use Rattle.std.proofs.Common.{◌≡◌, ◌⊎◌, inl, ⊎_elim, ℕ, zero, suc, ◌+◌, ◌<◌, ◌≤◌, List, [], ◌∷◌, length, get_or, Option, Some, None, refl, sym, ◌∙◌, ap, subst, arith}
use Rattle.std.specs.Prelude.{IsSome, slice_get}
use Rattle.std.specs.List.{Contains, AllPairs}
use Rattle.std.proofs.lemmas.Bool.{cases_order, false≢true}
use Rattle.vt_base.specs.declared.place.Entry.{Entry}
use Rattle.vt_base.specs.declared.key.Key.{Key}
use Rattle.vt_model.specs.History.{History, Accepted}
use Rattle.vt_model.specs.Legal.{HasOtherKey}
use Rattle.vt_model.specs.Places.{Setup, bucket_of, bucket_count}
use Rattle.vt_twin.specs.Sound.{TwinHasBegunSelector}
use Rattle.vt_isect.specs.declared.head.Head.{Head}
use Rattle.vt_isect.specs.declared.phase.Phase.{Phase}
use Rattle.vt_isect.specs.declared.phase.Phase.TheVariants.{ChangeHead}
use Rattle.vt_isect.specs.Agreement.{IsEntryOf, IsEntryOfBlock, HasBlock, IsInBucket, AgreesWith, IsMarkCovered, NoOthers, KnownAgrees}
use Rattle.vt_isect.specs.Layout.{InRange}
use Rattle.vt_isect.specs.Merging.{Merges}
use Rattle.vt_isect.specs.Section.{SectionState, PutsEntries, IsChanging, IsOfGroup, IsTodo, entries_of}
use Rattle.vt_isect.specs.Sound.{KnownBuckets, LeavesSection}
use Rattle.vt_isect.proofs.AreNext.{of_group}

pub get_at : (h : History) (i : ℕ) (b : Accepted) → slice_get h i ≡ Some b → (d : Accepted) → get_or h i d ≡ b
get_at [] i b is d = cc
get_at (x ∷ xs) zero b is d = cc
get_at (x ∷ xs) (suc i) b is d = get_at xs i b is d

pub get_below : (h : History) (i : ℕ) (b : Accepted) → slice_get h i ≡ Some b → i < length h
get_below [] i b is = cc
get_below (x ∷ xs) zero b is = omega arith
get_below (x ∷ xs) (suc i) b is = let rest = get_below xs i b is in omega (arith, rest)

-- entries with one key are of one block
pub same_block : (score : List ℕ → List ℕ) (c : Setup) (h : History) → AllPairs (HasOtherKey score) h → (i k : ℕ) (e f : Entry)
    → IsEntryOf score c h i e → IsEntryOf score c h k f → e.key ≡ f.key → i ≡ k
same_block score c h keys i k e f one two key =
    let a = one.block in
    let b = two.block in
    let a_is : get_or h i a ≡ a = get_at h i a one.stands.block a in
    let b_is : get_or h k a ≡ b = get_at h k b two.stands.block a in
    let i_in = get_below h i a one.stands.block in
    let k_in = get_below h k b two.stands.block in
    let kinds : (get_or h i a).block.kind ≡ (get_or h k a).block.kind =
    ap (λ (x : Accepted). x.block.kind) a_is ∙ sym one.kind_is ∙ ap (λ (x : Key). x.kind) key ∙ two.kind_is ∙ sym (ap (λ (x : Accepted). x.block.kind) b_is) in
    let scores : score (get_or h i a).block.bytes ≡ score (get_or h k a).block.bytes =
    ap (λ (x : Accepted). score x.block.bytes) a_is ∙ sym one.score_is ∙ ap (λ (x : Key). x.score.0) key ∙ two.score_is ∙ sym (ap (λ (x : Accepted). score x.block.bytes) b_is) in
    ⊎_elim
    (λ (same : i ≡ k). same)
    (λ rest. ⊎_elim
    (λ (low : i < k). absurd (keys i k a low k_in kinds scores))
    (λ (high : k < i). absurd (keys k i a high i_in (sym kinds) (sym scores)))
    rest)
    (cases_order i k)

module _ {D : Type 0} (score : List ℕ → List ℕ) (c : Setup) (h : History) (t : SectionState D) (known : KnownBuckets) (agrees : KnownAgrees score c h t known) where
  -- the entries of the group are of their buckets
  group_blocks : PutsEntries t.phase → (n : ℕ) → (entry : Entry) → IsOfGroup t n entry
      → IsEntryOfBlock score c h entry × (bucket_of (bucket_count c) entry.key.score.0 ≡ n)
  group_blocks phase n entry of = (
    agrees.todo entry (phase, of_group t.written t.framed (entries_of t) entry of.0),
    sym (ap (λ (k : ℕ). bucket_of k entry.key.score.0) agrees.total) ∙ of.1,
  )

  -- a merged bucket has blocks of the history
  pub merged_blocks : PutsEntries t.phase → (n : ℕ) → InRange t.head t.buckets n → (old new : List Entry) → known n ≡ Some old → Merges old (IsOfGroup t n) new
      → (entry : Entry) → Contains new entry → IsEntryOfBlock score c h entry × (bucket_of (bucket_count c) entry.key.score.0 ≡ n)
  merged_blocks phase n within old new is merges entry has = ⊎_elim
      (λ (of : IsOfGroup t n entry). group_blocks phase n entry of)
      (λ was. agrees.blocks n old entry within is was.0)
      (merges.from entry has)

  -- and has the block of each entry that it had or got
  pub merged_has : PutsEntries t.phase → (n : ℕ) → InRange t.head t.buckets n → (old new : List Entry) → known n ≡ Some old → Merges old (IsOfGroup t n) new
      → (i : ℕ) (entry : Entry) → IsEntryOf score c h i entry → Contains old entry ⊎ IsOfGroup t n entry → HasBlock score c h (Contains new) i
  merged_has phase n within old new is merges i entry of has =
      let other = merges.keeps entry has in
      let block = merged_blocks phase n within old new is merges other.0 other.1 in
      let same : block.0.0 ≡ i = same_block score c h agrees.keys block.0.0 i other.0 entry block.0.1 of other.2 in
      (other.0, other.1, subst (λ (k : ℕ). IsEntryOf score c h k other.0) same block.0.1)

  module _ (file : List ℕ) (left : LeavesSection t known file) where
    some_of : (n : ℕ) → InRange t.head t.buckets n → (old : List Entry) × (known n ≡ Some old)
    some_of n within = of (known n) refl (agrees.whole n within)
      where
        of : (k : Option (List Entry)) → known n ≡ k → IsSome k → (old : List Entry) × (known n ≡ Some old)
        of None is some = absurd (false≢true some)
        of (Some old) is some = (old, is)

    blocks : (n : ℕ) (entry : Entry) → InRange t.head t.buckets n → Contains (left.1 n) entry
        → IsEntryOfBlock score c h entry × (bucket_of (bucket_count c) entry.key.score.0 ≡ n)
    blocks n entry within has =
        let old = some_of n within in
        ⊎_elim
        (λ (same : left.1 n ≡ old.0). agrees.blocks n old.0 entry within old.1 (subst (λ (l : List Entry). Contains l entry) same has))
        (λ (merged : IsChanging t n × Merges old.0 (IsOfGroup t n) (left.1 n)).
        merged_blocks merged.0.1.0 n within old.0 (left.1 n) old.1 merged.1 entry has)
        (left.4 n old.0 within old.1)

    kept : (n i : ℕ) → InRange t.head t.buckets n → (old : List Entry) → known n ≡ Some old → (entry : Entry) → Contains old entry → IsEntryOf score c h i entry
        → HasBlock score c h (Contains (left.1 n)) i
    kept n i within old is entry has of = ⊎_elim
        (λ (same : left.1 n ≡ old). (entry, subst (λ (l : List Entry). Contains l entry) (sym same) has, of))
        (λ (merged : IsChanging t n × Merges old (IsOfGroup t n) (left.1 n)).
        merged_has merged.0.1.0 n within old (left.1 n) is merged.1 i entry of (inl has))
        (left.4 n old within is)

    covered : (others : Entry → Type 0) (mark : ℕ) → ((entry : Entry) → ¬ others entry) → IsMarkCovered score c h t known others mark
        → (n i : ℕ) → InRange t.head t.buckets n → i < mark → IsInBucket score c h n i → HasBlock score c h (Contains (left.1 n)) i
    covered others mark none cover n i within below in_it =
        let old = some_of n within in
        let it = cover.has n i old.0 within old.1 below in_it in
        ⊎_elim
        (λ (has : Contains old.0 it.0). kept n i within old.0 old.1 it.0 has it.2)
        (λ (other : others it.0). absurd (none it.0 other))
        it.1

    no_todo : t.phase ≡ ChangeHead → (entry : Entry) → ¬ IsTodo t entry
    no_todo way entry todo = no_bucket t.phase way todo.0
      where
        no_bucket : (p : Phase) → p ≡ ChangeHead → PutsEntries p → ⊥
        no_bucket p is has = subst PutsEntries is has

    -- what the head is for the marks
    pub leaves_agree : left.0.state ≡ 1 → AgreesWith score c h t.buckets left.0 left.1
    leaves_agree live = ⊎_elim
        (λ (is : left.0 ≡ t.head). made (ap (λ (x : Head). x.first) is) (ap (λ (x : Head). x.total) is)
        (let cover = agrees.filed (sym (ap (λ (x : Head). x.state) is) ∙ live) in (
          subst (λ (m : ℕ). m ≤ length h) (sym (ap (λ (x : Head). x.mark) is)) cover.fits,
          λ n i within below in_it. covered NoOthers t.head.mark (λ e no. no) cover n i within (subst (λ (m : ℕ). i < m) (ap (λ (x : Head). x.mark) is) below) in_it,
        )))
        (λ (is : (t.phase ≡ ChangeHead) × TwinHasBegunSelector t.head_twin × (left.0 ≡ t.next)). made
        (ap (λ (x : Head). x.first) is.2 ∙ agrees.same_first) (ap (λ (x : Head). x.total) is.2 ∙ agrees.same_total)
        (let cover = agrees.coming (sym (ap (λ (x : Head). x.state) is.2) ∙ live) in (
          subst (λ (m : ℕ). m ≤ length h) (sym (ap (λ (x : Head). x.mark) is.2)) cover.fits,
          λ n i within below in_it. covered (IsTodo t) t.next.mark (no_todo is.0) cover n i within (subst (λ (m : ℕ). i < m) (ap (λ (x : Head). x.mark) is.2) below) in_it,
        )))
        left.3
      where
        made : left.0.first ≡ t.head.first → left.0.total ≡ t.head.total
            → (left.0.mark ≤ length h) × ((n i : ℕ) → InRange t.head t.buckets n → i < left.0.mark → IsInBucket score c h n i → HasBlock score c h (Contains (left.1 n)) i)
            → AgreesWith score c h t.buckets left.0 left.1
        made first total marks = record {
          keys = agrees.keys;
          total = total ∙ agrees.total;
          blocks = λ n entry within has. blocks n entry (here n within) has;
          ascending = λ n within. (left.2.bucket n within).2.body.allowed.ascending;
          filed = λ n i within below in_it. marks.1 n i (here n within) below in_it;
          mark_fits = marks.0;
        }
          where
            here : (n : ℕ) → InRange left.0 t.buckets n → InRange t.head t.buckets n
            here n within = subst (λ (k : ℕ). (k ≤ n) × (n < k + t.buckets)) first within
