-- The end of a group: its selectors are synced, or it is given up.
use Rattle.std.proofs.Common.{◌≡◌, ◌≢◌, ◌⊎◌, inl, inr, ⊎_elim, ℕ, ◌-◌, ◌≤◌, List, Option, Some, None, Ok, refl, sym, ◌∙◌, ap, subst, arith}
use Rattle.std.proofs.lemmas.Option.{same_Some}
use Rattle.std.specs.Prelude.{IsSome}
use Rattle.std.specs.List.{Contains}
use Rattle.vt_base.specs.declared.place.Entry.{Entry}
use Rattle.vt_disk.specs.Disk.{AreAmong, Only}
use Rattle.vt_model.specs.History.{History}
use Rattle.vt_model.specs.Places.{Setup}
use Rattle.vt_twin.specs.Twin.{fresh, twin_after_last, twin_calls_made, next_frame}
use Rattle.vt_twin.specs.declared.step.Step.TheVariants.{More}
use Rattle.vt_twin.proofs.Changes.{begun_bound}
use Rattle.vt_twin.proofs.Sound.{reads_sound}
use Rattle.vt_isect.specs.Agreement.{HasBlock, IsMarkCovered, KnownAgrees, NoOthers}
use Rattle.vt_isect.specs.declared.head.Head.{Head}
use Rattle.vt_isect.specs.declared.phase.Phase.{Phase}
use Rattle.vt_isect.specs.declared.phase.Phase.TheVariants.{Rest, ReadFrame, WriteFrame, SyncSelectors, ChangeHead}
use Rattle.vt_isect.specs.Layout.{head_place, IsBucketPlace, InRange}
use Rattle.vt_isect.specs.Merging.{Merges}
use Rattle.vt_isect.specs.Section.{SectionState, IsChanging, IsGroup, IsOfGroup, IsTodo, PutsEntries, bucket_number}
use Rattle.vt_isect.specs.Sound.{KnownBuckets, HoldsBucket, IsSoundSection, made_of}
use Rattle.vt_isect.specs.Writeback.{Follows}
use Rattle.vt_isect.proofs.AgreesWith.{merged_blocks, merged_has}
use Rattle.vt_isect.proofs.IsSoundSection.{SameStanding, apart_stands, holds_as, reads_pass, section_as}
use Rattle.vt_isect.proofs.KnownAgrees.{its_bucket}
use Rattle.vt_isect.proofs.Members.{Stands, standing}
use Rattle.vt_isect.proofs.Twins.{given_up, selector_settles}

module _ {D : Type 0} (t u : SectionState D) (known : KnownBuckets) (read reads : List ℕ) (images after : List ℕ → Type 0)
    (name : u.name ≡ t.name) (head : u.head ≡ t.head) (buckets : u.buckets ≡ t.buckets) (twin : u.head_twin ≡ t.head_twin)
    (rest : u.phase ≡ Rest) (goes : t.stopped ≡ None) (no_head : t.phase ≢ ChangeHead)
    (same : reads ≡ read) (among : AreAmong after images) (sound : IsSoundSection t known read images) where
  never : (n : ℕ) → ¬ IsChanging u n
  never n way = subst PutsEntries rest way.1.0

  apart_still : (n : ℕ) → ¬ IsChanging t n → SameStanding t u n
  apart_still n still = apart_stands t u n (ap (λ (h : Head). h.first) head) still (never n) (λ none. goes)

  rests : (knows : KnownBuckets) → ((n : ℕ) (entries : List Entry) → InRange t.head t.buckets n → knows n ≡ Some entries → HoldsBucket u n entries reads after)
      → IsSoundSection u knows reads after
  rests knows holds = section_as t u known knows read reads images after name head buckets twin no_head
      (λ e. let no : Rest ≡ ChangeHead = sym rest ∙ e in cc)
      (reads_pass head_place read reads images after same among) holds sound
      (λ s e. let no : Rest ≡ ReadFrame s = sym rest ∙ e in absurd (cc))
      (λ s e. let no : Rest ≡ WriteFrame s = sym rest ∙ e in absurd (cc))
      (λ s entries e. let no : Rest ≡ WriteFrame s = sym rest ∙ e in absurd (cc))

  -- ---- what is under way is given up: no selector's write began

  ended : ((j : ℕ) → made_of t.phase j ≤ 1) → (n : ℕ) (entries : List Entry) → HoldsBucket t n entries read images → Stands t n ⊎ ¬ IsChanging t n → HoldsBucket u n entries reads after
  ended few n entries it (inr still) = holds_as t u n entries read reads images after (apart_still n still) (λ region place. reads_pass region read reads images after same among) it
  ended few n entries it (inl at) =
      let come = it.changing at.0 at.1 at.3 at.2 in
      let one : twin_calls_made it.twin ≤ 1 = omega (arith, come.made, few at.0) in
      record {
        region = it.region;
        place = subst (λ (h : Head). IsBucketPlace (n - h.first) it.region) (sym head) it.place;
        twin = fresh it.twin.frame_len it.twin.current;
        frame = it.frame;
        frame_len = it.frame_len;
        sound = reads_sound (fresh it.twin.frame_len it.twin.current) it.region it.frame read reads images after same among
            (given_up it.twin it.region it.frame read images (λ begun. omega (arith, begun, begun_bound it.twin, one)) it.sound);
        spelled = it.spelled;
        rest = λ still. refl;
        changing = λ j m of is. absurd (never n (m, of));
      }

  pub ends_sound : ((j : ℕ) → made_of t.phase j ≤ 1) → IsSoundSection u known reads after
  ends_sound few = rests known (λ n entries within is. ended few n entries (sound.bucket n entries within is) (standing t n))

  -- ---- the selectors are synced

  module _ (phase : t.phase ≡ SyncSelectors) (group : IsGroup t) (settled : Only read after) where
    puts : PutsEntries t.phase
    puts = subst PutsEntries (sym phase) tt

    -- a bucket of the group has its entries, too
    abbrev Merged : (n : ℕ) → (old new : List Entry) → Type 0
    Merged n old new = Merges old (IsOfGroup t n) new × HoldsBucket u n new reads after

    merged_of : (n : ℕ) (at : Stands t n) (old : List Entry) → known n ≡ Some old → (new : List Entry) × Merged n old new
    merged_of n at old is =
        let within : InRange t.head t.buckets n = subst (InRange t.head t.buckets) at.3.2 (group.members at.1 at.3.1).0 in
        let it = sound.bucket n old within is in
        let come = it.changing at.0 at.1 at.3 at.2 in
        let three : twin_calls_made it.twin ≡ 3 = come.made ∙ ap (λ (p : Phase). made_of p at.0) phase in (
          come.new,
          (
            come.merges,
            record {
              region = it.region;
              place = subst (λ (h : Head). IsBucketPlace (n - h.first) it.region) (sym head) it.place;
              twin = twin_after_last it.twin;
              frame = next_frame it.twin;
              frame_len = it.frame_len;
              sound = selector_settles it.twin it.region it.frame read reads images after same among settled it.sound three;
              spelled = come.spelled;
              rest = λ still. refl;
              changing = λ j m of is. absurd (never n (m, of));
            },
          ),
        )

    -- what is known then
    pick : (n : ℕ) → Stands t n ⊎ ¬ IsChanging t n → (o : Option (List Entry)) → known n ≡ o → Option (List Entry)
    pick n (inl at) None is = None
    pick n (inl at) (Some old) is = Some (merged_of n at old is).0
    pick n (inr still) o is = o

    pub knows : KnownBuckets
    knows n = pick n (standing t n) (known n) refl

    seen : (n : ℕ) (entries : List Entry) (s : Stands t n ⊎ ¬ IsChanging t n) (o : Option (List Entry)) (is : known n ≡ o) → pick n s o is ≡ Some entries
        → (IsChanging t n × (old : List Entry) × (known n ≡ Some old) × Merged n old entries) ⊎ (¬ IsChanging t n × (known n ≡ Some entries))
    unfolding pick
    seen n entries (inl at) None is e = absurd (cc)
    seen n entries (inl at) (Some old) is e =
        let it = merged_of n at old is in
        inl ((at.1, at.3), old, is, subst (Merged n old) (same_Some it.0 entries e) it.1)
    seen n entries (inr still) o is e = inr (still, is ∙ e)

    kept : (n : ℕ) (s : Stands t n ⊎ ¬ IsChanging t n) (o : Option (List Entry)) (is : known n ≡ o) → ¬ IsChanging t n → pick n s o is ≡ o
    unfolding pick
    kept n (inl at) o is apart = absurd (apart (at.1, at.3))
    kept n (inr still) o is apart = refl

    merged : (n : ℕ) (s : Stands t n ⊎ ¬ IsChanging t n) (o : Option (List Entry)) (is : known n ≡ o) → IsChanging t n → (entries : List Entry) → known n ≡ Some entries
        → (new : List Entry) × (pick n s o is ≡ Some new) × Merges entries (IsOfGroup t n) new
    unfolding pick
    merged n (inl at) None is way entries e = absurd (let no : None ≡ Some entries = sym is ∙ e in cc)
    merged n (inl at) (Some old) is way entries e =
        let it = merged_of n at old is in
        (it.0, refl, subst (λ (l : List Entry). Merges l (IsOfGroup t n) it.0) (same_Some old entries (sym is ∙ e)) it.1.0)
    merged n (inr still) o is way entries e = absurd (still way)

    some_still : (n : ℕ) (s : Stands t n ⊎ ¬ IsChanging t n) (o : Option (List Entry)) (is : known n ≡ o) → IsSome o → IsSome (pick n s o is)
    unfolding pick
    some_still n (inl at) None is some = some
    some_still n (inl at) (Some old) is some = refl
    some_still n (inr still) o is some = some

    sees : (n : ℕ) (entries : List Entry) → knows n ≡ Some entries
        → (IsChanging t n × (old : List Entry) × (known n ≡ Some old) × Merged n old entries) ⊎ (¬ IsChanging t n × (known n ≡ Some entries))
    unfolding knows
    sees n entries e = seen n entries (standing t n) (known n) refl e

    pub settled_sound : IsSoundSection u knows reads after
    settled_sound = rests knows (λ n entries within is. ⊎_elim
        (λ new. new.3.1)
        (λ old. holds_as t u n entries read reads images after (apart_still n old.0) (λ region place. reads_pass region read reads images after same among) (sound.bucket n entries within old.1))
        (sees n entries is))

    pub settled_follows : (v : SectionState D) → Follows (Ok More) t v known knows
    unfolding knows
    settled_follows v = record {
      kept = λ n first no. kept n (standing t n) (known n) refl (λ way. no (refl, phase, way));
      merged = λ n entries first done is. merged n (standing t n) (known n) refl done.2 entries is;
    }

    -- what is known goes on to agree with a history
    module _ (v : SectionState D) (v_head : v.head ≡ t.head) (v_buckets : v.buckets ≡ t.buckets) (v_next : v.next ≡ t.next)
        (back : (entry : Entry) → IsTodo v entry → IsTodo t entry)
        (forth : (entry : Entry) → IsTodo t entry → IsOfGroup t (bucket_number t entry) entry ⊎ IsTodo v entry)
        (score : List ℕ → List ℕ) (c : Setup) (h : History) (agrees : KnownAgrees score c h t known) where
      here : (n : ℕ) → InRange v.head v.buckets n → InRange t.head t.buckets n
      here n within = subst (λ (x : Head). InRange x t.buckets n) v_head (subst (λ (b : ℕ). InRange v.head b n) v_buckets within)

      covered : (others more : Entry → Type 0) (mark : ℕ)
          → ((entry : Entry) → others entry → IsOfGroup t (bucket_number t entry) entry ⊎ more entry)
          → IsMarkCovered score c h t known others mark
          → IsMarkCovered score c h v knows more mark
      covered others more mark split cover = record {
        fits = cover.fits;
        has = λ n i entries within holds below at. ⊎_elim
            (λ new.
            let old = new.1 in
            let is = new.2 in
            let it = cover.has n i old (here n within) is below at in
            let put : Contains old it.0 ⊎ IsOfGroup t n it.0 → HasBlock score c h (λ entry. Contains entries entry ⊎ more entry) i =
            λ of.
            let found = merged_has score c h t known agrees puts n (here n within) old entries is new.3.0 i it.0 it.2 of in
            (found.0, inl found.1, found.2) in
            ⊎_elim
            (λ (has : Contains old it.0). put (inl has))
            (λ (other : others it.0). ⊎_elim
            (λ of. put (inr (of.0, its_bucket score c h t known agrees n i it.0 it.2 at)))
            (λ (m : more it.0). (it.0, inr m, it.2)) (split it.0 other))
            it.1)
            (λ old.
            let it = cover.has n i entries (here n within) old.1 below at in
            ⊎_elim
            (λ (has : Contains entries it.0). (it.0, inl has, it.2))
            (λ (other : others it.0). ⊎_elim
            (λ of. absurd (old.0 (subst (IsChanging t) (its_bucket score c h t known agrees n i it.0 it.2 at) (group.own it.0 of.0))))
            (λ (m : more it.0). (it.0, inr m, it.2)) (split it.0 other))
            it.1)
            (sees n entries holds);
      }

      pub settled_agrees : KnownAgrees score c h v knows
      unfolding knows
      settled_agrees = record {
        keys = agrees.keys;
        total = ap (λ (x : Head). x.total) v_head ∙ agrees.total;
        same_first = ap (λ (x : Head). x.first) v_next ∙ agrees.same_first ∙ sym (ap (λ (x : Head). x.first) v_head);
        same_total = ap (λ (x : Head). x.total) v_next ∙ agrees.same_total ∙ sym (ap (λ (x : Head). x.total) v_head);
        whole = λ n within. some_still n (standing t n) (known n) refl (agrees.whole n (here n within));
        blocks = λ n entries entry within holds has. ⊎_elim
            (λ new. merged_blocks score c h t known agrees puts n (here n within) new.1 entries new.2 new.3.0 entry has)
            (λ old. agrees.blocks n entries entry (here n within) old.1 has)
            (sees n entries holds);
        todo = λ entry way. agrees.todo entry (back entry way);
        filed = λ live. subst (λ (m : ℕ). IsMarkCovered score c h v knows NoOthers m) (sym (ap (λ (x : Head). x.mark) v_head))
            (covered NoOthers NoOthers t.head.mark (λ entry no. absurd no) (agrees.filed (sym (ap (λ (x : Head). x.state) v_head) ∙ live)));
        coming = λ live. subst (λ (m : ℕ). IsMarkCovered score c h v knows (IsTodo v) m) (sym (ap (λ (x : Head). x.mark) v_next))
            (covered (IsTodo t) (IsTodo v) t.next.mark forth (agrees.coming (sym (ap (λ (x : Head). x.state) v_next) ∙ live)));
      }
