-- All sections: their heads say that they are being built, and then they are finished.
use Rattle.std.proofs.Common.{◌≡◌, ◌⊎◌, ⊎_elim, inl, inr, ℕ, ◌+◌, ◌^◌, ◌<◌, ◌≤◌, List, length, Some, refl, sym, ◌∙◌, ap, subst, arith, get_or}
use Rattle.std.specs.Prelude.{IsTrue, All, slice_get, sum}
use Rattle.std.proofs.lemmas.Bool.{cases_lt}
use Rattle.std.proofs.lemmas.List.{get_or-map, length-map}
use Rattle.std.proofs.lemmas.List.Sums.{sum_by_more, sum_by_more_le}
use Rattle.std.proofs.lemmas.Option.{get_or_from_slice_get, same_Some, slice_get-get_or, slice_get_within}
use Rattle.vt_disk.specs.Members.{DiskOf}
use Rattle.vt_isect.specs.declared.head.Head.{Head}
use Rattle.vt_isect.specs.declared.phase.Phase.TheVariants.{Rest, ChangeHead}
use Rattle.vt_isect.specs.Agreement.{AgreesWith, KnownAgrees, LeavesAgreeing}
use Rattle.vt_isect.specs.Layout.{IsSection}
use Rattle.vt_isect.specs.Section.{SectionState}
use Rattle.vt_isect.specs.Sound.{DiskHolds, KnownBuckets, nothing_known}
use Rattle.vt_model.specs.History.{History}
use Rattle.vt_model.specs.Places.{Setup, bucket_count, first_bucket}
use Rattle.vt_rebuild.specs.declared.error.RebuildBad.{RebuildBad}
use Rattle.vt_rebuild.specs.declared.error.RebuildBad.TheVariants.{Fault, IndexFull, NoMemory}
use Rattle.vt_rebuild.specs.Building.{AreBegun, AreFinished, AreHalfBegun, AreHalfFinished, IsBuildBegun, IsFinished, IsRefusedFor, IsStoppedBuild, IsToFinish, in_use}
use Rattle.vt_rebuild.specs.Walking.{FaultOrMemory}
use Rattle.vt_rebuild.specs.Heads.{head_in}
use Rattle.vt_rebuild.specs.Rebuilt.{AreHalfRebuilt, AreRebuilt, IsBeingBuilt, IsComing, IsOpened, IsRebuilt, IsUnwrittenSection, MayBeInUse, counts_of}
use Rattle.vt_rebuild.proofs.Finishing.{same_then}
use Rattle.vt_rebuild.proofs.InTurn.{by_place, some_at}

-- what a crash leaves of a section of which all is known that agrees with the history
abbrev pub ImagesAgree : {D : Type 0} → DiskOf D → Type 0
ImagesAgree {D} disk = (score : List ℕ → List ℕ) (c : Setup) (h : History) (t : SectionState D) (known : KnownBuckets)
    → DiskHolds disk t known → KnownAgrees score c h t known → (file : List ℕ) → disk.images t.disk file → LeavesAgreeing score c h t known file

module _ {D : Type 0} (score : List ℕ → List ℕ) (disk : DiskOf D) (c : Setup) (h : History) (first : ℕ) (old mid new : SectionState D)
    (tells : IsTrue disk.tells) (begun : IsBuildBegun disk first (bucket_count c) old mid) (opened : DiskHolds disk old nothing_known) where
  holds_mid : DiskHolds disk mid nothing_known
  holds_mid = begun.built.holds tells opened

  live_head : in_use (length h) mid.head ≡ head_in 1 first old.buckets (bucket_count c) (length h)
  live_head = ap (λ (x : Head). in_use (length h) x) begun.built.head

  pub rebuilt : ImagesAgree disk → IsFinished score disk c h mid new → IsRebuilt score disk c h first old new
  rebuilt agree done =
      let all = done.all holds_mid in
      let same = same_then disk old mid new begun.built.same done.same in
      let head_is : new.head ≡ head_in 1 first old.buckets (bucket_count c) (length h) = done.head ∙ live_head in
      record {
        same = same;
        rest = done.rest;
        head = head_is;
        settled = done.settled;
        calls = omega (arith, done.calls, begun.calls tells, begun.built.same.buckets);
        images = λ file image.
            let left = agree score c h new all.known all.holds all.agrees file image in
            let there : left.0.0 ≡ new.head = ⊎_elim (λ is. is) (λ way. let no : Rest ≡ ChangeHead = sym done.rest ∙ way.0 in absurd (cc)) left.0.3 in
            let live : left.0.0.state ≡ 1 = ap (λ (x : Head). x.state) (there ∙ head_is) in
            let section : IsSection new.name new.head new.buckets left.0.1 file = subst (λ (x : Head). IsSection new.name x new.buckets left.0.1 file) there left.0.2 in
            let agrees : AgreesWith score c h new.buckets new.head left.0.1 = subst (λ (x : Head). AgreesWith score c h new.buckets x left.0.1) there (left.1 live) in (
              left.0.1,
              subst (λ (n : ℕ). IsSection old.name new.head n left.0.1 file) same.buckets
                  (subst (λ (name : List ℕ). IsSection name new.head new.buckets left.0.1 file) same.name section),
              subst (λ (n : ℕ). AgreesWith score c h n new.head left.0.1) same.buckets agrees,
            );
        known = all.known;
        holds = all.holds;
        agrees = all.agrees;
      }

  -- it is still being built, or all its entries are there
  pub half_stopped : IsStoppedBuild score disk c h mid new → IsBeingBuilt disk first (bucket_count c) old new ⊎ IsComing score disk c h first old new
  half_stopped stop =
      let same = same_then disk old mid new begun.built.same stop.same in
      let head_is : new.head ≡ head_in 2 first old.buckets (bucket_count c) 0 = stop.head ∙ begun.built.head in
      ⊎_elim
      (λ stays. inl (record { same = same; head = head_is; next = stays; holds = λ told was. stop.holds holds_mid }))
      (λ coming. inr (record {
        same = same;
        head = head_is;
        next = coming.0 ∙ live_head;
        known = coming.1.known;
        holds = coming.1.holds;
        agrees = coming.1.agrees;
      }))
      (stop.next holds_mid)

-- a section of which both heads say that it is being built isn't in live
not_in_use : {D : Type 0} (t : SectionState D) → t.head.state ≡ 2 → t.next ≡ t.head → MayBeInUse t → ⊥
not_in_use t building next live =
    let state : live.0.state ≡ 2 = ⊎_elim
    (λ is. ap (λ (x : Head). x.state) is ∙ building)
    (λ way. ap (λ (x : Head). x.state) (way.2 ∙ next) ∙ building)
    live.1 in
    let no : 1 ≡ 2 = sym live.2 ∙ state in
    cc

begun_not_in_use : {D : Type 0} (disk : DiskOf D) (first total : ℕ) (old new : SectionState D) → IsBeingBuilt disk first total old new → MayBeInUse new → ⊥
begun_not_in_use disk first total old new built live = not_in_use new (ap (λ (x : Head). x.state) built.head) built.next live

-- what holds of each
pub at_all : {X : Type 0} (P : X → Type 0) (xs : List X) (i : ℕ) (x : X) → All P xs → slice_get xs i ≡ Some x → P x
at_all P xs i x all at = subst P (get_or_from_slice_get xs i x x at) (all i x (slice_get_within xs i x at))

beside : {X Y : Type 0} (xs : List X) (ys : List Y) (i : ℕ) (x : X) (d : Y) → length ys ≡ length xs → slice_get xs i ≡ Some x → slice_get ys i ≡ Some (get_or ys i d)
beside xs ys i x d many at = slice_get-get_or ys i d (omega (arith, many, slice_get_within xs i x at))

module _ {D : Type 0} (score : List ℕ → List ℕ) (disk : DiskOf D) (c : Setup) (h : History) (olds mids news : List (SectionState D))
    (tells : IsTrue disk.tells) (begun : AreBegun disk (bucket_count c) olds mids) (opened : All (IsOpened disk) olds) (agree : ImagesAgree disk) where
  opened_at : (i : ℕ) (a : SectionState D) → slice_get olds i ≡ Some a → DiskHolds disk a nothing_known
  opened_at i a at = (at_all (IsOpened disk) olds i a opened at).sound tells

  rebuilt_at : (i : ℕ) (a d : SectionState D) → slice_get olds i ≡ Some a → IsFinished score disk c h (get_or mids i a) d
      → IsRebuilt score disk c h (first_bucket (counts_of olds) i) a d
  rebuilt_at i a d at done = rebuilt score disk c h (first_bucket (counts_of olds) i) a (get_or mids i a) d tells
      (begun.each i a (get_or mids i a) at (beside olds mids i a a begun.many at)) (opened_at i a at) agree done

  pub all_rebuilt : AreFinished score disk c h mids news → AreRebuilt score disk c h olds news
  all_rebuilt done = record {
    many = done.many ∙ begun.many;
    each = λ i a d at there. rebuilt_at i a d at (done.each i (get_or mids i a) d (beside olds mids i a a begun.many at) there);
  }

  module _ (stop : AreHalfFinished score disk c h mids news) where
    before_at : (i : ℕ) (a d : SectionState D) → i < stop.at → slice_get olds i ≡ Some a → slice_get news i ≡ Some d
        → IsRebuilt score disk c h (first_bucket (counts_of olds) i) a d
    before_at i a d less at there = rebuilt_at i a d at (stop.before i (get_or mids i a) d less (beside olds mids i a a begun.many at) there)

    here_at : (i : ℕ) (a d : SectionState D) → i ≡ stop.at → slice_get olds i ≡ Some a → slice_get news i ≡ Some d
        → IsBeingBuilt disk (first_bucket (counts_of olds) i) (bucket_count c) a d ⊎ IsComing score disk c h (first_bucket (counts_of olds) i) a d
    here_at i a d is at there =
        let between : slice_get mids i ≡ Some (get_or mids i a) = beside olds mids i a a begun.many at in
        half_stopped score disk c h (first_bucket (counts_of olds) i) a (get_or mids i a) d tells (begun.each i a (get_or mids i a) at between) (opened_at i a at)
        (stop.here (get_or mids i a) d (ap (λ (k : ℕ). slice_get mids k) (sym is) ∙ between) (ap (λ (k : ℕ). slice_get news k) (sym is) ∙ there))

    behind_at : (i : ℕ) (a d : SectionState D) → stop.at < i → slice_get olds i ≡ Some a → slice_get news i ≡ Some d
        → IsBeingBuilt disk (first_bucket (counts_of olds) i) (bucket_count c) a d
    behind_at i a d later at there = (begun.each i a d at (sym (stop.behind i later) ∙ there)).built

    many_news : length news ≡ length olds
    many_news = stop.many ∙ begun.many

    -- where all may be in live, none stands behind the one that was stopped
    last_stopped : ((i : ℕ) (t : SectionState D) → slice_get news i ≡ Some t → MayBeInUse t) → length olds ≤ stop.at + 1
    last_stopped live = ⊎_elim
        (λ (more : stop.at + 1 < length olds).
        let old = some_at olds (stop.at + 1) more in
        let new = some_at news (stop.at + 1) (omega (arith, more, many_news)) in
        absurd (begun_not_in_use disk (first_bucket (counts_of olds) (stop.at + 1)) (bucket_count c) old.0 new.0
        (behind_at (stop.at + 1) old.0 new.0 (omega arith) old.1 new.1) (live (stop.at + 1) new.0 new.1)))
        (λ (most : length olds ≤ stop.at + 1). most)
        (cases_lt (stop.at + 1) (length olds))

    pub half_finished : AreHalfRebuilt score disk c h olds news
    half_finished = record {
      all = record {
        many = many_news;
        each = λ i a d at there. by_place i stop.at
            (λ less. inr (inr (inr (before_at i a d less at there))))
            (λ is. ⊎_elim (λ built. inr (inl built)) (λ coming. inr (inr (inl coming))) (here_at i a d is at there))
            (λ later. inr (inl (behind_at i a d later at there)));
      };
      together = λ live. inr (record {
        many = many_news;
        each = λ i a d at there. by_place i stop.at
            (λ less. inr (before_at i a d less at there))
            (λ is. ⊎_elim
            (λ built. absurd (begun_not_in_use disk (first_bucket (counts_of olds) i) (bucket_count c) a d built (live i d there)))
            (λ coming. inl coming)
            (here_at i a d is at there))
            (λ later. absurd (omega (arith, later, last_stopped live, slice_get_within olds i a at)));
      });
    }

module _ {D : Type 0} (score : List ℕ → List ℕ) (disk : DiskOf D) (c : Setup) (h : History) (olds news : List (SectionState D)) where
  same_at : (i : ℕ) (a d : SectionState D) → slice_get news i ≡ slice_get olds i → slice_get olds i ≡ Some a → slice_get news i ≡ Some d → d ≡ a
  same_at i a d same at there = same_Some d a (sym there ∙ same ∙ at)

  pub half_begun : AreHalfBegun disk (bucket_count c) olds news → AreHalfRebuilt score disk c h olds news
  half_begun stop = record {
    all = record {
      many = stop.many;
      each = λ i a d at there. by_place i stop.at
          (λ less. inr (inl (stop.before i a d less at there).built))
          (λ is. inl (unwritten_here i a d is at there))
          (λ later. inl (inl (same_at i a d (stop.behind i later) at there)));
    };
    together = λ live. inl (record {
      many = stop.many;
      each = λ i a d at there. by_place i stop.at
          (λ less. absurd (omega (arith, less, none_before live)))
          (λ is. unwritten_here i a d is at there)
          (λ later. inl (same_at i a d (stop.behind i later) at there));
    });
  }
    where
      unwritten_here : (i : ℕ) (a d : SectionState D) → i ≡ stop.at → slice_get olds i ≡ Some a → slice_get news i ≡ Some d
          → IsUnwrittenSection disk (first_bucket (counts_of olds) i) (bucket_count c) a d
      unwritten_here i a d is at there =
          subst (λ (k : ℕ). IsUnwrittenSection disk (first_bucket (counts_of olds) k) (bucket_count c) a d) (sym is)
          (stop.here a d (ap (λ (k : ℕ). slice_get olds k) (sym is) ∙ at) (ap (λ (k : ℕ). slice_get news k) (sym is) ∙ there))

      none_before : ((i : ℕ) (t : SectionState D) → slice_get news i ≡ Some t → MayBeInUse t) → stop.at ≤ 0
      none_before live = ⊎_elim
          (λ (some : 0 < stop.at).
          let old = some_at olds 0 (omega (arith, some, stop.within)) in
          let new = some_at news 0 (omega (arith, some, stop.within, stop.many)) in
          absurd (begun_not_in_use disk (first_bucket (counts_of olds) 0) (bucket_count c) old.0 new.0
          (stop.before 0 old.0 new.0 some old.1 new.1).built (live 0 new.0 new.1)))
          (λ (none : stop.at ≤ 0). none)
          (cases_lt 0 stop.at)

pub half_as_they_were : {D : Type 0} (score : List ℕ → List ℕ) (disk : DiskOf D) (c : Setup) (h : History) (olds : List (SectionState D)) → AreHalfRebuilt score disk c h olds olds
half_as_they_were {D} score disk c h olds = record {
  all = record { many = refl; each = λ i a d at there. inl (inl (same_Some d a (sym there ∙ at))) };
  together = λ live. inl (record { many = refl; each = λ i a d at there. inl (same_Some d a (sym there ∙ at)) });
}

-- ---- refusals

pub fault_refused : (score : List ℕ → List ℕ) (total : ℕ) (h : History) (bad : RebuildBad) → bad ≡ Fault → IsRefusedFor score total h bad
fault_refused score total h bad is = subst (λ (b : RebuildBad). IsRefusedFor score total h b) (sym is) tt

pub either_refused : (score : List ℕ → List ℕ) (total : ℕ) (h : History) (bad : RebuildBad) → FaultOrMemory bad → IsRefusedFor score total h bad
either_refused score total h bad either = ⊎_elim
    (λ (is : bad ≡ Fault). fault_refused score total h bad is)
    (λ (is : bad ≡ NoMemory). subst (λ (b : RebuildBad). IsRefusedFor score total h b) (sym is) tt)
    either

-- neither is a bucket that is too full
pub not_full : (bad : RebuildBad) (n : ℕ) → FaultOrMemory bad → bad ≡ IndexFull n → ⊥
not_full bad n either full = ⊎_elim
    (λ (is : bad ≡ Fault). let no : Fault ≡ IndexFull n = sym is ∙ full in cc)
    (λ (is : bad ≡ NoMemory). let no : NoMemory ≡ IndexFull n = sym is ∙ full in cc)
    either

-- ---- their numbers

-- the buckets of a section are among those of all
pub within_all : {D : Type 0} (sections : List (SectionState D)) (i : ℕ) (t : SectionState D) → slice_get sections i ≡ Some t
    → first_bucket (counts_of sections) i + t.buckets ≤ sum (counts_of sections)
within_all {D} sections i t at =
    let below : i < length sections = slice_get_within sections i t at in
    let here : get_or (counts_of sections) i 0 ≡ t.buckets = get_or-map (λ (s : SectionState D). s.buckets) sections i t 0 below ∙ ap (λ (s : SectionState D). s.buckets) (get_or_from_slice_get sections i t t at) in
    omega (arith, here, sum_by_more_le (λ (n : ℕ). n) (counts_of sections) i 0 (omega (arith, below, length-map sections (λ (s : SectionState D). s.buckets))))

-- and the next section has its first one behind them
pub first_behind : {D : Type 0} (sections : List (SectionState D)) (i : ℕ) (t : SectionState D) → slice_get sections i ≡ Some t
    → first_bucket (counts_of sections) (i + 1) ≡ first_bucket (counts_of sections) i + t.buckets
first_behind {D} sections i t at =
    let below : i < length sections = slice_get_within sections i t at in
    let here : get_or (counts_of sections) i 0 ≡ t.buckets = get_or-map (λ (s : SectionState D). s.buckets) sections i t 0 below ∙ ap (λ (s : SectionState D). s.buckets) (get_or_from_slice_get sections i t t at) in
    omega (arith, here, sum_by_more (λ (n : ℕ). n) (counts_of sections) i 0 (omega (arith, below, length-map sections (λ (s : SectionState D). s.buckets))))

-- a sum that goes on with the next section's buckets
pub sum_fits : (sum result first more most : ℕ) → sum ≡ first → result ≡ more → first + more ≤ most → most ≤ 1048576 → sum + result < 2 ^ 32
sum_fits sum result first more most sum_is result_is fits few = omega (arith, sum_is, result_is, fits, few)

pub sum_more : (sum result first more next : ℕ) → sum ≡ first → result ≡ more → next ≡ first + more → sum + result ≡ next
sum_more sum result first more next sum_is result_is next_is = omega (arith, sum_is, result_is, next_is)

begun_to_finish : {D : Type 0} (disk : DiskOf D) (total first : ℕ) (a b : SectionState D) → IsBuildBegun disk first total a b → first + a.buckets ≤ total → IsToFinish total b
begun_to_finish disk total first a b it fits =
    let head = it.built.head in
    let same : b.buckets ≡ a.buckets = it.built.same.buckets in
    record {
      rest = it.rest;
      state = ap (λ (x : Head). x.state) head;
      count = ap (λ (x : Head). x.count) head ∙ sym same;
      total_is = ap (λ (x : Head). x.total) head;
      within = let first_is : b.head.first ≡ first = ap (λ (x : Head). x.first) head in omega (arith, first_is, same, fits);
      next = it.built.next;
    }

pub to_finish : {D : Type 0} (disk : DiskOf D) (total : ℕ) (olds mids : List (SectionState D)) → total ≡ sum (counts_of olds) → AreBegun disk total olds mids → All (IsToFinish total) mids
to_finish {D} disk total olds mids all it = λ i d below.
    let b : SectionState D = get_or mids i d in
    let at : slice_get mids i ≡ Some b = slice_get-get_or mids i d below in
    let before : slice_get olds i ≡ Some (get_or olds i d) = slice_get-get_or olds i d (omega (arith, below, it.many)) in
    begun_to_finish disk total (first_bucket (counts_of olds) i) (get_or olds i d) b (it.each i (get_or olds i d) b before at)
    (omega (arith, all, within_all olds i (get_or olds i d) before))
