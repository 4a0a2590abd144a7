-- What the steps of a writeback keep.
use Rattle.std.proofs.Common.{◌≡◌, ◌⊎◌, inl, inr, ⊎_elim, ℕ, ◌+◌, ◌%◌, ◌<◌, List, get_or, drop, Result, Ok, Err, refl, sym, ◌∙◌, ap, subst, arith, lit<}
use Rattle.std.specs.Prelude.{IsErrAnd}
use Rattle.std.proofs.lemmas.List.{get_or-take, get_or-drop}
use Rattle.vt_disk.specs.declared.region.Region.{Region}
use Rattle.vt_disk.specs.Disk.{part}
use Rattle.vt_twin.specs.Frames.{named_number}
use Rattle.std.specs.List.{Contains}
use Rattle.vt_base.specs.declared.place.Entry.{Entry}
use Rattle.vt_model.specs.History.{History}
use Rattle.vt_model.specs.Places.{Setup}
use Rattle.vt_twin.specs.declared.step.Step.{Step}
use Rattle.vt_isect.specs.declared.error.ShardErr.{ShardErr}
use Rattle.vt_isect.specs.declared.error.ShardErr.TheVariants.{Fault}
use Rattle.vt_isect.specs.declared.head.Head.{Head}
use Rattle.vt_isect.specs.declared.phase.Phase.TheVariants.{ReadFrame}
use Rattle.vt_isect.specs.Agreement.{IsMarkCovered, NoOthers, KnownAgrees}
use Rattle.vt_isect.specs.Layout.{InRange, IsBucketPlace}
use Rattle.vt_isect.specs.Section.{SectionState, IsTodo}
use Rattle.vt_isect.specs.Sound.{KnownBuckets, IsSoundSection}
use Rattle.vt_isect.specs.Writeback.{Completes, Follows}
use Rattle.vt_isect.proofs.Places.{one_place}

-- a step keeps what is known, by what a read gives and what a crash may leave before it and after it
abbrev pub KeepsAt : {D : Type 0} → Result Step ShardErr → (t u : SectionState D)
    → (read : List ℕ) → (images : List ℕ → Type 0)
    → (reads : List ℕ) → (after : List ℕ → Type 0) → Type 0
KeepsAt result t u read images reads after = (known : KnownBuckets) → IsSoundSection t known read images
    → (knows : KnownBuckets) × Follows result t u known knows × IsSoundSection u knows reads after
    × ((score : List ℕ → List ℕ) (c : Setup) (h : History)
    → KnownAgrees score c h t known → KnownAgrees score c h u knows)

-- a step that completes no bucket
pub keeps_quiet : {D : Type 0} (result : Result Step ShardErr) (t u : SectionState D) (read reads : List ℕ) (images after : List ℕ → Type 0)
    → ((n : ℕ) → ¬ Completes result t n)
    → ((known : KnownBuckets) → IsSoundSection t known read images → IsSoundSection u known reads after)
    → ((score : List ℕ → List ℕ) (c : Setup) (h : History) (known : KnownBuckets) → KnownAgrees score c h t known → KnownAgrees score c h u known)
    → KeepsAt result t u read images reads after
keeps_quiet result t u read reads images after none sound agree known is = (
  known,
  record { kept = λ n first no. refl; merged = λ n entries first done. absurd (none n done) },
  sound known is,
  λ score c h agrees. agree score c h known agrees,
)

-- a mark is covered by more
pub covers_more : {D : Type 0} (score : List ℕ → List ℕ) (c : Setup) (h : History) (t u : SectionState D) (known : KnownBuckets) (others more : Entry → Type 0) (mark : ℕ)
    → u.head ≡ t.head → u.buckets ≡ t.buckets → ((entry : Entry) → others entry → more entry)
    → IsMarkCovered score c h t known others mark → IsMarkCovered score c h u known more mark
covers_more score c h t u known others more mark head buckets grow cover = record {
  fits = cover.fits;
  has = λ n i entries within is below in_it.
      let here : InRange t.head t.buckets n = subst (λ (b : ℕ). InRange t.head b n) buckets (subst (λ (x : Head). InRange x u.buckets n) head within) in
      let it = cover.has n i entries here is below in_it in
      (it.0, ⊎_elim (λ (has : Contains entries it.0). inl has) (λ (other : others it.0). inr (grow it.0 other)) it.1, it.2);
}

-- the same is under way, or nothing any more
pub agrees_as : {D : Type 0} (score : List ℕ → List ℕ) (c : Setup) (h : History) (t u : SectionState D) (known : KnownBuckets)
    → u.head ≡ t.head → u.buckets ≡ t.buckets → ((u.next ≡ t.next) × ((entry : Entry) → IsTodo t entry → IsTodo u entry)) ⊎ (u.next ≡ t.head)
    → ((entry : Entry) → IsTodo u entry → IsTodo t entry)
    → KnownAgrees score c h t known → KnownAgrees score c h u known
agrees_as score c h t u known head buckets next back agrees = record {
  keys = agrees.keys;
  total = ap (λ (x : Head). x.total) head ∙ agrees.total;
  same_first = ⊎_elim
      (λ e. ap (λ (x : Head). x.first) e.0 ∙ agrees.same_first ∙ sym (ap (λ (x : Head). x.first) head))
      (λ (e : u.next ≡ t.head). ap (λ (x : Head). x.first) (e ∙ sym head))
      next;
  same_total = ⊎_elim
      (λ e. ap (λ (x : Head). x.total) e.0 ∙ agrees.same_total ∙ sym (ap (λ (x : Head). x.total) head))
      (λ (e : u.next ≡ t.head). ap (λ (x : Head). x.total) (e ∙ sym head))
      next;
  whole = λ n within. agrees.whole n (here n within);
  blocks = λ n entries entry within is has. agrees.blocks n entries entry (here n within) is has;
  todo = λ entry way. agrees.todo entry (back entry way);
  filed = λ live. subst (λ (m : ℕ). IsMarkCovered score c h u known NoOthers m) (sym (ap (λ (x : Head). x.mark) head))
      (filed (sym (ap (λ (x : Head). x.state) head) ∙ live));
  coming = λ live. ⊎_elim
      (λ e. subst (λ (m : ℕ). IsMarkCovered score c h u known (IsTodo u) m) (sym (ap (λ (x : Head). x.mark) e.0))
      (covers_more score c h t u known (IsTodo t) (IsTodo u) t.next.mark head buckets e.1 (agrees.coming (sym (ap (λ (x : Head). x.state) e.0) ∙ live))))
      (λ (e : u.next ≡ t.head). subst (λ (m : ℕ). IsMarkCovered score c h u known (IsTodo u) m) (sym (ap (λ (x : Head). x.mark) e))
      (covers_more score c h u u known NoOthers (IsTodo u) t.head.mark refl refl (λ entry none. absurd none) (filed (sym (ap (λ (x : Head). x.state) e) ∙ live))))
      next;
}
  where
    here : (n : ℕ) → InRange u.head u.buckets n → InRange t.head t.buckets n
    here n within = subst (λ (x : Head). InRange x t.buckets n) head (subst (λ (b : ℕ). InRange u.head b n) buckets within)

    filed : t.head.state ≡ 1 → IsMarkCovered score c h u known NoOthers t.head.mark
    filed live = covers_more score c h t u known NoOthers NoOthers t.head.mark head buckets (λ e no. no) (agrees.filed live)

pub same_selector : (a b : ℕ) → ReadFrame a ≡ ReadFrame b → a ≡ b
same_selector a b is = cc

-- a byte that was read
pub first_byte : (buf file : List ℕ) (start : ℕ) → buf ≡ part start 1 file → get_or buf 0 0 ≡ get_or file start 0
first_byte buf file start is =
    ap (λ (l : List ℕ). get_or l 0 0) is ∙ get_or-take 1 (drop start file) 0 0 (lit< tt) ∙ get_or-drop start file 0 0 ∙ ap (λ (k : ℕ). get_or file k 0) (let e : start + 0 ≡ start = omega arith in e)

-- the number that was read is still the one that the selector names
pub selector_read : (number k j : ℕ) (file : List ℕ) (place region : Region) → IsBucketPlace j place → IsBucketPlace j region → number < 2
    → number ≡ named_number place 8192 file → ReadFrame number ≡ ReadFrame k → named_number region 8192 file ≡ k % 2
selector_read number k j file place region here there low named phases =
    let same = same_selector number k phases in
    ap (λ (r : Region). named_number r 8192 file) (one_place j region place there here) ∙ sym named ∙ (let e : number ≡ k % 2 = omega (arith, same, low) in e)

-- a fault that is handed on
pub fault_of : (r : Result Step ShardErr) → IsErrAnd r (λ bad. bad ≡ Fault) → Err Fault ≡ r
fault_of (Ok step) is = absurd is
fault_of (Err bad) is = ap (λ (b : ShardErr). Err b) (sym is)
