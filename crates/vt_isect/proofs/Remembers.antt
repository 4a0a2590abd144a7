-- What is remembered of current frames stays so.
use Rattle.std.proofs.Common.{◌≡◌, ◌≢◌, ⊎_elim, ℕ, zero, suc, ◌+◌, ◌%◌, ◌<◌, ◌≤◌, List, [], ◌∷◌, length, length-set, get_or, drop, replicate, Option, Some, None, Result, Ok, Err, IsTrue, refl, sym, ◌∙◌, ap, subst, arith}
use Rattle.std.specs.Prelude.{slice_get, slice_set, IfOk, IfSome, OnErr}
use Rattle.std.proofs.lemmas.Bool.{cases_eq, cases_order}
use Rattle.std.proofs.lemmas.List.{get_or-drop, get_or-take, length-replicate}
use Rattle.std.proofs.lemmas.Option.{same_Some, slice_get_within}
use Rattle.vt_base.specs.declared.why.Failed.{Failed}
use Rattle.vt_disk.specs.declared.region.Region.{Region}
use Rattle.vt_disk.specs.Calls.{WritesAt, WritesWithin}
use Rattle.vt_disk.specs.Disk.{SameBut, Touches, part, with_bytes}
use Rattle.vt_disk.specs.DeviceCalls.{TouchedBy}
use Rattle.vt_disk.specs.DeviceCalls.DeviceCall.{sync}
use Rattle.vt_disk.specs.Members.{DiskOf}
use Rattle.vt_disk.specs.Region.{Inside}
use Rattle.vt_disk.proofs.Bytes.{part-with_bytes, same_refl}
use Rattle.vt_twin.specs.Frames.{frame_start, named_number, selector_bytes, selector_len, selector_start}
use Rattle.vt_twin.proofs.Places.{named_same}
use Rattle.vt_isect.specs.declared.phase.Phase.{Phase}
use Rattle.vt_isect.specs.declared.phase.Phase.TheVariants.{ReadFrame}
use Rattle.vt_isect.specs.Layout.{IsBucketPlace}
use Rattle.vt_isect.specs.Remembered.{Remembers, first_read}
use Rattle.vt_isect.proofs.IsRead.{first_frame}
use Rattle.vt_isect.proofs.Places.{one_place}

-- ---- lists

-- what was put there
set_here : (xs : List (Option ℕ)) (k : ℕ) (o v : Option ℕ) → slice_get (slice_set xs k o) k ≡ Some v → o ≡ v
set_here [] k o v at = absurd (cc)
set_here (x ∷ xs) zero o v at = cc
set_here (x ∷ xs) (suc k) o v at = set_here xs k o v at

-- and the others stay
set_there : (xs : List (Option ℕ)) (k j : ℕ) (o : Option ℕ) → j ≢ k → slice_get (slice_set xs k o) j ≡ slice_get xs j
set_there [] k j o other = refl
set_there (x ∷ xs) zero zero o other = absurd (other refl)
set_there (x ∷ xs) zero (suc j) o other = refl
set_there (x ∷ xs) (suc k) zero o other = refl
set_there (x ∷ xs) (suc k) (suc j) o other = set_there xs k j o (λ e. other (ap suc e))

pub set_twice : (xs : List (Option ℕ)) (k : ℕ) (a b : Option ℕ) → slice_set (slice_set xs k a) k b ≡ slice_set xs k b
set_twice [] k a b = refl
set_twice (x ∷ xs) zero a b = refl
set_twice (x ∷ xs) (suc k) a b = ap (λ (l : List (Option ℕ)). x ∷ l) (set_twice xs k a b)

-- nothing is remembered at first
pub remembers_none : {D : Type 0} (disk : DiskOf D) (d : D) (buckets : ℕ) (frames : List (Option ℕ)) → buckets ≤ length frames
    → ((j : ℕ) → j < length frames → slice_get frames j ≡ Some None) → Remembers disk d buckets frames
remembers_none disk d buckets frames each none = record {
  each = each;
  named = λ j s region told at place. absurd (let e = sym at ∙ none j (slice_get_within frames j (Some s) at) in cc);
}

-- ---- places

frame_spares : (k j : ℕ) (region other : Region) (a : ℕ) → a < 2 → IsBucketPlace k region → IsBucketPlace j other
    → ¬ Touches (frame_start region 8192 a) 8192 (selector_start other 8192)
unfolding Touches
frame_spares k j region other a low one two it = ⊎_elim
    (λ (same : j ≡ k). omega (arith, same, low, one.start, two.start, it.0, it.1))
    (λ rest. ⊎_elim
    (λ (less : j < k). omega (arith, less, low, one.start, two.start, it.0, it.1))
    (λ (more : k < j). omega (arith, more, low, one.start, two.start, it.0, it.1))
    rest)
    (cases_order j k)

place_spares : (k j : ℕ) (region other : Region) → j ≢ k → IsBucketPlace k region → IsBucketPlace j other → ¬ Inside region (selector_start other 8192)
place_spares k j region other apart one two it = ⊎_elim
    (λ (same : j ≡ k). apart same)
    (λ rest. ⊎_elim
    (λ (less : j < k). omega (arith, less, one.start, one.len, two.start, it.0, it.1))
    (λ (more : k < j). omega (arith, more, one.start, one.len, two.start, it.0, it.1))
    rest)
    (cases_order j k)

selector_spares : (k j : ℕ) (region other : Region) → j ≢ k → IsBucketPlace k region → IsBucketPlace j other
    → ¬ Touches (selector_start region 8192) (selector_len region 8192) (selector_start other 8192)
unfolding Touches
selector_spares k j region other apart one two it = ⊎_elim
    (λ (same : j ≡ k). apart same)
    (λ rest. ⊎_elim
    (λ (less : j < k). omega (arith, less, one.start, one.len, two.start, it.0, it.1))
    (λ (more : k < j). omega (arith, more, one.start, one.len, two.start, it.0, it.1))
    rest)
    (cases_order j k)

-- the frame that these bytes of a selector name
named_of : (region : Region) (file rest : List ℕ) (number len : ℕ) → number < 2 → 0 < len → part (selector_start region 8192) len file ≡ number ∷ rest
    → named_number region 8192 file ≡ number
named_of region file rest number len low some is =
    let start : ℕ = selector_start region 8192 in
    let first : get_or (part start len file) 0 0 ≡ get_or file start 0 =
    get_or-take len (drop start file) 0 0 some ∙ get_or-drop start file 0 0 ∙ ap (λ (k : ℕ). get_or file k 0) (let e : start + 0 ≡ start = omega arith in e) in
    let small : number % 2 ≡ number = omega (arith, low) in
    ap (λ (b : ℕ). b % 2) (sym first ∙ ap (λ (l : List ℕ). get_or l 0 0) is) ∙ small

-- a frame that is read first is the one that the selector names
pub first_named : {D : Type 0} (disk : DiskOf D) (d : D) (buckets : ℕ) (frames : List (Option ℕ)) (j : ℕ) (current : Option ℕ) (p : Phase) (k : ℕ)
    → slice_get frames j ≡ Some current → IfSome current (λ number. number < 2) → p ≡ first_read current → p ≡ ReadFrame k
    → (region : Region) → IsTrue disk.tells → IsBucketPlace j region → Remembers disk d buckets frames → named_number region 8192 (disk.bytes d) ≡ k % 2
first_named disk d buckets frames j current p k at bound first is region told place was =
    let number : current ≡ Some k = first_frame current k (sym first ∙ is) in
    let low = subst (λ (o : Option ℕ). IfSome o (λ n. n < 2)) number bound in
    was.named j k region told (at ∙ ap (λ (o : Option ℕ). Some o) number) place ∙ (let e : k ≡ k % 2 = omega (arith, low) in e)

-- ---- calls

module _ {D : Type 0} (disk : DiskOf D) (d e : D) (buckets : ℕ) (frames : List (Option ℕ)) where
  -- a read or a sync
  pub remembers_same : disk.bytes e ≡ disk.bytes d → Remembers disk d buckets frames → Remembers disk e buckets frames
  remembers_same same was = record {
    each = was.each;
    named = λ j s region told at place. ap (λ (file : List ℕ). named_number region 8192 file) same ∙ was.named j s region told at place;
  }

  module _ (P : ℕ → Type 0) (same : IsTrue disk.tells → SameBut P (disk.bytes d) (disk.bytes e)) (was : Remembers disk d buckets frames) where
    -- a write that no selector is touched by
    beside : ((j : ℕ) (region : Region) → IsBucketPlace j region → ¬ P (selector_start region 8192)) → Remembers disk e buckets frames
    beside apart = record {
      each = was.each;
      named = λ j s region told at place. named_same P region 8192 (apart j region place) (disk.bytes d) (disk.bytes e) (same told) ∙ was.named j s region told at place;
    }

    -- or by which that of one bucket is
    but_one : (k : ℕ) (o : Option ℕ) → ((j : ℕ) (region : Region) → j ≢ k → IsBucketPlace j region → ¬ P (selector_start region 8192))
        → ((s : ℕ) (region : Region) → IsTrue disk.tells → o ≡ Some s → IsBucketPlace k region → named_number region 8192 (disk.bytes e) ≡ s)
        → Remembers disk e buckets (slice_set frames k o)
    but_one k o apart is = record {
      each = omega (arith, length-set frames k o, was.each);
      named = λ j s region told at place. ⊎_elim
          (λ (here : j ≡ k). is s region told (put j s here at) (subst (λ (n : ℕ). IsBucketPlace n region) here place))
          (λ (there : j ≢ k). named_same P region 8192 (apart j region there place) (disk.bytes d) (disk.bytes e) (same told)
          ∙ was.named j s region told (sym (set_there frames k j o there) ∙ at) place)
          (cases_eq j k);
    }
      where
        put : (j s : ℕ) → j ≡ k → slice_get (slice_set frames k o) j ≡ Some (Some s) → o ≡ Some s
        put j s here at = set_here frames k o (Some s) (ap (λ (n : ℕ). slice_get (slice_set frames k o) n) (sym here) ∙ at)

  -- a read of a selector
  pub reads : (k : ℕ) (region : Region) (number : ℕ) → IsBucketPlace k region → disk.bytes e ≡ disk.bytes d
      → (IsTrue disk.tells → named_number region 8192 (disk.bytes d) ≡ number)
      → Remembers disk d buckets frames → Remembers disk e buckets (slice_set frames k (Some number))
  reads k region number place same is was = but_one (λ i. ⊥) (λ told. subst (λ (file : List ℕ). SameBut (λ i. ⊥) (disk.bytes d) file) (sym same) (same_refl (λ i. ⊥) (disk.bytes d))) was
      k (Some number) (λ j other apart there no. no)
      (λ s other told is_s there. ap (λ (file : List ℕ). named_number other 8192 file) same
      ∙ ap (λ (r : Region). named_number r 8192 (disk.bytes d)) (one_place k other region there place) ∙ is told ∙ same_Some number s is_s)

  -- or none, where its number is remembered
  pub found : (after : List (Option ℕ)) (k : ℕ) (region : Region) (r : Result ℕ Failed) → IsBucketPlace k region → disk.bytes e ≡ disk.bytes d
      → IfOk r (λ number. Remembers disk d buckets frames → IsTrue disk.tells → number ≡ named_number region 8192 (disk.bytes d))
      → IfOk r (λ number. after ≡ slice_set frames k (Some number)) → OnErr r (after ≡ frames)
      → Remembers disk d buckets frames → Remembers disk e buckets after
  found after k region (Ok number) place same named is kept was =
      subst (Remembers disk e buckets) (sym is) (reads k region number place same (λ told. sym (named was told)) was)
  found after k region (Err failed) place same named is kept was = subst (Remembers disk e buckets) (sym kept) (remembers_same same was)

  -- a sync, done or failed
  pub sync_remembers : WritesAt disk (TouchedBy sync) 1 d e → Remembers disk d buckets frames → Remembers disk e buckets frames
  sync_remembers made was = beside (TouchedBy sync) made.bytes was (λ j region place no. no)

  -- the write of a frame
  pub frame_remembers : (k : ℕ) (region : Region) (a : ℕ) (frame : List ℕ) → length frame ≡ 8192 → a < 2 → IsBucketPlace k region → WritesAt disk (Touches (frame_start region 8192 a) (length frame)) 1 d e
      → Remembers disk d buckets frames → Remembers disk e buckets frames
  frame_remembers k region a frame whole low place wrote was = beside (Touches (frame_start region 8192 a) (length frame)) wrote.bytes was
      (λ j other there touched. frame_spares k j region other a low place there (subst (λ (n : ℕ). Touches (frame_start region 8192 a) n (selector_start other 8192)) whole touched))

  -- what is written in a bucket's place is forgotten
  pub forgets : (k : ℕ) (region : Region) (most : ℕ) → IsBucketPlace k region → WritesWithin disk region most d e
      → Remembers disk d buckets frames → Remembers disk e buckets (slice_set frames k None)
  forgets k region most place wrote was = but_one (Inside region) wrote.bytes was k None
      (λ j other apart there. place_spares k j region other apart place there) (λ s other told none there. absurd (cc))

  -- but where its selector is known then
  pub learns : (k : ℕ) (region : Region) (most number : ℕ) (rest : List ℕ) → number < 2 → IsBucketPlace k region → WritesWithin disk region most d e
      → (IsTrue disk.tells → part (selector_start region 8192) (selector_len region 8192) (disk.bytes e) ≡ number ∷ rest)
      → Remembers disk d buckets frames → Remembers disk e buckets (slice_set frames k (Some number))
  learns k region most number rest low place wrote is was = but_one (Inside region) wrote.bytes was k (Some number)
      (λ j other apart there. place_spares k j region other apart place there)
      (λ s other told same there. subst (λ (r : Region). named_number r 8192 (disk.bytes e) ≡ s) (one_place k region other place there)
      (named_of region (disk.bytes e) rest number (selector_len region 8192) low (omega (arith, place.len)) (is told) ∙ same_Some number s same))

  -- the write of a selector, done and failed
  module _ (k : ℕ) (region : Region) (place : IsBucketPlace k region) (number : ℕ)
      (wrote : WritesAt disk (Touches (selector_start region 8192) (length (selector_bytes number 512))) 1 d e) (was : Remembers disk d buckets frames) where
    long : length (selector_bytes number 512) ≡ selector_len region 8192
    long = omega (arith, length-replicate {A = ℕ} 511 0, place.len)

    apart : (j : ℕ) (other : Region) → j ≢ k → IsBucketPlace j other → ¬ Touches (selector_start region 8192) (length (selector_bytes number 512)) (selector_start other 8192)
    apart j other not there touched =
        selector_spares k j region other not place there (subst (λ (n : ℕ). Touches (selector_start region 8192) n (selector_start other 8192)) long touched)

    pub selector_forgets : Remembers disk e buckets (slice_set frames k None)
    selector_forgets = but_one (Touches (selector_start region 8192) (length (selector_bytes number 512))) wrote.bytes was k None apart (λ s other told none there. absurd (cc))

    pub selector_learns : number < 2 → (IsTrue disk.tells → disk.bytes e ≡ with_bytes (selector_start region 8192) (selector_bytes number 512) (disk.bytes d))
        → (IsTrue disk.tells → region.start + region.len ≤ length (disk.bytes d)) → Remembers disk e buckets (slice_set frames k (Some number))
    selector_learns low is fits = but_one (Touches (selector_start region 8192) (length (selector_bytes number 512))) wrote.bytes was k (Some number) apart
        (λ s other told same there. subst (λ (r : Region). named_number r 8192 (disk.bytes e) ≡ s) (one_place k region other place there) (named told ∙ same_Some number s same))
      where
        named : IsTrue disk.tells → named_number region 8192 (disk.bytes e) ≡ number
        named told = named_of region (disk.bytes e) (replicate 511 0) number (length (selector_bytes number 512)) low (omega arith)
            (ap (λ (file : List ℕ). part (selector_start region 8192) (length (selector_bytes number 512)) file) (is told)
            ∙ part-with_bytes (selector_start region 8192) (selector_bytes number 512) (disk.bytes d) (omega (arith, place.len, fits told, length-replicate {A = ℕ} 511 0)))
