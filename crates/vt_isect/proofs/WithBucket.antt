-- A bucket that is cleared, and what was known of the others.
use Rattle.std.proofs.Common.{◌≡◌, ◌≢◌, ⊎_elim, ℕ, ◌+◌, ◌-◌, ◌*◌, ◌≤◌, Bool, true, false, List, Option, Some, None, refl, sym, ◌∙◌, ap, subst, arith, cond, eqb}
use Rattle.std.proofs.lemmas.Bool.{cases_eq, cases_Bool}
use borrow.Author.Tests.{eqb-true, eqb-false}
use Rattle.vt_base.specs.declared.place.Entry.{Entry}
use Rattle.vt_bucket.specs.Frame.{IsBucketFrame}
use Rattle.vt_disk.specs.declared.region.Region.{Region}
use Rattle.vt_disk.specs.Disk.{SameBut, Only}
use Rattle.vt_disk.specs.Region.{Inside, ChangesWithin}
use Rattle.vt_twin.specs.Frames.{frame_of, named_number, current_frame}
use Rattle.vt_twin.specs.Twin.{fresh}
use Rattle.vt_isect.specs.declared.phase.Phase.TheVariants.{Rest}
use Rattle.vt_isect.specs.Layout.{head_place, IsBucketPlace, InRange}
use Rattle.vt_isect.specs.Section.{SectionState, IsChanging, PutsEntries}
use Rattle.vt_isect.specs.Sound.{KnownBuckets, HoldsBucket, IsSoundSection, with_bucket}
use Rattle.vt_isect.proofs.IsSoundSection.{others_pass, bucket_passes}
use Rattle.vt_isect.proofs.Places.{head_room, place_room, head_apart, places_apart}

-- what is known of this bucket, and of another
pub with_here : (known : KnownBuckets) (n : ℕ) (o : Option (List Entry)) → with_bucket n o known n ≡ o
with_here known n o = ⊎_elim
    (λ (yes : eqb n n ≡ true). ap (λ (b : Bool). cond b o (known n)) yes)
    (λ (other : eqb n n ≡ false). absurd (eqb-false n n other refl))
    (cases_Bool (eqb n n))

pub with_there : (known : KnownBuckets) (n k : ℕ) (o : Option (List Entry)) → k ≢ n → with_bucket n o known k ≡ known k
with_there known n k o there = ⊎_elim
    (λ (yes : eqb k n ≡ true). absurd (there (eqb-true k n yes)))
    (λ (other : eqb k n ≡ false). ap (λ (b : Bool). cond b o (known k)) other)
    (cases_Bool (eqb k n))

-- a settled bucket
pub settled_holds : {D : Type 0} (t : SectionState D) (n : ℕ) (region : Region) (entries : List Entry) (reads : List ℕ) (after : List ℕ → Type 0)
    → ¬ IsChanging t n → IsBucketPlace (n - t.head.first) region → Only reads after → IsBucketFrame n entries (current_frame region 8192 reads)
    → HoldsBucket t n entries reads after
settled_holds t n region entries reads after still place only spelled = record {
  region = region;
  place = place;
  twin = fresh 8192 (named_number region 8192 reads);
  frame = current_frame region 8192 reads;
  frame_len = refl;
  sound = record {
    number = omega arith;
    kept = λ c left. ap (λ (l : List ℕ). frame_of region 8192 (named_number region 8192 reads) l) (only c left);
    named = λ waits c left. ap (λ (l : List ℕ). named_number region 8192 l) (only c left);
    written = λ made. absurd (omega (arith, made));
    synced = λ made. absurd (omega (arith, made));
    selected = λ made. absurd (omega (arith, made));
  };
  spelled = spelled;
  rest = λ no. refl;
  changing = λ j m of at. absurd (still (m, of));
}

module _ {D : Type 0} (t : SectionState D) (d : D) (n : ℕ) (region : Region) (size : ℕ) (read reads : List ℕ) (images after : List ℕ → Type 0)
    (rest : t.phase ≡ Rest) (room : 24576 + 16896 * t.buckets ≤ size) (in_it : InRange t.head t.buckets n)
    (place : IsBucketPlace (n - t.head.first) region) (same : SameBut (Inside region) read reads) (changes : ChangesWithin region images after) where
  still : (k : ℕ) → ¬ IsChanging t k
  still k way = subst PutsEntries rest way.1.0

  known_sound : (known knows : KnownBuckets) → ((k : ℕ) → k ≢ n → knows k ≡ known k)
      → ((entries : List Entry) → knows n ≡ Some entries → HoldsBucket (record t { disk = d }) n entries reads after)
      → IsSoundSection t known read images → IsSoundSection (record t { disk = d }) knows reads after
  known_sound known knows others here sound = record {
    head_frame = sound.head_frame;
    head_len = sound.head_len;
    head_twin = others_pass head_place (Inside region) size read reads images after (head_room 8192 size t.buckets refl room) (head_apart (n - t.head.first) region place) same changes
        t.head_twin sound.head_frame sound.head_len sound.head_twin;
    head = sound.head;
    head_rest = sound.head_rest;
    head_changing = sound.head_changing;
    selector = λ s way. absurd (cc);
    current = λ s way. absurd (cc);
    made = λ s entries way. absurd (cc);
    bucket = λ k entries within is. ⊎_elim
        (λ (same_n : k ≡ n). subst (λ (m : ℕ). HoldsBucket (record t { disk = d }) m entries reads after) (sym same_n) (here entries (sym (ap knows same_n) ∙ is)))
        (λ (there : k ≢ n). bucket_passes t (record t { disk = d }) k entries read reads images after (still k) (still k) refl (λ goes. goes)
        (λ r at. others_pass r (Inside region) size read reads images after (place_room 8192 size t.buckets t.head k r refl room within at)
        (λ i in_region in_r. places_apart (n - t.head.first) (k - t.head.first) region r place at
        (λ e. there (omega (arith, e, within.0, in_it.0))) i in_region in_r) same changes)
        (sound.bucket k entries within (sym (others k there) ∙ is)))
        (cases_eq k n);
  }

  none_some : (entries : List Entry) → None ≡ Some entries → ⊥
  none_some entries e = cc

  pub others_sound : (known : KnownBuckets) → IsSoundSection t known read images → IsSoundSection (record t { disk = d }) (with_bucket n None known) reads after
  others_sound known = known_sound known (with_bucket n None known) (λ k there. with_there known n k None there)
      (λ entries is. absurd (none_some entries (sym (with_here known n None) ∙ is)))
