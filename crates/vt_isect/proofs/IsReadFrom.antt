-- What is read of a bucket.
use Rattle.std.proofs.Common.{◌≡◌, ⊎_elim, ℕ, ◌+◌, ◌-◌, ◌*◌, List, Some, sym, ◌∙◌, ap, subst, arith}
use Rattle.vt_base.specs.declared.place.Entry.{Entry}
use Rattle.vt_bucket.specs.Frame.{IsBucketFrame}
use Rattle.vt_disk.specs.declared.region.Region.{Region}
use Rattle.vt_disk.specs.Disk.{part}
use Rattle.vt_twin.specs.Frames.{frame_of, current_frame, named_number}
use Rattle.vt_isect.specs.declared.groups.Member.{Member}
use Rattle.vt_isect.specs.Layout.{IsBucketPlace, InRange}
use Rattle.vt_isect.specs.Section.{SectionState, IsChanging, IsMember}
use Rattle.vt_isect.specs.Sound.{KnownBuckets, IsReadFrom, IsSoundSection}
use Rattle.vt_isect.proofs.Members.{Stands, standing}
use Rattle.vt_twin.proofs.Changes.{begun_bound, none_made}
use Rattle.vt_isect.proofs.Places.{one_place}

-- what was read at the number of the current frame
pub reads_from : {D : Type 0} (t : SectionState D) (n current : ℕ) (place region : Region) (file frame : List ℕ) → IsBucketPlace (n - t.head.first) place → IsBucketPlace (n - t.head.first) region
    → frame ≡ part (place.start + 8192 * current) 8192 file
    → ((m : Member) → IsMember t n m → current ≡ m.current)
    → (¬ IsChanging t n → current ≡ named_number region 8192 file)
    → IsReadFrom t n region file frame
reads_from t n current place region file frame here there is in_change at_rest = record {
  rest = λ still. at region ∙ ap (λ (k : ℕ). frame_of region 8192 k file) (at_rest still);
  changing = λ m of. at region ∙ ap (λ (k : ℕ). frame_of region 8192 k file) (in_change m of);
}
  where
    at : (r : Region) → frame ≡ frame_of region 8192 current file
    at r = subst (λ (x : Region). frame ≡ frame_of x 8192 current file) (one_place (n - t.head.first) place region here there) is

-- it has the entries that are known
pub reads_known : {D : Type 0} (t : SectionState D) (known : KnownBuckets) (n : ℕ) (entries : List Entry) (file frame : List ℕ) (images : List ℕ → Type 0)
    → IsSoundSection t known file images → images file → InRange t.head t.buckets n → known n ≡ Some entries
    → ((region : Region) → IsBucketPlace (n - t.head.first) region → IsReadFrom t n region file frame)
    → IsBucketFrame n entries frame
reads_known t known n entries file frame images sound is_image within is from =
    let it = sound.bucket n entries within is in
    let read = from it.region it.place in
    let kept = it.sound.kept file is_image in
    subst (λ (f : List ℕ). IsBucketFrame n entries f)
    (⊎_elim
    (λ (way : Stands t n).
    sym (read.changing way.1 way.3
    ∙ ap (λ (k : ℕ). frame_of it.region 8192 k file) (sym (it.changing way.0 way.1 way.3 way.2).current)
    ∙ ap (λ (k : ℕ). frame_of it.region k it.twin.current file) (sym it.frame_len) ∙ kept))
    (λ (still : ¬ IsChanging t n).
    let named = it.sound.named (λ begun. omega (arith, begun, begun_bound it.twin, none_made it.twin (it.rest still))) file is_image in
    sym (read.rest still
    ∙ ap (λ (k : ℕ). current_frame it.region k file) (sym it.frame_len)
    ∙ ap (λ (k : ℕ). frame_of it.region it.twin.frame_len k file) named ∙ kept))
    (standing t n))
    it.spelled
