-- A section that was mounted.
use Rattle.std.proofs.Common.{◌≡◌, ℕ, ◌+◌, ◌-◌, ◌*◌, ◌^◌, ◌<◌, ◌≤◌, List, Some, refl, sym, subst, inl}
use Rattle.std.proofs.lemmas.Option.{same_Some}
use Rattle.std.specs.List.{Contains}
use Rattle.vt_base.specs.declared.place.Entry.{Entry}
use Rattle.vt_bucket.specs.Frame.{IsBucketFrame}
use Rattle.vt_disk.specs.declared.region.Region.{Region}
use Rattle.vt_disk.specs.Disk.{Only}
use Rattle.vt_model.specs.History.{History}
use Rattle.vt_model.specs.Places.{Setup}
use Rattle.vt_twin.specs.Frames.{current_frame}
use Rattle.vt_twin.specs.Twin.{fresh}
use Rattle.vt_twin.specs.Sound.{IsSoundTwin}
use Rattle.vt_isect.specs.declared.head.Head.{Head}
use Rattle.vt_isect.specs.Agreement.{AgreesWith, IsMarkCovered, KnownAgrees}
use Rattle.vt_isect.specs.Head.{IsHeadFrame}
use Rattle.vt_isect.specs.Layout.{head_place, IsBucketPlace, InRange, IsSection}
use Rattle.vt_isect.specs.Section.{SectionState, IsChanging, mounted_section}
use Rattle.vt_isect.specs.Sound.{KnownBuckets, IsSoundSection, all_known}
use Rattle.vt_isect.proofs.WithBucket.{settled_holds}
use Rattle.vt_isect.proofs.Places.{one_place}

module _ {D : Type 0} (d : D) (buckets : ℕ) (name : List ℕ) (head : Head) (number size : ℕ) (read : List ℕ) (images : List ℕ → Type 0)
    (room : 24576 + 16896 * buckets ≤ size) (fits : size < 2 ^ 64) (only : Only read images)
    (frame : IsHeadFrame name head (current_frame head_place 8192 read))
    (twin : IsSoundTwin (fresh 8192 number) head_place (current_frame head_place 8192 read) read images) where
  abbrev t : SectionState D
  t = mounted_section d buckets name head number

  still : (n : ℕ) → ¬ IsChanging t n
  still n way = absurd way.1.0

  place_of : (n : ℕ) → InRange head buckets n → (region : Region) × IsBucketPlace (n - head.first) region
  place_of n within = (
    record { start = 24576 + 16896 * (n - head.first); len = 16896 },
    record { start = refl; len = refl },
  )

  pub mounted_sound : (known : KnownBuckets)
      → ((n : ℕ) (region : Region) (entries : List Entry) → InRange head buckets n → IsBucketPlace (n - head.first) region → known n ≡ Some entries
      → IsBucketFrame n entries (current_frame region 8192 read))
      → IsSoundSection t known read images
  mounted_sound known are = record {
    head_frame = current_frame head_place 8192 read;
    head_len = refl;
    head_twin = twin;
    head = frame;
    head_rest = λ no. refl;
    head_changing = λ way. absurd (cc);
    selector = λ s way. absurd (cc);
    current = λ s way. absurd (cc);
    made = λ s entries way. absurd (cc);
    bucket = λ n entries within is.
        let at = place_of n within in
        settled_holds t n at.0 entries read images (still n) at.1 only (are n at.0 entries within at.1 is);
  }

  pub mounted_agrees : (score : List ℕ → List ℕ) (c : Setup) (h : History) (entries : ℕ → List Entry)
      → IsSection name head buckets entries read → AgreesWith score c h buckets head entries
      → IsSoundSection t (all_known entries) read images × KnownAgrees score c h t (all_known entries)
  mounted_agrees score c h entries section agrees = (
    mounted_sound (all_known entries) (λ n region es within place is.
        let it = section.bucket n within in
        subst (λ (l : List Entry). IsBucketFrame n l (current_frame region 8192 read)) (same_Some (entries n) es is)
        (subst (λ (r : Region). IsBucketFrame n (entries n) (current_frame r 8192 read)) (one_place (n - head.first) it.0 region it.1 place) it.2)),
    record {
      keys = agrees.keys;
      total = agrees.total;
      same_first = refl;
      same_total = refl;
      whole = λ n within. refl;
      blocks = λ n es entry within is has. agrees.blocks n entry within (subst (λ (l : List Entry). Contains l entry) (sym (same_Some (entries n) es is)) has);
      todo = λ entry way. absurd way.0;
      filed = λ live. covered _;
      coming = λ live. covered _;
    },
  )
    where
      covered : (others : Entry → Type 0) → IsMarkCovered score c h t (all_known entries) others head.mark
      covered others = record {
        fits = agrees.mark_fits;
        has = λ n i es within is below at.
            let it = agrees.filed n i within below at in
            (it.0, inl (subst (λ (l : List Entry). Contains l it.0) (same_Some (entries n) es is) it.1), it.2);
      }
