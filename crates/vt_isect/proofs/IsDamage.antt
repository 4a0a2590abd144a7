-- A writeback finds no damage while buckets have room.
use Rattle.std.proofs.Common.{◌≡◌, ◌≢◌, ◌⊎◌, inl, inr, ⊎_elim, ℕ, ◌-◌, ◌%◌, ◌≤◌, List, Option, Some, None, Result, Ok, Err, IsTrue, refl, sym, ◌∙◌, ap, subst, arith}
use Rattle.std.specs.Prelude.{IsSome, IfErr}
use Rattle.std.specs.List.{Contains}
use Rattle.std.proofs.lemmas.Bool.{false≢true}
use Rattle.vt_base.specs.declared.place.Entry.{Entry}
use Rattle.vt_bucket.specs.Frame.{IsBucketFrame}
use Rattle.vt_bucket.proofs.Frames.{accepted, one_frame}
use Rattle.vt_disk.specs.declared.region.Region.{Region}
use Rattle.vt_model.specs.History.{History}
use Rattle.vt_model.specs.Places.{Setup, bucket_of, bucket_count, crowd}
use Rattle.vt_disk.specs.Members.{DiskOf}
use Rattle.vt_twin.specs.declared.step.Step.{Step}
use Rattle.vt_twin.specs.Frames.{frame_of}
use Rattle.vt_isect.specs.declared.error.ShardErr.{ShardErr}
use Rattle.vt_isect.specs.declared.error.ShardErr.TheVariants.{Fault, Damaged, Stopped}
use Rattle.vt_isect.specs.declared.phase.Phase.TheVariants.{ReadFrame}
use Rattle.vt_isect.specs.Agreement.{IsEntryOfBlock, KnownAgrees}
use Rattle.vt_isect.specs.Layout.{IsBucketPlace, InRange}
use Rattle.vt_isect.specs.Merging.{IsDamage, IsFaultyFrame, IsOverfull, Joined}
use Rattle.vt_isect.specs.Section.{SectionState, HasBucket, IsGroup, PutsEntries, bucket_number, entering, entries_of}
use Rattle.vt_isect.specs.Sound.{KnownBuckets, DiskHolds, IsSoundSection}
use Rattle.vt_isect.specs.Writeback.{SectionAdvances, FindsDamage}
use Rattle.vt_isect.proofs.AreNext.{behind, of_group}
use Rattle.vt_isect.proofs.Crowd.{blocks_most}
use Rattle.vt_isect.proofs.Joining.{names_current}
use Rattle.vt_isect.proofs.Members.{Groups}

module _ {D : Type 0} (score : List ℕ → List ℕ) (c : Setup) (h : History) (t : SectionState D)
    (known : KnownBuckets) (agrees : KnownAgrees score c h t known) (s : ℕ) (phase : t.phase ≡ ReadFrame s)
    (group : IsGroup t) where
  has_bucket : HasBucket t.phase
  has_bucket = subst HasBucket (sym phase) tt

  within : InRange t.head t.buckets t.bucket
  within = group.bucket has_bucket

  own : (entry : Entry) → Contains (entering t) entry → bucket_number t entry ≡ t.bucket
  own entry of = (group.next has_bucket).2.own entry of

  -- the frame that the selector names has what is known of the bucket
  frame_known : (entries : List Entry) (read : List ℕ) (images : List ℕ → Type 0)
      → images read → IsSoundSection t known read images → known t.bucket ≡ Some entries
      → (region : Region) × IsBucketPlace (t.bucket - t.head.first) region
      × IsBucketFrame t.bucket entries (frame_of region 8192 (s % 2) read)
  frame_known entries read images is_image sound is =
      let it = sound.bucket t.bucket entries within is in
      let current = (names_current t (s % 2) entries read images group has_bucket is_image (sound.selector s phase) it).1 in
      let at : frame_of it.region it.twin.frame_len it.twin.current read ≡ frame_of it.region 8192 (s % 2) read = λ i. frame_of it.region (it.frame_len i) (current i) read in
      (it.region, it.place, subst (λ (f : List ℕ). IsBucketFrame t.bucket entries f) (sym (it.sound.kept read is_image) ∙ at) it.spelled)

  -- what the bucket has and gets are blocks of it
  joined_blocks : (entries : List Entry) → known t.bucket ≡ Some entries → (entry : Entry)
      → Joined entries (Contains (entering t)) entry
      → IsEntryOfBlock score c h entry × (bucket_of (bucket_count c) entry.key.score.0 ≡ t.bucket)
  joined_blocks entries is entry joined = ⊎_elim
      (λ (has : Contains entries entry). agrees.blocks t.bucket entries entry within is has)
      (λ (of : Contains (entering t) entry). (
        agrees.todo entry (subst PutsEntries (sym phase) tt, behind t.written t.framed (entries_of t) group.order.0 (omega (arith, group.order)) entry (of_group t.framed t.begun (entries_of t) entry of)),
        ap (λ (k : ℕ). bucket_of k entry.key.score.0) (sym agrees.total) ∙ own entry of,
      ))
      joined

  not_damaged : (frame : List ℕ) (bad : ShardErr) (entries : List Entry)
      → known t.bucket ≡ Some entries → IsBucketFrame t.bucket entries frame
      → crowd score (bucket_count c) h t.bucket ≤ 263
      → ¬ IsDamage t.bucket (entering t) frame bad
  not_damaged frame bad entries is spelled room damage = ⊎_elim
      (λ (faulty : IsFaultyFrame t.bucket frame bad).
      accepted faulty.0 t.bucket entries frame spelled faulty.1)
      (λ (full : IsOverfull t.bucket (entering t) frame bad).
      let same : full.0 ≡ entries =
      (one_frame t.bucket t.bucket full.0 entries frame full.1 spelled).1 in
      let keys = full.3 in
      let was : known t.bucket ≡ Some full.0 = is ∙ ap (λ (l : List Entry). Some l) (sym same) in
      let most = blocks_most score c h t.bucket keys.some keys.distinct
      (λ entry has. joined_blocks full.0 was entry (keys.each entry has)) in
      omega (arith, most, keys.count_is, room, full.4))
      damage

  no_damage : (read : List ℕ) (images : List ℕ → Type 0) → images read
      → IsSoundSection t known read images
      → ((n : ℕ) → crowd score (bucket_count c) h n ≤ 263) → (bad : ShardErr)
      → (frame : List ℕ) × IsDamage t.bucket (entering t) frame bad
      × ((region : Region) → IsBucketPlace (t.bucket - t.head.first) region
      → frame ≡ frame_of region 8192 (s % 2) read)
      → ⊥
  no_damage read images is_image sound room bad it = by (known t.bucket) refl (agrees.whole t.bucket within)
    where
      by : (o : Option (List Entry)) → known t.bucket ≡ o → IsSome o → ⊥
      by None is some = false≢true some
      by (Some entries) is some =
          let at = frame_known entries read images is_image sound is in
          not_damaged it.0 bad entries is
          (subst (λ (f : List ℕ). IsBucketFrame t.bucket entries f) (sym (it.2 at.0 at.1)) at.2)
          (room t.bucket) it.1

-- so a step that ends without a success ends by a fault
pub undamaged_by : {D : Type 0} (disk : DiskOf D) (score : List ℕ → List ℕ) (c : Setup) (h : History) (t u : SectionState D) (known : KnownBuckets) → KnownAgrees score c h t known → Groups t
    → IsTrue disk.tells → disk.images t.disk (disk.bytes t.disk) → DiskHolds disk t known → ((n : ℕ) → crowd score (bucket_count c) h n ≤ 263) → (result : Result Step ShardErr) → SectionAdvances result t u
    → ((s : ℕ) → IfErr result (λ bad. bad ≢ Fault → t.phase ≡ ReadFrame s → FindsDamage disk s t bad)) → IfErr result (λ bad. (bad ≡ Fault) ⊎ ((n : ℕ) × (bad ≡ Stopped n)))
undamaged_by disk score c h t u known agrees group told is_image sound room (Ok step) steps damaged = tt
undamaged_by disk score c h t u known agrees group told is_image sound room (Err Fault) steps damaged = inl refl
undamaged_by disk score c h t u known agrees group told is_image sound room (Err (Stopped n)) steps damaged = inr (n, refl)
undamaged_by disk score c h t u known agrees group told is_image sound room (Err (Damaged b want found)) steps damaged =
    let at = steps.0 in
    let it = damaged at.0 (λ e. cc) at.1 in
    absurd (no_damage score c h t known agrees at.0 at.1 (group (subst PutsEntries (sym at.1) tt)) _ _ is_image sound room (Damaged b want found) (it.0, it.1, λ region place. it.2 region told place))
