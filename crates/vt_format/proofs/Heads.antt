-- Changing the head of a section, one call after another.
use Rattle.std.proofs.Common.{◌≡◌, ◌⊎◌, inl, inr, ⊎_elim, ℕ, ◌+◌, ◌<◌, ◌≤◌, Some, None, Result, Ok, Err, sym, ◌∙◌, ap, subst, arith}
use Rattle.std.specs.Prelude.{IsTrue, List}
use Rattle.vt_base.specs.declared.place.Entry.{Entry}
use Rattle.vt_disk.specs.Calls.{IsSynced, MadeCalls}
use Rattle.vt_disk.specs.Disk.{ChangesAt}
use Rattle.vt_disk.specs.Members.{DiskOf}
use Rattle.vt_disk.specs.Region.{Inside}
use Rattle.vt_disk.proofs.Calls.{changes_then}
use Rattle.vt_isect.specs.declared.error.ShardErr.{ShardErr}
use Rattle.vt_isect.specs.declared.error.ShardErr.TheVariants.{Fault, Damaged, Stopped}
use Rattle.vt_isect.specs.declared.phase.Phase.{Phase}
use Rattle.vt_isect.specs.declared.phase.Phase.TheVariants.{Rest, ReadFrame, SyncSelectors, ChangeHead}
use Rattle.vt_isect.specs.Layout.{head_place}
use Rattle.vt_isect.specs.Section.{SectionState}
use Rattle.vt_isect.specs.Sound.{DiskHolds, KnownBuckets, nothing_known}
use Rattle.vt_isect.specs.Writeback.{SectionAdvances, EndsOrStops, NextCallReads, KeepsDiskSound, MayWrite, NextPhase, NextCallSyncs, calls_left}
use Rattle.vt_twin.specs.declared.step.Step.{Step}
use Rattle.vt_twin.specs.declared.step.Step.TheVariants.{More, Done}
use Rattle.vt_format.specs.Usage.{StopsHead, head_in}

-- what is known of a section may be less
abbrev pub Forgets : {D : Type 0} → DiskOf D → Type 0
Forgets {D} disk = (t : SectionState D) (known knows : KnownBuckets)
    → ((n : ℕ) (entries : List Entry) → knows n ≡ Some entries → known n ≡ Some entries)
    → DiskHolds disk t known → DiskHolds disk t knows

-- a change of the head is under way, or was made
pub record UnderWay {D : Type 0} (disk : DiskOf D) (begun now : SectionState D) : Type 0 where
  pub name : now.name ≡ begun.name
  pub buckets : now.buckets ≡ begun.buckets
  pub next : now.next ≡ begun.next
  pub goes : now.stopped ≡ None
  pub phase : ((now.phase ≡ ChangeHead) × (now.head ≡ begun.head))
      ⊎ ((now.phase ≡ Rest) × (now.head ≡ begun.next) × IsSynced disk now.disk)
  pub keeps : (known : KnownBuckets) → IsTrue disk.tells → begun.next.first ≡ begun.head.first
      → DiskHolds disk begun known → DiskHolds disk now known
  pub holds : IsTrue disk.tells → DiskHolds disk begun nothing_known
      → DiskHolds disk now nothing_known
  pub meanwhile : (known : KnownBuckets) → IsTrue disk.tells → now.phase ≡ ChangeHead
      → DiskHolds disk begun known → DiskHolds disk now known
  pub images : ChangesAt (Inside head_place) (disk.images begun.disk) (disk.images now.disk)
  pub calls : IsTrue disk.tells → disk.calls now.disk + calls_left now ≤ disk.calls begun.disk + 4
  pub size : disk.size now.disk ≡ disk.size begun.disk
  pub faults : disk.faults now.disk ≡ disk.faults begun.disk

module _ {D : Type 0} (disk : DiskOf D) (forget : Forgets disk) (begun t u : SectionState D)
    (it : UnderWay disk begun t) (way : t.phase ≡ ChangeHead) (same_head : t.head ≡ begun.head) where
  -- what is known of a bucket stays
  stays : (r : Result Step ShardErr) → KeepsDiskSound disk r t u → (known : KnownBuckets) → u.head.first ≡ t.head.first
      → DiskHolds disk t known → DiskHolds disk u known
  stays r keeps known first sound =
      let kept = keeps known sound in
      forget u kept.0 known
      (λ n entries is. kept.1.kept n first (λ completes. let no : ChangeHead ≡ SyncSelectors = sym way ∙ completes.1 in absurd (cc)) ∙ is)
      kept.2

  nothing : (step : Step) → KeepsDiskSound disk (Ok step) t u → DiskHolds disk t nothing_known → DiskHolds disk u nothing_known
  nothing step keeps sound =
      let kept = keeps nothing_known sound in
      forget u kept.0 nothing_known (λ n entries is. absurd (cc)) kept.2

  -- only the head's place is written
  more_images : ChangesAt (MayWrite t.phase t) (disk.images t.disk) (disk.images u.disk)
      → ChangesAt (Inside head_place) (disk.images begun.disk) (disk.images u.disk)
  more_images writes =
      changes_then (Inside head_place) (disk.images begun.disk) (disk.images t.disk) (disk.images u.disk) it.images
      (subst (λ (p : Phase). ChangesAt (MayWrite p t) (disk.images t.disk) (disk.images u.disk)) way writes)

  fewer : MadeCalls disk 1 t.disk u.disk → calls_left u < calls_left t → IsTrue disk.tells
      → disk.calls u.disk + calls_left u ≤ disk.calls begun.disk + 4
  fewer made left told = omega (arith, made told, left, it.calls told)

  pub one_step : (step : Step) → SectionAdvances (Ok step) t u → (IsTrue disk.tells → KeepsDiskSound disk (Ok step) t u)
      → (NextCallSyncs t.phase t → IsSynced disk u.disk) → calls_left u < calls_left t → MadeCalls disk 1 t.disk u.disk
      → disk.size u.disk ≡ disk.size t.disk → disk.faults u.disk ≡ disk.faults t.disk
      → ChangesAt (MayWrite t.phase t) (disk.images t.disk) (disk.images u.disk) → UnderWay disk begun u
  one_step More moves keeps synced left made size faults writes =
      let next : NextPhase ChangeHead t u = subst (λ (p : Phase). NextPhase p t u) way moves.2 in
      record {
        name = moves.0.section.name ∙ it.name;
        buckets = moves.0.section.buckets ∙ it.buckets;
        next = moves.0.next_is ∙ it.next;
        goes = moves.1;
        phase = inl (next.1, moves.0.head_is ∙ same_head);
        keeps = λ known told first sound. stays (Ok More) (keeps told) known (ap (λ h. h.first) moves.0.head_is) (it.keeps known told first sound);
        holds = λ told sound. nothing More (keeps told) (it.holds told sound);
        meanwhile = λ known told phase sound. stays (Ok More) (keeps told) known (ap (λ h. h.first) moves.0.head_is) (it.meanwhile known told way sound);
        images = more_images writes;
        calls = fewer made left;
        size = size ∙ it.size;
        faults = faults ∙ it.faults;
      }
  one_step Done moves keeps synced left made size faults writes =
      let ends = moves.2 in
      record {
        name = ends.section.name ∙ it.name;
        buckets = ends.section.buckets ∙ it.buckets;
        next = ends.next_is ∙ it.next;
        goes = ends.stopped;
        phase = inr (
          ends.phase,
          ends.head_is ∙ it.next,
          synced (subst (λ (p : Phase). NextCallSyncs p t) (sym way) (inr moves.1)),
        );
        keeps = λ known told first sound. stays (Ok Done) (keeps told) known
            (ap (λ h. h.first) (ends.head_is ∙ it.next) ∙ first ∙ sym (ap (λ h. h.first) same_head))
            (it.keeps known told first sound);
        holds = λ told sound. nothing Done (keeps told) (it.holds told sound);
        meanwhile = λ known told phase sound. let no : Rest ≡ ChangeHead = sym ends.phase ∙ phase in absurd (cc);
        images = more_images writes;
        calls = fewer made left;
        size = size ∙ it.size;
        faults = faults ∙ it.faults;
      }

  -- a call of it failed
  module _ (old : SectionState D) (same : begun ≡ record old { next = begun.next; phase = begun.phase; head_twin = begun.head_twin })
      (sound_begun : (known : KnownBuckets) → IsTrue disk.tells → DiskHolds disk old known → DiskHolds disk begun known)
      (state first total : ℕ) (next : begun.next ≡ head_in state first old.buckets total)
      (writes : ChangesAt (MayWrite t.phase t) (disk.images t.disk) (disk.images u.disk)) where
    ends : (IsTrue disk.tells → KeepsDiskSound disk (Err Fault) t u) → EndsOrStops t u → StopsHead disk state first total old u
    ends keeps moves = ⊎_elim
        (λ reads. absurd (subst (λ (p : Phase). NextCallReads p) way reads.0))
        (λ stops. record {
          phase = stops.2 ∙ way;
          name = stops.1.section.name ∙ it.name ∙ ap (λ s. s.name) same;
          buckets = stops.1.section.buckets ∙ it.buckets ∙ ap (λ s. s.buckets) same;
          head = stops.1.head_is ∙ same_head ∙ ap (λ s. s.head) same;
          next = stops.1.next_is ∙ it.next ∙ next;
          images = subst (λ (d : D). ChangesAt (Inside head_place) (disk.images d) (disk.images u.disk)) (ap (λ s. s.disk) same) (more_images writes);
          keeps = λ known told sound.
              stays (Err Fault) (keeps told) known (ap (λ h. h.first) stops.1.head_is) (it.meanwhile known told way (sound_begun known told sound));
        })
        moves

    pub head_stops : (bad : ShardErr) → (IsTrue disk.tells → KeepsDiskSound disk (Err bad) t u) → SectionAdvances (Err bad) t u
        → StopsHead disk state first total old u
    head_stops Fault keeps moves = ends keeps moves
    head_stops (Damaged bucket want found) keeps moves = let no : ChangeHead ≡ ReadFrame moves.0.0 = sym way ∙ moves.0.1 in absurd (cc)
    head_stops (Stopped n) keeps moves = let no : None ≡ Some n = sym it.goes ∙ moves.0 in absurd (cc)
