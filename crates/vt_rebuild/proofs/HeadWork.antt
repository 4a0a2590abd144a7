-- Changing the head of a section, one call after another.
use Rattle.std.proofs.Common.{◌≡◌, ◌⊎◌, ⊎_elim, inl, inr, ℕ, ◌+◌, ◌<◌, ◌≤◌, Some, None, Ok, Err, sym, ◌∙◌, ap, subst, arith}
use Rattle.std.specs.Prelude.{IsTrue, List}
use Rattle.vt_base.specs.declared.place.Entry.{Entry}
use Rattle.vt_disk.specs.Calls.{IsSynced, MadeCalls}
use Rattle.vt_disk.specs.Members.{DiskOf}
use Rattle.vt_isect.specs.declared.phase.Phase.{Phase}
use Rattle.vt_isect.specs.declared.phase.Phase.TheVariants.{Rest, ReadFrame, SyncSelectors, ChangeHead}
use Rattle.vt_isect.specs.Section.{SectionState}
use Rattle.vt_isect.specs.Sound.{DiskHolds, KnownBuckets, nothing_known}
use Rattle.vt_isect.specs.declared.error.ShardErr.{ShardErr}
use Rattle.vt_isect.specs.declared.error.ShardErr.TheVariants.{Fault, Damaged, Stopped}
use Rattle.vt_isect.specs.Writeback.{SectionAdvances, NextCallReads, KeepsDiskSound, NextPhase, NextCallSyncs, calls_left}
use Rattle.vt_twin.specs.declared.step.Step.{Step}
use Rattle.vt_twin.specs.declared.step.Step.TheVariants.{More, Done}

-- what is known of a section may be less
abbrev pub Forgets : {D : Type 0} → DiskOf D → Type 0
Forgets {D} disk = (t : SectionState D) (known knows : KnownBuckets)
    → ((n : ℕ) (entries : List Entry) → knows n ≡ Some entries → known n ≡ Some entries)
    → DiskHolds disk t known → DiskHolds disk t knows

-- a change of the head failed: the head and what is known are as they were
pub record Stops {D : Type 0} (disk : DiskOf D) (begun now : SectionState D) : Type 0 where
  pub name : now.name ≡ begun.name
  pub buckets : now.buckets ≡ begun.buckets
  pub head : now.head ≡ begun.head
  pub next : now.next ≡ begun.next
  pub phase : now.phase ≡ ChangeHead
  pub keeps : (known : KnownBuckets) → IsTrue disk.tells → DiskHolds disk begun known → DiskHolds disk now known

-- a change of the head is under way, or was made
pub record UnderWay {D : Type 0} (disk : DiskOf D) (begun now : SectionState D) : Type 0 where
  pub name : now.name ≡ begun.name
  pub buckets : now.buckets ≡ begun.buckets
  pub next : now.next ≡ begun.next
  pub goes : now.stopped ≡ None
  pub phase : ((now.phase ≡ ChangeHead) × (now.head ≡ begun.head))
      ⊎ ((now.phase ≡ Rest) × (now.head ≡ begun.next) × IsSynced disk now.disk)
  pub keeps : (known : KnownBuckets) → IsTrue disk.tells → begun.next.first ≡ begun.head.first
      → DiskHolds disk begun known → DiskHolds disk now known
  pub before : now.phase ≡ ChangeHead → (known : KnownBuckets) → IsTrue disk.tells
      → DiskHolds disk begun known → DiskHolds disk now known
  pub holds : IsTrue disk.tells → DiskHolds disk begun nothing_known
      → DiskHolds disk now nothing_known
  pub calls : IsTrue disk.tells → disk.calls now.disk + calls_left now ≤ disk.calls begun.disk + 4
  pub size : disk.size now.disk ≡ disk.size begun.disk
  pub faults : disk.faults now.disk ≡ disk.faults begun.disk

module _ {D : Type 0} (disk : DiskOf D) (forget : Forgets disk) (begun t u : SectionState D)
    (it : UnderWay disk begun t) (way : t.phase ≡ ChangeHead) (same_head : t.head ≡ begun.head) where
  -- what is known of a bucket stays
  stays : (step : Step) → KeepsDiskSound disk (Ok step) t u → (known : KnownBuckets) → u.head.first ≡ t.head.first
      → DiskHolds disk t known → DiskHolds disk u known
  stays step keeps known first sound =
      let kept = keeps known sound in
      forget u kept.0 known
      (λ n entries is. kept.1.kept n first (λ completes. let no : ChangeHead ≡ SyncSelectors = sym way ∙ completes.1 in absurd (cc)) ∙ is)
      kept.2

  nothing : (step : Step) → KeepsDiskSound disk (Ok step) t u → DiskHolds disk t nothing_known → DiskHolds disk u nothing_known
  nothing step keeps sound =
      let kept = keeps nothing_known sound in
      forget u kept.0 nothing_known (λ n entries is. absurd (cc)) kept.2

  fewer : MadeCalls disk 1 t.disk u.disk → calls_left u < calls_left t → IsTrue disk.tells
      → disk.calls u.disk + calls_left u ≤ disk.calls begun.disk + 4
  fewer made left told = omega (arith, made told, left, it.calls told)

  pub one_step : (step : Step) → SectionAdvances (Ok step) t u → (IsTrue disk.tells → KeepsDiskSound disk (Ok step) t u)
      → (NextCallSyncs t.phase t → IsSynced disk u.disk) → calls_left u < calls_left t → MadeCalls disk 1 t.disk u.disk
      → disk.size u.disk ≡ disk.size t.disk → disk.faults u.disk ≡ disk.faults t.disk → UnderWay disk begun u
  one_step More moves keeps synced left made size faults =
      let next : NextPhase ChangeHead t u = subst (λ (p : Phase). NextPhase p t u) way moves.2 in
      record {
        name = moves.0.section.name ∙ it.name;
        buckets = moves.0.section.buckets ∙ it.buckets;
        next = moves.0.next_is ∙ it.next;
        goes = moves.1;
        phase = inl (next.1, moves.0.head_is ∙ same_head);
        keeps = λ known told first sound. stays More (keeps told) known (ap (λ h. h.first) moves.0.head_is) (it.keeps known told first sound);
        before = λ _ known told sound. stays More (keeps told) known (ap (λ h. h.first) moves.0.head_is) (it.before way known told sound);
        holds = λ told sound. nothing More (keeps told) (it.holds told sound);
        calls = fewer made left;
        size = size ∙ it.size;
        faults = faults ∙ it.faults;
      }
  one_step Done moves keeps synced left made size faults =
      let ends = moves.2 in
      record {
        name = ends.section.name ∙ it.name;
        buckets = ends.section.buckets ∙ it.buckets;
        next = ends.next_is ∙ it.next;
        goes = ends.stopped;
        phase = inr (
          ends.phase,
          ends.head_is ∙ it.next,
          synced (subst (λ (p : Phase). NextCallSyncs p t) (sym way) (inr moves.1)),
        );
        keeps = λ known told first sound. stays Done (keeps told) known
            (ap (λ h. h.first) (ends.head_is ∙ it.next) ∙ first ∙ sym (ap (λ h. h.first) same_head))
            (it.keeps known told first sound);
        before = λ change. let no : Rest ≡ ChangeHead = sym ends.phase ∙ change in absurd (cc);
        holds = λ told sound. nothing Done (keeps told) (it.holds told sound);
        calls = fewer made left;
        size = size ∙ it.size;
        faults = faults ∙ it.faults;
      }

  -- it fails
  pub stopped : SectionAdvances (Err Fault) t u → (IsTrue disk.tells → KeepsDiskSound disk (Err Fault) t u) → Stops disk begun u
  stopped moves keeps = ⊎_elim
      (λ ends. absurd (subst (λ (p : Phase). NextCallReads p) way ends.0))
      (λ goes. record {
        name = goes.1.section.name ∙ it.name;
        buckets = goes.1.section.buckets ∙ it.buckets;
        head = goes.1.head_is ∙ same_head;
        next = goes.1.next_is ∙ it.next;
        phase = goes.2 ∙ way;
        keeps = λ known told sound.
            let kept = keeps told known (it.before way known told sound) in
            forget u kept.0 known
            (λ n entries is. kept.1.kept n (ap (λ h. h.first) goes.1.head_is) (λ completes. let no : ChangeHead ≡ SyncSelectors = sym way ∙ completes.1 in absurd (cc)) ∙ is)
            kept.2;
      })
      moves

  -- whatever is told of it
  pub stopped_by : (bad : ShardErr) → SectionAdvances (Err bad) t u → (IsTrue disk.tells → KeepsDiskSound disk (Err bad) t u) → Stops disk begun u
  stopped_by Fault moves keeps = stopped moves keeps
  stopped_by (Damaged bucket want found) moves keeps = let no : ChangeHead ≡ ReadFrame moves.0.0 = sym way ∙ moves.0.1 in absurd (cc)
  stopped_by (Stopped n) moves keeps = let no : None ≡ Some n = sym it.goes ∙ moves.0 in absurd (cc)
