-- What it is to rebuild an index (venti(8), buildindex): each section has the entries of the log's
-- blocks that belong to it, and no others.
use Rattle.std.specs.Prelude.{◌≡◌, ◌⊎◌, ℕ, ◌+◌, ◌*◌, ◌<◌, ◌≤◌, IsTrue, List, length, map, slice_get, Some}
use Rattle.std.specs.List.{AllPairs}
use Rattle.vt_base.specs.declared.place.Entry.{Entry}
use Rattle.vt_disk.specs.Calls.{IsSynced}
use Rattle.vt_disk.specs.Members.{DiskOf}
use Rattle.vt_isect.specs.Agreement.{AgreesWith, KnownAgrees}
use Rattle.vt_isect.specs.declared.head.Head.{Head}
use Rattle.vt_isect.specs.Layout.{IsSection}
use Rattle.vt_isect.specs.Section.{IsAtRest, SectionState}
use Rattle.vt_isect.specs.Sound.{DiskHolds, KnownBuckets, LeavesHead, nothing_known}
use Rattle.vt_log.specs.Log.{LogState, setup_of_log}
use Rattle.vt_log.specs.Sound.{IsSoundLog}
use Rattle.vt_model.specs.declared.TheConstants.{BUCKET_ROOM}
use Rattle.vt_model.specs.History.{History}
use Rattle.vt_model.specs.Legal.{HasOtherKey}
use Rattle.vt_model.specs.Places.{Setup, bucket_count, crowd, first_bucket}
use Rattle.vt_rebuild.specs.Heads.{IsSameSection, StopsAtHead, head_in}

-- how many buckets each section has
abbrev pub counts_of : {D : Type 0} → List (SectionState D) → List ℕ
counts_of sections = map (λ section. section.buckets) sections

-- the setup of a store of this log and these sections
abbrev pub setup_with : {D : Type 0} → LogState D → List (SectionState D) → Setup
setup_with l sections = record (setup_of_log l) { sections = counts_of sections }

-- The log has this history, in which no two blocks have one key. Both hold of each store that was
-- mounted.
pub record HasHistory {D : Type 0} (score : List ℕ → List ℕ) (disk : DiskOf D) (l : LogState D)
    (h : History) : Type 0 where
  pub tells : IsTrue disk.tells
  pub sound : IsSoundLog score disk l h
  pub keys : AllPairs (HasOtherKey score) h

-- a section as it is mounted, whatever its head says and its buckets hold: at rest, and its disk
-- holds its head
pub record IsOpened {D : Type 0} (disk : DiskOf D) (t : SectionState D) : Type 0 where
  pub rest : IsAtRest t
  pub sound : IsTrue disk.tells → DiskHolds disk t nothing_known

-- The section is in use, with its buckets from this number on. Whatever a crash leaves, its entries
-- are those of the history's blocks, each in its bucket: it agrees with the history, of which each
-- block is below the mark. That takes two calls for each bucket, and nine more at most.
pub record IsRebuilt {D : Type 0} (score : List ℕ → List ℕ) (disk : DiskOf D) (c : Setup)
    (h : History) (first : ℕ) (old new : SectionState D) : Type 0 where
  pub same : IsSameSection disk old new
  pub rest : IsAtRest new
  pub head : new.head ≡ head_in 1 first old.buckets (bucket_count c) (length h)
  pub settled : IsSynced disk new.disk
  pub calls : disk.calls new.disk ≤ disk.calls old.disk + (2 * old.buckets + 9)
  pub images : (file : List ℕ) → disk.images new.disk file → (entries : ℕ → List Entry)
      × IsSection old.name new.head old.buckets entries file
      × AgreesWith score c h old.buckets new.head entries
  pub known : KnownBuckets
  pub holds : DiskHolds disk new known
  pub agrees : KnownAgrees score c h new known

-- The section is as it was, but that a call may have failed by which its head was to say that it is
-- being built.
abbrev pub IsUnwrittenSection : {D : Type 0} → DiskOf D → (first total : ℕ)
    → (old new : SectionState D)
    → Type 0
IsUnwrittenSection disk first total old new = (new ≡ old)
    ⊎ (IsSameSection disk old new × StopsAtHead disk (head_in 2 first old.buckets total 0) old new)

-- The section's head says that it is being built, so that nothing in it counts.
pub record IsBeingBuilt {D : Type 0} (disk : DiskOf D) (first total : ℕ) (old new : SectionState D)
    : Type 0 where
  pub same : IsSameSection disk old new
  pub head : new.head ≡ head_in 2 first old.buckets total 0
  pub next : new.next ≡ new.head
  pub holds : IsTrue disk.tells → DiskHolds disk old nothing_known
      → DiskHolds disk new nothing_known

-- The section's head says that it is being built, and the next one, which is on its way, that it is
-- in use: then the section agrees with the history already.
pub record IsComing {D : Type 0} (score : List ℕ → List ℕ) (disk : DiskOf D) (c : Setup)
    (h : History) (first : ℕ) (old new : SectionState D) : Type 0 where
  pub same : IsSameSection disk old new
  pub head : new.head ≡ head_in 2 first old.buckets (bucket_count c) 0
  pub next : new.next ≡ head_in 1 first old.buckets (bucket_count c) (length h)
  pub known : KnownBuckets
  pub holds : DiskHolds disk new known
  pub agrees : KnownAgrees score c h new known

-- What a section may be left as where its index isn't rebuilt. A crash never leaves state 1 with
-- anything else than what was there or what belongs there.
abbrev pub IsHalfRebuilt : {D : Type 0} → (List ℕ → List ℕ) → DiskOf D → Setup → History
    → (first : ℕ) → (old new : SectionState D) → Type 0
IsHalfRebuilt score disk c h first old new =
    IsUnwrittenSection disk first (bucket_count c) old new
    ⊎ IsBeingBuilt disk first (bucket_count c) old new
    ⊎ IsComing score disk c h first old new ⊎ IsRebuilt score disk c h first old new

-- ---- all sections, each with the number of its first bucket

-- there are as many sections as there were, and between each and what it was this holds, by the
-- number of its first bucket
pub record EachSection {D : Type 0} (R : (first : ℕ) → (old new : SectionState D) → Type 0)
    (olds news : List (SectionState D)) : Type 0 where
  pub many : length news ≡ length olds
  pub each : (i : ℕ) (old new : SectionState D) → slice_get olds i ≡ Some old
      → slice_get news i ≡ Some new → R (first_bucket (counts_of olds) i) old new

-- All sections are rebuilt.
abbrev pub AreRebuilt : {D : Type 0} → (List ℕ → List ℕ) → DiskOf D → Setup → History
    → (olds news : List (SectionState D)) → Type 0
AreRebuilt score disk c h olds news = EachSection (IsRebuilt score disk c h) olds news

-- a crash may leave a head that says state 1 in this section
abbrev pub MayBeInUse : {D : Type 0} → SectionState D → Type 0
MayBeInUse t = (head : Head) × LeavesHead t head × (head.state ≡ 1)

-- All sections are left as one may be. Where a crash leaves all of them in use, all are as they
-- were, or all have their blocks' entries.
pub record AreHalfRebuilt {D : Type 0} (score : List ℕ → List ℕ) (disk : DiskOf D) (c : Setup)
    (h : History) (olds news : List (SectionState D)) : Type 0 where
  pub all : EachSection (IsHalfRebuilt score disk c h) olds news
  pub together : ((i : ℕ) (t : SectionState D) → slice_get news i ≡ Some t → MayBeInUse t)
      → EachSection (λ first. IsUnwrittenSection disk first (bucket_count c)) olds news
      ⊎ EachSection (λ first old new. IsComing score disk c h first old new
      ⊎ IsRebuilt score disk c h first old new) olds news

-- the first bucket that has more blocks than it has room for is this one
pub record IsFirstFull (score : List ℕ → List ℕ) (total : ℕ) (h : History) (n : ℕ) : Type 0 where
  pub within : n < total
  pub full : BUCKET_ROOM < crowd score total h n
  pub before : (m : ℕ) → m < n → crowd score total h m ≤ BUCKET_ROOM
