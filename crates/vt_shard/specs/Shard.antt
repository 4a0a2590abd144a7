-- A shard as its calls see it: a section of the index, and what is kept in memory for it.
use Rattle.std.specs.Prelude.{◌≡◌, ◌≢◌, ◌==◌, ◌↔◌, ℕ, ◌+◌, ◌-◌, ◌*◌, ◌^◌, ◌<◌, ◌≤◌, Option, None, Some, List, [], length, take, drop, count_by, slice_get, MatchOption}
use Rattle.std.specs.List.{All, AllPairs, Contains}
use Rattle.std.specs.Option.{option_map}
use Rattle.lru.specs.LruCache.{lru_cache}
use Rattle.vt_base.specs.declared.place.Entry.{Entry}
use Rattle.vt_base.specs.declared.place.Info.{Info}
use Rattle.vt_bucket.specs.Buckets.{number_of_bucket, bucket_entries}
use Rattle.vt_bucket.specs.declared.Bucket.{Bucket}
use Rattle.vt_icache.specs.Index.{IndexState, entry_of}
use Rattle.vt_isect.specs.Layout.{InRange}
use Rattle.vt_isect.specs.Section.{SectionState, HasBucket, HasGroup, IsAtRest, PutsEntries, bucket_number, entering, entries_of}
use Rattle.vt_isect.specs.declared.groups.Member.{Member}
use Rattle.vt_isect.specs.declared.head.Head.{Head}
use Rattle.vt_isect.specs.declared.phase.Phase.TheVariants.{ChangeHead}
use Rattle.vt_isect.specs.Writeback.{calls_left}
use Rattle.vt_lumps.specs.Lumps.{LumpsState}
use Rattle.vt_model.specs.Places.{bucket_of}
use Rattle.vt_shard.specs.declared.TheConstants.{ROOM}

-- a bucket as it was read: its number over all sections, and its entries
pub record ReadBucket : Type 0 where
  pub number : ℕ
  pub entries : List Entry

-- the bucket that was read last, as contracts see it
abbrev pub read_bucket : Option Bucket → Option ReadBucket
read_bucket bucket =
    option_map (λ it. record { number = number_of_bucket it; entries = bucket_entries it }) bucket

-- The section; the index entries in memory, dirty and clean ones; the blocks in memory; the bucket
-- that was read last, until it is written back; the number of the writeback that is under way,
-- which puts the entries of the blocks below it into their buckets; the greatest number that a
-- writeback had so far, 0 at mounting; and the bucket at which the last one ended early, if it did.
pub record ShardState (D : Type 0) : Type 0 where
  pub section : SectionState D
  pub index : IndexState
  pub lumps : LumpsState
  pub bucket : Option ReadBucket
  pub writeback : Option ℕ
  pub filed : ℕ
  pub ended_at : Option ℕ

-- The entry is one of the shard's dirty ones.
abbrev pub IsDirty : {D : Type 0} → ShardState D → Entry → Type 0
IsDirty t entry = (info : Info) × Contains t.index.dirty info × (entry_of info ≡ entry)

-- the number of a score's bucket
abbrev pub bucket_at : {D : Type 0} → ShardState D → List ℕ → ℕ
bucket_at t score = bucket_of t.section.head.total score

-- the shard has the bucket of this score
abbrev pub HasScore : {D : Type 0} → ShardState D → List ℕ → Type 0
HasScore t score = InRange t.section.head t.section.buckets (bucket_at t score)

-- how many dirty entries bucket n has
abbrev pub dirty_in : {D : Type 0} → ShardState D → (n : ℕ) → ℕ
dirty_in t n = count_by (λ info. bucket_at t info.key.score.0 == n) t.index.dirty

-- bucket n is the one that was read last
abbrev pub HasRead : {D : Type 0} → ShardState D → (n : ℕ) → Type 0
HasRead t n = MatchOption t.bucket ⊥ (λ bucket. bucket.number ≡ n)

-- some dirty entry is that of a block below this number
abbrev pub HasBelow : (below : ℕ) → List Info → Type 0
HasBelow below dirty = (info : Info) × Contains dirty info × (info.number < below)

-- the least number that is above those of all dirty entries
pub record IsAboveAll (dirty : List Info) (below : ℕ) : Type 0 where
  pub above : (info : Info) → Contains dirty info → info.number < below
  pub least : (info : Info) × Contains dirty info × (below ≡ info.number + 1)

-- only the mark differs
abbrev pub OnlyMark : (head next : Head) → Type 0
OnlyMark head next = next ≡ record head { mark = next.mark }

-- the section keeps its name and its place among the sections, and its mark doesn't fall
pub record KeepsPlace {D : Type 0} (old new : ShardState D) : Type 0 where
  pub name : new.section.name ≡ old.section.name
  pub buckets : new.section.buckets ≡ old.section.buckets
  pub head : OnlyMark old.section.head new.section.head
  pub mark : old.section.head.mark ≤ new.section.head.mark

-- a shard that was mounted on a section, with room for so many blocks and clean entries
abbrev pub mounted_shard : {D : Type 0} → SectionState D → (lumps clean : ℕ) → ShardState D
mounted_shard section lumps clean = record {
  section = record section { entries = None };
  index = record { dirty = []; room = ROOM; clean = []; clean_room = clean };
  lumps = lru_cache [] lumps;
  bucket = None;
  writeback = None;
  filed = 0;
  ended_at = None;
}

-- ---- what holds of every shard

-- a dirty entry of a block below this number
abbrev pub IsDirtyBelow : (below : ℕ) → List Info → Entry → Type 0
IsDirtyBelow below dirty entry =
    (info : Info) × Contains dirty info × (info.number < below) × (entry_of info ≡ entry)

-- one of these entries belongs to bucket n
abbrev pub HasEntryOf : {D : Type 0} → SectionState D → List Entry → (n : ℕ) → Type 0
HasEntryOf t entries n = (entry : Entry) × Contains entries entry × (bucket_number t entry ≡ n)

-- While entries are put into their buckets: the bucket under way gets some of them, and so does
-- each of the group.
pub record IsFiling {D : Type 0} (t : SectionState D) : Type 0 where
  pub order : (t.written ≤ t.framed) × (t.framed ≤ t.begun) × (t.begun ≤ length (entries_of t))
  pub next : HasBucket t.phase → HasEntryOf t (entering t) t.bucket
  pub group : (member : Member) → Contains t.group member
      → HasEntryOf t (drop t.written (take t.framed (entries_of t))) member.bucket
  pub whole : HasGroup t.phase → t.framed ≡ t.begun

-- The writeback under way is still to write just the dirty entries below its number. Its list has
-- the memory for all that may be dirty.
pub record IsUnderWay {D : Type 0} (t : ShardState D) (below : ℕ) : Type 0 where
  pub filed : below ≤ t.filed
  pub next : OnlyMark t.section.head t.section.next
  pub rises : t.section.head.mark ≤ t.section.next.mark
  pub todo : (entry : Entry) → Contains (drop t.section.written (entries_of t.section)) entry
      ↔ IsDirtyBelow below t.index.dirty entry
  pub apart : AllPairs (λ a b. a.key ≢ b.key) (entries_of t.section)
  pub filing : PutsEntries t.section.phase → IsFiling t.section
  pub behind : t.section.phase ≡ ChangeHead → t.section.written ≡ length (entries_of t.section)
  pub list : MatchOption t.section.entries ⊥ (λ list. ROOM ≤ list.room)
  -- it makes so few calls more at most
  pub left : calls_left t.section ≤ 6 * ROOM + 4

-- At rest the memory for the entries of a writeback is here. `waiting` has for each bucket of the
-- section how many dirty entries it has.
pub record IsWell {D : Type 0} (t : ShardState D) (list : Option ℕ) (waiting : List ℕ) : Type 0
  where
    pub room : t.index.room ≡ ROOM
    pub most : length t.index.dirty ≤ ROOM
    pub keys : AllPairs (λ a b. a.key ≢ b.key) t.index.dirty
    pub in_range : All (λ info. HasScore t info.key.score.0) t.index.dirty
    pub numbers : All (λ info. info.number < 2 ^ 64 - 1) t.index.dirty
    pub counts : (n : ℕ) → InRange t.section.head t.section.buckets n
        → slice_get waiting (n - t.section.head.first) ≡ Some (dirty_in t n)
    pub rest : IsAtRest t.section → (t.writeback ≡ None) × (t.section.entries ≡ None)
        × MatchOption list ⊥ (λ capacity. ROOM ≤ capacity)
    pub under_way : ¬ IsAtRest t.section
        → MatchOption t.writeback ⊥ (λ below. IsUnderWay t below)
