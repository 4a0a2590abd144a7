-- Putting entries into a bucket.
use Rattle.std.specs.Prelude.{◌≡◌, ◌≢◌, ◌⊎◌, ℕ, ◌<◌, List, length}
use Rattle.std.specs.List.{AllPairs, Contains}
use Rattle.vt_base.specs.declared.key.Key.{Key}
use Rattle.vt_base.specs.declared.place.Entry.{Entry}
use Rattle.vt_base.specs.declared.why.FieldValue.TheVariants.{Number}
use Rattle.vt_bucket.specs.declared.decoding.BucketBad.{BucketBad}
use Rattle.vt_bucket.specs.Faults.{FaultIs}
use Rattle.vt_bucket.specs.Frame.{IsBucketFrame, bucket_frame}
use Rattle.vt_model.specs.declared.TheConstants.{BUCKET_ROOM}
use Rattle.vt_isect.specs.declared.error.ShardErr.{ShardErr}
use Rattle.vt_isect.specs.declared.error.ShardErr.TheVariants.{Damaged}
use Rattle.vt_isect.specs.Faults.{damage_of_bucket}

-- one of the entries has this key
abbrev pub HasKey : (entries : Entry → Type 0) → Key → Type 0
HasKey entries key = (entry : Entry) × entries entry × (entry.key ≡ key)

-- The new entries are those of a group, and the old ones whose keys the group lacks.
pub record Merges (old : List Entry) (group : Entry → Type 0) (new : List Entry) : Type 0 where
  pub from : (entry : Entry) → Contains new entry
      → group entry ⊎ (Contains old entry × ¬ HasKey group entry.key)
  pub keeps : (entry : Entry) → Contains old entry ⊎ group entry → HasKey (Contains new) entry.key

-- the frame has a fault
abbrev pub IsFaultyFrame : (n : ℕ) → (frame : List ℕ) → ShardErr → Type 0
IsFaultyFrame n frame bad =
    (fault : BucketBad) × FaultIs fault n frame × (bad ≡ damage_of_bucket n fault)

-- Some of the entries have so many keys, and no two of them one key: each key of the entries is
-- theirs.
pub record HasKeys (entries : Entry → Type 0) (count : ℕ) : Type 0 where
  pub some : List Entry
  pub count_is : length some ≡ count
  pub distinct : AllPairs (λ a b. a.key ≢ b.key) some
  pub each : (entry : Entry) → Contains some entry → entries entry
  pub all : (entry : Entry) → entries entry → HasKey (Contains some) entry.key

-- the old entries, and those of a group
abbrev pub Joined : (old : List Entry) → (group : Entry → Type 0) → Entry → Type 0
Joined old group entry = Contains old entry ⊎ group entry

-- The entries of a group whose keys the old entries lack.
abbrev pub IsAbsentEntry : (old : List Entry) → (group : Entry → Type 0) → Entry → Type 0
IsAbsentEntry old group entry = group entry × ¬ HasKey (Contains old) entry.key

-- The bucket of the frame has no room for a group of entries: with them it would have as many as
-- are found.
abbrev pub IsOverfull : (n : ℕ) → (group : List Entry) → (frame : List ℕ) → ShardErr → Type 0
IsOverfull n group frame bad = (old : List Entry) × IsBucketFrame n old frame
    × (found : ℕ) × HasKeys (Joined old (Contains group)) found
    × (BUCKET_ROOM < found) × (bad ≡ Damaged n (Number BUCKET_ROOM) (Number found))

-- why a group of entries isn't put into the bucket of this frame
abbrev pub IsDamage : (n : ℕ) → (group : List Entry) → (frame : List ℕ) → ShardErr → Type 0
IsDamage n group frame bad = IsFaultyFrame n frame bad ⊎ IsOverfull n group frame bad

-- The new frame is that of the bucket of the frame that was read, with a group of entries in it,
-- too.
pub record IsMerged (n : ℕ) (group : List Entry) (read frame : List ℕ) : Type 0 where
  pub old : List Entry
  pub new : List Entry
  pub was : IsBucketFrame n old read
  pub is : IsBucketFrame n new frame
  pub bytes : frame ≡ bucket_frame n new
  pub merges : Merges old (Contains group) new
