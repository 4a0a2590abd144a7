-- What reading a block answers.
use Rattle.std.specs.Prelude.{◌≡◌, ◌≢◌, ◌⊎◌, ⊤, ℕ, ◌-◌, ◌≤◌, IsTrue, Some, None, List, length, drop, slice_get, Result, Ok, Err}
use Rattle.vt_base.specs.declared.key.Key.{Key}
use Rattle.vt_base.specs.declared.why.FieldValue.{FieldValue}
use Rattle.vt_base.specs.declared.why.FieldValue.TheVariants.{Number, Score as ScoreValue}
use Rattle.vt_base.specs.declared.place.Place.{Place}
use Rattle.vt_disk.specs.Members.{DiskOf}
use Rattle.vt_clump.specs.declared.packed.Packed.{Packed}
use Rattle.vt_clump.specs.Faults.{first_bad_clump}
use Rattle.vt_clump.specs.Spelling.{Stored, stored_in}
use Rattle.vt_model.specs.declared.TheConstants.{ARENA_HEAD_LEN, CLUMP_HEADER_LEN}
use Rattle.vt_part.specs.declared.layout.ArenaRegion.{ArenaRegion}
use Rattle.vt_arena.specs.declared.error.ReadBad.{ReadBad}
use Rattle.vt_arena.specs.declared.error.ReadBad.TheVariants.{Fault, Damaged, NoMemory}
use Rattle.vt_arena.specs.Reading.{HasHeader, clump_at, IsDamaged}
use Rattle.vt_log.specs.Log.{LogState, packed_of}
use Rattle.vt_log.specs.Queue.{IsFirstAt, IsNowhere}
use Rattle.vt_log.specs.Sound.{IsArenaAt}

-- a clump of this type and score has another key than the one that was asked for: another type or,
-- of the same type, another score
abbrev pub IsOther : Key → (kind : ℕ) → (score : List ℕ) → (want found : FieldValue) → Type 0
IsOther key kind score want found =
    ((kind ≢ key.kind) × (want ≡ Number key.kind) × (found ≡ Number kind))
    ⊎ ((kind ≡ key.kind) × (score ≢ key.score.0) × (want ≡ ScoreValue key.score)
    × (found ≡ ScoreValue (record { 0 = score })))

-- the clump that was read is of another block, by these two values; no failed call is one
abbrev pub IsDamagedBy : Key → (kind : ℕ) → (score : List ℕ) → ReadBad → Type 0
IsDamagedBy key kind score (Damaged want found) = IsOther key kind score want found
IsDamagedBy key kind score Fault = ⊥
IsDamagedBy key kind score NoMemory = ⊥

-- the answer where this clump stands at the place
abbrev pub GivesBlock : Key → Stored → Result (List ℕ) ReadBad → Type 0
GivesBlock key s (Ok block) = (s.kind ≡ key.kind) × (s.score ≡ key.score.0) × (block ≡ s.block)
GivesBlock key s (Err (Damaged want found)) = IsOther key s.kind s.score want found
GivesBlock key s (Err NoMemory) = ⊤
GivesBlock key s (Err Fault) = ⊤

-- where this clump is queued: it is given by its own fields, and no device call is made for it
abbrev pub GivesPacked : Key → Packed → Result (List ℕ) ReadBad → Type 0
GivesPacked key p (Ok block) =
    (p.kind ≡ key.kind) × (p.score ≡ key.score) × (block ≡ drop CLUMP_HEADER_LEN p.bytes)
GivesPacked key p (Err (Damaged want found)) = IsOther key p.kind p.score.0 want found
GivesPacked key p (Err NoMemory) = ⊤
GivesPacked key p (Err Fault) = ⊥

-- What is answered where these bytes stand at the place, which may be no clump.
abbrev pub ReadsBlockAs : (score_of : List ℕ → List ℕ) → Key → (bytes : List ℕ)
    → Result (List ℕ) ReadBad → Type 0
ReadsBlockAs score_of key bytes (Ok block) =
    (first_bad_clump score_of bytes ≡ None) × GivesBlock key (stored_in bytes) (Ok block)
ReadsBlockAs score_of key bytes (Err (Damaged want found)) =
    IsDamaged score_of bytes want found
    ⊎ ((first_bad_clump score_of bytes ≡ None)
    × GivesBlock key (stored_in bytes) (Err (Damaged want found)))
ReadsBlockAs score_of key bytes (Err NoMemory) = ⊤
ReadsBlockAs score_of key bytes (Err Fault) = ⊤

-- What reading a place answers, for any key: what stands there in the queue or, where nothing
-- queued has the place, on the disk. Of a place in no arena the number is told, where that of the
-- last one was wanted; of one at which no header can lie, the offset, where the head's end was.
pub record AnswersRead {D : Type 0} (score_of : List ℕ → List ℕ) (disk : DiskOf D)
    (l : LogState D) (place : Place) (key : Key) (result : Result (List ℕ) ReadBad)
    : Type 0 where
  pub queued : (i : ℕ) → IsFirstAt l.queue.places place i → (p : Packed)
      × (slice_get (packed_of l) i ≡ Some p) × GivesPacked key p result
  pub nowhere : IsNowhere l.queue.places place → length l.layout ≤ place.arena
      → result ≡ Err (Damaged (Number (length l.layout - 1)) (Number place.arena))
  pub outside : (r : ArenaRegion) → IsNowhere l.queue.places place
      → slice_get l.layout place.arena ≡ Some r → ¬ HasHeader r.region.len place.offset
      → result ≡ Err (Damaged (Number ARENA_HEAD_LEN) (Number place.offset))
  pub stored : (r : ArenaRegion) (device : D) → IsNowhere l.queue.places place
      → IsArenaAt l place.arena r device → HasHeader r.region.len place.offset → (clump : List ℕ)
      × (IsTrue disk.tells → clump ≡ clump_at r.region place.offset (disk.bytes device))
      × ReadsBlockAs score_of key clump result
