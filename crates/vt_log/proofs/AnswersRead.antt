-- What a read answers.
use Rattle.std.proofs.Common.{◌≡◌, ◌≢◌, ◌⊎◌, ⊎_elim, inl, inr, ℕ, ◌-◌, ◌<◌, ◌≤◌, IsTrue, List, length, drop, sym, ◌∙◌, ap, subst, arith, Some, Ok, Err, Result, IfOk, IfErr, MatchResult}
use Rattle.std.specs.Prelude.{slice_get}
use Rattle.std.proofs.lemmas.Bool.{cases_lt}
use Rattle.std.proofs.lemmas.Option.{slice_get_within}
use Rattle.vt_base.specs.declared.key.Key.{Key}
use Rattle.vt_base.specs.declared.place.Place.{Place}
use Rattle.vt_base.specs.declared.why.FieldValue.TheVariants.{Number}
use Rattle.vt_disk.specs.Members.{DiskOf}
use Rattle.vt_clump.specs.declared.packed.Packed.{Packed}
use Rattle.vt_clump.specs.declared.reading.Clump.{Clump}
use Rattle.vt_clump.specs.Spelling.{stored_in}
use Rattle.vt_model.specs.declared.TheConstants.{ARENA_HEAD_LEN}
use Rattle.vt_part.specs.declared.layout.ArenaRegion.{ArenaRegion}
use Rattle.vt_arena.specs.declared.error.ReadBad.{ReadBad}
use Rattle.vt_arena.specs.declared.error.ReadBad.TheVariants.{Fault, Damaged, NoMemory}
use Rattle.vt_arena.specs.Reading.{HasHeader, clump_at}
use Rattle.vt_arena.specs.Reading.{ReadsClumpAs}
use Rattle.vt_log.specs.Log.{LogState, packed_of}
use Rattle.vt_log.specs.Queue.{IsFirstAt, IsNowhere}
use Rattle.vt_log.specs.Reading.{IsOther, IsDamagedBy, GivesPacked, ReadsBlockAs, AnswersRead}
use Rattle.vt_log.specs.Sound.{IsArenaAt}

-- a clump with the key that was asked for is not damaged by its key
pub no_other : (key : Key) (kind : ℕ) (score : List ℕ) (bad : ReadBad) → kind ≡ key.kind → score ≡ key.score.0 → IsDamagedBy key kind score bad → ⊥
no_other key kind score Fault k s other = other
no_other key kind score NoMemory k s other = other
no_other key kind score (Damaged want found) k s other = ⊎_elim
    (λ (it : (kind ≢ key.kind) × _ × _). it.0 k)
    (λ (it : (kind ≡ key.kind) × (score ≢ key.score.0) × _ × _). it.1 s)
    other

pub queued_gives : (key : Key) (p : Packed) (result : Result (List ℕ) ReadBad) → IfOk result (λ _. (p.kind ≡ key.kind) × (p.score ≡ key.score))
    → IfOk result (λ block. block ≡ drop 38 p.bytes) → IfErr result (λ bad. (bad ≡ NoMemory) ⊎ IsDamagedBy key p.kind p.score.0 bad) → GivesPacked key p result
queued_gives key p (Ok block) same is other = (same.0, same.1, is)
queued_gives key p (Err Fault) same is other = ⊎_elim (λ (e : Fault ≡ NoMemory). absurd (cc)) (λ (no : ⊥). no) other
queued_gives key p (Err NoMemory) same is other = tt
queued_gives key p (Err (Damaged want found)) same is other = ⊎_elim (λ (e : Damaged want found ≡ NoMemory). absurd (cc)) (λ (it : IsOther key p.kind p.score.0 want found). it) other

pub queued_block : (key : Key) (p : Packed) (block : List ℕ) (result : Result (List ℕ) ReadBad) → p.kind ≡ key.kind → p.score.0 ≡ key.score.0 → drop 38 p.bytes ≡ block
    → IfOk result (λ b. b ≡ drop 38 p.bytes) → IfErr result (λ bad. (bad ≡ NoMemory) ⊎ IsDamagedBy key p.kind p.score.0 bad)
    → MatchResult result (λ b. b ≡ block) (λ bad. (bad ≡ Fault) ⊎ (bad ≡ NoMemory))
queued_block key p block (Ok b) k s whole is other = is ∙ whole
queued_block key p block (Err bad) k s whole is other = ⊎_elim (λ (e : bad ≡ NoMemory). inr e) (λ (it : IsDamagedBy key p.kind p.score.0 bad). absurd (no_other key p.kind p.score.0 bad k s it)) other

-- where no clump is read
pub unread : (score_of : List ℕ → List ℕ) (key : Key) (bytes : List ℕ) (bad : ReadBad) → ReadsClumpAs score_of bytes (Err bad) → ReadsBlockAs score_of key bytes (Err bad)
unread score_of key bytes Fault reads = tt
unread score_of key bytes NoMemory reads = tt
unread score_of key bytes (Damaged want found) reads = inl reads

-- where the clump that is read has that key, and where it has another
pub reads_block : (score_of : List ℕ → List ℕ) (key : Key) (bytes : List ℕ) (clump : Clump) → ReadsClumpAs score_of bytes (Ok clump) → clump.kind ≡ key.kind → clump.score ≡ key.score
    → ReadsBlockAs score_of key bytes (Ok clump.bytes)
reads_block score_of key bytes clump reads kind score =
    (reads.0, (sym reads.1.kind ∙ kind, sym reads.1.score ∙ ap (λ (s : _). s.0) score, reads.1.bytes))

pub reads_other : (score_of : List ℕ → List ℕ) (key : Key) (bytes : List ℕ) (clump : Clump) (bad : ReadBad) → ReadsClumpAs score_of bytes (Ok clump) → IsDamagedBy key clump.kind clump.score.0 bad
    → ReadsBlockAs score_of key bytes (Err bad)
reads_other score_of key bytes clump Fault reads other = tt
reads_other score_of key bytes clump NoMemory reads other = tt
reads_other score_of key bytes clump (Damaged want found) reads other =
    inr (reads.0, subst (λ (kind : ℕ). IsOther key kind (stored_in bytes).score want found) reads.1.kind (subst (λ (score : List ℕ). IsOther key clump.kind score want found) reads.1.score other))

-- one place alone is the first of these
pub first_once : (places : List Place) (place : Place) (i j : ℕ) → IsFirstAt places place i → IsFirstAt places place j → i ≡ j
first_once places place i j here there = ⊎_elim
    (λ (less : i < j). absurd (there.first i less here.at))
    (λ (rest : j ≤ i). ⊎_elim
    (λ (less : j < i). absurd (here.first j less there.at))
    (λ (same : i ≤ j). omega (arith, rest, same))
    (cases_lt j i))
    (cases_lt i j)

-- a place is nowhere in the queue of a log that is the same
pub nowhere_in : {D : Type 0} (l m : LogState D) (place : Place) → l ≡ m
    → IsNowhere l.queue.places place → IsNowhere m.queue.places place
nowhere_in {D = D} l m place same none =
    subst (λ (x : LogState D). IsNowhere x.queue.places place) same none

-- no step is free for a place at which a clump is read
pub not_free : {D : Type 0} (l : LogState D) (place : Place) → IsNowhere l.queue.places place
    → place.arena < length l.layout
    → ((r : ArenaRegion) → slice_get l.layout place.arena ≡ Some r
    → ¬ HasHeader r.region.len place.offset → ⊥)
    → ((i : ℕ) × IsFirstAt l.queue.places place i) ⊎ (length l.layout ≤ place.arena)
    ⊎ ((r : ArenaRegion) × (slice_get l.layout place.arena ≡ Some r)
    × (¬ HasHeader r.region.len place.offset)) → ⊥
not_free l place none within has free = ⊎_elim
    (λ (it : (i : ℕ) × IsFirstAt l.queue.places place i). none it.0 it.1.at)
    (⊎_elim (λ (past : length l.layout ≤ place.arena). absurd (omega (arith, within, past)))
    (λ (it : (r : ArenaRegion) × (slice_get l.layout place.arena ≡ Some r)
    × (¬ HasHeader r.region.len place.offset)). has it.0 it.1 it.2))
    free

-- what is answered for a queued place, for one in no arena, and for one in an arena
pub answers_queued : {D : Type 0} (score_of : List ℕ → List ℕ) (disk : DiskOf D)
    (l : LogState D) (place : Place) (key : Key) (result : Result (List ℕ) ReadBad) (index : ℕ)
    (p : Packed) → IsFirstAt l.queue.places place index → slice_get (packed_of l) index ≡ Some p
    → GivesPacked key p result → AnswersRead score_of disk l place key result
answers_queued score_of disk l place key result index p first at gives = record {
  queued = λ i here. (
    p,
    subst (λ (k : ℕ). slice_get (packed_of l) k ≡ Some p)
        (first_once l.queue.places place index i first here) at,
    gives,
  );
  nowhere = λ none. absurd (none index first.at);
  outside = λ r none. absurd (none index first.at);
  stored = λ r device none. absurd (none index first.at);
}

pub answers_nowhere : {D : Type 0} (score_of : List ℕ → List ℕ) (disk : DiskOf D) (l : LogState D) (place : Place) (key : Key)
    (result : Result (List ℕ) ReadBad) → IsNowhere l.queue.places place
    → length l.layout ≤ place.arena
    → result ≡ Err (Damaged (Number (length l.layout - 1)) (Number place.arena))
    → AnswersRead score_of disk l place key result
answers_nowhere score_of disk l place key result none past is = record {
  queued = λ i here. absurd (none i here.at);
  nowhere = λ _ _. is;
  outside = λ r _ at. absurd (omega (arith, past, slice_get_within l.layout place.arena r at));
  stored = λ r device _ at.
      absurd (omega (arith, past, slice_get_within l.layout place.arena r at.arena));
}

pub answers_there : {D : Type 0} (score_of : List ℕ → List ℕ) (disk : DiskOf D)
    (l : LogState D) (place : Place) (key : Key) (result : Result (List ℕ) ReadBad)
    → IsNowhere l.queue.places place → place.arena < length l.layout
    → ((r : ArenaRegion) → slice_get l.layout place.arena ≡ Some r
    → ¬ HasHeader r.region.len place.offset
    → result ≡ Err (Damaged (Number ARENA_HEAD_LEN) (Number place.offset)))
    → ((r : ArenaRegion) (device : D) → IsArenaAt l place.arena r device
    → HasHeader r.region.len place.offset → (clump : List ℕ)
    × (IsTrue disk.tells → clump ≡ clump_at r.region place.offset (disk.bytes device))
    × ReadsBlockAs score_of key clump result)
    → AnswersRead score_of disk l place key result
answers_there score_of disk l place key result none within outside stored = record {
  queued = λ i here. absurd (none i here.at);
  nowhere = λ _ past. absurd (omega (arith, within, past));
  outside = λ r _. outside r;
  stored = λ r device _. stored r device;
}
