-- The scores of a log's blocks are bytes, so that each block has a bucket.
use Rattle.std.proofs.Common.{◌≡◌, ◌≢◌, ⊎_elim, ℕ, suc, ◌+◌, ◌<◌, ◌≤◌, List, [], ◌∷◌, ◌++◌, length, map, drop, Some, false, refl, sym, ◌∙◌, ap, subst, arith, cond, eqb}
use Rattle.std.specs.Prelude.{Bool, codes, slice_get}
use Rattle.std.specs.Int.{bytes_high_first}
use Rattle.std.specs.List.{AllByRecursion}
use Rattle.std.proofs.lemmas.Bool.{cases_lt}
use Rattle.std.proofs.lemmas.Bool.Decides.{eqb_tells}
use Rattle.std.proofs.lemmas.List.{get_or-append-add, get_or-drop, get_or_append_left, get_or_past}
use Rattle.std.proofs.lemmas.List.Elements.{recursion_from_All}
use Rattle.std.proofs.lemmas.List.Sums.{sum_by-cons}
use Rattle.vt_arena.specs.Layout.{ClumpsStandAt, Content}
use Rattle.vt_arena.specs.Places.{block_room}
use Rattle.vt_arena.proofs.Clumps.{taken_bytes}
use Rattle.vt_base.specs.Bytes.{AreBytes}
use Rattle.vt_clump.specs.Spelling.{IsStoredBlock, Stored, clump_header, sizes, clump_bytes}
use Rattle.vt_log.specs.Logs.{IsLog, accepted_in, blocks_from}
use Rattle.vt_log.proofs.Lists.{slice_get_other}
use Rattle.vt_model.specs.History.{Accepted, History}
use Rattle.vt_model.specs.declared.TheConstants.{ARENA_HEAD_LEN}
use Rattle.vt_model.specs.Places.{bucket_of, crowd}
use Rattle.vt_model.proofs.Buckets.{bucket_of-lt}
use Rattle.vt_part.specs.declared.layout.ArenaRegion.{ArenaRegion}

-- ---- parts of bytes

left_bytes : (a b : List ℕ) → AreBytes (a ++ b) → AreBytes a
left_bytes a b are i = ⊎_elim
    (λ (below : i < length a). subst (λ (n : ℕ). n < 256) (get_or_append_left a b 0 i below) (are i))
    (λ (past : length a ≤ i). subst (λ (n : ℕ). n < 256) (sym (get_or_past a i 0 past)) (omega arith))
    (cases_lt i (length a))

right_bytes : (a b : List ℕ) → AreBytes (a ++ b) → AreBytes b
right_bytes a b are i =
    subst (λ (n : ℕ). n < 256) (get_or-append-add a b i 0) (are (length a + i))

dropped_bytes : (n : ℕ) (file : List ℕ) → AreBytes file → AreBytes (drop n file)
dropped_bytes n file are i =
    subst (λ (b : ℕ). b < 256) (sym (get_or-drop n file i 0)) (are (n + i))

-- ---- the score that a clump names

score_in : (s : Stored) → AreBytes (clump_bytes s) → AreBytes s.score
unfolding clump_bytes
score_in s are =
    let rest : List ℕ = 1 ∷ (s.creator ++ bytes_high_first 4 s.time) in
    let behind = sizes (length s.block) ++ (s.score ++ rest) in
    let behind_magic : AreBytes (s.kind ∷ behind) =
    right_bytes (codes "VCLP") (s.kind ∷ behind) (left_bytes (clump_header s) s.block are) in
    let behind_kind : AreBytes behind = λ i. behind_magic (suc i) in
    left_bytes s.score rest (right_bytes (sizes (length s.block)) (s.score ++ rest) behind_kind)

abbrev HasScoreBytes : (List ℕ → List ℕ) → Accepted → Type 0
HasScoreBytes score e = AreBytes (score e.block.bytes)

stored_scores : (score : List ℕ → List ℕ) (arena version place : ℕ) (stored : List Stored)
    (file : List ℕ) → AreBytes file → ClumpsStandAt version place stored file
    → AllByRecursion (IsStoredBlock score) stored
    → AllByRecursion (HasScoreBytes score) (map (accepted_in arena) stored)
stored_scores score arena version place [] file are stand each = tt
stored_scores score arena version place (s ∷ stored) file are stand each =
    let clump : AreBytes (clump_bytes s) =
    subst AreBytes stand.0 (taken_bytes (length (clump_bytes s)) (drop place file)
    (dropped_bytes place file are)) in (
      subst AreBytes each.0.scored (score_in s clump),
      stored_scores score arena version (place + block_room version (length s.block)) stored file are
          stand.1 each.1,
    )

append_each : {X : Type 0} (P : X → Type 0) (xs ys : List X) → AllByRecursion P xs
    → AllByRecursion P ys → AllByRecursion P (xs ++ ys)
append_each P [] ys front behind = behind
append_each P (x ∷ xs) ys front behind = (front.0, append_each P xs ys front.1 behind)

-- the scores of an arena's blocks are bytes, whatever its number
abbrev HaveScores : (List ℕ → List ℕ) → Content → Type 0
HaveScores score a =
    (arena : ℕ) → AllByRecursion (HasScoreBytes score) (map (accepted_in arena) a.stored)

blocks_scores : (score : List ℕ → List ℕ) (arena : ℕ) (contents : List Content)
    → ((i : ℕ) (a : Content) → slice_get contents i ≡ Some a → HaveScores score a)
    → AllByRecursion (HasScoreBytes score) (blocks_from arena contents)
blocks_scores score arena [] each = tt
blocks_scores score arena (a ∷ rest) each =
    append_each (HasScoreBytes score) (map (accepted_in arena) a.stored) (blocks_from (arena + 1) rest)
    (each 0 a refl arena)
    (blocks_scores score (arena + 1) rest (λ i. each (suc i)))

pub log_scores : (score : List ℕ → List ℕ) (layout : List ArenaRegion) (files : List (List ℕ))
    (h : History) (base : ℕ) → IsLog score layout files h base
    → ((i : ℕ) (file : List ℕ) → slice_get files i ≡ Some file → AreBytes file)
    → AllByRecursion (λ e. AreBytes (score e.block.bytes)) h
log_scores score layout files h base log bytes =
    let contents = log.contents in
    subst (AllByRecursion (HasScoreBytes score)) (sym log.history)
    (blocks_scores score 0 contents (λ i a at arena.
    let r = slice_get_other layout contents i a log.arenas.many at in
    let it = log.arenas.each i r.0 a r.1 at in
    stored_scores score arena a.version (r.0.region.start + ARENA_HEAD_LEN) a.stored it.0
    (bytes r.0.part it.0 it.1) it.2.blocks.clumps
    (recursion_from_All (IsStoredBlock score) a.stored it.2.content.stored)))

-- ---- buckets

not_counted : (score : List ℕ → List ℕ) (total : ℕ) (e : Accepted) (es : History) (n : ℕ)
    → bucket_of total (score e.block.bytes) ≢ n
    → crowd score total (e ∷ es) n ≡ crowd score total es n
not_counted score total e es n other =
    let own = bucket_of total (score e.block.bytes) in
    let here : eqb own n ≡ false =
    ⊎_elim (λ yes. absurd (other yes.1)) (λ no. no.0) (eqb_tells own n) in
    let one : Accepted → ℕ =
    λ x. cond (eqb (bucket_of total (score x.block.bytes)) n) 1 0 in
    let none : crowd score total (e ∷ es) n ≡ 0 + crowd score total es n =
    sum_by-cons one e es ∙ ap (λ (b : Bool). cond b 1 0 + crowd score total es n) here in
    omega (arith, none)

-- past the last bucket there is no block
pub none_past : (score : List ℕ → List ℕ) (total : ℕ) (h : History) (bucket : ℕ) → 0 < total
    → total ≤ bucket → AllByRecursion (λ e. AreBytes (score e.block.bytes)) h
    → crowd score total h bucket ≡ 0
none_past score total [] bucket some past each = refl
none_past score total (e ∷ es) bucket some past each =
    let s = score e.block.bytes in
    let below = bucket_of-lt total s each.0 some in
    not_counted score total e es bucket (λ is. absurd (omega (arith, is, below, past)))
    ∙ none_past score total es bucket some past each.1
