-- Clumps that stand one behind another.
use Rattle.std.proofs.Common.{◌≡◌, ℕ, ◌+◌, ◌<◌, ◌≤◌, List, [], ◌∷◌, ◌++◌, length, drop, refl, sym, ◌∙◌, ap, subst, arith, take-append-drop}
use Rattle.std.specs.Prelude.{All}
use Rattle.vt_disk.specs.Disk.{SameBut}
use Rattle.vt_clump.specs.Spelling.{Stored, IsStoredBlock, clump_bytes, stored_in}
use Rattle.vt_clump.proofs.ReadBack.{stored_in-spelled}
use Rattle.vt_arena.specs.Layout.{BytesStandAt, ClumpsStandAt, used_of}
use Rattle.vt_arena.specs.Places.{block_room}
use Rattle.vt_arena.proofs.Layouts.{all_head, all_tail, spelled_room, stands_same, used-cons}

-- clumps, and those behind them
pub stand-append : (v place : ℕ) (xs ys : List Stored) (file : List ℕ) → ClumpsStandAt v place xs file
    → ClumpsStandAt v (place + used_of v xs) ys file → ClumpsStandAt v place (xs ++ ys) file
stand-append v place [] ys file front behind = subst (λ (p : ℕ). ClumpsStandAt v p ys file) (omega arith) behind
stand-append v place (x ∷ xs) ys file front behind = (
  front.0,
  stand-append v (place + block_room v (length x.block)) xs ys file front.1
      (subst (λ (p : ℕ). ClumpsStandAt v p ys file) (omega (arith, used-cons v x xs)) behind),
)

pub stand-behind : (v place : ℕ) (xs ys : List Stored) (file : List ℕ) → ClumpsStandAt v place (xs ++ ys) file
    → ClumpsStandAt v (place + used_of v xs) ys file
stand-behind v place [] ys file stand = subst (λ (p : ℕ). ClumpsStandAt v p ys file) (omega arith) stand
stand-behind v place (x ∷ xs) ys file stand =
    subst (λ (p : ℕ). ClumpsStandAt v p ys file) (omega (arith, used-cons v x xs))
    (stand-behind v (place + block_room v (length x.block)) xs ys file stand.1)

-- they stand in another file too that has the same bytes wherever they stand
pub stand_there : (score_of : List ℕ → List ℕ) (v place : ℕ) (xs : List Stored) (old new : List ℕ) → All (IsStoredBlock score_of) xs
    → ((p : ℕ) (bytes : List ℕ) → place ≤ p → p + length bytes ≤ place + used_of v xs → BytesStandAt p bytes old → BytesStandAt p bytes new)
    → ClumpsStandAt v place xs old → ClumpsStandAt v place xs new
stand_there score_of v place [] old new all moves stand = tt
stand_there score_of v place (x ∷ xs) old new all moves stand = (
  moves place (clump_bytes x) (omega arith)
      (omega (arith, used-cons v x xs, spelled_room score_of v x (all_head (IsStoredBlock score_of) x xs all))) stand.0,
  stand_there score_of v (place + block_room v (length x.block)) xs old new (all_tail (IsStoredBlock score_of) x xs all)
      (λ p bytes above below. moves p bytes (omega (arith, above)) (omega (arith, below, used-cons v x xs))) stand.1,
)

-- as they do where nothing touches what they take
pub stand_same : (score_of : List ℕ → List ℕ) (P : ℕ → Type 0) (v place : ℕ) (xs : List Stored) (old new : List ℕ) → All (IsStoredBlock score_of) xs
    → SameBut P old new → ((i : ℕ) → place ≤ i → i < place + used_of v xs → ¬ P i)
    → ClumpsStandAt v place xs old → ClumpsStandAt v place xs new
stand_same score_of P v place xs old new all same free =
    stand_there score_of v place xs old new all
    (λ p bytes above below. stands_same P p bytes old new same
    (λ i over under. free i (omega (arith, above, over)) (omega (arith, below, under))))

-- what stands at a place is one block's clump
pub one_block : (score_of : List ℕ → List ℕ) (place : ℕ) (s : Stored) (file : List ℕ) → IsStoredBlock score_of s
    → BytesStandAt place (clump_bytes s) file → stored_in (drop place file) ≡ s
one_block score_of place s file is stands =
    let rest : List ℕ = drop (length (clump_bytes s)) (drop place file) in
    ap (λ (l : List ℕ). stored_in l) (sym (take-append-drop (length (clump_bytes s)) (drop place file)) ∙ ap (λ (l : List ℕ). l ++ rest) stands)
    ∙ stored_in-spelled score_of s rest is

-- and so as many clumps as stand from a place on are those of one list of blocks
pub one_list : (score_of : List ℕ → List ℕ) (v place : ℕ) (xs ys : List Stored) (file : List ℕ) → All (IsStoredBlock score_of) xs → All (IsStoredBlock score_of) ys
    → length xs ≡ length ys → ClumpsStandAt v place xs file → ClumpsStandAt v place ys file → xs ≡ ys
one_list score_of v place [] [] file all_x all_y many stand_x stand_y = refl
one_list score_of v place [] (y ∷ ys) file all_x all_y many stand_x stand_y = absurd (omega (arith, many))
one_list score_of v place (x ∷ xs) [] file all_x all_y many stand_x stand_y = absurd (omega (arith, many))
one_list score_of v place (x ∷ xs) (y ∷ ys) file all_x all_y many stand_x stand_y =
    let first : x ≡ y =
    sym (one_block score_of place x file (all_head (IsStoredBlock score_of) x xs all_x) stand_x.0)
    ∙ one_block score_of place y file (all_head (IsStoredBlock score_of) y ys all_y) stand_y.0 in
    let rest : ClumpsStandAt v (place + block_room v (length x.block)) ys file =
    subst (λ (s : Stored). ClumpsStandAt v (place + block_room v (length s.block)) ys file) (sym first) stand_y.1 in
    (λ i. first i ∷ one_list score_of v (place + block_room v (length x.block)) xs ys file
    (all_tail (IsStoredBlock score_of) x xs all_x) (all_tail (IsStoredBlock score_of) y ys all_y) (omega (arith, many)) stand_x.1 rest i)
