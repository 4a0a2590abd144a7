-- Where the blocks of a log stand: in the arenas, one behind another.
use Rattle.std.proofs.Common.{◌≡◌, ◌≢◌, ⊎_elim, ℕ, zero, suc, ◌+◌, ◌-◌, ◌<◌, ◌≤◌, ◌==◌, Bool, true, false, cond, List, [], ◌∷◌, ◌++◌, length, take, drop, map, refl, sym, ◌∙◌, ap, subst, arith, Some, append_assoc, length-append}
use Rattle.std.specs.Prelude.{All, slice_get, sum_by, filter}
use Rattle.std.specs.Option.{option_map}
use Rattle.std.proofs.Math.Seq.{take-append-add}
use Rattle.std.proofs.lemmas.List.{map-append, length-map, length-take-le, take-append-le, take-map}
use Rattle.std.proofs.lemmas.List.Sums.{sum_by-cons}
use Rattle.std.proofs.lemmas.Option.{slice_get_within, slice_get-map}
use Rattle.std.proofs.lemmas.Bool.{cases_lt}
use Rattle.std.proofs.lemmas.Bool.Decides.{eqb_tells}
use Rattle.std.proofs.lemmas.List.Elements.{filter-append}
use Rattle.vt_clump.specs.Spelling.{Stored}
use Rattle.vt_model.specs.History.{Accepted, History}
use Rattle.vt_model.specs.Places.{lengths_in}
use Rattle.vt_arena.specs.Layout.{Content}
use Rattle.vt_arena.specs.Places.{lengths_of}
use Rattle.vt_log.specs.Logs.{accepted_in, blocks_from}
use Rattle.vt_log.proofs.Appends.{lengths_none}
use Rattle.vt_log.proofs.Lists.{slice_get_left, slice_get_right, slice_get_there}
use Rattle.vt_log.proofs.IsBehind.{blocks_below}

-- how many blocks stand in the arenas before this one
abbrev pub blocks_before : (arena : ℕ) → List Content → ℕ
blocks_before arena contents = sum_by (λ a. length a.stored) (take arena contents)

before_more : (arena : ℕ) (x : Content) (rest : List Content) (j : ℕ) → blocks_before (suc arena) (x ∷ rest) + j ≡ length x.stored + (blocks_before arena rest + j)
before_more arena x rest j = omega (arith, sum_by-cons (λ (a : Content). length a.stored) x (take arena rest))

-- the first blocks are those of the arenas before one, and the first ones of that
pub take_blocks : (k : ℕ) (contents : List Content) (arena : ℕ) (a : Content) (j : ℕ) → slice_get contents arena ≡ Some a → j ≤ length a.stored
    → take (blocks_before arena contents + j) (blocks_from k contents) ≡ blocks_from k (take arena contents) ++ map (accepted_in (k + arena)) (take j a.stored)
take_blocks k [] arena a j at most = absurd (cc)
take_blocks k (x ∷ rest) zero a j at most =
    let same : x ≡ a = cc in
    let front : j ≤ length (map (accepted_in k) x.stored) = omega (arith, most, ap (λ (b : Content). length b.stored) same, length-map x.stored (accepted_in k)) in
    ap (λ (n : ℕ). take n (blocks_from k (x ∷ rest))) (let e : 0 + j ≡ j = omega arith in e)
    ∙ take-append-le j (map (accepted_in k) x.stored) (blocks_from (k + 1) rest) front
    ∙ take-map (accepted_in k) j x.stored
    ∙ ap (λ (b : Content). map (accepted_in k) (take j b.stored)) same
    ∙ ap (λ (n : ℕ). map (accepted_in n) (take j a.stored)) (let e : k ≡ k + 0 = omega arith in e)
take_blocks k (x ∷ rest) (suc arena) a j at most =
    let many : blocks_before (suc arena) (x ∷ rest) + j ≡ length (map (accepted_in k) x.stored) + (blocks_before arena rest + j) =
    omega (arith, before_more arena x rest j, length-map x.stored (accepted_in k)) in
    ap (λ (n : ℕ). take n (blocks_from k (x ∷ rest))) many
    ∙ take-append-add (map (accepted_in k) x.stored) (blocks_from (k + 1) rest) (blocks_before arena rest + j)
    ∙ ap (λ (h : History). map (accepted_in k) x.stored ++ h) (take_blocks (k + 1) rest arena a j at most)
    ∙ sym (append_assoc (map (accepted_in k) x.stored) (blocks_from (k + 1) (take arena rest)) (map (accepted_in (k + 1 + arena)) (take j a.stored)))
    ∙ ap (λ (n : ℕ). (map (accepted_in k) x.stored ++ blocks_from (k + 1) (take arena rest)) ++ map (accepted_in n) (take j a.stored)) (let e : k + 1 + arena ≡ k + suc arena = omega arith in e)

-- and the next one is the next of that
pub block_at : (k : ℕ) (contents : List Content) (arena : ℕ) (a : Content) (j : ℕ) (s : Stored) → slice_get contents arena ≡ Some a → slice_get a.stored j ≡ Some s
    → slice_get (blocks_from k contents) (blocks_before arena contents + j) ≡ Some (accepted_in (k + arena) s)
block_at k [] arena a j s at has = absurd (cc)
block_at k (x ∷ rest) zero a j s at has =
    let same : x ≡ a = cc in
    let below : j < length (map (accepted_in k) x.stored) = omega (arith, slice_get_within a.stored j s has, ap (λ (b : Content). length b.stored) same, length-map x.stored (accepted_in k)) in
    ap (slice_get (blocks_from k (x ∷ rest))) (let e : 0 + j ≡ j = omega arith in e)
    ∙ slice_get_left (map (accepted_in k) x.stored) (blocks_from (k + 1) rest) j below
    ∙ slice_get-map (accepted_in k) x.stored j
    ∙ ap (λ (b : Content). option_map (accepted_in k) (slice_get b.stored j)) same
    ∙ ap (option_map (accepted_in k)) has
    ∙ ap (λ (n : ℕ). Some (accepted_in n s)) (let e : k ≡ k + 0 = omega arith in e)
block_at k (x ∷ rest) (suc arena) a j s at has =
    let many : blocks_before (suc arena) (x ∷ rest) + j ≡ length (map (accepted_in k) x.stored) + (blocks_before arena rest + j) =
    omega (arith, before_more arena x rest j, length-map x.stored (accepted_in k)) in
    ap (slice_get (blocks_from k (x ∷ rest))) many
    ∙ slice_get_right (map (accepted_in k) x.stored) (blocks_from (k + 1) rest) (blocks_before arena rest + j)
    ∙ block_at (k + 1) rest arena a j s at has
    ∙ ap (λ (n : ℕ). Some (accepted_in n s)) (let e : k + 1 + arena ≡ k + suc arena = omega arith in e)

-- block i is one of an arena's
pub record IsBlockOf (contents : List Content) (i : ℕ) : Type 0 where
  pub arena : ℕ
  pub content : Content
  pub index : ℕ
  pub stored : Stored
  pub at : slice_get contents arena ≡ Some content
  pub has : slice_get content.stored index ≡ Some stored
  pub is : i ≡ blocks_before arena contents + index

pub block_of : (k : ℕ) (contents : List Content) (i : ℕ) → i < length (blocks_from k contents) → IsBlockOf contents i
block_of k [] i below = absurd (omega (arith, below))
block_of k (x ∷ rest) i below = ⊎_elim
    (λ (here : i < length x.stored).
    let s = slice_get_there x.stored i here in
    record { arena = 0; content = x; index = i; stored = s.0; at = refl; has = s.1; is = omega arith })
    (λ (there : length x.stored ≤ i).
    let it = block_of (k + 1) rest (i - length x.stored) (omega (arith, below, there, length-append (map (accepted_in k) x.stored) (blocks_from (k + 1) rest), length-map x.stored (accepted_in k))) in
    record {
      arena = suc it.arena;
      content = it.content;
      index = it.index;
      stored = it.stored;
      at = it.at;
      has = it.has;
      is = omega (arith, there, it.is, before_more it.arena x rest it.index);
    })
    (cases_lt i (length x.stored))

-- the lengths of one arena's blocks
pub lengths_append : (a : ℕ) (g h : History) → lengths_in a (g ++ h) ≡ lengths_in a g ++ lengths_in a h
lengths_append a g h =
    ap (map (λ (e : Accepted). length e.block.bytes)) (filter-append (λ (e : Accepted). e.arena == a) g h)
    ∙ map-append (λ (e : Accepted). length e.block.bytes) (filter (λ (e : Accepted). e.arena == a) g) (filter (λ (e : Accepted). e.arena == a) h)

lengths_own : (a : ℕ) (stored : List Stored) → lengths_in a (map (accepted_in a) stored) ≡ lengths_of stored
lengths_own a [] = refl
lengths_own a (s ∷ stored) =
    let own : (a == a) ≡ true = ⊎_elim (λ (t : ((a == a) ≡ true) × (a ≡ a)). t.0) (λ (t : ((a == a) ≡ false) × (a ≢ a)). absurd (t.1 refl)) (eqb_tells a a) in
    let rest : History = filter (λ (e : Accepted). e.arena == a) (map (accepted_in a) stored) in
    ap (λ (b : Bool). map (λ (e : Accepted). length e.block.bytes) (cond b (accepted_in a s ∷ rest) rest)) own
    ∙ ap (λ (ls : List ℕ). length s.block ∷ ls) (lengths_own a stored)

-- of the first blocks an arena has its first ones
pub lengths_take : (contents : List Content) (arena : ℕ) (a : Content) (j : ℕ) → slice_get contents arena ≡ Some a → j ≤ length a.stored
    → lengths_in arena (take (blocks_before arena contents + j) (blocks_from 0 contents)) ≡ lengths_of (take j a.stored)
lengths_take contents arena a j at most =
    let front = slice_get_within contents arena a at in
    let below : All (λ (e : Accepted). e.arena < 0 + length (take arena contents)) (blocks_from 0 (take arena contents)) = blocks_below 0 (take arena contents) in
    let none : lengths_in arena (blocks_from 0 (take arena contents)) ≡ [] = lengths_none arena (blocks_from 0 (take arena contents))
    (subst (λ (n : ℕ). All (λ (e : Accepted). e.arena < n) (blocks_from 0 (take arena contents))) (omega (arith, length-take-le arena contents (omega (arith, front)))) below) in
    ap (lengths_in arena) (take_blocks 0 contents arena a j at most)
    ∙ lengths_append arena (blocks_from 0 (take arena contents)) (map (accepted_in (0 + arena)) (take j a.stored))
    ∙ ap (λ (ls : List ℕ). ls ++ lengths_in arena (map (accepted_in (0 + arena)) (take j a.stored))) none
    ∙ ap (λ (n : ℕ). lengths_in arena (map (accepted_in n) (take j a.stored))) (let e : 0 + arena ≡ arena = omega arith in e)
    ∙ lengths_own arena (take j a.stored)

-- a list, split at one of its elements
pub split_at : {X : Type 0} (xs : List X) (i : ℕ) (x : X) → slice_get xs i ≡ Some x → xs ≡ take i xs ++ x ∷ drop (i + 1) xs
split_at [] i x at = absurd (cc)
split_at (y ∷ xs) zero x at =
    let same : y ≡ x = cc in
    ap (λ (z : _). z ∷ xs) same
split_at (y ∷ xs) (suc i) x at =
    ap (λ (zs : List _). y ∷ zs) (split_at xs i x at) ∙ ap (λ (n : ℕ). y ∷ (take i xs ++ x ∷ drop n (y ∷ xs))) (let e : suc (i + 1) ≡ suc i + 1 = omega arith in e)
