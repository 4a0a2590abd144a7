-- What the arenas hold, split at the one that is committed in.
use Rattle.std.proofs.Common.{◌≡◌, ℕ, zero, suc, ◌+◌, ◌<◌, ◌≤◌, Bool, true, false, cond, List, [], ◌∷◌, ◌++◌, length, take, drop, map, refl, sym, ◌∙◌, ap, subst, arith, Some, append_assoc, append-nil, take-append-drop, set}
use Rattle.std.specs.Prelude.{All, slice_get, MatchBool}
use Rattle.std.proofs.Math.Seq.{take-append-add}
use Rattle.std.proofs.lemmas.List.{map-append, take_at, length-take-le}
use Rattle.std.proofs.lemmas.List.Elements.{All-head, All-tail, All-nil, All-cons, All-append, All-map, All-weaker}
use Rattle.vt_clump.specs.Spelling.{Stored}
use Rattle.vt_model.specs.History.{Accepted, History}
use Rattle.vt_model.specs.Places.{last_arena}
use Rattle.vt_arena.specs.Layout.{Content}
use Rattle.vt_log.specs.Logs.{accepted_in, blocks_from, first_unsealed, IsSealed, IsUntouched, InOrder}
use Rattle.vt_log.specs.Sound.{IsSplit}

-- untouched arenas have no blocks
pub untouched_blocks : (k : ℕ) (rest : List Content) → All IsUntouched rest → blocks_from k rest ≡ []
untouched_blocks k [] all = refl
untouched_blocks k (a ∷ rest) all =
    let first = All-head IsUntouched a rest all in
    (λ i. map (accepted_in k) (first.1 i) ++ untouched_blocks (k + 1) rest (All-tail IsUntouched a rest all) i)

-- what is behind the first element but one
drop_more : {X : Type 0} (c : ℕ) (x : X) (xs : List X) → drop (suc c + 1) (x ∷ xs) ≡ drop (c + 1) xs
drop_more c x xs = ap (λ (k : ℕ). drop k (x ∷ xs)) (let e : suc c + 1 ≡ suc (c + 1) = omega arith in e)

split_rest : (c : ℕ) (a : Content) (rest : List Content) → IsSplit (suc c) (a ∷ rest) → IsSplit c rest
split_rest c a rest split = record {
  before = All-tail IsSealed a (take c rest) split.before;
  current = λ b at. split.current b at;
  behind = subst (All IsUntouched) (drop_more c a rest) split.behind;
}

-- split at an arena, they are in order, and it is the first that isn't sealed
pub split_order : (c : ℕ) (contents : List Content) → IsSplit c contents → c ≤ length contents → InOrder contents × (first_unsealed contents ≡ c)
split_order zero [] split within = (tt, refl)
split_order (suc c) [] split within = absurd (omega (arith, within))
split_order zero (a ∷ rest) split within =
    let unsealed : a.sealed ≡ false = split.current a refl in (
      subst (λ (b : Bool). MatchBool b (InOrder rest) (All IsUntouched rest)) (sym unsealed) split.behind,
      ap (λ (b : Bool). cond b (first_unsealed rest + 1) 0) unsealed,
    )
split_order (suc c) (a ∷ rest) split within =
    let sealed : a.sealed ≡ true = All-head IsSealed a (take c rest) split.before in
    let tail = split_order c rest (split_rest c a rest split) (omega (arith, within)) in (
      subst (λ (b : Bool). MatchBool b (InOrder rest) (All IsUntouched rest)) (sym sealed) tail.0,
      ap (λ (b : Bool). cond b (first_unsealed rest + 1) 0) sealed ∙ omega (arith, tail.1),
    )

-- the blocks with those that a commit adds
pub blocks_set : (k c : ℕ) (contents : List Content) (a next : Content) (added : List Stored) → slice_get contents c ≡ Some a
    → All IsUntouched (drop (c + 1) contents) → next.stored ≡ a.stored ++ added
    → blocks_from k (set contents c next) ≡ blocks_from k contents ++ map (accepted_in (k + c)) added
blocks_set k c [] a next added at behind adds = absurd (cc)
blocks_set k zero (x ∷ rest) a next added at behind adds =
    let same : x ≡ a = cc in
    let none : blocks_from (k + 1) rest ≡ [] = untouched_blocks (k + 1) rest behind in
    let stored : next.stored ≡ x.stored ++ added = adds ∙ ap (λ (b : Content). b.stored ++ added) (sym same) in
    ap (λ (h : History). map (accepted_in k) next.stored ++ h) none
    ∙ append-nil (map (accepted_in k) next.stored)
    ∙ ap (map (accepted_in k)) stored
    ∙ map-append (accepted_in k) x.stored added
    ∙ ap (λ (h : History). h ++ map (accepted_in k) added) (sym (append-nil (map (accepted_in k) x.stored)) ∙ ap (λ (h : History). map (accepted_in k) x.stored ++ h) (sym none))
    ∙ ap (λ (j : ℕ). (map (accepted_in k) x.stored ++ blocks_from (k + 1) rest) ++ map (accepted_in j) added) (let e : k ≡ k + 0 = omega arith in e)
blocks_set k (suc c) (x ∷ rest) a next added at behind adds =
    ap (λ (h : History). map (accepted_in k) x.stored ++ h)
    (blocks_set (k + 1) c rest a next added at (subst (All IsUntouched) (drop_more c x rest) behind) adds)
    ∙ sym (append_assoc (map (accepted_in k) x.stored) (blocks_from (k + 1) rest) (map (accepted_in (k + 1 + c)) added))
    ∙ ap (λ (j : ℕ). (map (accepted_in k) x.stored ++ blocks_from (k + 1) rest) ++ map (accepted_in j) added) (let e : k + 1 + c ≡ k + suc c = omega arith in e)

here : (k c : ℕ) (stored : List Stored) → All (λ e. e.arena ≤ k + c) (map (accepted_in k) stored)
here k c stored = All-map (λ (e : Accepted). e.arena ≤ k + c) (accepted_in k) stored (λ i s below. omega arith)

-- all blocks are in arenas up to that one
pub blocks_arenas : (k c : ℕ) (contents : List Content) → All IsUntouched (drop (c + 1) contents) → All (λ e. e.arena ≤ k + c) (blocks_from k contents)
blocks_arenas k c [] behind = All-nil (λ (e : Accepted). e.arena ≤ k + c)
blocks_arenas k zero (a ∷ rest) behind =
    All-append (λ (e : Accepted). e.arena ≤ k + 0) (map (accepted_in k) a.stored) (blocks_from (k + 1) rest) (here k 0 a.stored)
    (subst (All (λ (e : Accepted). e.arena ≤ k + 0)) (sym (untouched_blocks (k + 1) rest behind)) (All-nil (λ (e : Accepted). e.arena ≤ k + 0)))
blocks_arenas k (suc c) (a ∷ rest) behind =
    All-append (λ (e : Accepted). e.arena ≤ k + suc c) (map (accepted_in k) a.stored) (blocks_from (k + 1) rest) (here k (suc c) a.stored)
    (All-weaker (λ (e : Accepted). e.arena ≤ k + 1 + c) (λ (e : Accepted). e.arena ≤ k + suc c) (λ e least. omega (arith, least)) (blocks_from (k + 1) rest)
    (blocks_arenas (k + 1) c rest (subst (All IsUntouched) (drop_more c a rest) behind)))

pub last_arena_le : (m a : ℕ) (h : History) → a ≤ m → All (λ e. e.arena ≤ m) h → last_arena a h ≤ m
last_arena_le m a [] least all = least
last_arena_le m a (e ∷ h) least all =
    last_arena_le m e.arena h (All-head (λ (e : Accepted). e.arena ≤ m) e h all) (All-tail (λ (e : Accepted). e.arena ≤ m) e h all)

-- with what a commit leaves in that arena, they are split there still or, where it seals, at the next
pub split_set : (c : ℕ) (contents : List Content) (next : Content) → c < length contents → IsSplit c contents → next.sealed ≡ false → IsSplit c (set contents c next)
split_set c [] next within split unsealed = absurd (omega (arith, within))
split_set zero (a ∷ rest) next within split unsealed = record {
  before = All-nil IsSealed;
  current = λ b at. let same : next ≡ b = cc in sym (ap (λ (x : Content). x.sealed) same) ∙ unsealed;
  behind = split.behind;
}
split_set (suc c) (a ∷ rest) next within split unsealed =
    let tail = split_set c rest next (omega (arith, within)) (split_rest c a rest split) unsealed in record {
      before = All-cons IsSealed a (take c (set rest c next)) (All-head IsSealed a (take c rest) split.before) tail.before;
      current = λ b at. tail.current b at;
      behind = subst (All IsUntouched) (sym (drop_more c a (set rest c next))) tail.behind;
    }

pub split_sealed : (c : ℕ) (contents : List Content) (next : Content) → c < length contents → IsSplit c contents → next.sealed ≡ true → IsSplit (c + 1) (set contents c next)
split_sealed c [] next within split sealed = absurd (omega (arith, within))
split_sealed zero (a ∷ []) next within split sealed = record {
  before = All-cons IsSealed next [] sealed (All-nil IsSealed);
  current = λ b at. absurd (cc);
  behind = All-nil IsUntouched;
}
split_sealed zero (a ∷ b ∷ rest) next within split sealed = record {
  before = All-cons IsSealed next [] sealed (All-nil IsSealed);
  current = λ d at. let same : b ≡ d = cc in sym (ap (λ (x : Content). x.sealed) same) ∙ (All-head IsUntouched b rest split.behind).0;
  behind = All-tail IsUntouched b rest split.behind;
}
split_sealed (suc c) (a ∷ rest) next within split sealed =
    let tail = split_sealed c rest next (omega (arith, within)) (split_rest c a rest split) sealed in
    subst (λ (k : ℕ). IsSplit k (a ∷ set rest c next)) (let e : suc (c + 1) ≡ suc c + 1 = omega arith in e) (record {
      before = All-cons IsSealed a (take (c + 1) (set rest c next)) (All-head IsSealed a (take c rest) split.before) tail.before;
      current = λ b at. tail.current b at;
      behind = subst (All IsUntouched) (sym (drop_more (c + 1) a (set rest c next))) tail.behind;
    })

-- one more commit's blocks
pub longer_prefix : (h : History) (d : ℕ) (added waiting : History) → d ≤ length h → drop d h ≡ added ++ waiting → take (d + length added) h ≡ take d h ++ added
longer_prefix h d added waiting inside rest =
    let front : length (take d h) ≡ d = length-take-le d h inside in
    ap (take (d + length added)) (sym (take-append-drop d h))
    ∙ ap (λ (k : ℕ). take (k + length added) (take d h ++ drop d h)) (sym front)
    ∙ take-append-add (take d h) (drop d h) (length added)
    ∙ ap (λ (l : History). take d h ++ take (length added) l) rest
    ∙ ap (λ (l : History). take d h ++ l) (take_at added waiting (length added) refl)
