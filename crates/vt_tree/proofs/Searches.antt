-- What a list of blocks holds, by a search from the front.
use Rattle.std.proofs.Common.{◌≡◌, ℕ, inl, inr, Bool, true, false, cond, Option, Some, None, List, [], ◌∷◌, map, refl, sym, ◌∙◌, ap, subst}
use Rattle.std.proofs.lemmas.Bool.{cases_Bool}
use Rattle.std.specs.Prelude.{find, ◌==◌, ◌&&◌}
use Rattle.std.specs.List.{All}
use Rattle.std.specs.Option.{option_map, option_or}
use Rattle.std.specs.Str.{bytes_eq}
use Rattle.std.proofs.lemmas.List.Elements.{All-head, All-tail}
use Rattle.vt_model.specs.History.{Block}
use Rattle.vt_tree.specs.declared.mem_blocks.Stored.{Stored}
use Rattle.vt_tree.specs.MapLaws.{is_key}
use Rattle.vt_tree.specs.Maps.{BlockMap, no_blocks, with_block, with_blocks}
use Rattle.vt_tree.specs.Memory.{BlocksMemory, block_of, map_of, held_in, IsKeptBlock}

pub searched : (score_of : List ℕ → List ℕ) (blocks : List Block) (m : BlockMap) (s : List ℕ)
    (kind : ℕ) → with_blocks score_of blocks m s kind
    ≡ option_or (m s kind)
    (option_map (λ (b : Block). b.bytes) (find (λ (b : Block). is_key score_of b s kind) blocks))
searched score_of [] m s kind = or_none (m s kind)
  where
    or_none : (o : Option (List ℕ)) → o ≡ option_or o None
    or_none None = refl
    or_none (Some x) = refl
searched score_of (b ∷ blocks) m s kind =
    searched score_of blocks (with_block score_of b m) s kind
    ∙ first (m s kind) (is_key score_of b s kind)
    (find (λ (x : Block). is_key score_of x s kind) blocks)
  where
    first : (o : Option (List ℕ)) (t : Bool) (rest : Option Block)
        → option_or (option_or o (cond t (Some b.bytes) None))
        (option_map (λ (x : Block). x.bytes) rest)
        ≡ option_or o (option_map (λ (x : Block). x.bytes) (cond t (Some b) rest))
    first None true rest = refl
    first None false rest = refl
    first (Some x) t rest = refl

-- whether a block as it is kept has this key
abbrev pub has_key : (s : List ℕ) → (kind : ℕ) → Stored → Bool
has_key s kind b = bytes_eq b.key.score.0 s && b.key.kind == kind

-- the search among the blocks as they are kept
pub kept_search : (score_of : List ℕ → List ℕ) (s : List ℕ) (kind : ℕ) (kept : List Stored)
    → All (IsKeptBlock score_of) kept
    → option_map (λ (b : Stored). b.bytes) (find (has_key s kind) kept)
    ≡ option_map (λ (b : Block). b.bytes)
    (find (λ (b : Block). is_key score_of b s kind) (map block_of kept))
kept_search score_of s kind [] scored = refl
kept_search score_of s kind (b ∷ kept) scored =
    let own = (All-head (IsKeptBlock score_of) b kept scored).own in
    let rest = kept_search score_of s kind kept (All-tail (IsKeptBlock score_of) b kept scored) in
    ap (λ (t : List ℕ). option_map (λ (x : Stored). x.bytes)
    (cond (bytes_eq t s && b.key.kind == kind) (Some b) (find (has_key s kind) kept))) own
    ∙ either (is_key score_of (block_of b) s kind) (find (has_key s kind) kept)
    (find (λ (x : Block). is_key score_of x s kind) (map block_of kept)) rest
  where
    either : (t : Bool) (x : Option Stored) (y : Option Block)
        → option_map (λ (z : Stored). z.bytes) x ≡ option_map (λ (z : Block). z.bytes) y
        → option_map (λ (z : Stored). z.bytes) (cond t (Some b) x)
        ≡ option_map (λ (z : Block). z.bytes) (cond t (Some (block_of b)) y)
    either true x y same = refl
    either false x y same = same

-- what is held under a score that isn't that of no bytes is found by a search
pub search_finds : (score_of : List ℕ → List ℕ) (kept : List Stored) (s : List ℕ) (kind : ℕ)
    → All (IsKeptBlock score_of) kept → bytes_eq s (score_of []) ≡ false
    → option_map (λ (b : Stored). b.bytes) (find (has_key s kind) kept)
    ≡ map_of score_of (map block_of kept) s kind
search_finds score_of kept s kind scored other =
    kept_search score_of s kind kept scored
    ∙ sym (searched score_of (map block_of kept) (no_blocks score_of) s kind
    ∙ ap (λ (t : Bool). option_or (cond t (Some []) None)
    (option_map (λ (b : Block). b.bytes)
    (find (λ (b : Block). is_key score_of b s kind) (map block_of kept)))) other)

-- and no bytes are held under that
pub none_is_held : (score_of : List ℕ → List ℕ) (m : BlocksMemory) (s : List ℕ) (kind : ℕ)
    → bytes_eq s (score_of []) ≡ true → Some [] ≡ held_in score_of m s kind
none_is_held score_of m s kind zero =
    sym (searched score_of m.blocks (no_blocks score_of) s kind
    ∙ ap (λ (t : Bool). option_or (cond t (Some []) None)
    (option_map (λ (b : Block). b.bytes)
    (find (λ (b : Block). is_key score_of b s kind) m.blocks))) zero)

-- what a search finds is in the list
pub found_is : {X : Type 0} (P : X → Type 0) (p : X → Bool) (xs : List X) (x : X) → All P xs
    → find p xs ≡ Some x → P x × (p x ≡ true)
found_is P p [] x all is = cc
found_is P p (y ∷ xs) x all is = elim (cases_Bool (p y)) [
  | inl hit ↦
      let same : y ≡ x =
      let here : cond true (Some y) (find p xs) ≡ Some x =
      ap (λ (t : Bool). cond t (Some y) (find p xs)) (sym hit) ∙ is in cc in
      subst (λ z. P z × (p z ≡ true)) same (All-head P y xs all, hit)
  | inr miss ↦
      let here : find p xs ≡ Some x =
      ap (λ (t : Bool). cond t (Some y) (find p xs)) (sym miss) ∙ is in
      found_is P p xs x (All-tail P y xs all) here
]
