-- Blocks in memory that have one score.
use Rattle.std.proofs.Common.{◌≡◌, ℕ, suc, inl, inr, Bool, true, false, Option, Some, None, List, [], ◌∷◌, length, map, refl, sym, ◌∙◌, ap, subst, arith}
use Rattle.std.specs.Prelude.{find, ◌==◌, ◌&&◌, ◌||◌, ◌≢◌, not, Any, MatchBool}
use Rattle.std.specs.List.{All, list_any}
use Rattle.std.specs.Option.{option_map}
use Rattle.std.specs.Str.{bytes_eq}
use Rattle.std.proofs.lemmas.Bool.{cases_Bool, and_parts, eqb-true, eq-eqb, false≢true}
use Rattle.std.proofs.lemmas.List.{nil_from_length}
use Rattle.std.proofs.lemmas.List.Elements.{All-head, All-tail}
use Rattle.std.proofs.lemmas.Slice.Eq.{bytes_eq-Decides}
use Rattle.vt_model.specs.History.{Block}
use Rattle.vt_model.proofs.Lists.{All-from_list_any}
use Rattle.vt_tree.specs.declared.mem_blocks.Stored.{Stored}
use Rattle.vt_tree.specs.Maps.{HasNoOther}
use Rattle.vt_tree.specs.Memory.{BlocksMemory, Collides, block_of, held_in, map_of, IsKeptBlock}
use Rattle.vt_tree.proofs.Searches.{has_key, search_finds, none_is_held, found_is}

-- a block as it is kept has this score, and other bytes
abbrev pub is_other : (s bytes : List ℕ) → Stored → Bool
is_other s bytes b = bytes_eq b.key.score.0 s && not (bytes_eq b.bytes bytes)

is_not : (b : Bool) → not b ≡ true → b ≡ false
is_not true e = sym e
is_not false e = refl

not_not : (b : Bool) → not b ≡ false → b ≡ true
not_not true e = refl
not_not false e = sym e

more : {X : Type 0} (P : X → Type 0) (y : X) (xs : List X) → Any P xs → Any P (y ∷ xs)
more P y xs a = (suc a.0, a.1, omega (arith, a.2), a.3, a.4)

other_collides : (score_of : List ℕ → List ℕ) (bytes : List ℕ) (kept : List Stored)
    → All (IsKeptBlock score_of) kept → list_any (is_other (score_of bytes) bytes) kept ≡ true
    → Any (λ (x : List ℕ). (score_of x ≡ score_of bytes) × (x ≢ bytes))
    (map (λ b. b.bytes) (map block_of kept))
other_collides score_of bytes [] scored some = absurd (false≢true some)
other_collides score_of bytes (b ∷ kept) scored some =
    elim (cases_Bool (is_other (score_of bytes) bytes b)) [
      | inl hit ↦
          let parts = and_parts (bytes_eq b.key.score.0 (score_of bytes))
          (not (bytes_eq b.bytes bytes)) hit in (
            0,
            b.bytes,
            omega arith,
            refl,
            (
              sym (All-head (IsKeptBlock score_of) b kept scored).own
                  ∙ (bytes_eq-Decides b.key.score.0 (score_of bytes)).0 parts.0,
              λ same. false≢true (sym (is_not (bytes_eq b.bytes bytes) parts.1)
                  ∙ (bytes_eq-Decides b.bytes bytes).1 same),
            ),
          )
      | inr miss ↦
          more _ b.bytes _ (other_collides score_of bytes kept
          (All-tail (IsKeptBlock score_of) b kept scored)
          (ap (λ (t : Bool). t || list_any (is_other (score_of bytes) bytes) kept) (sym miss)
          ∙ some))
    ]

-- a block, or no bytes, has the score and is other
collides : (score_of : List ℕ → List ℕ) (bytes : List ℕ) (kept : List Stored) (m : BlocksMemory)
    → m.blocks ≡ map block_of kept → All (IsKeptBlock score_of) kept
    → list_any (is_other (score_of bytes) bytes) kept ≡ true → Collides score_of m bytes
collides score_of bytes kept m is scored some =
    more _ [] _ (subst (λ (bs : List Block).
    Any (λ (x : List ℕ). (score_of x ≡ score_of bytes) × (x ≢ bytes)) (map (λ b. b.bytes) bs))
    (sym is) (other_collides score_of bytes kept scored some))

zero_collides : (score_of : List ℕ → List ℕ) (bytes : List ℕ) (m : BlocksMemory)
    → score_of bytes ≡ score_of [] → (length bytes ≡ 0 → ⊥) → Collides score_of m bytes
zero_collides score_of bytes m zero some =
    (0, [], omega arith, refl, (sym zero, λ same. some (ap length (sym same))))

-- under the score of no bytes there are none
zero_alone : (score_of : List ℕ → List ℕ) (m : BlocksMemory) (b : Block)
    → bytes_eq (score_of b.bytes) (score_of []) ≡ true → length b.bytes ≡ 0
    → HasNoOther score_of (held_in score_of m) b
zero_alone score_of m b zero none kind bytes has =
    let here = none_is_held score_of m (score_of b.bytes) kind zero ∙ has in
    let same : [] ≡ bytes = cc in
    sym same ∙ sym (nil_from_length b.bytes none)

-- where no block has the score and other bytes, what is held under it is the same
no_other : (score_of : List ℕ → List ℕ) (kept : List Stored) (m : BlocksMemory) (b : Block)
    → m.blocks ≡ map block_of kept → All (IsKeptBlock score_of) kept
    → bytes_eq (score_of b.bytes) (score_of []) ≡ false
    → list_any (is_other (score_of b.bytes) b.bytes) kept ≡ false
    → HasNoOther score_of (held_in score_of m) b
no_other score_of kept m b is scored other none kind bytes has =
    of (find (has_key (score_of b.bytes) kind) kept) refl
  where
    searched : option_map (λ (x : Stored). x.bytes) (find (has_key (score_of b.bytes) kind) kept)
        ≡ Some bytes
    searched =
        search_finds score_of kept (score_of b.bytes) kind scored other
        ∙ ap (λ (bs : List Block). map_of score_of bs (score_of b.bytes) kind) (sym is) ∙ has

    of : (found : Option Stored) → find (has_key (score_of b.bytes) kind) kept ≡ found
        → bytes ≡ b.bytes
    of None found =
        let here = ap (λ (o : Option Stored). option_map (λ (x : Stored). x.bytes) o) (sym found)
        ∙ searched in cc
    of (Some x) found =
        let here = ap (λ (o : Option Stored). option_map (λ (x : Stored). x.bytes) o) (sym found)
        ∙ searched in
        let same : x.bytes ≡ bytes = cc in
        let among = found_is (λ (x : Stored). is_other (score_of b.bytes) b.bytes x ≡ false)
        (has_key (score_of b.bytes) kind) kept x
        (All-from_list_any (is_other (score_of b.bytes) b.bytes) kept none) found in
        let parts = and_parts (bytes_eq x.key.score.0 (score_of b.bytes)) (x.key.kind == kind)
        among.1 in
        sym same ∙ (bytes_eq-Decides x.bytes b.bytes).0
        (not_not (bytes_eq x.bytes b.bytes)
        (sym (ap (λ (t : Bool). t && not (bytes_eq x.bytes b.bytes)) parts.0) ∙ among.0))

-- what a test tells, of bytes that have the score of no bytes, and of others
abbrev pub TellsCollision : (score_of : List ℕ → List ℕ) → BlocksMemory → List ℕ → Bool → Type 0
TellsCollision score_of m bytes test =
    MatchBool test (Collides score_of m bytes)
    ((kind : ℕ) → HasNoOther score_of (held_in score_of m) (record { kind = kind; bytes = bytes }))

pub zero_told : (score_of : List ℕ → List ℕ) (m : BlocksMemory) (bytes : List ℕ)
    → bytes_eq (score_of bytes) (score_of []) ≡ true → (t : Bool) → t ≡ (length bytes == 0)
    → TellsCollision score_of m bytes (not t)
zero_told score_of m bytes zero true is =
    λ kind. zero_alone score_of m (record { kind = kind; bytes = bytes }) zero
    (eqb-true (length bytes) 0 (sym is))
zero_told score_of m bytes zero false is =
    zero_collides score_of bytes m ((bytes_eq-Decides (score_of bytes) (score_of [])).0 zero)
    (λ none. false≢true (is ∙ eq-eqb (length bytes) 0 none))

pub others_told : (score_of : List ℕ → List ℕ) (kept : List Stored) (m : BlocksMemory) (bytes : List ℕ)
    → m.blocks ≡ map block_of kept → All (IsKeptBlock score_of) kept
    → bytes_eq (score_of bytes) (score_of []) ≡ false
    → (t : Bool) → t ≡ list_any (is_other (score_of bytes) bytes) kept
    → TellsCollision score_of m bytes t
others_told score_of kept m bytes blocks scored other true is =
    collides score_of bytes kept m blocks scored (sym is)
others_told score_of kept m bytes blocks scored other false is =
    λ kind. no_other score_of kept m (record { kind = kind; bytes = bytes }) blocks scored other
    (sym is)
