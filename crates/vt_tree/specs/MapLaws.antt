-- Laws of maps of blocks: what a block that is taken in leaves.
use Rattle.std.proofs.Common.{◌≡◌, ◌⊎◌, ℕ, inl, inr, Bool, cond, Option, Some, None, List, [], ◌∷◌, ◌++◌, refl, sym, ◌∙◌, ap}
use Rattle.std.specs.Prelude.{◌==◌, ◌&&◌}
use Rattle.std.specs.Option.{option_or}
use Rattle.std.specs.Str.{bytes_eq}
use Rattle.std.proofs.lemmas.Bool.{cases_Bool, and_parts, and_from, eqb-true, eq-eqb}
use Rattle.std.proofs.lemmas.Slice.Eq.{bytes_eq-Decides}
use Rattle.vt_model.specs.History.{Block}
use Rattle.vt_tree.specs.Maps.{BlockMap, no_blocks, with_block, with_blocks, Has, HasNoOther, IsWithin, IsWriteOnce}

-- whether a score and a type are those of a block
abbrev pub is_key : (score_of : List ℕ → List ℕ) → Block → (s : List ℕ) → (kind : ℕ) → Bool
is_key score_of b s kind = bytes_eq (score_of b.bytes) s && b.kind == kind

-- ---- what stays

-- what a map has, it has with a block more
pub block_keeps : (score_of : List ℕ → List ℕ) (b : Block) (map : BlockMap)
    → IsWithin map (with_block score_of b map)
block_keeps score_of b map s kind bytes has = rw has refl

-- what is held is held behind more blocks too
pub blocks_keep : (score_of : List ℕ → List ℕ) (blocks : List Block) (map : BlockMap)
    → IsWithin map (with_blocks score_of blocks map)
blocks_keep score_of [] map s kind bytes has = has
blocks_keep score_of (b ∷ blocks) map s kind bytes has =
    blocks_keep score_of blocks (with_block score_of b map) s kind bytes
    (block_keeps score_of b map s kind bytes has)

-- where a map has nothing, it has the block alone
block_there : (score_of : List ℕ → List ℕ) (b : Block) (map : BlockMap) (s : List ℕ) (kind : ℕ)
    → map s kind ≡ None
    → with_block score_of b map s kind ≡ cond (is_key score_of b s kind) (Some b.bytes) None
block_there score_of b map s kind none = rw none refl

-- a block whose score has no other bytes is there afterwards
pub block_is_there : (score_of : List ℕ → List ℕ) (b : Block) (map : BlockMap)
    → HasNoOther score_of map b → Has score_of (with_block score_of b map) b
block_is_there score_of b map alone = of (map (score_of b.bytes) b.kind) refl
  where
    of : (found : Option (List ℕ)) → map (score_of b.bytes) b.kind ≡ found
        → with_block score_of b map (score_of b.bytes) b.kind ≡ Some b.bytes
    of (Some bytes) is =
        block_keeps score_of b map (score_of b.bytes) b.kind bytes is
        ∙ ap (λ (x : List ℕ). Some x) (alone b.kind bytes is)
    of None is =
        block_there score_of b map (score_of b.bytes) b.kind is
        ∙ ap (λ (t : Bool). cond t (Some b.bytes) None)
        (and_from _ _ ((bytes_eq-Decides (score_of b.bytes) (score_of b.bytes)).1 refl)
        (eq-eqb b.kind b.kind refl))

-- ---- equal maps

-- two maps hold the same
abbrev pub Same : (a b : BlockMap) → Type 0
Same a b = (s : List ℕ) (kind : ℕ) → a s kind ≡ b s kind

-- one block more leaves same maps the same
pub block_same : (score_of : List ℕ → List ℕ) (b : Block) (m n : BlockMap) → Same m n
    → Same (with_block score_of b m) (with_block score_of b n)
block_same score_of b m n same s kind =
    ap (λ (o : Option (List ℕ)). option_or o (cond (is_key score_of b s kind) (Some b.bytes) None))
    (same s kind)

-- blocks in two lists are added as in one
pub blocks_join : (score_of : List ℕ → List ℕ) (xs ys : List Block) (map : BlockMap)
    → with_blocks score_of (xs ++ ys) map
    ≡ with_blocks score_of ys (with_blocks score_of xs map)
blocks_join score_of [] ys map = refl
blocks_join score_of (x ∷ xs) ys map = blocks_join score_of xs ys (with_block score_of x map)

-- a block that is there already changes nothing
pub block_again : (score_of : List ℕ → List ℕ) (b : Block) (map : BlockMap) (bytes : List ℕ)
    → map (score_of b.bytes) b.kind ≡ Some bytes → Same (with_block score_of b map) map
block_again score_of b map bytes has s kind = of (map s kind) refl
  where
    of : (found : Option (List ℕ)) → map s kind ≡ found
        → with_block score_of b map s kind ≡ map s kind
    of (Some x) is = block_keeps score_of b map s kind x is ∙ sym is
    of None is = elim (cases_Bool (is_key score_of b s kind)) [
      | inl hit ↦
          let parts = and_parts (bytes_eq (score_of b.bytes) s) (b.kind == kind) hit in
          let score : score_of b.bytes ≡ s = (bytes_eq-Decides (score_of b.bytes) s).0 parts.0 in
          let type : b.kind ≡ kind = eqb-true b.kind kind parts.1 in
          let both : map s kind ≡ Some bytes =
          (λ i. map (sym score i) (sym type i)) ∙ has in
          let never : None ≡ Some bytes = sym is ∙ both in cc
      | inr miss ↦
          block_there score_of b map s kind is
          ∙ ap (λ (t : Bool). cond t (Some b.bytes) None) miss ∙ sym is
    ]

-- ---- write-once maps

-- the empty map is write-once: it has the block of no bytes alone
pub no_blocks_once : (score_of : List ℕ → List ℕ) → IsWriteOnce score_of (no_blocks score_of)
no_blocks_once score_of = record {
  scores = λ s kind bytes has. (of s bytes has).1 ∙ sym (of s bytes has).0;
  contents = λ s kind other a b x y. sym (none s a x) ∙ none s b y;
  zero_score = λ kind.
      ap (λ (t : Bool). cond t (Some []) None)
      ((bytes_eq-Decides (score_of []) (score_of [])).1 refl);
}
  where
    none : (s bytes : List ℕ) → cond (bytes_eq s (score_of [])) (Some []) None ≡ Some bytes
        → [] ≡ bytes
    none s bytes has = elim (cases_Bool (bytes_eq s (score_of []))) [
      | inl hit ↦ let here = rw hit at has in cc
      | inr miss ↦ let here = rw miss at has in cc
    ]

    of : (s bytes : List ℕ) → cond (bytes_eq s (score_of [])) (Some []) None ≡ Some bytes
        → (s ≡ score_of []) × (score_of bytes ≡ score_of [])
    of s bytes has = elim (cases_Bool (bytes_eq s (score_of []))) [
      | inl hit ↦
          ((bytes_eq-Decides s (score_of [])).0 hit, ap score_of (sym (none s bytes has)))
      | inr miss ↦ let here = rw miss at has in cc
    ]

-- what a map has with a block more, it had, or it is the block's
from_either : (score_of : List ℕ → List ℕ) (b : Block) (map : BlockMap) (s : List ℕ) (kind : ℕ)
    (bytes : List ℕ) → with_block score_of b map s kind ≡ Some bytes
    → (map s kind ≡ Some bytes) ⊎ ((s ≡ score_of b.bytes) × (bytes ≡ b.bytes))
from_either score_of b map s kind bytes has = of (map s kind) refl
  where
    of : (found : Option (List ℕ)) → map s kind ≡ found
        → (map s kind ≡ Some bytes) ⊎ ((s ≡ score_of b.bytes) × (bytes ≡ b.bytes))
    of (Some x) is = inl (is ∙ sym (block_keeps score_of b map s kind x is) ∙ has)
    of None is =
        let here = sym (block_there score_of b map s kind is) ∙ has in
        elim (cases_Bool (is_key score_of b s kind)) [
          | inl hit ↦
              let parts = and_parts (bytes_eq (score_of b.bytes) s) (b.kind == kind) hit in
              let some : Some b.bytes ≡ Some bytes =
              sym (ap (λ (t : Bool). cond t (Some b.bytes) None) hit) ∙ here in
              let bytes_are : bytes ≡ b.bytes = cc in
              inr (sym ((bytes_eq-Decides (score_of b.bytes) s).0 parts.0), bytes_are)
          | inr miss ↦
              let none : None ≡ Some bytes =
              sym (ap (λ (t : Bool). cond t (Some b.bytes) None) miss) ∙ here in cc
        ]

-- a write-once map is so with one block more, if none collides with that
pub once_with : (score_of : List ℕ → List ℕ) (b : Block) (map : BlockMap)
    → IsWriteOnce score_of map → HasNoOther score_of map b
    → IsWriteOnce score_of (with_block score_of b map)
once_with score_of b map once alone = record {
  scores = λ s kind bytes has. elim (from_either score_of b map s kind bytes has) [
    | inl old ↦ once.scores s kind bytes old
    | inr new ↦ ap score_of new.1 ∙ sym new.0
  ];
  contents = λ s kind other x y has_x has_y.
      elim (from_either score_of b map s kind x has_x) [
        | inl old_x ↦ elim (from_either score_of b map s other y has_y) [
          | inl old_y ↦ once.contents s kind other x y old_x old_y
          | inr new_y ↦
              alone kind x (ap (λ (t : List ℕ). map t kind) (sym new_y.0) ∙ old_x) ∙ sym new_y.1
        ]
        | inr new_x ↦ elim (from_either score_of b map s other y has_y) [
          | inl old_y ↦
              new_x.1
              ∙ sym (alone other y (ap (λ (t : List ℕ). map t other) (sym new_x.0) ∙ old_y))
          | inr new_y ↦ new_x.1 ∙ sym new_y.1
        ]
      ];
  zero_score = λ kind. block_keeps score_of b map (score_of []) kind [] (once.zero_score kind);
}
