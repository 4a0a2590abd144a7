-- What blocks of a legal history with equal scores have in common.
use Rattle.std.proofs.Common.{◌≡◌, ℕ, ◌<◌, List, get_or, Some, sym, ◌∙◌, ap, subst, inl, inr}
use Rattle.std.specs.Prelude.{slice_get}
use Rattle.std.specs.List.{AllPairs}
use Rattle.std.proofs.lemmas.Bool.{cases_order}
use Rattle.std.proofs.lemmas.Option.{slice_get_within, get_or_from_slice_get}
use Rattle.vt_model.specs.History.{History, Accepted}
use Rattle.vt_model.specs.Places.{Setup}
use Rattle.vt_model.specs.Legal.{IsLegal, NoCollision, HasOtherKey}

module _ (h : History) (i j : ℕ) (a b : Accepted) (at_i : slice_get h i ≡ Some a)
    (at_j : slice_get h j ≡ Some b) where
  -- what holds of each block and each later one
  pair : (R : Accepted → Accepted → Type 0) → AllPairs R h → i < j → R a b
  pair R all lt =
      subst (λ x. R x b) (get_or_from_slice_get h i a a at_i)
      (subst (R (get_or h i a)) (get_or_from_slice_get h j b a at_j)
      (all i j a lt (slice_get_within h j b at_j)))

pub same_block : (h : History) (i j : ℕ) (a b : Accepted) → i ≡ j → slice_get h i ≡ Some a
    → slice_get h j ≡ Some b → a ≡ b
same_block h i j a b same at_i at_j = let found : Some a ≡ Some b = sym at_i ∙ ap (slice_get h) same
    ∙ at_j in cc

-- a key has one block
pub one_place : (score : List ℕ → List ℕ) (h : History) → AllPairs (HasOtherKey score) h
    → (i j : ℕ) (a b : Accepted) → slice_get h i ≡ Some a → slice_get h j ≡ Some b
    → score a.block.bytes ≡ score b.block.bytes → a.block.kind ≡ b.block.kind → i ≡ j
one_place score h keys i j a b at_i at_j same kind = elim (cases_order i j) [
  | inl e ↦ e
  | inr k ↦ elim k [
    | inl lt ↦ absurd (pair h i j a b at_i at_j (HasOtherKey score) keys lt kind same)
    | inr gt ↦ absurd
        (pair h j i b a at_j at_i (HasOtherKey score) keys gt (sym kind) (sym same))
  ]
]

-- a score has one block's bytes
pub one_bytes : (score : List ℕ → List ℕ) (h : History) → AllPairs (NoCollision score) h
    → (i j : ℕ) (a b : Accepted) → slice_get h i ≡ Some a → slice_get h j ≡ Some b
    → score a.block.bytes ≡ score b.block.bytes → a.block.bytes ≡ b.block.bytes
one_bytes score h scores i j a b at_i at_j same = elim (cases_order i j) [
  | inl e ↦ ap (λ (e : Accepted). e.block.bytes) (same_block h i j a b e at_i at_j)
  | inr k ↦ elim k [
    | inl lt ↦ pair h i j a b at_i at_j (NoCollision score) scores lt same
    | inr gt ↦ sym (pair h j i b a at_j at_i (NoCollision score) scores gt (sym same))
  ]
]

module _ (score : List ℕ → List ℕ) (c : Setup) (h : History) (legal : IsLegal score c h) where
  pub equal_bytes : (i j : ℕ) (a b : Accepted) → slice_get h i ≡ Some a → slice_get h j ≡ Some b
      → score a.block.bytes ≡ score b.block.bytes → a.block.bytes ≡ b.block.bytes
  equal_bytes = one_bytes score h legal.scores

  pub equal_places : (i j : ℕ) (a b : Accepted) → slice_get h i ≡ Some a → slice_get h j ≡ Some b
      → score a.block.bytes ≡ score b.block.bytes → a.block.kind ≡ b.block.kind → i ≡ j
  equal_places = one_place score h legal.keys
