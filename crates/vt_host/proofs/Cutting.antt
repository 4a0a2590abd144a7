-- Bytes that are cut into pieces.
use Rattle.std.proofs.Common.{◌≡◌, ℕ, suc, ◌+◌, Bool, true, false, List, [], ◌∷◌, take, drop, refl, sym, ◌∙◌, ap, arith}
use Rattle.std.specs.List.{after_first, before_first, onto_first, position_or_len}
use Rattle.vt_host.specs.Cutting.{pieces}

take_on : (n b : ℕ) (bytes : List ℕ) → take (1 + n) (b ∷ bytes) ≡ b ∷ take n bytes
take_on n b bytes = let next : 1 + n ≡ suc n = omega arith in
    ap (λ (k : ℕ). take k (b ∷ bytes)) next

drop_on : (n b : ℕ) (bytes : List ℕ) → drop (1 + n + 1) (b ∷ bytes) ≡ drop (n + 1) bytes
drop_on n b bytes = let next : 1 + n + 1 ≡ suc (n + 1) = omega arith in
    ap (λ (k : ℕ). drop k (b ∷ bytes)) next

module _ (cuts : ℕ → Bool) where
  cut_here : (b : ℕ) (bytes : List ℕ) → cuts b ≡ true → pieces cuts (b ∷ bytes)
      ≡ before_first cuts (b ∷ bytes) ∷ pieces cuts (after_first cuts (b ∷ bytes))
  cut_here b bytes here = rw here refl

  not_here : (b : ℕ) (bytes : List ℕ) → cuts b ≡ false → pieces cuts (b ∷ bytes)
      ≡ onto_first b (pieces cuts bytes)
  not_here b bytes misses = rw misses refl

  front_on : (b : ℕ) (bytes : List ℕ) → cuts b ≡ false → before_first cuts (b ∷ bytes)
      ≡ b ∷ before_first cuts bytes
  front_on b bytes misses = rw misses (take_on (position_or_len cuts bytes) b bytes)

  rest_on : (b : ℕ) (bytes : List ℕ) → cuts b ≡ false → after_first cuts (b ∷ bytes)
      ≡ after_first cuts bytes
  rest_on b bytes misses = rw misses (drop_on (position_or_len cuts bytes) b bytes)

  by_case : (t : Bool) (b : ℕ) (bytes : List ℕ) → cuts b ≡ t
      → (onto_first b (pieces cuts bytes)
      ≡ (b ∷ before_first cuts bytes) ∷ pieces cuts (after_first cuts bytes))
      → pieces cuts (b ∷ bytes)
      ≡ before_first cuts (b ∷ bytes) ∷ pieces cuts (after_first cuts (b ∷ bytes))
  by_case true b bytes is others = cut_here b bytes is
  by_case false b bytes is others = not_here b bytes is ∙ others
      ∙ ap (λ (l : List ℕ). l ∷ pieces cuts (after_first cuts bytes)) (sym (front_on b bytes is))
      ∙ ap (λ (l : List ℕ). before_first cuts (b ∷ bytes) ∷ pieces cuts l) (sym (rest_on b bytes is))

  -- of bytes that are some, the first piece stands before the first cut, and the others behind it
  pub pieces_first : (b : ℕ) (bytes : List ℕ) → pieces cuts (b ∷ bytes)
      ≡ before_first cuts (b ∷ bytes) ∷ pieces cuts (after_first cuts (b ∷ bytes))
  pieces_first b [] = by_case (cuts b) b [] refl refl
  pieces_first b (c ∷ bytes) = by_case (cuts b) b (c ∷ bytes) refl
      (ap (λ (l : List (List ℕ)). onto_first b l) (pieces_first c bytes))
