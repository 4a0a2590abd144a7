-- What streams moved.
use Rattle.std.proofs.Common.{◌≡◌, ℕ, ◌<◌, List, [], ◌++◌, length, take, drop, sym, ◌∙◌, ap}
use Rattle.std.proofs.Math.Seq.{take-length}
use Rattle.std.specs.Prelude.{Result, Ok, Err, IfOk, OnOk, OnErr}
use Rattle.vt_out.specs.Streams.{AppendsPrefix}
use Rattle.vt_host.specs.Passing.{PutsBytes, Moves, MovesNone, TakesBytes}

-- all of a piece is some first bytes of it
pub whole_prefix : (old new piece : List ℕ) → new ≡ old ++ piece → AppendsPrefix old new piece
whole_prefix old new piece added =
    (length piece, added ∙ ap (λ (l : List ℕ). old ++ l) (sym (take-length piece)))

-- a piece that was written, and then flushed
pub through : {T E : Type 0} (r : Result T E) (piece old mid new : List ℕ) → mid ≡ old ++ piece
    → new ≡ mid → PutsBytes r piece old new
through (Ok x) piece old mid new added same = same ∙ added
through (Err e) piece old mid new added same = whole_prefix old new piece (same ∙ added)

module _ {T E : Type 0} (told : Type 0) (piece old new : List ℕ) where
  pub appended : (r : Result T E) → (told → PutsBytes r piece old new)
      → OnOk r (told → new ≡ old ++ piece)
  appended (Ok x) puts = puts
  appended (Err e) puts = tt

  pub cut_off : (r : Result T E) → (told → PutsBytes r piece old new)
      → OnErr r (told → AppendsPrefix old new piece)
  cut_off (Ok x) puts = tt
  cut_off (Err e) puts = puts

module _ {E : Type 0} (told : Type 0) (buf filled given given' left left' : List ℕ) where
  pub moved : (r : Result ℕ E) → (told → TakesBytes r buf filled given given' left left')
      → IfOk r (λ n. told → left ≡ take n filled ++ left')
  moved (Ok n) takes = λ t. Moves.moved (takes t)
  moved (Err e) takes = tt

  pub came : (r : Result ℕ E) → (told → TakesBytes r buf filled given given' left left')
      → IfOk r (λ n. told → given' ≡ given ++ take n filled)
  came (Ok n) takes = λ t. Moves.came (takes t)
  came (Err e) takes = tt

  pub ends : (r : Result ℕ E) → (told → TakesBytes r buf filled given given' left left')
      → IfOk r (λ n. told → n ≡ 0 → 0 < length buf → left ≡ [])
  ends (Ok n) takes = λ t. Moves.ends (takes t)
  ends (Err e) takes = tt

  pub rest : (r : Result ℕ E) → (told → TakesBytes r buf filled given given' left left')
      → IfOk r (λ n. told → drop n filled ≡ drop n buf)
  rest (Ok n) takes = λ t. Moves.rest (takes t)
  rest (Err e) takes = tt

  pub kept : (r : Result ℕ E) → (told → TakesBytes r buf filled given given' left left')
      → OnErr r (told → left' ≡ left)
  kept (Ok n) takes = tt
  kept (Err e) takes = λ t. MovesNone.kept (takes t)

  pub none : (r : Result ℕ E) → (told → TakesBytes r buf filled given given' left left')
      → OnErr r (told → given' ≡ given)
  none (Ok n) takes = tt
  none (Err e) takes = λ t. MovesNone.none (takes t)

  pub untouched : (r : Result ℕ E) → (told → TakesBytes r buf filled given given' left left')
      → OnErr r (told → filled ≡ buf)
  untouched (Ok n) takes = tt
  untouched (Err e) takes = λ t. MovesNone.untouched (takes t)
