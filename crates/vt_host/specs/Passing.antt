-- What is called of streams: how a piece is written, and how bytes are read.
use Rattle.std.specs.Prelude.{◌≡◌, ◌⊎◌, ℕ, ◌<◌, ◌≤◌, true, false, List, [], ◌∷◌, ◌++◌, length, take, drop, All, Result, Ok, Err, MatchResult}
use Rattle.std.specs.declared.io.Error.{Error}
use Rattle.vt_out.specs.Streams.{AppendsPrefix}
use Rattle.vt_host.specs.Calls.{WriteCall, put, flushed, ReadCall, IsInterrupted}

-- The whole piece is written, and then what is in a buffer. Only the last call may fail.
abbrev pub WritesThrough : {E : Type 0} → (piece : List ℕ) → Result Unit E
    → (old new : List WriteCall) → Type 0
WritesThrough piece result old new = MatchResult result
    (λ _. new ≡ old ++ put piece true ∷ flushed true ∷ [])
    (λ _. (new ≡ old ++ put piece false ∷ []) ⊎ (new ≡ old ++ put piece true ∷ flushed false ∷ []))

-- A read is made again where a signal interrupts it, up to 64 times. The last one is this.
abbrev pub ReadsOnce : (last : ReadCall) (old new : List ReadCall) → Type 0
ReadsOnce last old new = (before : List ReadCall) × All IsInterrupted before
    × (length before ≤ 64) × (IsInterrupted last → length before ≡ 64)
    × (new ≡ old ++ before ++ last ∷ [])

-- the last read gave what came, or failed
abbrev pub TakesOnce : {E : Type 0} → Result ℕ E → (buf : List ℕ) (old new : List ReadCall) → Type 0
TakesOnce result buf old new = MatchResult result
    (λ n. ReadsOnce (record { buf = buf; answer = Ok n }) old new)
    (λ _. (error : Error) × ReadsOnce (record { buf = buf; answer = Err error }) old new)

-- ---- what of it was moved

-- the piece stands behind what was written, or some first bytes of it, where the write failed
abbrev pub PutsBytes : {T E : Type 0} → Result T E → (piece old new : List ℕ) → Type 0
PutsBytes result piece old new =
    MatchResult result (λ _. new ≡ old ++ piece) (λ _. AppendsPrefix old new piece)

-- a read moved n bytes of what was left to the front of a buffer, none only at the end or where the
-- buffer has no room
pub record Moves (n : ℕ) (buf filled given given' left left' : List ℕ) : Type 0 where
  pub moved : left ≡ take n filled ++ left'
  pub came : given' ≡ given ++ take n filled
  pub ends : n ≡ 0 → 0 < length buf → left ≡ []
  pub rest : drop n filled ≡ drop n buf

-- nothing was moved
pub record MovesNone (buf filled given given' left left' : List ℕ) : Type 0 where
  pub kept : left' ≡ left
  pub none : given' ≡ given
  pub untouched : filled ≡ buf

-- a read moved as many bytes as it says, or none, where it failed
abbrev pub TakesBytes : {E : Type 0} → Result ℕ E → (buf filled given given' left left' : List ℕ)
    → Type 0
TakesBytes result buf filled given given' left left' = MatchResult result
    (λ n. Moves n buf filled given given' left left')
    (λ _. MovesNone buf filled given given' left left')
