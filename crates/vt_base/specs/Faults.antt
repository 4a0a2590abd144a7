-- Counts of failed calls.
use Rattle.std.specs.Prelude.{◌≡◌, ℕ, ◌+◌, ◌-◌, ◌^◌, min, Bool, Result, MatchResult, MatchBool}

-- a count of eight bytes, raised by one; it stands still at the end of its type
abbrev pub one_more : ℕ → ℕ
one_more n = min (n + 1) (2 ^ 64 - 1)

-- the count is one more than it was, where that fits 64 bits
abbrev pub IsOneMore : (old new : ℕ) → Type 0
IsOneMore old new = new ≡ one_more old

-- One call failed: the count rose by one, or stands at the end of its type.
abbrev pub HasRisen : (old new : ℕ) → Type 0
HasRisen old new = IsOneMore old new

-- a call fails only where the count of faults rises, and it rises only then
abbrev pub HasCause : {T E : Type 0} → Result T E → (old new : ℕ) → Type 0
HasCause result old new = MatchResult result (λ _. new ≡ old) (λ _. HasRisen old new)

-- Of the errors some are faults. One is told exactly where this rose, and it stayed wherever none
-- is told.
abbrev pub TellsFault : {T E : Type 0} → (is_fault : E → Bool) → Result T E → (rose stayed : Type 0)
    → Type 0
TellsFault is_fault result rose stayed =
    MatchResult result (λ _. stayed) (λ bad. MatchBool (is_fault bad) rose stayed)

-- A fault is told exactly where this count of failed calls rose, and it stayed wherever none is
-- told.
abbrev pub CountsFault : {T E : Type 0} → (is_fault : E → Bool) → Result T E → (old new : ℕ) → Type 0
CountsFault is_fault result old new =
    TellsFault is_fault result (HasRisen old new) (new ≡ old)
