-- The calls that the adapters make of the system, each with what it answered.
use Rattle.std.specs.Prelude.{◌≡◌, ℕ, Bool, List, Option, Result, IsErrAnd}
use Rattle.std.specs.declared.io.Error.{Error}
use Rattle.std.specs.declared.fs.OpenOptions.{OpenOptions}
use Rattle.std.specs.IoError.{error_kind}
use Rattle.std.specs.declared.io.ErrorKind.TheVariants.{Interrupted}

-- a file of this name was to be opened, in this way
pub record Opening : Type 0 where
  pub how : OpenOptions
  pub name : List ℕ
  pub ok : Bool

-- a connection was to be made to this host and port
pub record Connecting : Type 0 where
  pub host : List ℕ
  pub port : ℕ
  pub ok : Bool

-- A call of an open file: its length, a change of its length, a read that leaves these bytes in its
-- buffer, a write, taking its lock, or a sync.
pub data FileCall : Type 0 where
  measured : (answer : Option ℕ) → FileCall
  resized : (len : ℕ) (ok : Bool) → FileCall
  read : (start : ℕ) (bytes : List ℕ) (ok : Bool) → FileCall
  written : (start : ℕ) (bytes : List ℕ) (ok : Bool) → FileCall
  locked : (ok : Bool) → FileCall
  synced : (ok : Bool) → FileCall

-- A call of a stream that is written: a piece, or a flush.
pub data WriteCall : Type 0 where
  put : (piece : List ℕ) (ok : Bool) → WriteCall
  flushed : (ok : Bool) → WriteCall

-- A read of a stream: how it left its buffer, and how many bytes it gave, or why none.
pub record ReadCall : Type 0 where
  pub buf : List ℕ
  pub answer : Result ℕ Error

-- a signal came before it gave anything
abbrev pub IsInterrupted : ReadCall → Type 0
IsInterrupted call = IsErrAnd call.answer (λ error. error_kind error ≡ Interrupted)
