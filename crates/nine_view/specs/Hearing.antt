-- What is taken of a link, up to one message.
use Rattle.std.specs.Prelude.{ℕ, ◌≡◌, ◌≢◌, ◌+◌, ◌<◌, ◌≤◌, ◌⊎◌, ◌++◌, Bool, true, false, Result, Ok, Err, List, [], length, take}
use Rattle.vt_session.specs.Talk.{spent_len}
use Rattle.nine_view.specs.declared.serving.Ended.{Ended}
use Rattle.nine_view.specs.declared.serving.Ended.TheVariants.{Closed, Cut, Spent, ReadFault, NoMemory}
use Rattle.nine_view.specs.Replies.{IsMessage}
use Rattle.nine_view.specs.Serving.{EndsSo, GoesOut, IsAtEnd}

-- so many bytes came where `wanted` were, inside a message or in front of one, and so many are
-- taken now
abbrev pub StopsSo : Result (Unit {0}) Ended → (inside : Bool) → (came wanted taken : ℕ) → Type 0
StopsSo (Ok done) inside came wanted taken = came ≡ wanted
StopsSo (Err Closed) inside came wanted taken =
    (inside ≡ false) × (came ≡ 0) × (came < wanted) × (taken < spent_len)
StopsSo (Err Cut) inside came wanted taken =
    ((inside ≡ true) ⊎ (0 < came)) × (came < wanted) × (taken < spent_len)
StopsSo (Err Spent) inside came wanted taken = (came < wanted) × (taken ≡ spent_len)
StopsSo (Err ReadFault) inside came wanted taken = (came < wanted) × (taken < spent_len)
StopsSo (Err ended) inside came wanted taken = ⊥

-- where the input ended, nothing was left
abbrev pub LeavesNone : {X : Type 0} → Result X Ended → (left : List ℕ) → Type 0
LeavesNone (Ok done) left = Unit {0}
LeavesNone (Err ended) left = IsAtEnd ended left

-- these bytes were taken into a buffer
pub record FillsBuffer (tells : Type 0) (given given' left' : List ℕ) (taken taken' : ℕ)
    (inside : Bool) (buffer : List ℕ) (result : Result (Unit {0}) Ended) : Type 0 where
  pub came : List ℕ
  pub given_is : tells → given' ≡ given ++ came
  pub taken_is : taken' ≡ taken + length came
  pub stands : take (length came) buffer ≡ came
  pub stops : StopsSo result inside (length came) (length buffer) taken'
  pub at_end : tells → LeavesNone result left'

-- a message stands in front of the buffer, or it ended so, by no write and with memory
abbrev pub HearsSo : Result ℕ Ended → (limit taken : ℕ) → (buffer came : List ℕ) → Type 0
HearsSo (Ok len) limit taken buffer came =
    (take len buffer ≡ came) × (len ≡ length came) × (len ≤ limit) × IsMessage came
HearsSo (Err ended) limit taken buffer came =
    EndsSo ended limit taken came × GoesOut ended [] [] × (ended ≢ NoMemory)

-- these bytes were taken: a message, or what ended it
pub record HearsMessage (tells : Type 0) (given given' left' : List ℕ) (limit taken taken' : ℕ)
    (buffer : List ℕ) (result : Result ℕ Ended) : Type 0 where
  pub came : List ℕ
  pub given_is : tells → given' ≡ given ++ came
  pub taken_is : taken' ≡ taken + length came
  pub hears : HearsSo result limit taken buffer came
  pub at_end : tells → LeavesNone result left'
