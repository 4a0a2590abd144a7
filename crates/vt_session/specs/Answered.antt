-- Which turns a history of blocks gives, when others may add to it as well, and when nobody else
-- does. Blocks are only ever added (Quinlan and Dorward 2002), so a reply is about a prefix.
use Rattle.std.specs.Prelude.{ℕ, ◌≡◌, ◌+◌, ◌≤◌, ⊤, Option, Some, None, List, [], ◌∷◌, length, take, slice_get, Contains}
use Rattle.std.specs.List.{AllByRecursion}
use Rattle.vt_model.specs.History.{History, Accepted}
use Rattle.vt_model.specs.Places.{Setup}
use Rattle.vt_model.specs.Answer.{answer, with_added}
use Rattle.vt_model.specs.Causes.{Part, Cause, disk_fault, stopped, damaged, no_memory, NoneFell, MayFail}
use Rattle.vt_session.specs.Turns.{Turn, told, served, failed}

-- ---- the causes of failures

-- along the causes no count falls, from the first counts to the last
abbrev pub CountsRise : List ℕ → List Cause → List ℕ → Type 0
CountsRise first [] last = NoneFell first last
CountsRise first (disk_fault before after ∷ causes) last =
    NoneFell first before × NoneFell before after × CountsRise after causes last
CountsRise first (stopped part n ∷ causes) last = CountsRise first causes last
CountsRise first (damaged site want found ∷ causes) last = CountsRise first causes last
CountsRise first (no_memory ∷ causes) last = CountsRise first causes last

-- What the store's parts tell of their faults over a while: their counts of failed calls before it
-- and behind it, in one order, and which parts have stopped by its end, each with the device call
-- at which it did.
pub record Faults : Type 0 where
  pub before : List ℕ
  pub after : List ℕ
  pub stops : List (Part × ℕ)

-- nothing fails
abbrev pub no_faults : Faults
no_faults = record { before = []; after = []; stops = [] }

-- a part that stopped is one that tells it
abbrev pub IsKnownStop : List (Part × ℕ) → Cause → Type 0
IsKnownStop stops (disk_fault before after) = ⊤
IsKnownStop stops (stopped part first) = Contains stops (part, first)
IsKnownStop stops (damaged site want found) = ⊤
IsKnownStop stops no_memory = ⊤

-- the causes are those that the parts tell of: their counts rise one after another, and their stops
-- are known
pub record AreToldBy (faults : Faults) (causes : List Cause) : Type 0 where
  pub counts : CountsRise faults.before causes faults.after
  pub stops : AllByRecursion (IsKnownStop faults.stops) causes

-- ---- one history, at numbers that never fall

-- an added block is block n of the history
abbrev pub IsAddedAt : History → ℕ → Option Accepted → Type 0
IsAddedAt h n None = ⊤
IsAddedAt h n (Some e) = slice_get h n ≡ Some e

-- the least number that the next operation may have
abbrev pub number_after : ℕ → Option Accepted → ℕ
number_after n None = n
number_after n (Some e) = n + 1

-- Each operation has a number n from low to high, and its outcome is the answer on the first n
-- blocks. Numbers never fall, and they rise behind a block that was added. An operation that failed
-- adds nothing.
abbrev pub AnsweredBy : (List ℕ → List ℕ) → Setup → History → ℕ → ℕ → List Turn → Type 0
AnsweredBy score c h low high [] = ⊤
AnsweredBy score c h low high (told tag reply ∷ turns) = AnsweredBy score c h low high turns
AnsweredBy score c h low high (served tag operation n outcome ∷ turns) =
    (low ≤ n) × (n ≤ high) × (outcome ≡ answer score c (take n h) operation)
    × IsAddedAt h n outcome.added × AnsweredBy score c h (number_after n outcome.added) high turns
AnsweredBy score c h low high (failed tag operation n cause ∷ turns) =
    (low ≤ n) × (n ≤ high) × MayFail score c operation cause × AnsweredBy score c h n high turns

-- ---- a history to which nobody else adds

-- each outcome is the answer on the history so far, which goes on by what it adds, up to the last
-- history
abbrev pub AnsweredAlone : (List ℕ → List ℕ) → Setup → History → List Turn → History → Type 0
AnsweredAlone score c h [] last = last ≡ h
AnsweredAlone score c h (told tag reply ∷ turns) last = AnsweredAlone score c h turns last
AnsweredAlone score c h (served tag operation n outcome ∷ turns) last =
    (n ≡ length h) × (outcome ≡ answer score c h operation)
    × AnsweredAlone score c (with_added h outcome.added) turns last
AnsweredAlone score c h (failed tag operation n cause ∷ turns) last =
    (n ≡ length h) × MayFail score c operation cause × AnsweredAlone score c h turns last
