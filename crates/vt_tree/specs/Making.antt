-- Calls of a store of blocks, one after another.
use Rattle.std.specs.Prelude.{ℕ, ◌≡◌, ⊤, Option, Some, None, List, [], ◌∷◌, ◌++◌}
use Rattle.vt_tree.specs.declared.error.BlockErr.{BlockErr}
use Rattle.vt_tree.specs.Calls.{Call, refusal_of, refusals_of, TellsOfMap, after}
use Rattle.vt_tree.specs.Maps.{Maps}

-- The store of blocks was called for these, in this order, answered so, and wasn't called for
-- anything else.
abbrev pub Makes : {S : Type 0} → (does : S → Call → S → Type 0) → S → List Call → S → Type 0
Makes does s [] last = last ≡ s
Makes {S} does s (call ∷ calls) last = (next : S) × does s call next × Makes does next calls last

-- the last of these calls was refused so, and no other was
pub record IsRefusedLast (err : BlockErr) (calls : List Call) : Type 0 where
  pub before : List Call
  pub last : Call
  pub are : calls ≡ before ++ last ∷ []
  pub accepted : refusals_of before ≡ []
  pub refused : refusal_of last ≡ Some err

-- The calls were all answered; or the last was refused so, and nothing was called behind it.
abbrev pub EndsBy : Option BlockErr → List Call → Type 0
EndsBy None calls = refusals_of calls ≡ []
EndsBy (Some err) calls = IsRefusedLast err calls

-- what is held, and what is synced, after them
abbrev pub after_all : (score_of : List ℕ → List ℕ) → List Call → Maps → Maps
after_all score_of [] m = m
after_all score_of (call ∷ calls) m = after_all score_of calls (after score_of call m)

-- each answer is true of the map that was held then
abbrev pub TellsEach : (score_of : List ℕ → List ℕ) → Maps → List Call → Type 0
TellsEach score_of m [] = ⊤
TellsEach score_of m (call ∷ calls) =
    TellsOfMap score_of m.held call × TellsEach score_of (after score_of call m) calls
