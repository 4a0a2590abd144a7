-- What a store that is one list of blocks is, and what its calls say. It is the plain reading of
-- venti(6), with which faster stores are compared.
use Rattle.std.specs.Prelude.{ℕ, ◌≡◌, List, Result, Ok, Err}
use Rattle.vt_base.specs.declared.why.Why.{Why}
use Rattle.vt_base.specs.Protocol.{Operation, RMessage, r_refused}
use Rattle.vt_model.specs.History.{History}
use Rattle.vt_model.specs.Places.{Setup}
use Rattle.vt_model.specs.Answer.{Outcome, answer}

-- what a store was opened with, and what it has accepted
pub record Store : Type 0 where
  pub setup : Setup
  pub history : History

-- the answer of a store as it stands
abbrev pub answer_of : (List ℕ → List ℕ) → Store → Operation → Outcome
answer_of score s m = answer score s.setup s.history m

-- The result of a call stands for this reply: its value for the message that carries it, an error
-- for the refusal.
abbrev pub StandsForReply : {X : Type 0} → (X → RMessage) → Result X Why → RMessage → Type 0
StandsForReply message (Ok x) reply = reply ≡ message x
StandsForReply message (Err why) reply = reply ≡ r_refused why
