-- What a store was asked in turns, one after another.
use Rattle.std.specs.Prelude.{◌≡◌, ◌≤◌, IsTrue, Option, None, List, [], ◌∷◌, ◌++◌, length, Result, Ok, Err}
use Rattle.std.specs.List.{AllByRecursion}
use Rattle.std.specs.Option.{option_or}
use Rattle.vt_base.specs.declared.why.Why.{Why}
use Rattle.vt_base.specs.Protocol.{Operation, ping, read, write, sync, RMessage, r_ping}
use Rattle.vt_model.specs.History.{History}
use Rattle.vt_model.specs.Causes.{why_of}
use Rattle.vt_session.specs.Turns.{Turn, told, served, failed, causes_of, synced_numbers}
use Rattle.vt_session.specs.Answered.{AnsweredBy, AnsweredAlone, AreToldBy}
use Rattle.vt_handler.specs.Condition.{faults_over, ConditionGoesOn, IsNoDamage, IsNoFault}
use Rattle.vt_handler.specs.Members.{StoreOf}
use Rattle.vt_handler.specs.Serving.{failure_of, reply_in}

-- the store did this operation, once, with this answer, and nothing else; a ping needs no store
abbrev pub DoesOne : {S : Type 0} → StoreOf S → S → Operation → Result RMessage Why → S → Type 0
DoesOne T s ping answer s' = (answer ≡ Ok r_ping) × (s' ≡ s)
DoesOne T s (read score kind count) answer s' = T.does s (read score kind count) answer s'
DoesOne T s (write kind bytes) answer s' = T.does s (write kind bytes) answer s'
DoesOne T s sync answer s' = T.does s sync answer s'

-- The store did this operation, once, and what it answered is said by this reply.
pub record DoesSaying {S : Type 0} (T : StoreOf S) (s : S) (operation : Operation) (reply : RMessage)
    (s' : S) : Type 0 where
  pub answer : Result RMessage Why
  pub says : reply_in answer ≡ reply
  pub does : DoesOne T s operation answer s'

-- The store did the operations of these turns in their order, each once, and nothing else.
abbrev pub DoesEach : {S : Type 0} → StoreOf S → S → List Turn → S → Type 0
DoesEach T s [] last = last ≡ s
DoesEach T s (told tag reply ∷ turns) last = DoesEach T s turns last
DoesEach {S} T s (served tag operation number outcome ∷ turns) last =
    (next : S) × DoesSaying T s operation outcome.reply next × DoesEach T next turns last
DoesEach {S} T s (failed tag operation number cause ∷ turns) last =
    (next : S) × DoesOne T s operation (Err (why_of cause)) next × DoesEach T next turns last

-- The store did these operations in their order, with these answers, each once, and nothing else,
-- whatever it holds.
abbrev pub DoesCalls : {S : Type 0} → StoreOf S → S → List (Operation × Result RMessage Why) → S
    → Type 0
DoesCalls T s [] last = last ≡ s
DoesCalls {S} T s (call ∷ calls) last =
    (next : S) × DoesOne T s call.0 call.1 next × DoesCalls T next calls last

-- Why the store failed first in these operations, if it did.
abbrev pub first_told : List (Operation × Result RMessage Why) → Option Why
first_told [] = None
first_told (call ∷ calls) = option_or (failure_of call.1) (first_told calls)

-- The store did some operations, and nothing else; where it hadn't failed before, what failed first
-- in these is told from then on.
pub record DoesSome {S : Type 0} (T : StoreOf S) (s s' : S) (failure failure' : Option Why)
    : Type 0 where
  pub calls : List (Operation × Result RMessage Why)
  pub does : DoesCalls T s calls s'
  pub failure_is : failure' ≡ option_or failure (first_told calls)

-- A store was asked in these turns: it held `old` before them, and holds `new` behind them, which
-- answers them, and whose first blocks are those of `old`. Where it is alone, they are answered by
-- their own blocks behind `old`. Its parts tell of each failure, which is no damage, and what a
-- sync was answered for is durable.
pub record TakesTurns {S : Type 0} (T : StoreOf S) (s s' : S) (old : History) (turns : List Turn)
    : Type 0 where
  pub new : History
  pub later : History
  pub holds_it : T.holds s' new
  pub new_is : new ≡ old ++ later
  pub answered : AnsweredBy T.score_of (T.condition s).setup new (length old) (length new) turns
  pub alone : IsTrue (T.condition s).alone
      → AnsweredAlone T.score_of (T.condition s).setup old turns new
  pub causes : AreToldBy (faults_over (T.condition s) (T.condition s')) (causes_of turns)
  pub undamaged : AllByRecursion IsNoDamage (causes_of turns)
  pub stops : IsTrue (T.condition s).alone → AllByRecursion IsNoFault (causes_of turns)
      → (T.condition s').stops ≡ (T.condition s).stops
  pub synced : AllByRecursion (λ n. n ≤ (T.condition s').durable) (synced_numbers turns)
  pub goes_on : ConditionGoesOn (T.condition s) (T.condition s')
  pub does : DoesEach T s turns s'
