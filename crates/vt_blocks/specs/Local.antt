-- A store as a store of blocks: what it says of a call, and which maps it holds.
use Rattle.std.specs.Prelude.{ℕ, ◌≡◌, ◌≤◌, ◌⊎◌, ⊤, IsTrue, Option, Some, Result, Ok, Err, List, take}
use Rattle.std.specs.Option.{option_or}
use Rattle.vt_base.specs.Kind.{IsKind}
use Rattle.vt_base.specs.Protocol.{RMessage, r_read, r_write, r_sync, why_words}
use Rattle.vt_base.specs.declared.why.Why.{Why}
use Rattle.vt_base.specs.declared.why.Why.TheVariants as whys
use Rattle.vt_model.specs.History.{History, held as held_by}
use Rattle.vt_model.specs.Legal.{IsLegal}
use Rattle.vt_handler.specs.Condition.{ConditionGoesOn}
use Rattle.vt_blocks.specs.Members.{StoreOf}
use Rattle.vt_handler.specs.Serving.{ServesOperation, TellsCause}
use Rattle.vt_tree.specs.declared.error.BlockErr.{BlockErr}
use Rattle.vt_tree.specs.declared.error.BlockErr.TheVariants.{Fault, Refused, WrongScore, Damaged, NoMemory}
use Rattle.vt_tree.specs.Calls.{Call, get, put, sync, asked_of, refusal_of, Counts, with_refusal}
use Rattle.vt_tree.specs.Maps.{Maps}

-- the store; how many of its calls have failed, and how many were refused; and why the store said
-- no first
pub record LocalState (T : Type 0) : Type 0 where
  pub store : T
  pub counts : Counts
  pub refused : Option Why

-- ---- refusals

-- a failed call of a device is a fault, damage and want of memory are themselves, and any other
-- reason is a refusal with its text
abbrev pub err_of : Why → BlockErr
err_of whys.DiskFault = Fault
err_of (whys.Damaged site want found) = Damaged want found
err_of whys.NoMemory = NoMemory
err_of why = Refused (why_words why)

-- The refusal is told with a text.
abbrev pub HasText : BlockErr → Type 0
HasText Fault = ⊥
HasText (Refused text) = ⊤
HasText (WrongScore want found) = ⊥
HasText (Damaged want found) = ⊥
HasText NoMemory = ⊥

-- The refusal is told so, or memory ran out for its text.
abbrev pub IsToldAs : Why → BlockErr → Type 0
IsToldAs why err = (err ≡ err_of why) ⊎ (HasText (err_of why) × (err ≡ NoMemory))

-- ---- a call

-- the answer to a call stands for this reply of the store
abbrev pub RefusedFor : BlockErr → Result RMessage Why → Type 0
RefusedFor err reply = (why : Why) × (reply ≡ Err why) × IsToldAs why err

-- the reply that a call's answer was made of
abbrev pub StandsFor : Call → Result RMessage Why → Type 0
StandsFor (get kind s (Ok bytes)) reply = reply ≡ Ok (r_read bytes)
StandsFor (get kind s (Err err)) reply = RefusedFor err reply
StandsFor (put b (Ok score)) reply = reply ≡ Ok (r_write score.0)
StandsFor (put b (Err err)) reply = RefusedFor err reply
StandsFor (sync (Ok done)) reply = reply ≡ Ok r_sync
StandsFor (sync (Err err)) reply = RefusedFor err reply

-- The store of blocks is called for a block type.
abbrev pub HasKind : Call → Type 0
HasKind (get kind s answer) = IsKind kind
HasKind (put b answer) = IsKind b.kind
HasKind (sync answer) = ⊤

-- why the store said no first, after a reply
abbrev pub refused_after : Result RMessage Why → Option Why → Option Why
refused_after (Ok reply) before = before
refused_after (Err why) before = option_or before (Some why)

-- The store was asked this, once, and its reply was handed on.
pub record DoesLocal {S : Type 0} (T : StoreOf S) (l : LocalState S) (call : Call)
    (l' : LocalState S) : Type 0 where
  pub reply : Result RMessage Why
  pub stands : StandsFor call reply
  pub kind : HasKind call
  pub once : T.does l.store (asked_of call) reply l'.store
  pub serves : (h : History) → T.holds l.store h
      → ServesOperation T.score_of (T.condition l.store) (T.condition l'.store) (T.holds l'.store) h
      (asked_of call) (λ r. r) reply
  pub cause : TellsCause (T.condition l.store) (T.condition l'.store) reply
  pub goes_on : ConditionGoesOn (T.condition l.store) (T.condition l'.store)
  pub counts : l'.counts ≡ with_refusal (refusal_of call) l.counts
  pub refused : l'.refused ≡ refused_after reply l.refused

-- ---- what it holds

-- The store is alone, its blocks are scored by this scorer, and it holds a legal history. The map
-- is what that holds, and the synced map what the first so many blocks hold, which no crash takes
-- away.
pub record HoldsLocal {S : Type 0} (T : StoreOf S) (score_of : List ℕ → List ℕ) (l : LocalState S)
    (m : Maps) : Type 0 where
  pub scores : (bytes : List ℕ) → score_of bytes ≡ T.score_of bytes
  pub alone : IsTrue (T.condition l.store).alone
  pub history : History
  pub holds_it : T.holds l.store history
  pub legal : IsLegal T.score_of (T.condition l.store).setup history
  pub held : (s : List ℕ) (kind : ℕ) → m.held s kind ≡ held_by T.score_of history s kind
  pub number : ℕ
  pub is_durable : number ≤ (T.condition l.store).durable
  pub synced : (s : List ℕ) (kind : ℕ)
      → m.synced s kind ≡ held_by T.score_of (take number history) s kind
