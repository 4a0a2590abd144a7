-- A client as a store of blocks.
use Rattle.std.specs.Prelude.{ℕ, ◌≡◌, ◌⊎◌, ⊤, Option, Some, Result, Ok, Err, List, codes}
use Rattle.std.specs.Option.{option_or}
use Rattle.vt_base.specs.Faults.{one_more}
use Rattle.vt_tree.specs.declared.error.BlockErr.{BlockErr}
use Rattle.vt_tree.specs.declared.error.BlockErr.TheVariants as blocks
use Rattle.vt_tree.specs.Calls.{Call, get, put, sync, refusal_of, with_refusal}
use Rattle.vt_client.specs.declared.error.ClientErr.{ClientErr}
use Rattle.vt_client.specs.declared.error.ClientErr.TheVariants as errs
use Rattle.vt_client.specs.Clients.{ClientState, AsksRequest, wanted_block, taking_in, committing}
use Rattle.vt_client.specs.Exchanges.{Wanted}
use Rattle.vt_client.specs.Members.{LinkOf}

-- ---- refusals

-- a fault is one, whichever side it has; a wrong score and want of memory are themselves; any other
-- refusal has a text
abbrev pub err_of : ClientErr → BlockErr
err_of (errs.Remote text) = blocks.Refused text
err_of errs.ReadFault = blocks.Fault
err_of errs.WriteFault = blocks.Fault
err_of errs.Cut = blocks.Refused (codes "peer cut")
err_of (errs.BadReply place) = blocks.Refused (codes "bad reply")
err_of errs.NoVersion = blocks.Refused (codes "no version")
err_of (errs.WrongScore want found) = blocks.WrongScore want found
err_of errs.Spent = blocks.Refused (codes "client spent")
err_of errs.NoMemory = blocks.NoMemory

-- The refusal is told with a text.
abbrev pub HasText : ClientErr → Type 0
HasText (errs.Remote text) = ⊤
HasText errs.ReadFault = ⊥
HasText errs.WriteFault = ⊥
HasText errs.Cut = ⊤
HasText (errs.BadReply place) = ⊤
HasText errs.NoVersion = ⊤
HasText (errs.WrongScore want found) = ⊥
HasText errs.Spent = ⊤
HasText errs.NoMemory = ⊥

-- The refusal is told so, or memory ran out for its text.
abbrev pub IsToldAs : ClientErr → BlockErr → Type 0
IsToldAs why err = (err ≡ err_of why) ⊎ (HasText why × (err ≡ blocks.NoMemory))

-- the answer to a call of the store is that of the client
abbrev pub AnswersAsClient : {T : Type 0} → Result T BlockErr → Result T ClientErr → Type 0
AnswersAsClient (Ok value) result = result ≡ Ok value
AnswersAsClient (Err err) result = (why : ClientErr) × (result ≡ Err why) × IsToldAs why err

-- why the first refusal was that wasn't taken out, after an answer of the client
abbrev pub refused_after : {T : Type 0} → Result T ClientErr → Option ClientErr → Option ClientErr
refused_after (Ok value) before = before
refused_after (Err why) before = option_or before (Some why)

-- how many blocks the server took in, after a call
abbrev pub sent_after : Call → ℕ → ℕ
sent_after (get kind s answer) n = n
sent_after (put b (Ok score)) n = one_more n
sent_after (put b (Err err)) n = n
sent_after (sync answer) n = n

-- ---- a call

-- the client was asked for this, once, and its answer is handed on
pub record DoesOnce {L T : Type 0} (link : LinkOf L) (score_of : List ℕ → List ℕ) (w : Wanted T)
    (c c' : ClientState L) (answer : Result T BlockErr) : Type 0 where
  pub result : Result T ClientErr
  pub stands : AnswersAsClient answer result
  pub after : ClientState L
  pub asked : AsksRequest link score_of w c after result
  pub is : c' ≡ record after {
    counts = c'.counts;
    refused = refused_after result c.refused;
    sent = c'.sent;
  }

-- a call of a store of blocks is one exchange with the server
abbrev pub AsksAsStore : {L : Type 0} → LinkOf L → (score_of : List ℕ → List ℕ) → ClientState L
    → Call → ClientState L → Type 0
AsksAsStore link score_of c (get kind s answer) c' =
    DoesOnce link score_of (wanted_block s kind) c c' answer
AsksAsStore link score_of c (put b answer) c' =
    DoesOnce link score_of (taking_in score_of b.kind b.bytes) c c' answer
AsksAsStore link score_of c (sync answer) c' =
    DoesOnce link score_of committing c c' answer

-- What a client does at a call of the store. Each failed call counts, each refused one, and each
-- block that the server took in.
pub record DoesAsClient {L : Type 0} (link : LinkOf L) (score_of : List ℕ → List ℕ)
    (c : ClientState L) (call : Call) (c' : ClientState L) : Type 0 where
  pub asks : AsksAsStore link score_of c call c'
  pub counts : c'.counts ≡ with_refusal (refusal_of call) c.counts
  pub sent : c'.sent ≡ sent_after call c.sent
