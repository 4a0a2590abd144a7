-- What a client is at, what a call of it leaves, and which refusals end it.
use Rattle.std.specs.Prelude.{ℕ, ◌≡◌, ◌≢◌, ◌+◌, ◌%◌, ◌↔◌, ⊤, ◌⊎◌, Bool, true, false, IsTrue, IfErr, IfOk, IsErrOf, Option, Some, None, Result, Ok, Err, List, [], take}
use Rattle.vt_base.specs.Faults.{CountsFault}
use Rattle.vt_base.specs.Protocol.{t_ask, t_goodbye, read, write, sync, r_read, r_write, r_sync}
use Rattle.vt_base.specs.declared.TheConstants.{MAX_BLOCK}
use Rattle.vt_base.specs.declared.score.Score.{Score}
use Rattle.vt_tree.specs.Calls.{Counts}
use Rattle.vt_wire.specs.Messages.{asked}
use Rattle.vt_client.specs.declared.error.ClientErr.{ClientErr}
use Rattle.vt_client.specs.declared.error.ClientErr.TheVariants as errs
use Rattle.vt_client.specs.declared.error.LinkError.{LinkError}
use Rattle.vt_client.specs.Exchanges.{MovesBytes, Wanted, AnswersCall, told_score, traffic_of}
use Rattle.vt_client.specs.Members.{LinkOf}

-- The link; the tag of the next request; whether it is spent; and of its calls as a store of blocks
-- how many have failed and how many were refused, why the first of these was that wasn't taken out,
-- and how many blocks the server took in.
pub record ClientState (L : Type 0) : Type 0 where
  pub link : L
  pub tag : ℕ
  pub spent : Bool
  pub counts : Counts
  pub refused : Option ClientErr
  pub sent : ℕ

-- ---- what is wanted of a server

-- What a read asks for: the block of a type and score.
abbrev pub wanted_block : (score : List ℕ) (kind : ℕ) → Wanted (List ℕ)
wanted_block score kind = record {
  request = t_ask (read score kind MAX_BLOCK);
  reply = r_read;
  score = Some score;
}

-- What a write asks for: that the server takes a block in, and tells its score.
abbrev pub taking_in : (score_of : List ℕ → List ℕ) → (kind : ℕ) (bytes : List ℕ) → Wanted Score
taking_in score_of kind bytes = record {
  request = t_ask (write kind bytes);
  reply = λ score. r_write score.0;
  score = Some (score_of bytes);
}

-- What a sync asks for: that the server commits what it took in.
abbrev pub committing : Wanted (Unit {0})
committing = record { request = t_ask sync; reply = λ done. r_sync; score = None }

-- ---- refusals

-- after this one no reply can be told from another
abbrev pub spends : ClientErr → Bool
spends (errs.Remote text) = false
spends (errs.WrongScore want found) = false
spends errs.NoMemory = false
spends errs.ReadFault = true
spends errs.WriteFault = true
spends errs.Cut = true
spends (errs.BadReply place) = true
spends errs.NoVersion = true
spends errs.Spent = true

-- whether the answer ended the link's use
abbrev pub spent_by : {T : Type 0} → Result T ClientErr → Bool
spent_by (Ok value) = false
spent_by (Err err) = spends err

-- Whether an error of a client tells of a failed read.
abbrev pub is_read_fault : ClientErr → Bool
is_read_fault errs.ReadFault = true
is_read_fault (errs.Remote text) = false
is_read_fault (errs.WrongScore want found) = false
is_read_fault errs.NoMemory = false
is_read_fault errs.WriteFault = false
is_read_fault errs.Cut = false
is_read_fault (errs.BadReply place) = false
is_read_fault errs.NoVersion = false
is_read_fault errs.Spent = false

-- Whether an error of a client tells of a failed write.
abbrev pub is_write_fault : ClientErr → Bool
is_write_fault errs.WriteFault = true
is_write_fault (errs.Remote text) = false
is_write_fault (errs.WrongScore want found) = false
is_write_fault errs.NoMemory = false
is_write_fault errs.ReadFault = false
is_write_fault errs.Cut = false
is_write_fault (errs.BadReply place) = false
is_write_fault errs.NoVersion = false
is_write_fault errs.Spent = false

-- a fault is told exactly where the link's own count of that side rose
pub record CountsSides {L T : Type 0} (link : LinkOf L) (l l' : L) (result : Result T ClientErr)
    : Type 0 where
  pub reads : CountsFault is_read_fault result (link.read_faults l) (link.read_faults l')
  pub writes : CountsFault is_write_fault result (link.write_faults l) (link.write_faults l')

-- What a request may be refused for, whatever the link: never for a version, and for a score only
-- where it isn't the one wanted.
abbrev pub MayRefuse : {T : Type 0} → Wanted T → ClientErr → Type 0
MayRefuse w errs.NoVersion = ⊥
MayRefuse w (errs.WrongScore want found) = (w.score ≡ Some want.0) × (want.0 ≢ found.0)
MayRefuse w (errs.Remote text) = ⊤
MayRefuse w errs.NoMemory = ⊤
MayRefuse w errs.ReadFault = ⊤
MayRefuse w errs.WriteFault = ⊤
MayRefuse w errs.Cut = ⊤
MayRefuse w (errs.BadReply place) = ⊤
MayRefuse w errs.Spent = ⊤

-- ---- one call

-- the tag behind this one: a tag is a byte, and they run round
abbrev pub next_tag : ℕ → ℕ
next_tag tag = (tag + 1) % 256

-- One request went out under the client's tag, and its one reply came in. Whatever that says, the
-- score that it tells is the one wanted. A spent client touches nothing, and says so.
pub record AsksRequest {L T : Type 0} (link : LinkOf L) (score_of : List ℕ → List ℕ) (w : Wanted T)
    (c c' : ClientState L) (result : Result T ClientErr) : Type 0 where
  pub answers : IsTrue link.tells → c.spent ≡ false
      → AnswersCall score_of c.tag w (traffic_of link c.link) (traffic_of link c'.link) result
  pub sides : CountsSides link c.link c'.link result
  pub refuses : IfErr result (MayRefuse w)
  pub scored : IfOk result (λ value. told_score score_of (w.reply value) ≡ w.score)
  pub spent : IsErrOf result errs.Spent ↔ (c.spent ≡ true)
  pub untouched : c.spent ≡ true → c' ≡ c
  pub goes_on : c.spent ≡ false → c' ≡ record c {
    link = c'.link;
    tag = next_tag c.tag;
    spent = spent_by result;
  }

-- ---- the end

-- A goodbye went out, to which there is no reply, and the link is given back. It is given back too
-- where the client is spent, and where the write failed, which may have written a front of it.
abbrev pub SaysGoodbye : {L : Type 0} → LinkOf L → ClientState L → Result L (LinkError L) → Type 0
SaysGoodbye link c (Ok l) = (c.spent ≡ false) × CountsSides {T = Unit {0}} link c.link l (Ok tt)
    × (IsTrue link.tells → MovesBytes (traffic_of link c.link) (traffic_of link l)
    (asked c.tag t_goodbye) [])
SaysGoodbye link c (Err parted) =
    ((c.spent ≡ true) × (parted ≡ record { link = c.link; why = errs.Spent }))
    ⊎ ((c.spent ≡ false) × (parted.why ≡ errs.WriteFault)
    × CountsSides {T = Unit {0}} link c.link parted.link (Err errs.WriteFault)
    × (IsTrue link.tells → (n : ℕ) × MovesBytes (traffic_of link c.link)
    (traffic_of link parted.link) (take n (asked c.tag t_goodbye)) []))
