-- What goes over the link of a client (venti(6)): one request at a time, and its one reply.
use Rattle.std.specs.Prelude.{ℕ, ◌≡◌, ◌≢◌, ◌⊎◌, ◌+◌, ⊤, Option, Some, None, Result, Ok, Err, IsErrAnd, List, [], ◌++◌, take}
use Rattle.vt_base.specs.Protocol.{TMessage, RMessage, r_ping, r_hello, r_read, r_write, r_sync, r_error}
use Rattle.vt_wire.specs.Awaited.{IsWanted, IsWrongAt}
use Rattle.vt_wire.specs.Frames.{IsFrame, IsPartial}
use Rattle.vt_wire.specs.Messages.{asked, request_type, reply_type, SpellsReply, FitsReply}
use Rattle.vt_client.specs.declared.error.ClientErr.{ClientErr}
use Rattle.vt_client.specs.declared.error.ClientErr.TheVariants as errs
use Rattle.vt_client.specs.Members.{LinkOf}

-- ---- a link that tells

-- the bytes that came in, those that are left to come in, and those that went out
pub record Traffic : Type 0 where
  pub came : List ℕ
  pub left : List ℕ
  pub sent : List ℕ

-- what passed over a link so far, and what is still to come
abbrev pub traffic_of : {L : Type 0} → LinkOf L → L → Traffic
traffic_of link l = record { came = link.given l; left = link.left l; sent = link.written l }

-- from one moment to another these bytes went out, and those came in
pub record MovesBytes (before after : Traffic) (out taken : List ℕ) : Type 0 where
  pub sent : after.sent ≡ before.sent ++ out
  pub came : after.came ≡ before.came ++ taken
  pub left : before.left ≡ taken ++ after.left

-- ---- what is wanted

-- what a call asks for, the reply that gives a value, and the score that this reply has to tell, if
-- it tells one
pub record Wanted (T : Type 0) : Type 0 where
  pub request : TMessage
  pub reply : T → RMessage
  pub score : Option (List ℕ)

-- the type of a reply is the one behind that of its request
abbrev pub awaited : TMessage → ℕ
awaited m = request_type m + 1

-- the score that a reply tells: that of its block, or the one in it
abbrev pub told_score : (score_of : List ℕ → List ℕ) → RMessage → Option (List ℕ)
told_score score_of (r_read bytes) = Some (score_of bytes)
told_score score_of (r_write score) = Some score
told_score score_of r_ping = None
told_score score_of r_hello = None
told_score score_of r_sync = None
told_score score_of (r_error text) = None

-- What a reply comes to: the value that it gives, the text of an Rerror, or a score that isn't the
-- one wanted. Memory may run out over it.
abbrev pub JudgesReply : {T : Type 0} → (score_of : List ℕ → List ℕ) → Wanted T → RMessage
    → Result T ClientErr → Type 0
JudgesReply score_of w reply (Ok value) =
    (reply ≡ w.reply value) × (told_score score_of reply ≡ w.score)
JudgesReply score_of w reply (Err (errs.Remote text)) = reply ≡ r_error text
JudgesReply score_of w reply (Err (errs.WrongScore want found)) =
    (w.score ≡ Some want.0) × (told_score score_of reply ≡ Some found.0) × (want.0 ≢ found.0)
JudgesReply score_of w reply (Err errs.NoMemory) = ⊤
JudgesReply score_of w reply (Err errs.ReadFault) = ⊥
JudgesReply score_of w reply (Err errs.WriteFault) = ⊥
JudgesReply score_of w reply (Err errs.Cut) = ⊥
JudgesReply score_of w reply (Err (errs.BadReply place)) = ⊥
JudgesReply score_of w reply (Err errs.NoVersion) = ⊥
JudgesReply score_of w reply (Err errs.Spent) = ⊥

-- ---- a request and its reply

-- The frame is a reply under this tag: one of the type that is wanted, or an Rerror, with no more
-- bytes than a block.
pub record IsWantedReply (tag wanted : ℕ) (reply : RMessage) (frame : List ℕ) : Type 0 where
  pub spelled : SpellsReply tag reply frame
  pub type_wanted : IsWanted wanted (reply_type reply)
  pub fits : FitsReply reply

-- the request went out under the tag, and its reply came in, and nothing else
pub record Exchanges (before after : Traffic) (tag : ℕ) (m : TMessage) (reply : RMessage)
    : Type 0 where
  pub frame : List ℕ
  pub is_reply : IsWantedReply tag (awaited m) reply frame
  pub moves : MovesBytes before after (asked tag m) frame

-- the request went out, and less than a whole frame came in
pub record TakesPart (before after : Traffic) (tag : ℕ) (m : TMessage) : Type 0 where
  pub part : List ℕ
  pub partial : IsPartial part
  pub moves : MovesBytes before after (asked tag m) part

-- the request went out, and a whole frame came in that is no reply to it
pub record TakesWrong (before after : Traffic) (tag : ℕ) (m : TMessage) (place : ℕ) : Type 0 where
  pub frame : List ℕ
  pub body : List ℕ
  pub is_frame : IsFrame frame body
  pub wrong : IsWrongAt tag (awaited m) body place
  pub moves : MovesBytes before after (asked tag m) frame

-- No reply came, and why: the link failed, where a failed write may have written a front of the
-- request; what comes in ended; or something is wrong in what came.
abbrev pub FailsWithoutReply : (before after : Traffic) (tag : ℕ) (m : TMessage) → ClientErr
    → Type 0
FailsWithoutReply before after tag m errs.ReadFault = TakesPart before after tag m
FailsWithoutReply before after tag m errs.WriteFault =
    (n : ℕ) × MovesBytes before after (take n (asked tag m)) []
FailsWithoutReply before after tag m errs.Cut = TakesPart before after tag m × (after.left ≡ [])
FailsWithoutReply before after tag m (errs.BadReply place) = TakesWrong before after tag m place
FailsWithoutReply before after tag m (errs.Remote text) = ⊥
FailsWithoutReply before after tag m (errs.WrongScore want found) = ⊥
FailsWithoutReply before after tag m errs.NoVersion = ⊥
FailsWithoutReply before after tag m errs.Spent = ⊥
FailsWithoutReply before after tag m errs.NoMemory = ⊥

-- A call for which this was wanted, under this tag, answers so: the reply came, and this is what it
-- comes to; or none came.
abbrev pub AnswersCall : {T : Type 0} → (score_of : List ℕ → List ℕ) → (tag : ℕ) → Wanted T
    → (before after : Traffic) → Result T ClientErr → Type 0
AnswersCall score_of tag w before after result =
    ((reply : RMessage) × Exchanges before after tag w.request reply
    × JudgesReply score_of w reply result)
    ⊎ IsErrAnd result (FailsWithoutReply before after tag w.request)
