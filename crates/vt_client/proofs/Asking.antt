-- How a request is answered: by what came for its reply, or since nothing did.
use Rattle.std.proofs.Common.{◌≡◌, ◌⊎◌, inl, inr, ℕ, ◌+◌, ◌%◌, Bool, true, false, Result, Ok, Err, List, ◌++◌, length, sym, ◌∙◌, ap, subst, take}
use Rattle.std.specs.Prelude.{IsTrue, IfErr, IfOk, IsErrOf, IsErrAnd}
use Rattle.std.proofs.lemmas.Bool.{true≢false}
use Rattle.std.proofs.lemmas.List.{take_at}
use Rattle.vt_base.specs.Protocol.{TMessage, RMessage}
use Rattle.vt_wire.specs.Frames.{IsFrame}
use Rattle.vt_wire.specs.Messages.{asked}
use Rattle.vt_client.specs.declared.error.ClientErr.{ClientErr}
use Rattle.vt_client.specs.declared.error.ClientErr.TheVariants as errs
use Rattle.vt_client.specs.Clients.{ClientState, AsksRequest, CountsSides, MayRefuse, is_read_fault, is_write_fault, spent_by}
use Rattle.vt_client.specs.Exchanges.{AnswersCall, Exchanges, FailsWithoutReply, JudgesReply, MovesBytes, Traffic, Wanted, told_score, traffic_of}
use Rattle.vt_client.specs.Members.{LinkOf}
use Rattle.vt_client.specs.Taking.{IsOfExchange, ReadsReplyFrame}

-- ---- what came for the reply

pub answered : {T : Type 0} (score_of : List ℕ → List ℕ) (tag : ℕ) (w : Wanted T)
    (before after : Traffic) (frame : List ℕ) (result : Result T ClientErr)
    → (body : List ℕ) × IsFrame frame body → MovesBytes before after (asked tag w.request) frame
    → ReadsReplyFrame score_of tag w frame result → AnswersCall score_of tag w before after result
answered score_of tag w before after frame result whole moves (inl (reply, is, judged)) =
    inl (reply, record { frame = frame; is_reply = is; moves = moves }, judged)
answered score_of tag w before after frame result whole moves (inr (place, is, wrong)) =
    inr (subst (λ (r : Result _ ClientErr). IsErrAnd r (FailsWithoutReply before after tag w.request)) (sym is)
    (record {
      frame = frame;
      body = whole.0;
      is_frame = whole.1;
      wrong = wrong whole.0 whole.1;
      moves = moves;
    }))

-- ---- what is known of any link

-- faults are told where they rose, what a request can't be refused for doesn't come, and the score
-- that is told is the one wanted
pub record Mild {L T : Type 0} (link : LinkOf L) (score_of : List ℕ → List ℕ) (w : Wanted T) (l l' : L)
    (result : Result T ClientErr) : Type 0 where
  pub sides : CountsSides link l l' result
  pub refuses : IfErr result (MayRefuse w)
  pub scored : IfOk result (λ value. told_score score_of (w.reply value) ≡ w.score)
  pub unspent : IsErrOf result errs.Spent → ⊥

module _ {L T : Type 0} (link : LinkOf L) (score_of : List ℕ → List ℕ) (w : Wanted T) (l l' : L)
  where
    mild_judged : (reply : RMessage) (result : Result T ClientErr) → JudgesReply score_of w reply result
        → link.read_faults l' ≡ link.read_faults l → link.write_faults l' ≡ link.write_faults l
        → Mild link score_of w l l' result
    mild_judged reply (Ok value) judged r s = record {
      sides = record { reads = r; writes = s };
      refuses = tt;
      scored = ap (told_score score_of) (sym judged.0) ∙ judged.1;
      unspent = λ e. cc;
    }
    mild_judged reply (Err (errs.Remote text)) judged r s =
        record { sides = record { reads = r; writes = s }; refuses = tt; scored = tt; unspent = λ e. cc }
    mild_judged reply (Err (errs.WrongScore want found)) judged r s = record {
      sides = record { reads = r; writes = s };
      refuses = (judged.0, judged.2);
      scored = tt;
      unspent = λ e. cc;
    }
    mild_judged reply (Err errs.NoMemory) judged r s =
        record { sides = record { reads = r; writes = s }; refuses = tt; scored = tt; unspent = λ e. cc }
    mild_judged reply (Err errs.ReadFault) judged r s = absurd judged
    mild_judged reply (Err errs.WriteFault) judged r s = absurd judged
    mild_judged reply (Err errs.Cut) judged r s = absurd judged
    mild_judged reply (Err (errs.BadReply place)) judged r s = absurd judged
    mild_judged reply (Err errs.NoVersion) judged r s = absurd judged
    mild_judged reply (Err errs.Spent) judged r s = absurd judged

    mild_wrong : (place : ℕ) → link.read_faults l' ≡ link.read_faults l
        → link.write_faults l' ≡ link.write_faults l
        → Mild link score_of w l l' (Err (errs.BadReply place))
    mild_wrong place r s =
        record { sides = record { reads = r; writes = s }; refuses = tt; scored = tt; unspent = λ e. cc }

    mild_failed : (err : ClientErr) → IsOfExchange err
        → CountsSides {T = ℕ} link l l' (Err err) → Mild link score_of w l l' (Err err)
    mild_failed errs.ReadFault about sides = record {
      sides = record { reads = sides.reads; writes = sides.writes };
      refuses = tt;
      scored = tt;
      unspent = λ e. cc;
    }
    mild_failed errs.WriteFault about sides = record {
      sides = record { reads = sides.reads; writes = sides.writes };
      refuses = tt;
      scored = tt;
      unspent = λ e. cc;
    }
    mild_failed errs.Cut about sides = record {
      sides = record { reads = sides.reads; writes = sides.writes };
      refuses = tt;
      scored = tt;
      unspent = λ e. cc;
    }
    mild_failed (errs.BadReply place) about sides = absurd about
    mild_failed (errs.Remote text) about sides = absurd about
    mild_failed (errs.WrongScore want found) about sides = absurd about
    mild_failed errs.NoVersion about sides = absurd about
    mild_failed errs.Spent about sides = absurd about
    mild_failed errs.NoMemory about sides = absurd about

    pub mild : (tag : ℕ) (frame : List ℕ) (result : Result T ClientErr)
        → ReadsReplyFrame score_of tag w frame result → link.read_faults l' ≡ link.read_faults l
        → link.write_faults l' ≡ link.write_faults l → Mild link score_of w l l' result
    mild tag frame result (inl (reply, is, judged)) r s = mild_judged reply result judged r s
    mild tag frame result (inr (place, is, wrong)) r s =
        subst (Mild link score_of w l l') (sym is) (mild_wrong place r s)

-- ---- a call

-- a request of a client that isn't spent is answered so, and leaves the link so
pub record Asked {L T : Type 0} (link : LinkOf L) (score_of : List ℕ → List ℕ) (tag : ℕ) (w : Wanted T)
    (l l' : L) (result : Result T ClientErr) : Type 0 where
  pub answers : IsTrue link.tells
      → AnswersCall score_of tag w (traffic_of link l) (traffic_of link l') result
  pub mild : Mild link score_of w l l' result

-- a frame came
pub asked_by_frame : {L T : Type 0} (link : LinkOf L) (score_of : List ℕ → List ℕ) (tag : ℕ)
    (w : Wanted T) (l l' : L) (frame : List ℕ) (result : Result T ClientErr)
    → (body : List ℕ) × IsFrame frame body
    → (IsTrue link.tells
    → MovesBytes (traffic_of link l) (traffic_of link l') (asked tag w.request) frame)
    → CountsSides {T = ℕ} link l l' (Ok 0) → ReadsReplyFrame score_of tag w frame result
    → Asked link score_of tag w l l' result
asked_by_frame link score_of tag w l l' frame result whole moves sides reads = record {
  answers = λ told. answered score_of tag w (traffic_of link l) (traffic_of link l') frame result
      whole (moves told) reads;
  mild = mild link score_of w l l' tag frame result reads sides.reads sides.writes;
}

-- it was read from a buffer in which it was written
pub asked_by_buffer : {L T : Type 0} (link : LinkOf L) (score_of : List ℕ → List ℕ) (tag : ℕ)
    (w : Wanted T) (l l' : L) (new rest now : List ℕ) (room len : ℕ)
    (result answer : Result T ClientErr) → answer ≡ result
    → now ≡ take room (new ++ rest) → length new ≡ room
    → (body : List ℕ) × IsFrame (take len new) body
    → (IsTrue link.tells
    → MovesBytes (traffic_of link l) (traffic_of link l') (asked tag w.request) (take len new))
    → CountsSides {T = ℕ} link l l' (Ok len) → ReadsReplyFrame score_of tag w (take len now) result
    → Asked link score_of tag w l l' answer
asked_by_buffer link score_of tag w l l' new rest now room len result answer answered_so is full
    whole moves sides reads =
    subst (Asked link score_of tag w l l') (sym answered_so)
    (asked_by_frame link score_of tag w l l' (take len new) result whole moves
    (record { reads = sides.reads; writes = sides.writes })
    (subst (λ (b : List ℕ). ReadsReplyFrame score_of tag w (take len b) result)
    (is ∙ take_at new rest room full) reads))

-- none came
pub asked_in_vain : {L T : Type 0} (link : LinkOf L) (score_of : List ℕ → List ℕ) (tag : ℕ)
    (w : Wanted T) (l l' : L) (err : ClientErr) (answer : Result T ClientErr) → answer ≡ Err err
    → (IsTrue link.tells → FailsWithoutReply (traffic_of link l) (traffic_of link l') tag w.request err)
    → IsOfExchange err → CountsSides {T = ℕ} link l l' (Err err)
    → Asked link score_of tag w l l' answer
asked_in_vain link score_of tag w l l' err answer answered_so fails about sides =
    subst (Asked link score_of tag w l l') (sym answered_so) (record {
      answers = λ told. inr (fails told);
      mild = mild_failed link score_of w l l' err about sides;
    })

-- of a client that is spent so after it
pub asks_so : {L T : Type 0} (link : LinkOf L) (score_of : List ℕ → List ℕ) (w : Wanted T)
    (c : ClientState L) (l' : L) (spent : Bool) (result : Result T ClientErr) → c.spent ≡ false
    → spent ≡ spent_by result → Asked link score_of c.tag w c.link l' result
    → AsksRequest link score_of w c
    (record c { link = l'; tag = (c.tag + 1) % 256; spent = spent }) result
asks_so link score_of w c l' spent result unspent is a = record {
  answers = λ told _. a.answers told;
  sides = a.mild.sides;
  refuses = a.mild.refuses;
  scored = a.mild.scored;
  spent = (λ e. absurd (a.mild.unspent e), λ t. absurd (true≢false (sym t ∙ unspent)));
  untouched = λ t. absurd (true≢false (sym t ∙ unspent));
  goes_on = λ _. ap (λ (b : Bool). record c { link = l'; tag = (c.tag + 1) % 256; spent = b }) is;
}
