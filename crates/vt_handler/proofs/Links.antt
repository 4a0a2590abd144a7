-- A session over a link, part by part, and as a whole.
use Rattle.std.proofs.Math.Seq.{drop-append_seam}
use Rattle.std.proofs.Common.{◌≡◌, ◌≢◌, drop, ℕ, ◌+◌, ◌<◌, ◌≤◌, inl, inr, List, [], ◌∷◌, ◌++◌, length, refl, sym, ◌∙◌, ap, subst, arith, append-nil, append_assoc, length-append, length-drop, Result, Ok, Err, Option, Some, None}
use Rattle.std.specs.Prelude.{◌-◌, min, Bool, true, false, if◌then◌else◌, IsTrue, IfOk, IfSome}
use Rattle.std.specs.Option.{option_or}
use Rattle.vt_base.specs.Bytes.{AreBytes, AreBytes-none, AreBytes-append}
use Rattle.vt_base.specs.declared.why.Failed.{Failed}
use Rattle.vt_base.specs.Protocol.{RMessage}
use Rattle.vt_model.specs.History.{History}
use Rattle.vt_wire.specs.Lines.{line_of}
use Rattle.vt_wire.specs.declared.line.Line.{Line}
use Rattle.vt_wire.specs.declared.line.Line.TheVariants.{Whole, More, Bad}
use Rattle.vt_wire.specs.Messages.{spelled_reply}
use Rattle.vt_session.specs.declared.Ended.{Ended}
use Rattle.vt_session.specs.declared.Ended.TheVariants.{Goodbye, Closed, Cut, Malformed, Spent, ReadFault, WriteFault, NoMemory}
use Rattle.vt_session.specs.declared.parsed.Next.{Next}
use Rattle.vt_session.specs.declared.parsed.Next.TheVariants.{Hello, Ping, Ask, Refused, End}
use Rattle.vt_session.specs.Heard.{Item, end_of, Heard}
use Rattle.vt_session.specs.Hearing.{going_on, over, MatchNext}
use Rattle.vt_session.specs.Talk.{EndsInLast, HearsAll, BreaksOff, Took, spent_len}
use Rattle.vt_session.specs.Talking.{Stage, at_line, behind_line, HearsStage, IsHeardStage, stage_with, line_heard, fed_stage, fed, Talking, needs_more, room, unheard_len, ended_at, IsOpen, EndsAnyhow, Passes, PassesItem}
use Rattle.vt_session.specs.Turns.{Turn, items_of_turns, said_pieces, output_of, server_line, causes_of, first_why}
use Rattle.vt_session.proofs.Pieces.{turns_cut}
use Rattle.vt_session.proofs.Talking.{fed_heard, none_more}
use Rattle.vt_handler.specs.Clients.{tag_of, AreReplies, IsAnswered}
use Rattle.vt_handler.specs.Links.{AdvancesStage, InputComes, Goes, SaysNext, EndsSo, EndsHere, TookAll, AllSaid, ReadCause, left_to_do, SaysOver, AnswersLink, since}
use Rattle.vt_handler.specs.Members.{StoreOf}
use Rattle.vt_handler.specs.Sessions.{Spoken, AnswersItems, AnswersNext}
use Rattle.vt_handler.specs.Taking.{TakesTurns}
use Rattle.vt_handler.specs.Writing.{WritesOut}
use Rattle.vt_handler.proofs.Items.{no_item, more_items}
use Rattle.vt_handler.proofs.Written.{waits_more, writes_more}

-- ---- replies

replies_more : (items more : List Item) (said later : List ℕ) → AreReplies items said
    → AreReplies more later → AreReplies (items ++ more) (said ++ later)
replies_more [] more said later x y = subst (λ l. AreReplies more (l ++ later)) (sym x) y
replies_more (item ∷ items) more said later x y = (
  x.0,
  x.1 ++ later,
  ap (λ l. l ++ later) x.2 ∙ append_assoc (spelled_reply (tag_of item) x.0) x.1 later,
  replies_more items more x.1 later x.3 y,
)

-- what is said of bytes that went out and wait, where no write failed
abbrev pub Wrote : Type 0 → (written waiting written' waiting' : List ℕ) → List ℕ → Type 0
Wrote P written waiting written' waiting' said =
    P → WritesOut (Ok (tt {0})) written waiting written' waiting' said

module _ {S : Type 0} (T : StoreOf S) where
  -- ---- one part behind another

  pub none_advances : {P : Type 0} (s : S) (spoken : Spoken) (written : List ℕ) (stage : Stage)
      → AdvancesStage T s s spoken spoken (Wrote P written spoken.waiting written spoken.waiting)
      stage stage []
  none_advances s spoken written stage = record {
    items = [];
    hears = λ more later ended are it. it;
    answers = λ h hold. no_item T s h spoken.failure _ hold
        (λ p. waits_more (tt {0}) written spoken.waiting spoken.waiting []
        (sym (append-nil spoken.waiting)));
    said = [];
    replies = refl;
    written = λ p. waits_more (tt {0}) written spoken.waiting spoken.waiting []
        (sym (append-nil spoken.waiting));
  }

  pub advances_more : {V P : Type 0} (r : Result V Failed) (s s' s'' : S) (old mid new : Spoken)
      (written written' written'' : List ℕ) (stage stage' stage'' : Stage) (came more : List ℕ)
      → AreBytes more
      → AdvancesStage T s s' old mid (Wrote P written old.waiting written' mid.waiting) stage stage' came
      → AdvancesStage T s' s'' mid new
      (λ said. P → WritesOut r written' mid.waiting written'' new.waiting said) stage' stage'' more
      → AdvancesStage T s s'' old new
      (λ said. P → WritesOut r written old.waiting written'' new.waiting said) stage stage''
      (came ++ more)
  advances_more {P = P} r s s' s'' old mid new written written' written''
      stage stage' stage'' came more bytes x y = record {
        items = x.items ++ y.items;
        hears = λ behind later ended are heard.
            let z = x.hears (more ++ behind) (y.items ++ later) ended
            (AreBytes-append more behind bytes are) (y.hears behind later ended are heard) in
            subst (λ b. HearsStage (stage_with stage b) ((x.items ++ y.items) ++ later) ended)
            (sym (append_assoc came more behind))
            (subst (λ i. HearsStage (stage_with stage (came ++ (more ++ behind))) i ended)
            (sym (append_assoc x.items y.items later)) z);
        answers = λ h hold.
            let before = x.answers h hold in
            more_items T r (tt {0}) s s' s'' h old.failure mid.failure new.failure
            written old.waiting written' mid.waiting written'' new.waiting x.items y.items
            before (y.answers before.takes.new before.takes.holds_it);
        said = x.said ++ y.said;
        replies = replies_more x.items y.items x.said y.said x.replies y.replies;
        written = λ p. writes_more r (tt {0}) written old.waiting written' mid.waiting x.said
            written'' new.waiting y.said (x.written p) (y.written p);
      }

  -- bytes that came in
  pub comes_advances : {P Q : Type 0} {V : Type 0} (r : Result V Failed) (s : S) (old new : Spoken)
      (written written' sent sent' left left' : List ℕ) (talking talking' : Talking)
      → new.failure ≡ old.failure → (x : InputComes P sent sent' left left' talking talking')
      → (Q → WritesOut r written old.waiting written' new.waiting [])
      → AdvancesStage T s s old new
      (λ said. Q → WritesOut r written old.waiting written' new.waiting said)
      talking.stage talking'.stage x.came
  comes_advances {Q = Q} r s old new written written' sent sent' left left' talking talking'
      failure x wrote = record {
        items = [];
        hears = λ more later ended are heard. elim x.new_is [
          | inl same ↦
              subst (λ b. HearsStage (stage_with talking.stage (b ++ more)) later ended)
              (sym same.0)
              (subst (λ (t : Talking). HearsStage (stage_with t.stage more) later ended) same.1
              heard)
          | inr is ↦ fed_heard talking.stage x.came more later ended
              (subst (λ (t : Talking). HearsStage (stage_with t.stage more) later ended) is heard)
        ];
        answers = λ h hold.
            subst (λ f. AnswersItems T s s h old.failure f
            (λ said. Q → WritesOut r written old.waiting written' new.waiting said) [])
            (sym failure) (no_item T s h old.failure _ hold wrote);
        said = [];
        replies = refl;
        written = wrote;
      }

  -- nothing was heard
  pub nothing_said : {V P : Type 0} (r : Result V Failed) (s : S) (old new : Spoken)
      (written written' : List ℕ) (stage : Stage) → new.failure ≡ old.failure
      → (P → WritesOut r written old.waiting written' new.waiting [])
      → AdvancesStage T s s old new
      (λ said. P → WritesOut r written old.waiting written' new.waiting said) stage stage []
  nothing_said {P = P} r s old new written written' stage failure wrote = record {
    items = [];
    hears = λ more later ended are it. it;
    answers = λ h hold. subst (λ f. AnswersItems T s s h old.failure f
        (λ said. P → WritesOut r written old.waiting written' new.waiting said) []) (sym failure)
        (no_item T s h old.failure _ hold wrote);
    said = [];
    replies = refl;
    written = wrote;
  }

  -- ---- what comes next

  module _ (s s' : S) (old new : Spoken) (stage stage' : Stage) where
    abbrev Waits : List ℕ → Type 0
    Waits said = new.waiting ≡ old.waiting ++ said

    abbrev SaysIt : Type 0
    SaysIt = AdvancesStage T s s' old new Waits stage stage' []

    item_advances : (item : Item) → PassesItem stage stage' item
        → ((h : History) → T.holds s h
        → AnswersItems T s s' h old.failure new.failure Waits (item ∷ []))
        → (reply : RMessage) × (new.waiting ≡ old.waiting ++ spelled_reply (tag_of item) reply) → SaysIt
    item_advances item passes answers says = record {
      items = item ∷ [];
      hears = λ more later ended are heard. passes.1 more later ended heard;
      answers = answers;
      said = spelled_reply (tag_of item) says.0;
      replies = (says.0, [], sym (append-nil (spelled_reply (tag_of item) says.0)), refl);
      written = says.1;
    }

    pub next_advances : (next : Next) → Passes next stage stage'
        → AnswersNext T s s' old new Waits next → SaysNext next old.waiting new.waiting → SaysIt
    next_advances (Hello tag) passes answers says = item_advances _ passes answers says
    next_advances (Ping tag) passes answers says = item_advances _ passes answers says
    next_advances (Ask tag operation) passes answers says = item_advances _ passes answers says
    next_advances (Refused rule tag) passes answers says = item_advances _ passes answers says
    next_advances (End ended) passes answers says = record {
      items = [];
      hears = λ more later end are heard.
          let at_end = subst (λ z. HearsStage (stage_with z more) later end) passes.0 heard in
          subst (λ i. HearsStage (stage_with stage more) i end) (sym at_end.0)
          (subst (HearsStage (stage_with stage more) []) (sym at_end.1) (passes.1 more are));
      answers = answers;
      said = [];
      replies = refl;
      written = says ∙ sym (append-nil old.waiting);
    }

  -- what waits, once what waited went out
  pub advances_out : {P : Type 0} (s s' : S) (old mid new : Spoken) (written written' : List ℕ)
      (stage stage' : Stage) (came : List ℕ)
      → (P → WritesOut (Ok (tt {0})) written old.waiting written' mid.waiting [])
      → mid.failure ≡ old.failure
      → AdvancesStage T s s' mid new (λ said. new.waiting ≡ mid.waiting ++ said) stage stage' came
      → AdvancesStage T s s' old new
      (λ said. P
      → WritesOut {T = Option Ended} (Ok None) written old.waiting written' new.waiting said)
      stage stage' came
  advances_out {P = P} s s' old mid new written written' stage stage' came wrote failure x =
      let so : (said : List ℕ) → new.waiting ≡ mid.waiting ++ said
      → P → WritesOut {T = Option Ended} (Ok None) written old.waiting written' new.waiting said =
      λ said waits p. let w = wrote p in (
        w.0,
        w.1,
        ap (λ l. w.0 ++ l) waits ∙ sym (append_assoc w.0 mid.waiting said)
            ∙ ap (λ l. l ++ said) (w.2 ∙ append-nil old.waiting),
      ) in record {
        items = x.items;
        hears = x.hears;
        answers = λ h hold. let a = x.answers h hold in record {
          turns = a.turns;
          items_are = a.items_are;
          takes = a.takes;
          written = so _ a.written;
          failure_is = a.failure_is
              ∙ ap (λ f. option_or f (first_why (causes_of a.turns))) failure;
        };
        said = x.said;
        replies = x.replies;
        written = so _ x.written;
      }

-- ---- a step

module _ {S V P : Type 0} (T : StoreOf S) (r : Result V Failed) where
  -- nothing came
  pub none_came : (s s' : S) (old new : Spoken) (written written' sent sent' left left' : List ℕ)
      (talking talking' : Talking) → (P → (sent' ≡ sent) × (left' ≡ left))
      → talking'.taken ≡ talking.taken
      → AdvancesStage T s s' old new
      (λ said. P → WritesOut r written old.waiting written' new.waiting said)
      talking.stage talking'.stage []
      → Goes T P r s s' old new written written' sent sent' left left' talking talking'
  none_came s s' old new written written' sent sent' left left' talking talking' kept taken x =
      record {
        came = [];
        bytes = AreBytes-none;
        sent_is = λ p. (kept p).0 ∙ sym (append-nil sent);
        left_is = λ p. sym (kept p).1;
        taken = omega (arith, taken);
        advances = x;
      }

  -- what waited went out
  pub went_out : (s : S) (old new : Spoken) (written written' sent sent' left left' : List ℕ)
      (talking : Talking) → new.failure ≡ old.failure → (P → (sent' ≡ sent) × (left' ≡ left))
      → (P → WritesOut r written old.waiting written' new.waiting [])
      → Goes T P r s s old new written written' sent sent' left left' talking talking
  went_out s old new written written' sent sent' left left' talking failure kept wrote =
      none_came s s old new written written' sent sent' left left' talking talking kept refl
      (nothing_said T r s old new written written' talking.stage failure wrote)

  came_taken : (sent sent' left left' : List ℕ) (talking talking' : Talking)
      (x : InputComes P sent sent' left left' talking talking')
      → talking'.taken ≡ talking.taken + length x.came
  came_taken sent sent' left left' talking talking' x = elim x.new_is [
    | inl same ↦ omega (arith, ap length same.0, ap (λ (t : Talking). t.taken) same.1)
    | inr is ↦ ap (λ (t : Talking). t.taken) is
  ]

  -- what waited went out, and then bytes came
  pub some_came : (s : S) (old new : Spoken)
      (written written' sent mid sent' left rest left' : List ℕ) (talking talking' : Talking)
      → new.failure ≡ old.failure → (P → (mid ≡ sent) × (rest ≡ left))
      → InputComes P mid sent' rest left' talking talking'
      → (P → WritesOut r written old.waiting written' new.waiting [])
      → Goes T P r s s old new written written' sent sent' left left' talking talking'
  some_came s old new written written' sent mid sent' left rest left' talking talking'
      failure kept x wrote = record {
        came = x.came;
        bytes = x.bytes;
        sent_is = λ p. x.sent_is p ∙ ap (λ l. l ++ x.came) (kept p).0;
        left_is = λ p. sym (kept p).1 ∙ x.left_is p;
        taken = came_taken mid sent' rest left' talking talking' x;
        advances = comes_advances T r s old new written written' mid sent' rest left' talking
            talking' failure x wrote;
      }

-- what went out behind what waited
pub all_out : (sent sent' written waiting written' waiting' : List ℕ) → sent' ≡ sent
    → waiting' ≡ [] → WritesOut (Ok (tt {0})) written waiting written' waiting' []
    → IsAnswered sent (written ++ waiting) → IsAnswered sent' written'
all_out sent sent' written waiting written' waiting' same none w x =
    let all : w.0 ++ [] ≡ waiting ++ [] = subst (λ l. w.0 ++ l ≡ waiting ++ []) none w.2 in
    let out : written' ≡ written ++ waiting =
    w.1 ∙ ap (λ l. written ++ l) (sym (append-nil w.0) ∙ all ∙ append-nil waiting) in
    subst (λ b. IsAnswered b written') (sym same)
    (subst (IsAnswered sent) (sym out) x)

-- ---- where it ends

ends_over : (ended : Ended) (stage : Stage) (taken : ℕ) → EndsAnyhow ended
    → stage ≡ behind_line (over ended) → EndsSo ended stage taken
ends_over Goodbye stage taken ends is =
    subst (λ s. HearsStage s [] Goodbye) (sym is) (refl, refl)
ends_over (Malformed place) stage taken ends is =
    subst (λ s. HearsStage s [] (Malformed place)) (sym is) (refl, refl)
ends_over Closed stage taken ends is = absurd ends
ends_over Cut stage taken ends is = absurd ends
ends_over Spent stage taken ends is = absurd ends
ends_over ReadFault stage taken ends is = absurd ends
ends_over WriteFault stage taken ends is = absurd ends
ends_over NoMemory stage taken ends is = absurd ends

no_end : (result : Option Ended) (t : Talking) → result ≡ None → EndsHere (Ok result) t
no_end result t is = subst (λ r. EndsHere (Ok r) t) (sym is) tt

pub next_ends : (next : Next) (result : Option Ended) (stage : Stage) (t : Talking)
    → Passes next stage t.stage
    → MatchNext next (λ item. result ≡ None) (λ ended. result ≡ Some ended)
    → ((ended : Ended) → next ≡ End ended → EndsAnyhow ended) → EndsHere (Ok result) t
next_ends (Hello tag) result stage t passes is ends = no_end result t is
next_ends (Ping tag) result stage t passes is ends = no_end result t is
next_ends (Ask tag operation) result stage t passes is ends = no_end result t is
next_ends (Refused rule tag) result stage t passes is ends = no_end result t is
next_ends (End ended) result stage t passes is ends =
    subst (λ r. EndsHere (Ok r) t) (sym is)
    (ends_over ended t.stage t.taken (ends ended refl) passes.0)

-- what ends anyhow is neither an end of the input nor a failed read
module _ (left waiting : List ℕ) where
  abbrev IsNoneOfTheInput : Result (Option Ended) Failed → Type 0
  IsNoneOfTheInput result = TookAll result left × AllSaid result waiting

  anyhow_none : (ended : Ended) → EndsAnyhow ended → IsNoneOfTheInput (Ok (Some ended))
  anyhow_none Goodbye ends = (tt, tt)
  anyhow_none (Malformed place) ends = (tt, tt)
  anyhow_none Closed ends = absurd ends
  anyhow_none Cut ends = absurd ends
  anyhow_none Spent ends = absurd ends
  anyhow_none ReadFault ends = absurd ends
  anyhow_none WriteFault ends = absurd ends
  anyhow_none NoMemory ends = absurd ends

  pub none_of_the_input : (result : Result (Option Ended) Failed)
      → IfOk result (λ ended. IfSome ended EndsAnyhow) → IsNoneOfTheInput result
  none_of_the_input (Ok None) ends = (tt, tt)
  none_of_the_input (Ok (Some ended)) ends = anyhow_none ended ends
  none_of_the_input (Err failed) ends = (tt, tt)

-- a session that still has something to say has met no failed read
pub no_read_fault : (ended : Ended) (waiting : List ℕ) (old new : ℕ) → ReadCause ended old new
    → AllSaid (Ok (Some ended)) waiting → (waiting ≡ [] → ⊥) → new ≡ old
no_read_fault Goodbye waiting old new same said some = same
no_read_fault (Malformed place) waiting old new same said some = same
no_read_fault Closed waiting old new same said some = same
no_read_fault Cut waiting old new same said some = same
no_read_fault Spent waiting old new same said some = same
no_read_fault ReadFault waiting old new rose said some = absurd (some said)
no_read_fault WriteFault waiting old new same said some = same
no_read_fault NoMemory waiting old new same said some = same

-- ---- where more comes

most_left : (b : Bool) (x y taken : ℕ) → 0 < (if b then min x (y - taken) else 0)
    → (if b then min x (y - taken) else 0) + taken ≤ y
most_left true x y taken some = omega arith
most_left false x y taken some = absurd (omega arith)

pub room_most : (t : Talking) → 0 < room t → room t + t.taken ≤ spent_len
room_most t some = most_left (needs_more t.stage) _ spent_len t.taken some

below : (a b : ℕ) → 0 < a → a ≤ b → 0 < b
below a b some fits = omega arith

at_most : (r n taken y : ℕ) → r + taken ≤ y → n ≤ r → n + taken ≤ y
at_most r n taken y both fits = omega arith

left_if : (b : Bool) (x y taken : ℕ) → 0 < (if b then min x (y - taken) else 0) → taken < y
left_if true x y taken some = omega arith
left_if false x y taken some = absurd (omega arith)

pub some_left : (t : Talking) → 0 < room t → t.taken < spent_len
some_left t some = left_if (needs_more t.stage) _ spent_len t.taken some

ends_so : (rest : List ℕ) (stage : Stage) (taken : ℕ) → HearsStage stage [] (end_of rest)
    → taken < spent_len → EndsSo (end_of rest) stage taken
ends_so [] stage taken heard less = (heard, less)
ends_so (b ∷ rest) stage taken heard less = (heard, less)

at_stage : (stage : Stage) (taken : ℕ) → IsTrue (needs_more stage)
    → HearsStage stage [] (ended_at stage) → taken < spent_len → EndsSo (ended_at stage) stage taken
at_stage (at_line bytes) taken needs heard less = ends_so bytes (at_line bytes) taken heard less
at_stage (behind_line (going_on left)) taken needs heard less =
    ends_so left.bytes (behind_line (going_on left)) taken heard less
at_stage (behind_line (over ended)) taken needs heard less = absurd (cc)

pub ends_at : (t : Talking) → IsTrue (needs_more t.stage)
    → HearsStage t.stage [] (ended_at t.stage) → t.taken < spent_len
    → EndsSo (ended_at t.stage) t.stage t.taken
ends_at t needs heard less = at_stage t.stage t.taken needs heard less

heard_len : (input : List ℕ) (line : Line) → unheard_len (line_heard input line) ≤ length input
heard_len input (Whole len offered) = omega (arith, length-drop len input)
heard_len input More = omega arith
heard_len input (Bad place) = omega arith

fed_len : (stage : Stage) (piece : List ℕ)
    → unheard_len (fed_stage stage piece) ≤ unheard_len stage + length piece
fed_len (at_line bytes) piece = omega (
  arith,
  heard_len (bytes ++ piece) (line_of (bytes ++ piece)),
  length-append bytes piece,
)
fed_len (behind_line (going_on left)) piece = omega (arith, length-append left.bytes piece)
fed_len (behind_line (over ended)) piece = omega arith

-- what is left to do gets less by what comes
pub fed_less : (t : Talking) (piece : List ℕ) → 0 < length piece
    → t.taken + length piece ≤ spent_len → left_to_do (fed t piece) < left_to_do t
fed_less t piece some fits = omega (arith, fed_len t.stage piece, some, fits)

-- so less is left to do
pub came_less : (t t' : Talking) (came : List ℕ) → t' ≡ fed t came → 0 < length came
    → length came ≤ room t → left_to_do t' < left_to_do t
came_less t t' came is some fits =
    let most : length came + t.taken ≤ spent_len = at_most (room t) (length came) t.taken spent_len
    (room_most t (below (length came) (room t) some fits)) fits in
    subst (λ z. left_to_do z < left_to_do t) (sym is)
    (fed_less t came some (omega (arith, most)))

-- ---- as a whole

-- a session so far, from its first byte on
abbrev pub first : Spoken
first = record { waiting = server_line; failure = None }

module _ {S : Type 0} (T : StoreOf S) (s s' : S) (new : Spoken) (written sent : List ℕ)
    (stage : Stage) where
  abbrev SoFar : (List ℕ → Type 0) → Type 0
  SoFar writes = AdvancesStage T s s' first new writes (at_line []) stage sent

  heard_then : (writes : List ℕ → Type 0) (x : SoFar writes) (later : List Item) (ended : Ended)
      → HearsStage stage later ended → Heard sent (x.items ++ later) ended
  heard_then writes x later ended h =
      subst (λ b. Heard b (x.items ++ later) ended) (append-nil sent)
      (x.hears [] later ended (λ i. omega arith)
      (subst (λ t. HearsStage t later ended) (sym (none_more stage)) h))

  heard_here : (writes : List ℕ → Type 0) (x : SoFar writes) (ended : Ended)
      → HearsStage stage [] ended → Heard sent x.items ended
  heard_here writes x ended h =
      subst (λ i. Heard sent i ended) (append-nil x.items) (heard_then writes x [] ended h)

  -- what came was answered, once what waits went out
  pub all_answered : {P : Type 0} → SoFar (Wrote P [] server_line written new.waiting)
      → IsOpen stage → P → IsAnswered sent (written ++ new.waiting)
  all_answered x unfinished p =
      let w = x.written p in
      let out : written ++ new.waiting ≡ server_line ++ x.said =
      ap (λ l. l ++ new.waiting) w.1 ∙ w.2 in
      elim unfinished [
        | inl closed ↦ record {
          items = x.items;
          ended = Closed;
          said = x.said;
          heard = heard_here _ x Closed closed;
          goes_on = inl refl;
          replies = x.replies;
          written_is = out;
        }
        | inr cut ↦ record {
          items = x.items;
          ended = Cut;
          said = x.said;
          heard = heard_here _ x Cut cut;
          goes_on = inr refl;
          replies = x.replies;
          written_is = out;
        }
      ]

  -- ---- to its end

  module _ (h : History) (hold : T.holds s h) where
    breaks : (turns : List Turn)
        → ((e : Ended) → HearsStage stage [] e → HearsAll sent written turns e)
        → IsOpen stage → BreaksOff sent written turns
    breaks turns all unfinished = elim unfinished [
      | inl closed ↦ inl (all Closed closed)
      | inr cut ↦ inr (all Cut cut)
    ]

    carries : (turns : List Turn) (ended : Ended)
        → ((e : Ended) → HearsStage stage [] e → HearsAll sent written turns e)
        → EndsSo ended stage (length sent) → SaysOver ended sent turns [] written
    carries turns Goodbye all ends = (refl, all Goodbye ends)
    carries turns (Malformed place) all ends = (refl, all (Malformed place) ends)
    carries turns Closed all ends = (refl, (all Closed ends.0, ends.1))
    carries turns Cut all ends = (refl, (all Cut ends.0, ends.1))
    carries turns Spent all ends = (refl, (breaks turns all ends.0, ends.1))
    carries turns ReadFault all ends = (refl, (breaks turns all ends.0, ends.1))
    carries turns WriteFault all ends = absurd ends
    carries turns NoMemory all ends = absurd ends

    pub to_its_end : {P : Type 0} (ended : Ended) → SoFar (Wrote P [] server_line written [])
        → EndsSo ended stage (length sent) → P
        → AnswersLink T s s' h new.failure sent written ended
    to_its_end ended x ends p =
        let a = x.answers h hold in
        let w = a.written p in
        let is : written ≡ output_of a.turns = w.1 ∙ sym (append-nil w.0) ∙ w.2 in
        record {
          turns = a.turns;
          unsaid = [];
          says = carries a.turns ended (λ e heard. (
            subst (λ i. Heard sent i e) (sym a.items_are) (heard_here _ x e heard),
            is,
          )) ends;
          takes = subst (TakesTurns T s s' h) (sym (append-nil a.turns)) a.takes;
          failure_is = a.failure_is
              ∙ ap (λ (t : List Turn). first_why (causes_of t)) (sym (append-nil a.turns));
        }

    -- ---- to a write that failed

    pub to_a_fault : {P : Type 0} (failed : Failed)
        → SoFar (λ said. P
        → WritesOut {T = Unit {0}} (Err failed) [] server_line written new.waiting said)
        → IsHeardStage stage → P
        → AnswersLink T s s' h new.failure sent written WriteFault
    to_a_fault failed x left p =
        let a = x.answers h hold in
        let w = a.written p in
        let cut = turns_cut a.turns w.0 w.2.0 (sym w.2.1) in
        let later = left.0 in
        let items : x.items ++ later ≡ items_of_turns (cut.0 ++ cut.1) ++ later =
        ap (λ (i : List Item). i ++ later) (sym a.items_are ∙ ap items_of_turns cut.2) in
        record {
          turns = cut.0;
          unsaid = cut.1;
          says = (
            later,
            left.1,
            subst (λ i. Heard sent i left.1) items (heard_then _ x later left.1 left.2),
            subst (EndsInLast (said_pieces cut.0)) (sym w.1) cut.3,
          );
          takes = subst (TakesTurns T s s' h) cut.2 a.takes;
          failure_is = a.failure_is ∙ ap (λ (t : List Turn). first_why (causes_of t)) cut.2;
        }

-- ---- a session that goes on

-- what came behind is what was added
pub since_is : (before after more : List ℕ) → after ≡ before ++ more → since before after ≡ more
since_is before after more is =
    ap (drop (length before)) is ∙ drop-append_seam before more

-- what was written behind what was there
out_of : {V : Type 0} (r : Result V Failed) (base waiting written' waiting' said : List ℕ)
    → WritesOut r base waiting written' waiting' said
    → (out : List ℕ) × (written' ≡ base ++ out) × WritesOut r [] waiting out waiting' said
out_of (Ok done) base waiting written' waiting' said w = (w.0, w.1, (w.0, refl, w.2))
out_of (Err failed) base waiting written' waiting' said w = (w.0, w.1, (w.0, refl, w.2))

writes_since : {V : Type 0} (r : Result V Failed) (base waiting written' waiting' said : List ℕ)
    → WritesOut r base waiting written' waiting' said
    → WritesOut r [] waiting (since base written') waiting' said
writes_since r base waiting written' waiting' said w =
    let out = out_of r base waiting written' waiting' said w in
    subst (λ o. WritesOut r [] waiting o waiting' said)
    (sym (since_is base written' out.0 out.1)) out.2

-- So much came, and so much of it was answered, behind what had come and gone before.
pub record InSession {S : Type 0} (T : StoreOf S) (s s' : S) (new : Spoken) (P : Type 0)
    (left left' sent₀ sent written₀ written : List ℕ) (talking : Talking) : Type 0 where
  pub came : List ℕ
  pub so_far : AdvancesStage T s s' first new (Wrote P written₀ server_line written new.waiting)
      (at_line []) talking.stage came
  pub taken : talking.taken ≡ length came
  pub sent_is : P → sent ≡ sent₀ ++ came
  pub left_is : P → left ≡ came ++ left'

module _ {S : Type 0} (T : StoreOf S) (s s' : S) (new : Spoken) (stage stage' : Stage)
    (came : List ℕ) where
  -- the same, of what was written since
  advances_since : {V P : Type 0} (r : Result V Failed) (base written : List ℕ)
      → AdvancesStage T s s' first new
      (λ said. P → WritesOut r base server_line written new.waiting said) stage stage' came
      → AdvancesStage T s s' first new
      (λ said. P → WritesOut r [] server_line (since base written) new.waiting said)
      stage stage' came
  advances_since {P = P} r base written x =
      let so : (said : List ℕ) → (P → WritesOut r base server_line written new.waiting said)
      → P → WritesOut r [] server_line (since base written) new.waiting said =
      λ said w p. writes_since r base server_line written new.waiting said (w p) in record {
        items = x.items;
        hears = x.hears;
        answers = λ h hold. let a = x.answers h hold in record {
          turns = a.turns;
          items_are = a.items_are;
          takes = a.takes;
          written = so _ a.written;
          failure_is = a.failure_is;
        };
        said = x.said;
        replies = x.replies;
        written = so _ x.written;
      }

module _ {S : Type 0} (T : StoreOf S) where
  pub session_begins : {P : Type 0} (s : S) (left sent written : List ℕ)
      → InSession T s s first P left left sent sent written written
      (record { stage = at_line []; taken = 0 })
  session_begins {P = P} s left sent written =
      let wrote : Wrote P written server_line written server_line [] =
      λ p. ([], sym (append-nil written), sym (append-nil server_line)) in record {
        came = [];
        so_far = record {
          items = [];
          hears = λ more later ended are it. it;
          answers = λ h hold. no_item T s h None _ hold wrote;
          said = [];
          replies = refl;
          written = wrote;
        };
        taken = refl;
        sent_is = λ p. sym (append-nil sent);
        left_is = λ p. refl;
      }

  module _ {P : Type 0} (s s' : S) (new : Spoken) (left left' sent₀ sent written₀ written : List ℕ)
      (talking : Talking)
      (x : InSession T s s' new P left left' sent₀ sent written₀ written talking) where
    -- what came was answered, once what waits went out
    pub session_answered : P → (sent₀ ≡ []) × (written₀ ≡ []) → IsOpen talking.stage
        → IsAnswered sent (written ++ new.waiting)
    session_answered p begins unfinished =
        subst (λ b. IsAnswered b (written ++ new.waiting))
        (sym (x.sent_is p ∙ ap (λ l. l ++ x.came) begins.0))
        (all_answered T s s' new written x.came talking.stage {P = P}
        (subst (λ b. AdvancesStage T s s' first new (Wrote P b server_line written new.waiting)
        (at_line []) talking.stage x.came) begins.1 x.so_far) unfinished p)

    pub session_taken : P → talking.taken ≡ length (since sent₀ sent)
    session_taken p = x.taken ∙ ap length (sym (since_is sent₀ sent x.came (x.sent_is p)))

  module _ {P V : Type 0} (s s' s'' : S) (mid new : Spoken)
      (left left' left'' sent₀ sent sent' written₀ written written' : List ℕ)
      (talking talking' : Talking)
      (x : InSession T s s' mid P left left' sent₀ sent written₀ written talking) where
    abbrev Going : Result V Failed → Type 0
    Going r = Goes T P r s' s'' mid new written written' sent sent' left' left'' talking talking'

    sent_now : (r : Result V Failed) (g : Going r) → P → sent' ≡ sent₀ ++ (x.came ++ g.came)
    sent_now r g p = g.sent_is p ∙ ap (λ l. l ++ g.came) (x.sent_is p)
        ∙ append_assoc sent₀ x.came g.came

    since_now : (r : Result V Failed) (g : Going r) → P → since sent₀ sent' ≡ x.came ++ g.came
    since_now r g p = since_is sent₀ sent' (x.came ++ g.came) (sent_now r g p)

    left_now : (r : Result V Failed) (g : Going r) → P → left ≡ (x.came ++ g.came) ++ left''
    left_now r g p =
        x.left_is p ∙ ap (λ l. x.came ++ l) (g.left_is p) ∙ sym (append_assoc x.came g.came left'')

    taken_now : (r : Result V Failed) (g : Going r) → talking'.taken ≡ length (x.came ++ g.came)
    taken_now r g =
        g.taken ∙ ap (λ n. n + length g.came) x.taken ∙ sym (length-append x.came g.came)

    advances_now : (r : Result V Failed) (g : Going r) → AdvancesStage T s s'' first new
        (λ said. P → WritesOut r written₀ server_line written' new.waiting said)
        (at_line []) talking'.stage (x.came ++ g.came)
    advances_now r g =
        advances_more T {V = V} {P = P} r s s' s'' first mid new written₀ written written'
        (at_line []) talking.stage talking'.stage x.came g.came g.bytes x.so_far g.advances

    -- a step that went well
    pub session_on : (done : V) → Going (Ok done)
        → InSession T s s'' new P left left'' sent₀ sent' written₀ written' talking'
    session_on done g = record {
      came = x.came ++ g.came;
      so_far = advances_now (Ok done) g;
      taken = taken_now (Ok done) g;
      sent_is = sent_now (Ok done) g;
      left_is = left_now (Ok done) g;
    }

    -- one in which a write failed
    pub session_fails : (failed : Failed) → Going (Err failed) → IsHeardStage talking'.stage
        → (h : History) → T.holds s h → P
        → AnswersLink T s s'' h new.failure (since sent₀ sent') (since written₀ written') WriteFault
    session_fails failed g heard h hold p =
        subst (λ b. AnswersLink T s s'' h new.failure b (since written₀ written') WriteFault)
        (sym (since_now (Err failed) g p))
        (to_a_fault T s s'' new (since written₀ written') (x.came ++ g.came) talking'.stage h hold
        {P = P} failed
        (advances_since T s s'' new (at_line []) talking'.stage (x.came ++ g.came) {V = V} {P = P}
        (Err failed) written₀ written' (advances_now (Err failed) g)) heard p)

    pub taken_fails : (failed : Failed) → Going (Err failed) → P
        → talking'.taken ≡ length (since sent₀ sent')
    taken_fails failed g p =
        taken_now (Err failed) g ∙ ap length (sym (since_now (Err failed) g p))

    pub written_fails : (failed : Failed) → Going (Err failed) → P
        → written' ≡ written₀ ++ since written₀ written'
    written_fails failed g p =
        let w = (advances_now (Err failed) g).written p in
        w.1 ∙ ap (λ l. written₀ ++ l) (sym (since_is written₀ written' w.0 w.1))

    pub took_fails : (failed : Failed) → Going (Err failed) → P
        → Took left (since sent₀ sent') left'' WriteFault
    took_fails failed g p = record {
      parts = left_now (Err failed) g p
          ∙ ap (λ l. l ++ left'') (sym (since_now (Err failed) g p));
      closed = λ e. absurd (cc);
      cut = λ e. absurd (cc);
    }

  module _ {P : Type 0} (s s' : S) (new : Spoken)
      (left left' sent₀ sent written₀ written : List ℕ) (talking : Talking)
      (x : InSession T s s' new P left left' sent₀ sent written₀ written talking) where
    pub session_written : P → written ≡ written₀ ++ since written₀ written
    session_written p =
        let w = x.so_far.written p in
        w.1 ∙ ap (λ l. written₀ ++ l) (sym (since_is written₀ written w.0 w.1))

    -- its end, with nothing left to write
    pub session_ends : (ended : Ended) → new.waiting ≡ []
        → EndsSo ended talking.stage talking.taken → (h : History) → T.holds s h → P
        → AnswersLink T s s' h new.failure (since sent₀ sent) (since written₀ written) ended
    session_ends ended none ends h hold p =
        subst (λ b. AnswersLink T s s' h new.failure b (since written₀ written) ended)
        (sym (since_is sent₀ sent x.came (x.sent_is p)))
        (to_its_end T s s' new (since written₀ written) x.came talking.stage h hold {P = P} ended
        (subst (λ w. AdvancesStage T s s' first new (Wrote P [] server_line (since written₀ written) w)
        (at_line []) talking.stage x.came) none
        (advances_since T s s' new (at_line []) talking.stage x.came {V = Unit {0}} {P = P}
        (Ok tt) written₀ written x.so_far))
        (subst (EndsSo ended talking.stage) x.taken ends) p)

module _ {S : Type 0} (T : StoreOf S) where
  -- what waits goes out at the end, or the write of it fails
  module _ {P : Type 0} (s s' : S) (old new : Spoken)
      (left left' left'' sent₀ sent sent' written₀ written written' : List ℕ) (talking : Talking)
      (x : InSession T s s' old P left left' sent₀ sent written₀ written talking)
      (same : new.failure ≡ old.failure) (kept : P → (sent' ≡ sent) × (left'' ≡ left')) where
    out : {V : Type 0} (r : Result V Failed)
        → (P → WritesOut r written old.waiting written' new.waiting [])
        → Goes T P r s' s' old new written written' sent sent' left' left'' talking talking
    out {V} r wrote = went_out {V = V} {P = P} T r s' old new written written' sent sent' left'
        left'' talking same kept wrote

    pub out_session : {V : Type 0} (done : V)
        → (P → WritesOut (Ok done) written old.waiting written' new.waiting [])
        → InSession T s s' new P left left'' sent₀ sent' written₀ written' talking
    out_session {V} done wrote =
        session_on T {P = P} {V = V} s s' s' old new left left' left'' sent₀ sent sent' written₀
        written written' talking talking x done (out (Ok done) wrote)

    pub out_ends : {V : Type 0} (done : V) (ended : Ended)
        → (P → WritesOut (Ok done) written old.waiting written' new.waiting [])
        → new.waiting ≡ [] → EndsSo ended talking.stage talking.taken
        → (h : History) → T.holds s h → P
        → AnswersLink T s s' h new.failure (since sent₀ sent') (since written₀ written') ended
    out_ends {V} done ended wrote none ends =
        session_ends T {P = P} s s' new left left'' sent₀ sent' written₀ written' talking
        (out_session {V = V} done wrote) ended none ends

    pub out_written : {V : Type 0} (done : V)
        → (P → WritesOut (Ok done) written old.waiting written' new.waiting [])
        → P → written' ≡ written₀ ++ since written₀ written'
    out_written {V} done wrote =
        session_written T {P = P} s s' new left left'' sent₀ sent' written₀ written' talking
        (out_session {V = V} done wrote)

    pub out_fails : (failed : Failed)
        → (P → WritesOut {T = Unit {0}} (Err failed) written old.waiting written' new.waiting [])
        → IsHeardStage talking.stage
        → (h : History) → T.holds s h → P
        → AnswersLink T s s' h new.failure (since sent₀ sent') (since written₀ written') WriteFault
    out_fails failed wrote heard =
        session_fails T {P = P} {V = Unit {0}} s s' s' old new left left' left'' sent₀ sent sent'
        written₀ written written' talking talking x failed (out {V = Unit {0}} (Err failed) wrote)
        heard

    pub out_written_fails : (failed : Failed)
        → (P → WritesOut {T = Unit {0}} (Err failed) written old.waiting written' new.waiting [])
        → P → written' ≡ written₀ ++ since written₀ written'
    out_written_fails failed wrote =
        written_fails T {P = P} {V = Unit {0}} s s' s' old new left left' left'' sent₀ sent sent'
        written₀ written written' talking talking x failed (out {V = Unit {0}} (Err failed) wrote)

took_all : (ended : Ended) (left : List ℕ) → TookAll (Ok (Some ended)) left
    → ((ended ≡ Closed) → left ≡ []) × ((ended ≡ Cut) → left ≡ [])
took_all Goodbye left it = (λ e. absurd (cc), λ e. absurd (cc))
took_all Closed left it = (λ e. it, λ e. absurd (cc))
took_all Cut left it = (λ e. absurd (cc), λ e. it)
took_all (Malformed place) left it = (λ e. absurd (cc), λ e. absurd (cc))
took_all Spent left it = (λ e. absurd (cc), λ e. absurd (cc))
took_all ReadFault left it = (λ e. absurd (cc), λ e. absurd (cc))
took_all WriteFault left it = (λ e. absurd (cc), λ e. absurd (cc))
took_all NoMemory left it = (λ e. absurd (cc), λ e. absurd (cc))

pub took_ends : {S : Type 0} (T : StoreOf S) {P : Type 0} (s s' : S) (new : Spoken)
    (left left' sent₀ sent written₀ written : List ℕ) (talking : Talking) (ended : Ended)
    → InSession T s s' new P left left' sent₀ sent written₀ written talking
    → (P → TookAll (Ok (Some ended)) left') → P → Took left (since sent₀ sent) left' ended
took_ends T s s' new left left' sent₀ sent written₀ written talking ended x it p =
    let all = took_all ended left' (it p) in record {
      parts = x.left_is p
          ∙ ap (λ l. l ++ left') (sym (since_is sent₀ sent x.came (x.sent_is p)));
      closed = all.0;
      cut = all.1;
    }

-- want of memory is no end of a session that began
pub ends_known : (ended : Ended) (stage : Stage) (taken : ℕ) → EndsSo ended stage taken
    → ended ≢ NoMemory
ends_known Goodbye stage taken it e = absurd (cc)
ends_known Closed stage taken it e = absurd (cc)
ends_known Cut stage taken it e = absurd (cc)
ends_known (Malformed place) stage taken it e = absurd (cc)
ends_known Spent stage taken it e = absurd (cc)
ends_known ReadFault stage taken it e = absurd (cc)
ends_known WriteFault stage taken it e = absurd it
ends_known NoMemory stage taken it e = absurd it
