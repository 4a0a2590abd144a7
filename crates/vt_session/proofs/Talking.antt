-- What comes next of an input that comes in, and what is heard behind it.
use Rattle.std.proofs.Common.{◌≡◌, ℕ, ◌+◌, ◌||◌, ◌<◌, ◌≤◌, Bool, true, false, List, [], ◌∷◌, ◌++◌, length, take, drop, refl, inl, inr, ◌⊎◌, sym, ◌∙◌, ap, subst, arith, append_assoc, append-nil, length-append}
use Rattle.std.specs.Prelude.{IsTrue, nat_lt, min, ◌-◌, if◌then◌else◌, Option, Some, None}
use Rattle.std.proofs.lemmas.List.{take-append-drop}
use Rattle.std.proofs.lemmas.Bool.{le-ltb}
use Rattle.std.proofs.lemmas.Bool.Decides.{Decides-ltb}
use Rattle.byteorder.specs.Numbers.{big_from-lt}
use Rattle.vt_base.specs.Bytes.{AreBytes, AreBytes-append}
use Rattle.vt_wire.specs.Frames.{framed, frame_len, IsPartial}
use Rattle.vt_wire.specs.Lines.{line_of}
use Rattle.vt_wire.specs.declared.line.Line.{Line}
use Rattle.vt_wire.specs.declared.line.Line.TheVariants.{Whole, More, Bad}
use Rattle.vt_wire.proofs.Frames.{bytes-drop, same_framed, frame_len-framed, length-framed}
use Rattle.vt_wire.proofs.Forms.{bytes-front}
use Rattle.vt_wire.proofs.WholeLines.{line_stays, more_is}
use Rattle.vt_session.specs.declared.Ended.{Ended}
use Rattle.vt_session.specs.declared.Ended.TheVariants.{Closed, Cut}
use Rattle.vt_session.specs.declared.parsed.Next.{Next}
use Rattle.vt_session.specs.declared.parsed.Next.TheVariants.{Hello, Ping, Ask, Refused, End}
use Rattle.vt_session.specs.declared.talker.Phase.{Phase}
use Rattle.vt_session.specs.declared.talker.Phase.TheVariants.{AtLine, BehindLine, Over}
use Rattle.vt_session.specs.Heard.{Item, greets, end_of, Hears, Unheard, HearsRest, HearsBehind, Heard}
use Rattle.vt_session.specs.Hearing.{going_on, over, MatchNext}
use Rattle.vt_session.specs.Parsed.{is_hello, HearsFrame, EndsAtFrame, FrameGives, IsFrontFrame}
use Rattle.vt_session.specs.Talker.{stage_of, HoldsIn, IsPhaseBehind}
use Rattle.vt_session.specs.Talk.{spent_len}
use Rattle.vt_session.specs.Talking.{Stage, at_line, behind_line, Talking, fed, room, HearsStage, IsHeardStage, stage_with, line_heard, fed_stage, needs_more, IsOpen, ended_at, EndsAnyhow, IsNextHeard, PassesItem, PassesEnd, Passes}
use Rattle.vt_session.proofs.Hearings.{HearsBehindFrame, hears_one, going_on_heard, heard_some, line_more}
use Rattle.vt_session.proofs.Parsing.{front_frame, front_behind, rest_end, rest_partial, next_weaker, item_given}

-- ---- what was fed

pub stage_heard : (phase : Phase) (place : ℕ) (bytes : List ℕ) → AreBytes bytes
    → IsHeardStage (stage_of phase place bytes)
stage_heard AtLine place bytes are = let r = heard_some bytes are in (r.0, r.1, r.2)
stage_heard (BehindLine offered greeted) place bytes are = going_on_heard _ are
stage_heard (Over ended) place bytes are = ([], ended, (refl, refl))

pub none_more : (stage : Stage) → stage_with stage [] ≡ stage
none_more (at_line bytes) = ap at_line (append-nil bytes)
none_more (behind_line (going_on left)) =
    ap (λ b. behind_line (going_on (record left { bytes = b }))) (append-nil left.bytes)
none_more (behind_line (over ended)) = refl

line_fed : (input more : List ℕ) (line : Line) (items : List Item) (ended : Ended)
    → line_of input ≡ line → HearsStage (stage_with (line_heard input line) more) items ended
    → Heard (input ++ more) items ended
line_fed input more (Whole len offered) items ended is x =
    subst (λ l. HearsBehind (input ++ more) l items ended)
    (sym (line_stays input more (λ h. let k : Whole len offered ≡ More = sym is ∙ h in cc) ∙ is))
    (subst (λ l. HearsRest l items ended) (sym (line_more input more len offered is)) x)
line_fed input more More items ended is x = x
line_fed input more (Bad place) items ended is x =
    subst (λ l. HearsBehind (input ++ more) l items ended)
    (sym (line_stays input more (λ h. let k : Bad place ≡ More = sym is ∙ h in cc) ∙ is)) x

-- what was fed is heard with what comes behind it
pub fed_heard : (stage : Stage) (piece more : List ℕ) (items : List Item) (ended : Ended)
    → HearsStage (stage_with (fed_stage stage piece) more) items ended
    → HearsStage (stage_with stage (piece ++ more)) items ended
fed_heard (at_line bytes) piece more items ended x =
    subst (λ b. Heard b items ended) (append_assoc bytes piece more)
    (line_fed (bytes ++ piece) more (line_of (bytes ++ piece)) items ended refl x)
fed_heard (behind_line (going_on left)) piece more items ended x =
    subst (λ b. HearsRest (record left { bytes = b }) items ended)
    (append_assoc left.bytes piece more) x
fed_heard (behind_line (over end)) piece more items ended x = x

-- ---- where more is needed

partial : (left : Unheard) → IsTrue (nat_lt (length left.bytes) (frame_len left.bytes))
    → IsPartial left.bytes
partial left needs = (Decides-ltb (length left.bytes) (frame_len left.bytes)).0 needs

pub bytes_take : (n : ℕ) (bytes : List ℕ) → AreBytes bytes → AreBytes (take n bytes)
bytes_take n bytes are =
    bytes-front (take n bytes) (drop n bytes) (subst AreBytes (sym (take-append-drop n bytes)) are)

-- there is room for a byte
pub some_room : (phase : Phase) (place : ℕ) (bytes : List ℕ) → AreBytes bytes
    → HoldsIn phase place bytes → IsTrue (needs_more (stage_of phase place bytes))
    → length bytes < 65537
some_room AtLine place bytes are front needs = omega (arith, (more_is bytes front.1).1)
some_room (BehindLine offered greeted) place bytes are front needs =
    omega (arith, (Decides-ltb (length bytes) (frame_len bytes)).0 needs, big_from-lt 0 2 bytes are)
some_room (Over ended) place bytes are front needs = absurd (cc)

-- ---- what comes next is one

module _ {P : Item → Type 0} {R : Ended → Type 0} {X : Type 0} (f : (item : Item) → P item → X)
    (g : (ended : Ended) → R ended → X) where
  by_next : (next : Next) → MatchNext next P R → X
  by_next (Hello tag) x = f _ x
  by_next (Ping tag) x = f _ x
  by_next (Ask tag operation) x = f _ x
  by_next (Refused rule tag) x = f _ x
  by_next (End ended) x = g ended x

module _ (left : Unheard) (body : List ℕ) where
  -- the frame alone, with nothing behind it
  abbrev Alone : List Item → Ended → Type 0
  Alone items ended =
      Hears left.offered left.greeted left.place (body ∷ []) [] items ended

  alone_one : (a b : List Item) (e f : Ended) → Alone a e → Alone b f → (a ≡ b) × (e ≡ f)
  alone_one a b e f x y =
      hears_one left.offered left.greeted left.place (body ∷ []) [] a b e f x y

  alone_item : (item : Item) → HearsFrame left body item → Alone (item ∷ []) Closed
  alone_item item x = x [] [] [] Closed (refl, refl)

  alone_end : (ended : Ended) → EndsAtFrame left body ended → Alone [] ended
  alone_end ended x = x [] []

  -- what holds of one that comes next holds of each
  module _ (P : Item → Type 0) (Q : Ended → Type 0) (other : Next)
      (theirs : FrameGives left body other) where
    by_item : (item : Item) → HearsFrame left body item × P item → MatchNext other P Q
    by_item item x = next_weaker
        (λ b y. let same = (alone_one _ _ _ _ (alone_item item x.0) (alone_item b y)).0 in
        let is : item ≡ b = cc in subst P is x.1)
        (λ e y. let same = (alone_one _ _ _ _ (alone_item item x.0) (alone_end e y)).0 in
        absurd (cc))
        other theirs

    by_end : (ended : Ended) → EndsAtFrame left body ended × Q ended → MatchNext other P Q
    by_end ended x = next_weaker
        (λ b y. let same = (alone_one _ _ _ _ (alone_end ended x.0) (alone_item b y)).0 in
        absurd (cc))
        (λ e y. subst Q (alone_one _ _ _ _ (alone_end ended x.0) (alone_end e y)).1 x.1)
        other theirs

    pub each_next : (next : Next)
        → MatchNext next (λ item. HearsFrame left body item × P item)
        (λ ended. EndsAtFrame left body ended × Q ended) → MatchNext other P Q
    each_next next x = by_next by_item by_end next x

same_body : (left : Unheard) (next other : Next) (len len' : ℕ) (x : IsFrontFrame left next len)
    (y : IsFrontFrame left other len') → y.body ≡ x.body
same_body left next other len len' x y =
    (same_framed y.body x.body y.behind x.behind y.counted x.counted
    (sym y.bytes_are ∙ x.bytes_are)).0

-- a frame ends a session whatever comes in behind
frame_ends : (left : Unheard) (body : List ℕ) (ended : Ended) → EndsAtFrame left body ended
    → EndsAnyhow ended
frame_ends left [] ended x = let is = (x [] []).1 in subst EndsAnyhow (sym is) tt
frame_ends left (type ∷ []) ended x = let is = (x [] []).1 in subst EndsAnyhow (sym is) tt
frame_ends left (type ∷ tag ∷ parameters) ended x =
    let h = x [] [] in
    let Ends : Option Item → Type 0 =
    HearsBehindFrame left.offered left.greeted
    (left.place + length (framed (type ∷ tag ∷ parameters))) [] [] [] ended in
    elim (h.0) as (λ meant. Ends meant → EndsAnyhow ended) [
      | None ↦ λ is. let e = is.1 in subst EndsAnyhow (sym e) tt
      | Some item ↦ λ is. let e = is.1 in absurd (cc)
    ] h.2

pub front_ends : (left : Unheard) (next : Next) (len : ℕ) (ended : Ended) → IsFrontFrame left next len
    → next ≡ End ended → EndsAnyhow ended
front_ends left next len ended x is =
    frame_ends left x.body ended (subst (FrameGives left x.body) is x.gives)

-- ---- behind it

module _ (left : Unheard) (next : Next) (len : ℕ) (x : IsFrontFrame left next len) where
  with_bytes : (more : List ℕ) → left.bytes ++ more ≡ framed x.body ++ (x.behind ++ more)
  with_bytes more = ap (λ b. b ++ more) x.bytes_are ∙ append_assoc (framed x.body) x.behind more

  -- an item, and the bytes behind its frame
  module _ (greeted : Bool) (place : ℕ) (bytes : List ℕ) (moved : place ≡ left.place + len)
      (rest : bytes ≡ drop len left.bytes) where
    abbrev now : Unheard
    now = record { offered = left.offered; greeted = greeted; place = place; bytes = bytes }

    abbrev PassesIt : Item → Type 0
    PassesIt item = HearsFrame left x.body item
        × PassesItem (behind_line (going_on left)) (behind_line (going_on now)) item

    fewer : length bytes < length left.bytes
    fewer = omega (
      arith,
      ap length (rest ∙ front_behind left next len x),
      ap length x.bytes_are,
      length-append (framed x.body) x.behind,
      length-framed x.body,
    )

    item_passes : (item : Item) → greeted ≡ (left.greeted || greets item)
        → HearsFrame left x.body item → PassesIt item
    item_passes item kept hears = (
      hears,
      (
        fewer,
        λ more items ended heard.
            item_given (record left { bytes = left.bytes ++ more }) (framed x.body)
            (x.behind ++ more) x.body (front_frame left next len x) (with_bytes more) greeted
            place (moved ∙ ap (λ n. left.place + n) x.len_is) item kept hears items ended
            (subst (λ b. HearsRest (record now { bytes = b ++ more }) items ended)
            (rest ∙ front_behind left next len x) heard),
      ),
    )

    next_passes : (n : Next) → ((ended : Ended) → n ≡ End ended → ⊥)
        → greeted ≡ (left.greeted || is_hello n) → FrameGives left x.body n
        → MatchNext n PassesIt (λ ended. EndsAtFrame left x.body ended
        × PassesEnd (behind_line (going_on left)) (behind_line (going_on now)) ended)
    next_passes (Hello tag) item kept gives = item_passes _ kept gives
    next_passes (Ping tag) item kept gives = item_passes _ kept gives
    next_passes (Ask tag operation) item kept gives = item_passes _ kept gives
    next_passes (Refused rule tag) item kept gives = item_passes _ kept gives
    next_passes (End ended) item kept gives = absurd (item ended refl)

    passes_item : ((ended : Ended) → next ≡ End ended → ⊥)
        → greeted ≡ (left.greeted || is_hello next)
        → (other : Next) → IsNextHeard (behind_line (going_on left)) other
        → Passes other (behind_line (going_on left)) (behind_line (going_on now))
    passes_item item kept other it =
        each_next left x.body
        (PassesItem (behind_line (going_on left)) (behind_line (going_on now)))
        (PassesEnd (behind_line (going_on left)) (behind_line (going_on now))) other
        (subst (λ b. FrameGives left b other) (same_body left next other len it.0 x it.1)
        it.1.gives) next (next_passes next item kept x.gives)

  -- the end
  passes_end : (ended : Ended) → next ≡ End ended → AreBytes left.bytes
      → (other : Next) → IsNextHeard (behind_line (going_on left)) other
      → Passes other (behind_line (going_on left)) (behind_line (over ended))
  passes_end ended is are other it =
      let ends : EndsAtFrame left x.body ended =
      subst (FrameGives left x.body) is x.gives in
      let behind : AreBytes x.behind =
      subst AreBytes (front_behind left next len x) (bytes-drop len left.bytes are) in
      each_next left x.body (PassesItem (behind_line (going_on left)) (behind_line (over ended)))
      (PassesEnd (behind_line (going_on left)) (behind_line (over ended))) other
      (subst (λ b. FrameGives left b other) (same_body left next other len it.0 x it.1) it.1.gives)
      (End ended) (
        ends,
        (
          refl,
          λ more bytes. rest_end (record left { bytes = left.bytes ++ more })
              (framed x.body) (x.behind ++ more) x.body (front_frame left next len x)
              (with_bytes more) ended (AreBytes-append x.behind more behind bytes) ends,
        ),
      )

  pub behind_passes : (phase : Phase) → IsPhaseBehind left next phase → AreBytes left.bytes
      → (other : Next) → IsNextHeard (behind_line (going_on left)) other
      → Passes other (behind_line (going_on left))
      (stage_of phase (left.place + len) (drop len left.bytes))
  behind_passes AtLine is are other it = absurd is
  behind_passes (BehindLine offered greeted) is are other it =
      subst (λ o. Passes other (behind_line (going_on left))
      (stage_of (BehindLine o greeted) (left.place + len) (drop len left.bytes))) (sym is.1)
      (passes_item greeted (left.place + len) (drop len left.bytes) refl refl is.0 is.2 other it)
  behind_passes (Over ended) is are other it = passes_end ended is are other it

  pub behind_holds : (phase : Phase) → IsPhaseBehind left next phase → (place : ℕ) (bytes : List ℕ)
      → HoldsIn phase place bytes
  behind_holds AtLine is place bytes = absurd is
  behind_holds (BehindLine offered greeted) is place bytes = tt
  behind_holds (Over ended) is place bytes = front_ends left next len ended x is

-- nothing was cut off
pub idle_passes : (phase : Phase) (place : ℕ) (bytes : List ℕ)
    → ((offered greeted : Bool) → phase ≡ BehindLine offered greeted → ⊥)
    → (other : Next) → IsNextHeard (stage_of phase place bytes) other
    → Passes other (stage_of phase place bytes) (stage_of phase place bytes)
idle_passes AtLine place bytes idle other is = absurd is
idle_passes (BehindLine offered greeted) place bytes idle other is =
    absurd (idle offered greeted refl)
idle_passes (Over ended) place bytes idle other is =
    subst (λ n. Passes n (behind_line (over ended)) (behind_line (over ended))) (sym is)
    (refl, λ more bytes. (refl, refl))

-- ---- how much may come

if_room : (b : Bool) (x y len : ℕ) → len ≤ x → (if b then min (x - len) y else 0) + len ≤ x
if_room true x y len fits = omega arith
if_room false x y len fits = omega arith

if_left : (b : Bool) (x y taken : ℕ) → taken ≤ y
    → (if b then min x (y - taken) else 0) + taken ≤ y
if_left true x y taken fits = omega arith
if_left false x y taken fits = omega arith

-- what waits, as a talker sees it
abbrev pub talking_at : Phase → ℕ → List ℕ → Talking
talking_at phase place bytes =
    record { stage = stage_of phase place bytes; taken = place + length bytes }

pub room_fits : (phase : Phase) (place : ℕ) (bytes : List ℕ) → length bytes ≤ 65537
    → room (talking_at phase place bytes) + length bytes ≤ 65537
room_fits AtLine place bytes fits = if_room true 65537 _ (length bytes) fits
room_fits (BehindLine offered greeted) place bytes fits =
    if_room (nat_lt (length bytes) (frame_len bytes)) 65537 _ (length bytes) fits
room_fits (Over ended) place bytes fits = omega (arith, fits)

pub room_left : (phase : Phase) (place : ℕ) (bytes : List ℕ) → place + length bytes ≤ spent_len
    → room (talking_at phase place bytes) + (place + length bytes) ≤ spent_len
room_left phase place bytes fits =
    if_left (needs_more (stage_of phase place bytes)) _ spent_len (place + length bytes) fits

pub fed_on : (phase : Phase) (place : ℕ) (bytes piece : List ℕ) → (phase ≡ AtLine → ⊥)
    → talking_at phase place (bytes ++ piece) ≡ fed (talking_at phase place bytes) piece
fed_on AtLine place bytes piece on = absurd (on refl)
fed_on (BehindLine offered greeted) place bytes piece on =
    let stage = stage_of (BehindLine offered greeted) place (bytes ++ piece) in
    ap (λ n. record { stage = stage; taken = n })
    (omega (arith, length-append bytes piece))
fed_on (Over ended) place bytes piece on =
    ap (λ n. record { stage = stage_of (Over ended) place (bytes ++ piece); taken = n })
    (omega (arith, length-append bytes piece))
