-- An input that is heard as it comes in, to the same effect as all at once (venti(6)).
use Rattle.std.specs.Prelude.{ℕ, ◌≡◌, ◌+◌, ◌-◌, ◌<◌, ◌⊎◌, nat_lt, min, ⊤, Bool, true, false, if◌then◌else◌, List, [], ◌∷◌, ◌++◌, length, drop}
use Rattle.vt_base.specs.Bytes.{AreBytes}
use Rattle.vt_wire.specs.Frames.{frame_len}
use Rattle.vt_wire.specs.Lines.{line_of}
use Rattle.vt_wire.specs.declared.line.Line.{Line}
use Rattle.vt_wire.specs.declared.line.Line.TheVariants.{Whole, More, Bad}
use Rattle.vt_session.specs.declared.Ended.{Ended}
use Rattle.vt_session.specs.declared.Ended.TheVariants.{Goodbye, Closed, Cut, Malformed}
use Rattle.vt_session.specs.declared.parsed.Next.{Next}
use Rattle.vt_session.specs.declared.parsed.Next.TheVariants.{End}
use Rattle.vt_session.specs.declared.waiting.TheConstants.{LONGEST}
use Rattle.vt_session.specs.Heard.{Item, end_of, Heard}
use Rattle.vt_session.specs.Hearing.{Hearing, going_on, over, HearsOn, MatchNext}
use Rattle.vt_session.specs.Parsed.{IsFrontFrame}
use Rattle.vt_session.specs.Talk.{spent_len}

-- Where a server stands in an input that comes in. Less than the client's line came, and these are
-- its bytes; or the line was heard, and what came behind it is heard.
pub data Stage : Type 0 where
  at_line : (bytes : List ℕ) → Stage
  behind_line : (hearing : Hearing) → Stage

-- nothing more comes, and what came is heard as these items from here on, and ends so
abbrev pub HearsStage : Stage → List Item → Ended → Type 0
HearsStage (at_line bytes) items ended = Heard bytes items ended
HearsStage (behind_line hearing) items ended = HearsOn hearing items ended

-- what came is heard in some way
abbrev pub IsHeardStage : Stage → Type 0
IsHeardStage stage = (items : List Item) × (ended : Ended) × HearsStage stage items ended

-- ---- what comes in

-- more came; behind the end nothing is looked at
abbrev pub with_more : Hearing → List ℕ → Hearing
with_more (going_on left) more = going_on (record left { bytes = left.bytes ++ more })
with_more (over ended) more = over ended

-- the stage with more bytes that came in
abbrev pub stage_with : Stage → List ℕ → Stage
stage_with (at_line bytes) more = at_line (bytes ++ more)
stage_with (behind_line hearing) more = behind_line (with_more hearing more)

-- the line is heard as soon as it is whole or wrong
abbrev pub line_heard : List ℕ → Line → Stage
line_heard bytes (Whole len offered) =
    behind_line (going_on
    (record { offered = offered; greeted = false; place = len; bytes = drop len bytes }))
line_heard bytes More = at_line bytes
line_heard bytes (Bad place) = behind_line (over (Malformed place))

-- The stage with one piece more that came in, where a client's line may be whole with it.
abbrev pub fed_stage : Stage → List ℕ → Stage
fed_stage (at_line bytes) piece = line_heard (bytes ++ piece) (line_of (bytes ++ piece))
fed_stage (behind_line hearing) piece = behind_line (with_more hearing piece)

-- where a server stands, and how many bytes it took so far
pub record Talking : Type 0 where
  pub stage : Stage
  pub taken : ℕ

-- the session with one piece more that came in
abbrev pub fed : Talking → List ℕ → Talking
fed talking piece = record {
  stage = fed_stage talking.stage piece;
  taken = talking.taken + length piece;
}

-- ---- what comes next

-- what came holds no whole message, and no end
abbrev pub needs_more : Stage → Bool
needs_more (at_line bytes) = true
needs_more (behind_line (going_on left)) = nat_lt (length left.bytes) (frame_len left.bytes)
needs_more (behind_line (over ended)) = false

-- what came is heard to its end, and more may come
abbrev pub IsOpen : Stage → Type 0
IsOpen stage = HearsStage stage [] Closed ⊎ HearsStage stage [] Cut

-- What comes next, whatever comes in behind: the first message, or the end.
abbrev pub IsNextHeard : Stage → Next → Type 0
IsNextHeard (at_line bytes) next = ⊥
IsNextHeard (behind_line (going_on left)) next = (len : ℕ) × IsFrontFrame left next len
IsNextHeard (behind_line (over ended)) next = next ≡ End ended

-- What is heard next ends a session whatever comes in behind.
abbrev pub EndsAnyhow : Ended → Type 0
EndsAnyhow Goodbye = ⊤
EndsAnyhow (Malformed place) = ⊤
EndsAnyhow ended = ⊥

-- how many bytes aren't heard yet
abbrev pub unheard_len : Stage → ℕ
unheard_len (at_line bytes) = length bytes
unheard_len (behind_line (going_on left)) = length left.bytes
unheard_len (behind_line (over ended)) = 0

-- Whatever comes in behind, this comes next at an old stage: an item, which takes bytes, and then
-- what the new one hears; or the end, which stays.
abbrev pub PassesItem : Stage → Stage → Item → Type 0
PassesItem old new item =
    (unheard_len new < unheard_len old)
    × ((more : List ℕ) (items : List Item) (ended : Ended)
    → HearsStage (stage_with new more) items ended
    → HearsStage (stage_with old more) (item ∷ items) ended)

-- nothing more is heard, and that is so whatever comes in behind it
abbrev pub PassesEnd : Stage → Stage → Ended → Type 0
PassesEnd old new ended =
    (new ≡ behind_line (over ended))
    × ((more : List ℕ) → AreBytes more → HearsStage (stage_with old more) [] ended)

-- what was heard next, an item or the end, and the stage behind it
abbrev pub Passes : Next → Stage → Stage → Type 0
Passes next old new = MatchNext next (PassesItem old new) (PassesEnd old new)

-- ---- how much may come

-- As many bytes as the longest frame has may wait, and a link takes so many in all. Where what came
-- holds something to hear, that is heard before more is taken.
abbrev pub room : Talking → ℕ
room talking =
    if needs_more talking.stage
    then min (LONGEST - unheard_len talking.stage) (spent_len - talking.taken) else 0

-- how the input ends here, where it needed more
abbrev pub ended_at : Stage → Ended
ended_at (at_line bytes) = end_of bytes
ended_at (behind_line (going_on left)) = end_of left.bytes
ended_at (behind_line (over ended)) = ended
