-- What a talker keeps.
use Rattle.std.specs.Prelude.{ℕ, ◌≡◌, ◌≢◌, ◌+◌, ◌||◌, ◌≤◌, ⊤, List, length}
use Rattle.vt_base.specs.Bytes.{AreBytes}
use Rattle.vt_wire.specs.Lines.{line_of}
use Rattle.vt_wire.specs.declared.line.Line.TheVariants.{More}
use Rattle.vt_session.specs.declared.talker.Phase.{Phase}
use Rattle.vt_session.specs.declared.talker.Phase.TheVariants.{AtLine, BehindLine, Over}
use Rattle.vt_session.specs.declared.talker.Talker.TheInside.{Inside}
use Rattle.vt_session.specs.declared.Ended.{Ended}
use Rattle.vt_session.specs.declared.parsed.Next.{Next}
use Rattle.vt_session.specs.declared.parsed.Next.TheVariants.{End}
use Rattle.vt_session.specs.declared.waiting.TheConstants.{LONGEST}
use Rattle.vt_session.specs.Heard.{Unheard}
use Rattle.vt_session.specs.Hearing.{going_on, over}
use Rattle.vt_session.specs.Parsed.{is_hello}
use Rattle.vt_session.specs.Talk.{spent_len}
use Rattle.vt_session.specs.Talking.{Stage, at_line, behind_line, Talking, EndsAnyhow}

-- the bytes that wait stand at this place of the input
abbrev pub stage_of : Phase → ℕ → List ℕ → Stage
stage_of AtLine place bytes = at_line bytes
stage_of (BehindLine offered greeted) place bytes =
    behind_line (going_on
    (record { offered = offered; greeted = greeted; place = place; bytes = bytes }))
stage_of (Over ended) place bytes = behind_line (over ended)

-- how far a session has come, as contracts see a talker
abbrev pub talking_of : Inside → Talking
talking_of t = record {
  stage = stage_of t.phase t.place t.waiting;
  taken = t.place + length t.waiting;
}

-- what holds in a phase: a line that waits is the input's front and not whole, and an end is one
-- whatever comes in behind
abbrev pub HoldsIn : Phase → ℕ → List ℕ → Type 0
HoldsIn AtLine place bytes = (place ≡ 0) × (line_of bytes ≡ More)
HoldsIn (BehindLine offered greeted) place bytes = ⊤
HoldsIn (Over ended) place bytes = EndsAnyhow ended

-- how far an input was heard behind what came next of what was left
abbrev pub IsPhaseBehind : Unheard → Next → Phase → Type 0
IsPhaseBehind left next AtLine = ⊥
IsPhaseBehind left next (BehindLine offered greeted) =
    ((ended : Ended) → next ≢ End ended) × (offered ≡ left.offered)
    × (greeted ≡ (left.greeted || is_hello next))
IsPhaseBehind left next (Over ended) = next ≡ End ended

-- The invariant of a talker: few enough bytes wait, and they fit the phase.
pub record IsKeptTalker (t : Inside) : Type 0 where
  pub counted : t.place + length t.waiting ≤ spent_len
  pub fits : length t.waiting ≤ LONGEST
  pub bytes : AreBytes t.waiting
  pub holds : HoldsIn t.phase t.place t.waiting
