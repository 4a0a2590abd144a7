use Rattle.std.proofs.Common.{◌+◌, length, refl, sym, subst, ap, arith, length-drop}
use Rattle.vt_base.specs.Bytes.{AreBytes}
use Rattle.vt_wire.proofs.Frames.{bytes-drop}
use Rattle.vt_session.specs.declared.parsed.Next.{Next}
use Rattle.vt_session.specs.Heard.{Unheard}
use Rattle.vt_session.specs.Hearing.{going_on}
use Rattle.vt_session.specs.Parsed.{IsFrontFrame}
use Rattle.vt_session.specs.Talker.{stage_of}
use Rattle.vt_session.specs.Talking.{Stage, behind_line, Talking, IsNextHeard, Passes}
use Rattle.vt_session.proofs.Parsing.{front_enough}
use Rattle.vt_session.proofs.Talking.{stage_heard, idle_passes, behind_passes, behind_holds}
use Rattle.vt_session.proofs.talker.Talker.pass.Goals as goal

pub returns-in_default : goal.returns-in_default
returns-in_default c = rw (← c.self.view_is) (record {
  passes = idle_passes c.self.inside.phase c.self.inside.place c.self.inside.waiting
      c.in_default.not-BehindLine;
  stays = λ needs. refl;
  taken = refl;
  goes_on = stage_heard c.self.inside.phase c.self.inside.place c.self.inside.waiting
      c.self.invariant.bytes;
})

pub returns-in_default-front-clause-goes_on : goal.returns-in_default-front-clause-goes_on
returns-in_default-front-clause-goes_on c = rw (← c.self.view_is)
    (stage_heard c.self.inside.phase c.self.inside.place c.self.inside.waiting
    c.self.invariant.bytes)

pub invariant_of-self : goal.invariant_of-self
invariant_of-self c =
    let s = c.self.inside in
    let left : Unheard = record {
      offered = c.in-BehindLine.offered;
      greeted = c.in-BehindLine.greeted;
      place = s.place;
      bytes = s.waiting;
    } in
    let next = c.in-Some.next in
    let len = c.in-Some.len in
    let x : IsFrontFrame left next len =
    subst (λ b. IsFrontFrame (record left { bytes = b }) next len) c.as_slice.ensures.value
    c.in-Some.ensures.front in
    let enough = front_enough left next len x in record {
      counted = omega (
        arith,
        c.self.invariant.counted,
        enough,
        ap length c.skip.ensures,
        length-drop len s.waiting,
      );
      fits = omega (
        arith,
        c.self.invariant.fits,
        ap length c.skip.ensures,
        length-drop len s.waiting,
      );
      bytes = subst AreBytes (sym c.skip.ensures)
          (bytes-drop len s.waiting c.self.invariant.bytes);
      holds = behind_holds left next len x c.phase_behind-self-inside.result
          c.phase_behind-self-inside.ensures _ _;
    }

pub returns-clause-passes : goal.returns-clause-passes
returns-clause-passes c =
    let s = c.self.inside in
    let left : Unheard = record {
      offered = c.in-BehindLine.offered;
      greeted = c.in-BehindLine.greeted;
      place = s.place;
      bytes = s.waiting;
    } in
    let next = c.in-Some.next in
    let len = c.in-Some.len in
    let phase = c.phase_behind-self-inside.result in
    let x : IsFrontFrame left next len =
    subst (λ b. IsFrontFrame (record left { bytes = b }) next len) c.as_slice.ensures.value
    c.in-Some.ensures.front in
    let P : Stage → Stage → Type 0 = λ old new.
    (other : Next) → IsNextHeard old other → Passes other old new in
    subst (λ (t : Talking). P t.stage (stage_of phase (s.place + len) c.skip.new.self))
    c.self.view_is
    (subst (λ p. P (stage_of p s.place s.waiting)
    (stage_of phase (s.place + len) c.skip.new.self)) (sym c.in-BehindLine.is)
    (subst (λ b. P (behind_line (going_on left)) (stage_of phase (s.place + len) b))
    (sym c.skip.ensures)
    (behind_passes left next len x phase c.phase_behind-self-inside.ensures
    c.self.invariant.bytes)))

pub returns-clause-goes_on : goal.returns-clause-goes_on
returns-clause-goes_on c =
    stage_heard c.phase_behind-self-inside.result (c.self.inside.place + c.in-Some.len)
    c.skip.new.self (subst AreBytes (sym c.skip.ensures)
    (bytes-drop c.in-Some.len c.self.inside.waiting c.self.invariant.bytes))
