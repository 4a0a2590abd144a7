use Rattle.std.proofs.Common.{◌≡◌, ◌≤◌, ℕ, List, length, Result, Ok, Err, Some, None, inl, sym, ap, ◌∙◌, subst}
use Rattle.std.specs.Prelude.{IfErr}
use Rattle.std.specs.Result.{IsErrAnd}
use Rattle.std.proofs.lemmas.List.{take_at}
use Rattle.vt_twin.specs.Frames.{current_frame}
use Rattle.vt_isect.specs.declared.error.SectBad.{SectBad}
use Rattle.vt_isect.specs.declared.error.SectBad.TheVariants.{NoMemory, Fault}
use Rattle.vt_isect.specs.Faults.{first_bad_section}
use Rattle.vt_isect.specs.Head.{IsHeadFrame}
use Rattle.vt_isect.specs.Layout.{buckets_in, head_place}
use Rattle.vt_isect.proofs.mounting.open.Goals as goal

pub returns-in-Err-clause-refused : goal.returns-in-Err-clause-refused
returns-in-Err-clause-refused g c told =
    let read : c.deref.result.now ≡ current_frame head_place 8192 (g.D.Disk.bytes c.args.disk.now) =
    c.deref.ensures.value
    ∙ take_at c.read_head.new.frame _ c.in_ok-head_frame.head_frame.len (c.read_head.auto.frame ∙ c.deref_mut.ensures.len)
    ∙ c.in_ok-twin.ensures.read told in
    let len = c.len-len.ensures in
    let it = c.in-Err.ensures.refused in
    inl (subst (λ (f : List ℕ). first_bad_section (g.D.Disk.size c.args.disk.now) f ≡ Some c.in-Err.bad) read (rw len at it))

pub returns-in-Ok-clause-head : goal.returns-in-Ok-clause-head
returns-in-Ok-clause-head g c told =
    let read : c.deref.result.now ≡ current_frame head_place 8192 (g.D.Disk.bytes c.args.disk.now) =
    c.deref.ensures.value
    ∙ take_at c.read_head.new.frame _ c.in_ok-head_frame.head_frame.len (c.read_head.auto.frame ∙ c.deref_mut.ensures.len)
    ∙ c.in_ok-twin.ensures.read told in
    subst (λ (f : List ℕ). IsHeadFrame c.in-Ok.found.0 c.in-Ok.found.1 f) read c.in-Ok.ensures.spelling

pub returns-in-Ok-clause-accepted : goal.returns-in-Ok-clause-accepted
returns-in-Ok-clause-accepted g c told =
    let read : c.deref.result.now ≡ current_frame head_place 8192 (g.D.Disk.bytes c.args.disk.now) =
    c.deref.ensures.value
    ∙ take_at c.read_head.new.frame _ c.in_ok-head_frame.head_frame.len (c.read_head.auto.frame ∙ c.deref_mut.ensures.len)
    ∙ c.in_ok-twin.ensures.read told in
    let len = c.len-len.ensures in
    let it = c.in-Ok.ensures.refused in
    subst (λ (f : List ℕ). first_bad_section (g.D.Disk.size c.args.disk.now) f ≡ None) read (rw len at it)

-- what holds anyway holds behind a call that failed
anyway : {T E : Type 0} (P : E → Type 0) (Q : Type 0) (r : Result T E) → Q → IfErr r (λ bad. P bad → Q)
anyway P Q (Ok it) holds = tt
anyway P Q (Err bad) holds = λ is. holds

pub returns-in_err-twin-clause-failed : goal.returns-in_err-twin-clause-failed
returns-in_err-twin-clause-failed g c = anyway _ _ c.from_residual-in_err-twin.result c.read_head.ensures.settled

-- no memory isn't a fault
no_fault : {T : Type 0} (Q : Type 0) (r : Result T SectBad) → IsErrAnd r (λ bad. bad ≡ NoMemory) → IfErr r (λ bad. bad ≡ Fault → Q)
no_fault Q (Ok it) is = tt
no_fault Q (Err bad) is = λ fault. absurd (let no : NoMemory ≡ Fault = sym is ∙ fault in cc)

pub returns-in_err-group-clause-failed : goal.returns-in_err-group-clause-failed
returns-in_err-group-clause-failed g c = no_fault _ c.from_residual-in_err-group.result c.from_residual-in_err-group.ensures.1

pub returns-in-Ok-clause-frames : goal.returns-in-Ok-clause-frames
returns-in-Ok-clause-frames g c = (
  ap (λ (l : List ℕ). length l) (take_at c.read_head.new.frame _ c.in_ok-head_frame.head_frame.len (c.read_head.auto.frame ∙ c.deref_mut.ensures.len))
      ∙ (c.read_head.auto.frame ∙ c.deref_mut.ensures.len) ∙ c.in_ok-head_frame.ensures.len,
  c.in_ok-frame.ensures.items_if_clones_equal (λ y is. is),
)

pub returns-in_err-frames-clause-failed : goal.returns-in_err-frames-clause-failed
returns-in_err-frames-clause-failed g c = no_fault _ c.from_residual-in_err-frames.result c.from_residual-in_err-frames.ensures.1

pub returns-in-Ok-clause-room_for_frames : goal.returns-in-Ok-clause-room_for_frames
returns-in-Ok-clause-room_for_frames g c =
    subst (λ (n : ℕ). n ≤ length c.in_ok-frames.frames) (c.buckets_in.ensures.count ∙ ap buckets_in c.len-len.ensures) c.in_ok-frames.ensures.room.0
