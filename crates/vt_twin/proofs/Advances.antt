-- What a device call of a change leaves, whatever came of it.
use Rattle.std.proofs.Common.{◌≡◌, ⊎_elim, inl, inr, ℕ, ◌<◌, ◌≤◌, Bool, true, false, Option, None, Some, if◌then◌else◌, List, length, Result, Ok, Err, IsTrue, refl, sym, ◌∙◌, ap, subst, arith}
use Rattle.std.specs.Prelude.{IfOk, IsSome, ◌↔◌}
use Rattle.vt_disk.specs.declared.region.Region.{Region}
use Rattle.vt_disk.specs.declared.call.CallCount.{CallCount}
use Rattle.vt_disk.specs.declared.call.CallError.{CallError}
use Rattle.vt_disk.specs.declared.call.CallError.TheVariants.{Fault, Stopped}
use Rattle.vt_disk.specs.Calls.{WritesAt, WritesWithin}
use Rattle.vt_disk.specs.DeviceCalls.{CallMade, TouchedBy}
use Rattle.vt_disk.specs.Disk.{WithinCall}
use Rattle.vt_disk.specs.Members.{DiskOf}
use Rattle.vt_twin.specs.declared.calls.Stage.{Stage}
use Rattle.vt_twin.specs.declared.step.Step.{Step}
use Rattle.vt_twin.specs.declared.step.Step.TheVariants.{More, Done}
use Rattle.vt_twin.specs.Calls.{call_at, stage_number}
use Rattle.vt_twin.specs.Frames.{FitsTwin, current_frame}
use Rattle.vt_twin.specs.Twin.{TwinState, TwinAdvances, twin_after_last, calls_begun, twin_calls_made, next_call, next_frame}
use Rattle.vt_twin.specs.Sound.{IsSoundTwin, GivesOldOrNew, frame_after}
use Rattle.vt_twin.proofs.Changes.{begun_bound}
use Rattle.vt_twin.proofs.Places.{writes_inside}
use Rattle.vt_twin.proofs.Steps.{fault_sound, call_sound, last_sound, sound_gives, crash_gives}

-- where the count isn't stopped, what a call answers but Ok is a fault
pub is_the_fault : (err : CallError) (stopped : Option ℕ) → stopped ≡ None
    → ((n : ℕ) → ◌≡◌ {A = Result Step CallError} (Err err) (Err (Stopped n)) ↔ (stopped ≡ Some n)) → err ≡ Fault
is_the_fault Fault stopped runs tells = refl
is_the_fault (Stopped n) stopped runs tells = absurd (let is : None ≡ Some n = sym runs ∙ (tells n).0 refl in cc)

-- the count that it was lent isn't stopped
pub none_failed : (failed : Bool) (stopped : Option ℕ) → (failed ≡ true → IsSome stopped) → stopped ≡ None → failed ≡ false
none_failed false stopped lent runs = refl
none_failed true stopped lent runs = absurd (let some = subst (λ (it : Option ℕ). IsSome it) runs (lent refl) in cc)

module _ {D E : Type 0} (disk : DiskOf D) (t : TwinState) (region : Region) (before after : D)
    (room : FitsTwin region t.frame_len (disk.size before)) (stage : Stage)
    (made : twin_calls_made t ≡ stage_number stage) (whole : length (next_frame t) ≡ t.frame_len)
    (calls counted : CallCount) (old : List ℕ) (told : IsTrue disk.tells)
    (fits : length (disk.bytes before) ≡ disk.size before)
    (sound : IsSoundTwin t region old (disk.bytes before) (disk.images before)) where
  -- the call by its stage
  Made : Result Step E → Type 0
  Made result = CallMade disk (call_at (stage_number stage) region t.frame_len t.current (next_frame t)) result calls counted before after

  made_at : (result : Result Step E) → CallMade disk (next_call t region) result calls counted before after → Made result
  unfolding Made
  made_at result makes =
      subst (λ (n : ℕ). CallMade disk (call_at n region t.frame_len t.current (next_frame t)) result calls counted before after) made makes

  pub step_sound : (result : Result Step E) (later : TwinState) → TwinAdvances result t later
      → IfOk result (λ step. (step ≡ Done) ↔ (twin_calls_made t ≡ 3))
      → CallMade disk (next_call t region) result calls counted before after
      → IsSoundTwin later region (frame_after result t old) (disk.bytes after) (disk.images after)
  unfolding Made
  step_sound (Err e) later steps done makes =
      let it = made_at (Err e) makes in
      subst (λ (u : TwinState). IsSoundTwin u region old (disk.bytes after) (disk.images after)) (sym steps)
      (fault_sound t region (disk.size before) room old (disk.bytes before) (disk.bytes after) (disk.images before) (disk.images after)
      stage made whole (it.writes.bytes told) it.writes.images sound)
  step_sound (Ok More) later steps done makes =
      let it = made_at (Ok More) makes in
      subst (λ (u : TwinState). IsSoundTwin u region old (disk.bytes after) (disk.images after)) (sym steps)
      (call_sound t region (disk.size before) room old (disk.bytes before) (disk.bytes after) (disk.images before) (disk.images after)
      stage made whole (it.writes.bytes told) it.writes.images sound fits (it.written told) (λ syncs. it.settled syncs told))
  step_sound (Ok Done) later steps done makes =
      let it = made_at (Ok Done) makes in
      subst (λ (u : TwinState). IsSoundTwin u region (next_frame t) (disk.bytes after) (disk.images after)) (sym steps)
      (last_sound t region (disk.size before) room old (disk.bytes before) (disk.bytes after) (disk.images before) (disk.images after)
      stage made whole (it.writes.bytes told) it.writes.images sound fits (it.written told) (λ syncs. it.settled syncs told)
      (sym made ∙ done.0 refl))

  pub step_crash : (result : Result Step E) (later : TwinState) → TwinAdvances result t later
      → IfOk result (λ step. (step ≡ Done) ↔ (twin_calls_made t ≡ 3)) → t.failed ≡ false
      → IsSoundTwin later region (frame_after result t old) (disk.bytes after) (disk.images after)
      → (c : List ℕ) → WithinCall (disk.images before) (disk.images after) c
      → GivesOldOrNew (2 ≤ twin_calls_made t) region t.frame_len old (next_frame t) c
  step_crash (Err e) later steps done runs is c left =
      crash_gives t later region old (disk.bytes before) (disk.bytes after) (disk.images before) (disk.images after) sound is
      (ap (λ (u : TwinState). u.frame_len) steps) (ap (λ (u : TwinState). next_frame u) steps)
      (omega (arith, ap (λ (u : TwinState). calls_begun u) steps)) c left
  step_crash (Ok More) later steps done runs is c left =
      crash_gives t later region old (disk.bytes before) (disk.bytes after) (disk.images before) (disk.images after) sound is
      (ap (λ (u : TwinState). u.frame_len) steps) (ap (λ (u : TwinState). next_frame u) steps)
      (omega (arith, ap (λ (u : TwinState). calls_begun u) steps, none_failed)) c left
    where
      none_failed : ◌≡◌ {A = ℕ} (if t.failed then 1 else 0) 0
      none_failed = ap (λ (b : Bool). if◌then◌else◌ {A = ℕ} b 1 0) runs
  step_crash (Ok Done) later steps done runs is c left = ⊎_elim
      (λ (was : disk.images before c). ⊎_elim inl (λ gives. inr (omega (arith, done.0 refl), gives.1))
      (sound_gives t region old (disk.bytes before) (disk.images before) sound c was))
      (λ (now : disk.images after c). inr (omega (arith, done.0 refl), gives_new now))
      left
    where
      ends : IsSoundTwin (twin_after_last t) region (next_frame t) (disk.bytes after) (disk.images after)
      ends = subst (λ (u : TwinState). IsSoundTwin u region (next_frame t) (disk.bytes after) (disk.images after)) steps is

      gives_new : disk.images after c → current_frame region t.frame_len c ≡ next_frame t
      gives_new now = ⊎_elim (λ gives. gives)
          (λ gives. absurd (omega (arith, gives.0, begun_bound (twin_after_last t))))
          (sound_gives (twin_after_last t) region (next_frame t) (disk.bytes after) (disk.images after) ends c now)

-- it changes nothing outside the region
pub step_within : {D : Type 0} (disk : DiskOf D) (t : TwinState) (region : Region) (size : ℕ) (before after : D)
    → FitsTwin region t.frame_len size → t.current < 2 → (stage : Stage) → twin_calls_made t ≡ stage_number stage
    → length (next_frame t) ≡ t.frame_len
    → WritesAt disk (TouchedBy (next_call t region)) 1 before after → WritesWithin disk region 1 before after
step_within disk t region size before after room two stage made whole writes =
    writes_inside region t.frame_len size room t.current two (next_frame t) whole disk stage 1 before after
    (subst (λ (n : ℕ). WritesAt disk (TouchedBy (call_at n region t.frame_len t.current (next_frame t))) 1 before after) made writes)
