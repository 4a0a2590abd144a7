-- The changes of many twins of a disk, which one sync serves.
use Rattle.std.proofs.Common.{◌≡◌, ℕ, List, length, sym, ◌∙◌, ap, subst, arith}
use Rattle.vt_disk.specs.declared.region.Region.{Region}
use Rattle.vt_disk.specs.Disk.{AreAmong, ChangesAt, Only, SameBut}
use Rattle.vt_disk.specs.DeviceCalls.{DeviceCall, TouchedBy, bytes_after}
use Rattle.vt_disk.specs.DeviceCalls.DeviceCall.{sync}
use Rattle.vt_twin.specs.Calls.{call_at, stage_number}
use Rattle.vt_twin.specs.Frames.{FitsTwin, named_number}
use Rattle.vt_twin.specs.Sound.{IsSoundTwin, TwinHasBegunSelector}
use Rattle.vt_twin.specs.Twin.{TwinState, fresh, twin_calls_made, next_frame, after_call, twin_after_fault, twin_after_last}
use Rattle.vt_twin.specs.declared.calls.Stage.{Stage}
use Rattle.vt_twin.proofs.Steps.{call_sound, fault_sound}

-- a change of which no selector's write began is given up
pub given_up : (t : TwinState) (region : Region) (old read : List ℕ) (images : List ℕ → Type 0) → ¬ TwinHasBegunSelector t
    → IsSoundTwin t region old read images → IsSoundTwin (fresh t.frame_len t.current) region old read images
given_up t region old read images few sound = record {
  number = sound.number;
  kept = sound.kept;
  named = λ waits. sound.named few;
  written = λ made. absurd (omega (arith, made));
  synced = λ made. absurd (omega (arith, made));
  selected = λ made. absurd (omega (arith, made));
}

-- the sync behind the selector's write
pub selector_settles : (t : TwinState) (region : Region) (old read reads : List ℕ) (images after : List ℕ → Type 0) → reads ≡ read → AreAmong after images → Only read after
    → IsSoundTwin t region old read images → twin_calls_made t ≡ 3 → IsSoundTwin (twin_after_last t) region (next_frame t) reads after
selector_settles t region old read reads images after same among settled sound three = record {
  number = omega (arith, sound.number);
  kept = λ c left. sound.synced (omega (arith, three)) c (among c left);
  named = λ waits c left. ap (λ (file : List ℕ). named_number region t.frame_len file) (settled c left) ∙ sound.selected (omega (arith, three));
  written = λ made. absurd (omega (arith, made));
  synced = λ made. absurd (omega (arith, made));
  selected = λ made. absurd (omega (arith, made));
}

-- a device call that is one of a twin's change
module _ (w : TwinState) (region : Region) (size : ℕ) (room : FitsTwin region w.frame_len size) (stage : Stage) (made : twin_calls_made w ≡ stage_number stage)
    (whole : length (next_frame w) ≡ w.frame_len) (call : DeviceCall) (own : call_at (stage_number stage) region w.frame_len w.current (next_frame w) ≡ call)
    (old read reads : List ℕ) (images after : List ℕ → Type 0) (same : SameBut (TouchedBy call) read reads) (changes : ChangesAt (TouchedBy call) images after)
    (sound : IsSoundTwin w region old read images) where
  its_same : SameBut (TouchedBy (call_at (stage_number stage) region w.frame_len w.current (next_frame w))) read reads
  its_same = subst (λ (c : DeviceCall). SameBut (TouchedBy c) read reads) (sym own) same

  its_changes : ChangesAt (TouchedBy (call_at (stage_number stage) region w.frame_len w.current (next_frame w))) images after
  its_changes = subst (λ (c : DeviceCall). ChangesAt (TouchedBy c) images after) (sym own) changes

  pub own_fails : IsSoundTwin (twin_after_fault w) region old reads after
  own_fails = fault_sound w region size room old read reads images after stage made whole its_same its_changes sound

  pub own_goes : length read ≡ size → reads ≡ bytes_after call read → (call ≡ sync → Only reads after) → IsSoundTwin (after_call w) region old reads after
  own_goes fits bytes settled = call_sound w region size room old read reads images after stage made whole its_same its_changes sound fits
      (subst (λ (c : DeviceCall). reads ≡ bytes_after c read) (sym own) bytes) (λ syncs. settled (sym own ∙ syncs))
