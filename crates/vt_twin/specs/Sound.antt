-- What a disk holds for a twin, and what a crash leaves of it.
use Rattle.std.specs.Prelude.{◌≡◌, ◌⊎◌, ℕ, ◌-◌, ◌<◌, ◌≤◌, List, Result, Ok, Err}
use Rattle.vt_disk.specs.declared.region.Region.{Region}
use Rattle.vt_twin.specs.declared.step.Step.{Step}
use Rattle.vt_twin.specs.declared.step.Step.TheVariants.{More, Done}
use Rattle.vt_twin.specs.Frames.{frame_of, named_number, current_frame}
use Rattle.vt_twin.specs.Twin.{TwinState, twin_calls_made, calls_begun, next_frame}

-- each image has these bytes as this frame
abbrev pub HasFrame : Region → (n number : ℕ) → List ℕ → (images : List ℕ → Type 0) → Type 0
HasFrame region n number frame images = (c : List ℕ) → images c → frame_of region n number c ≡ frame

-- in each image the selector names this frame
abbrev pub NamesFrame : Region → (n number : ℕ) → (images : List ℕ → Type 0) → Type 0
NamesFrame region n number images = (c : List ℕ) → images c → named_number region n c ≡ number

-- the selector's write began: the change's third call
abbrev pub TwinHasBegunSelector : TwinState → Type 0
TwinHasBegunSelector t = 3 ≤ calls_begun t

-- A disk, by what it reads as and by its images, is sound for a twin in this region whose current
-- frame is `old`.
pub record IsSoundTwin (t : TwinState) (region : Region) (old read : List ℕ) (images : List ℕ
    → Type 0)
    : Type 0 where
  pub number : t.current < 2
  -- the current frame stands in every image, whatever is under way
  pub kept : HasFrame region t.frame_len t.current old images
  -- until the selector's write begins, the selector names it in every image
  pub named : ¬ TwinHasBegunSelector t → NamesFrame region t.frame_len t.current images
  -- the idle frame is written, and then synced, so that it stands in every image
  pub written : 1 ≤ twin_calls_made t → frame_of region t.frame_len (1 - t.current) read
      ≡ next_frame t
  pub synced : 2 ≤ twin_calls_made t
      → HasFrame region t.frame_len (1 - t.current) (next_frame t) images
  -- the selector is written
  pub selected : 3 ≤ twin_calls_made t → named_number region t.frame_len read ≡ 1 - t.current

-- the file gives the old frame or, once the selector's write began, the old one or the new
abbrev pub GivesOldOrNew : (began : Type 0) → Region → (n : ℕ) → (old new file : List ℕ) → Type 0
GivesOldOrNew began region n old new file =
    (current_frame region n file ≡ old) ⊎ (began × (current_frame region n file ≡ new))

-- the frame that is current after a step of a change: the new one after the last, else the old
abbrev pub frame_after : {E : Type 0} → Result Step E → TwinState → (old : List ℕ) → List ℕ
frame_after (Ok Done) t old = next_frame t
frame_after (Ok More) t old = old
frame_after (Err e) t old = old
