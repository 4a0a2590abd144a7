-- Where the frames and the selector stand, and what the calls of a change touch of them.
use Rattle.std.proofs.Common.{◌≡◌, ⊎_elim, ℕ, ◌+◌, ◌-◌, ◌*◌, ◌%◌, ◌<◌, ◌≤◌, List, length, ◌∙◌, ap, subst, arith}
use Rattle.std.proofs.Math.Nat.{mul-le-mul_left}
use Rattle.std.proofs.lemmas.Bool.{cases_lt}
use Rattle.std.proofs.lemmas.List.{length-replicate}
use Rattle.vt_disk.specs.declared.region.Region.{Region}
use Rattle.vt_disk.specs.Disk.{Touches, IsAligned, SameBut, ChangesAt}
use Rattle.vt_disk.specs.Calls.{WritesAt, WritesWithin}
use Rattle.vt_disk.specs.Members.{DiskOf}
use Rattle.vt_disk.specs.Region.{Inside}
use Rattle.vt_disk.proofs.Bytes.{touches_within, part_same, aligned_sum, aligned_product}
use Rattle.vt_disk.proofs.Calls.{writes_wider}
use Rattle.vt_disk.specs.DeviceCalls.{TouchedBy}
use Rattle.vt_twin.specs.declared.calls.Stage.{Stage}
use Rattle.vt_twin.specs.declared.calls.Stage.TheVariants.{WriteFrame, SyncFrame, WriteSelector, SyncSelector}
use Rattle.vt_twin.specs.Frames.{FitsTwin, frame_start, selector_start, selector_len, selector_bytes, frame_of, named_number}
use Rattle.vt_twin.specs.Calls.{call_at, stage_number}
use Rattle.vt_twin.specs.Sound.{HasFrame, NamesFrame}

-- frame 0 or 1 ends where the selector begins, or before it
pub frame_bound : (n number : ℕ) → number < 2 → n * number ≤ n
frame_bound n number two = omega (arith, mul-le-mul_left n (most number two))
  where
    most : (k : ℕ) → k < 2 → k ≤ 1
    most k below = omega arith

-- byte i of the disk lies in this frame
abbrev pub InFrame : Region → (n number i : ℕ) → Type 0
InFrame region n number i = (frame_start region n number ≤ i) × (i < frame_start region n number + n)

module _ (region : Region) (n size : ℕ) (room : FitsTwin region n size) where
  -- what a write of a frame touches lies in that frame
  in_frame : (number i : ℕ) → Touches (frame_start region n number) n i → InFrame region n number i
  in_frame number i touched =
      touches_within (frame_start region n number) (frame_start region n number + n) (frame_start region n number) n i
      aligned (aligned_sum (frame_start region n number) n aligned room.aligned_frames) (omega arith) (omega arith) touched
    where
      aligned : IsAligned (frame_start region n number)
      aligned = aligned_sum region.start (n * number) room.aligned_start (aligned_product n number room.aligned_frames)

  -- what a write of the selector touches lies behind the frames
  in_selector : (i : ℕ) → Touches (selector_start region n) (selector_len region n) i → (selector_start region n ≤ i) × (i < region.start + region.len)
  in_selector i touched =
      touches_within (selector_start region n) (region.start + region.len) (selector_start region n) (selector_len region n) i
      (aligned_sum region.start (2 * n) room.aligned_start (omega (arith, room.aligned_frames)))
      (aligned_sum region.start region.len room.aligned_start room.aligned_len)
      (omega arith) (omega (arith, room.least)) touched

  frames_apart : (number i : ℕ) → number < 2 → InFrame region n number i → InFrame region n (1 - number) i → ⊥
  frames_apart number i two this that = ⊎_elim
      (λ (zeroth : number < 1).
      let is : number ≡ 0 = omega arith in
      omega (arith, ap (λ (k : ℕ). n * k) is, ap (λ (k : ℕ). n * (1 - k)) is, this.1, that.0))
      (λ (first : 1 ≤ number).
      let is : number ≡ 1 = omega arith in
      omega (arith, ap (λ (k : ℕ). n * k) is, ap (λ (k : ℕ). n * (1 - k)) is, this.0, that.1))
      (cases_lt number 1)

  before_selector : (number i : ℕ) → number < 2 → InFrame region n number i → selector_start region n ≤ i → ⊥
  before_selector number i two this behind = omega (arith, this.1, frame_bound n number two)

  -- what a write of a frame touches isn't in the other one, and what a write of the selector touches in neither
  pub frame_apart : (number : ℕ) → number < 2 → (i : ℕ) → InFrame region n number i → ¬ Touches (frame_start region n (1 - number)) n i
  frame_apart number two i here touched = frames_apart number i two here (in_frame (1 - number) i touched)

  pub selector_apart : (number : ℕ) → number < 2 → (i : ℕ) → InFrame region n number i → ¬ Touches (selector_start region n) (selector_len region n) i
  selector_apart number two i here touched = before_selector number i two here (in_selector i touched).0

  -- both lie in the region
  pub frame_within : (number : ℕ) → number < 2 → (i : ℕ) → Touches (frame_start region n number) n i → Inside region i
  frame_within number two i touched =
      let here = in_frame number i touched in
      (omega (arith, here.0), omega (arith, here.1, frame_bound n number two, room.least))

  pub selector_within : (i : ℕ) → Touches (selector_start region n) (selector_len region n) i → Inside region i
  selector_within i touched =
      let here = in_selector i touched in
      (omega (arith, here.0), here.1)

  -- as long as the region has room for
  pub selector_length : (number : ℕ) → length (selector_bytes number (selector_len region n)) ≡ selector_len region n
  selector_length number = omega (arith, length-replicate {A = ℕ} (selector_len region n - 1) 0, room.least)

  module _ (current : ℕ) (two : current < 2) (frame : List ℕ) (whole : length frame ≡ n) where
    abbrev TouchedAt : Stage → ℕ → Type 0
    TouchedAt stage = TouchedBy (call_at (stage_number stage) region n current frame)

    touches_frame : (i : ℕ) → TouchedAt WriteFrame i → InFrame region n (1 - current) i
    touches_frame i touched = in_frame (1 - current) i (subst (λ (k : ℕ). Touches (frame_start region n (1 - current)) k i) whole touched)

    touches_selector : (i : ℕ) → TouchedAt WriteSelector i → (selector_start region n ≤ i) × (i < region.start + region.len)
    touches_selector i touched = in_selector i (subst (λ (k : ℕ). Touches (selector_start region n) k i) (selector_length (1 - current)) touched)

    -- no call touches the current frame
    pub current_free : (stage : Stage) (i : ℕ) → InFrame region n current i → ¬ TouchedAt stage i
    current_free WriteFrame i here touched = frames_apart current i two here (touches_frame i touched)
    current_free SyncFrame i here touched = touched
    current_free WriteSelector i here touched = before_selector current i two here (touches_selector i touched).0
    current_free SyncSelector i here touched = touched

    -- none but the first touches the idle one
    pub idle_free : (stage : Stage) → 1 ≤ stage_number stage → (i : ℕ) → InFrame region n (1 - current) i → ¬ TouchedAt stage i
    idle_free WriteFrame later i here touched = omega (arith, later)
    idle_free SyncFrame later i here touched = touched
    idle_free WriteSelector later i here touched = before_selector (1 - current) i (omega arith) here (touches_selector i touched).0
    idle_free SyncSelector later i here touched = touched

    -- none but the third touches the selector
    pub selector_free : (stage : Stage) → ¬ (stage_number stage ≡ 2) → ¬ TouchedAt stage (selector_start region n)
    selector_free WriteFrame other touched =
        before_selector (1 - current) (selector_start region n) (omega arith) (touches_frame (selector_start region n) touched) (omega arith)
    selector_free SyncFrame other touched = touched
    selector_free WriteSelector other touched = other (omega arith)
    selector_free SyncSelector other touched = touched

    -- what a call touches lies in the region
    pub touched_inside : (stage : Stage) (i : ℕ) → TouchedAt stage i → Inside region i
    touched_inside WriteFrame i touched =
        frame_within (1 - current) (omega arith) i (subst (λ (k : ℕ). Touches (frame_start region n (1 - current)) k i) whole touched)
    touched_inside SyncFrame i touched = absurd touched
    touched_inside WriteSelector i touched =
        selector_within i (subst (λ (k : ℕ). Touches (selector_start region n) k i) (selector_length (1 - current)) touched)
    touched_inside SyncSelector i touched = absurd touched

    -- so what changes where it touches changes in the region alone
    pub writes_inside : {D : Type 0} (disk : DiskOf D) (stage : Stage) (most : ℕ) (old new : D) → WritesAt disk (TouchedAt stage) most old new → WritesWithin disk region most old new
    writes_inside disk stage most old new = writes_wider disk (TouchedAt stage) (Inside region) (touched_inside stage) most most (omega arith) old new

  -- a frame and the selector lie in the region
  pub frame_inside : (number i : ℕ) → number < 2 → InFrame region n number i → Inside region i
  frame_inside number i two here = (omega (arith, here.0), omega (arith, here.1, frame_bound n number two, room.least))

  pub selector_inside : Inside region (selector_start region n)
  selector_inside = (omega arith, omega (arith, room.least))

-- Where bytes change at P alone, a frame without any such byte stays, and so does the frame that the selector names.
module _ (P : ℕ → Type 0) (region : Region) (n : ℕ) where
  pub frame_same : (number : ℕ) → ((i : ℕ) → InFrame region n number i → ¬ P i) → (old new : List ℕ) → SameBut P old new
      → frame_of region n number new ≡ frame_of region n number old
  frame_same number free old new same = part_same P (frame_start region n number) n old new same (λ i above below. free i (above, below))

  pub named_same : ¬ P (selector_start region n) → (old new : List ℕ) → SameBut P old new → named_number region n new ≡ named_number region n old
  named_same free old new same = ap (λ (b : ℕ). b % 2) (same.others (selector_start region n) free)

  module _ (before after : List ℕ → Type 0) (changes : ChangesAt P before after) where
    pub has_same : (number : ℕ) → ((i : ℕ) → InFrame region n number i → ¬ P i) → (frame : List ℕ)
        → HasFrame region n number frame before → HasFrame region n number frame after
    has_same number free frame has c left =
        let from = changes c left in
        frame_same number free from.0 c from.2 ∙ has from.0 from.1

    pub names_same : ¬ P (selector_start region n) → (number : ℕ) → NamesFrame region n number before → NamesFrame region n number after
    names_same free number names c left =
        let from = changes c left in
        named_same free from.0 c from.2 ∙ names from.0 from.1
