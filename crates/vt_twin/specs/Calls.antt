-- The four device calls of a change.
use Rattle.std.specs.Prelude.{◌==◌, ℕ, ◌-◌, List, Option, Some, None, if◌then◌else◌}
use Rattle.vt_disk.specs.declared.region.Region.{Region}
use Rattle.vt_disk.specs.DeviceCalls.{DeviceCall}
use Rattle.vt_disk.specs.DeviceCalls.DeviceCall.{write, sync}
use Rattle.vt_twin.specs.declared.calls.Stage.{Stage}
use Rattle.vt_twin.specs.declared.calls.Stage.TheVariants.{WriteFrame, SyncFrame, WriteSelector, SyncSelector}
use Rattle.vt_twin.specs.Frames.{frame_start, selector_start, selector_len, selector_bytes}

-- A call of a change to this frame, where `made` calls came before it: the first writes the idle
-- frame, the third a selector that names it, and the others sync.
abbrev pub call_at : (made : ℕ) → Region → (n current : ℕ) → (frame : List ℕ) → DeviceCall
call_at made region n current frame =
    if made == 0 then write (frame_start region n (1 - current)) frame
    else if made == 2 then write (selector_start region n)
    (selector_bytes (1 - current) (selector_len region n))
    else sync

-- how many calls of a change come before this one
abbrev pub stage_number : Stage → ℕ
stage_number WriteFrame = 0
stage_number SyncFrame = 1
stage_number WriteSelector = 2
stage_number SyncSelector = 3

-- the call behind this one, if it isn't the last
abbrev pub next_stage : Stage → Option Stage
next_stage WriteFrame = Some SyncFrame
next_stage SyncFrame = Some WriteSelector
next_stage WriteSelector = Some SyncSelector
next_stage SyncSelector = None
