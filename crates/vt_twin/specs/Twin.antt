-- A twin as its calls see it.
use Rattle.std.specs.Prelude.{◌≡◌, ℕ, ◌+◌, ◌-◌, Bool, true, false, List, [], Option, Some, None, if◌then◌else◌, Result, Ok, Err}
use Rattle.std.specs.Option.{option_map_or}
use Rattle.vt_disk.specs.declared.region.Region.{Region}
use Rattle.vt_disk.specs.DeviceCalls.{DeviceCall}
use Rattle.vt_twin.specs.declared.step.Step.{Step}
use Rattle.vt_twin.specs.declared.step.Step.TheVariants.{More, Done}
use Rattle.vt_twin.specs.Calls.{call_at}

-- A change under way: the frame that it brings, and how many of its four device calls succeeded.
-- The first writes the idle frame, the second syncs it, the third writes the selector, the fourth
-- syncs it.
pub record FrameChange : Type 0 where
  pub frame : List ℕ
  pub made : ℕ

-- A twin: the length of its frames, the number of the current one, the change under way, the buffer
-- of the last change until it is handed back, and whether one of its device calls failed.
pub record TwinState : Type 0 where
  pub frame_len : ℕ
  pub current : ℕ
  pub change : Option FrameChange
  pub spare : Option (List ℕ)
  pub failed : Bool

-- how many calls of the change under way succeeded
abbrev pub twin_calls_made : TwinState → ℕ
twin_calls_made t = option_map_or (λ it. it.made) t.change 0

-- How many calls of the change under way were begun: the one that failed too.
abbrev pub calls_begun : TwinState → ℕ
calls_begun t = twin_calls_made t + (if t.failed then 1 else 0)

-- the frame that the change under way brings
abbrev pub next_frame : TwinState → List ℕ
next_frame t = option_map_or (λ it. it.frame) t.change []

-- the next device call of the change under way, of a twin in this region
abbrev pub next_call : TwinState → Region → DeviceCall
next_call t region = call_at (twin_calls_made t) region t.frame_len t.current (next_frame t)

-- a twin with no change under way, none of whose calls failed, and whose current frame has this
-- number
abbrev pub fresh : (frame_len number : ℕ) → TwinState
fresh frame_len number = record {
  frame_len = frame_len;
  current = number;
  change = None;
  spare = None;
  failed = false;
}

-- the twin with a change to this frame under way
abbrev pub with_change : List ℕ → TwinState → TwinState
with_change frame t = record t { change = Some (record { frame = frame; made = 0 }); spare = None }

-- the twin whose buffer was handed back
abbrev pub without_spare : TwinState → TwinState
without_spare t = record t { spare = None }

-- the twin after a call of the change that succeeded and wasn't the last
abbrev pub after_call : TwinState → TwinState
after_call t = record t {
  change = Some (record { frame = next_frame t; made = twin_calls_made t + 1 });
}

-- after the last one: the frame that was idle is the current one
abbrev pub twin_after_last : TwinState → TwinState
twin_after_last t = record t {
  current = 1 - t.current;
  change = None;
  spare = Some (next_frame t);
}

-- after one that failed
abbrev pub twin_after_fault : TwinState → TwinState
twin_after_fault t = record t { failed = true }

-- what `advance` makes of a twin
abbrev pub TwinAdvances : {E : Type 0} → Result Step E → (old new : TwinState) → Type 0
TwinAdvances (Ok More) old new = new ≡ after_call old
TwinAdvances (Ok Done) old new = new ≡ twin_after_last old
TwinAdvances (Err e) old new = new ≡ twin_after_fault old
