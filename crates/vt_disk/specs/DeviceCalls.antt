-- One device call that may change a disk: what it touches, what a read gives behind it, and how it
-- is counted.
use Rattle.std.specs.Prelude.{◌≡◌, ℕ, ◌+◌, ◌≤◌, Bool, true, false, List, length, Some, None, IsTrue, OnOk, Result, MatchResult}
pub use Rattle.vt_base.specs.Faults.{one_more}
use Rattle.vt_base.specs.Faults.{HasCause}
use Rattle.vt_disk.specs.declared.call.Call.{Call}
use Rattle.vt_disk.specs.declared.call.Call.TheVariants.{Write, Sync}
use Rattle.vt_disk.specs.declared.call.CallCount.{CallCount}
use Rattle.vt_disk.specs.declared.call.CallError.{CallError}
use Rattle.vt_disk.specs.declared.call.CallError.TheVariants.{Fault, Stopped}
use Rattle.vt_disk.specs.Calls.{WritesAt, MadeCalls, IsSynced}
use Rattle.vt_disk.specs.Disk.{Touches, with_bytes}
use Rattle.vt_disk.specs.Members.{DiskOf}

-- a write of these bytes from a place of the disk on, or a sync
pub data DeviceCall : Type 0 where
  write : (start : ℕ) (chunk : List ℕ) → DeviceCall
  sync : DeviceCall

-- the device call that a call in memory is
abbrev pub call_of : Call → DeviceCall
call_of (Write start chunk) = write start chunk.now
call_of Sync = sync

-- What the call touches lies on a disk of this size.
abbrev pub CallFits : DeviceCall → (size : ℕ) → Type 0
CallFits (write start chunk) size = start + length chunk ≤ size
CallFits sync size = Unit

-- the bytes that it touches
abbrev pub TouchedBy : DeviceCall → ℕ → Type 0
TouchedBy (write start chunk) i = Touches start (length chunk) i
TouchedBy sync i = ⊥

-- what a read gives behind it
abbrev pub bytes_after : DeviceCall → List ℕ → List ℕ
bytes_after (write start chunk) file = with_bytes start chunk file
bytes_after sync file = file

-- behind a call the count is one more; one that failed is the last, by its number
abbrev pub call_counted : CallCount → CallCount
call_counted calls = record calls { made = one_more calls.made }

-- the count behind a call that failed
abbrev pub stopped_at : CallCount → CallCount
stopped_at calls = record { made = one_more calls.made; stopped = Some calls.made }

-- No call had failed, and this one was made, and no other. Where it succeeds it did what it is to
-- do; where it fails it may have changed any of what it touches.
pub record CallMade {D T E : Type 0} (disk : DiskOf D) (call : DeviceCall) (result : Result T E)
    (old new : CallCount) (before after : D) : Type 0 where
  pub runs : old.stopped ≡ None
  pub counts : MatchResult result (λ _. new ≡ call_counted old) (λ _. new ≡ stopped_at old)
  pub written : OnOk result (IsTrue disk.tells
      → disk.bytes after ≡ bytes_after call (disk.bytes before))
  pub settled : OnOk result (call ≡ sync → IsSynced disk after)
  pub writes : WritesAt disk (TouchedBy call) 1 before after
  pub calls : MadeCalls disk 1 before after
  pub cause : HasCause result (disk.faults before) (disk.faults after)

-- the answer tells of a fault of the disk in this call
abbrev pub is_call_fault : CallError → Bool
is_call_fault Fault = true
is_call_fault (Stopped n) = false
