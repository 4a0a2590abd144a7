-- A filter's device, and what it has to do with what is saved on it.
use Rattle.std.specs.Prelude.{◌≡◌, ◌⊎◌, ℕ, List, length, IsSome, Result, Ok, Err}
use Rattle.vt_disk.specs.declared.call.CallCount.{CallCount}
use Rattle.vt_disk.specs.declared.call.CallError.{CallError}
use Rattle.vt_disk.specs.declared.call.CallError.TheVariants.{Fault, Stopped}
use Rattle.vt_disk.specs.DeviceCalls.{call_counted, stopped_at}
use Rattle.vt_twin.specs.declared.step.Step.{Step}
use Rattle.vt_twin.specs.declared.step.Step.TheVariants.{More, Done}
use Rattle.vt_twin.specs.Sound.{IsSoundTwin}
use Rattle.vt_twin.specs.Twin.{TwinState, with_change, without_spare, next_frame, after_call, twin_after_last, twin_after_fault}
use Rattle.vt_bloom.specs.declared.error.BloomError.{BloomError}
use Rattle.vt_bloom.specs.Bits.{Filter}
use Rattle.vt_bloom.specs.Faults.{TellsOfFrame}
use Rattle.vt_bloom.specs.Frame.{Saved, IsFilterFrame, HasSaved, saved_frame}
use Rattle.vt_bloom.specs.Size.{filter_frame_len, filter_region, IsLargest}

-- The device, how many bits its filter has and each score, the mark that is saved, the one of the
-- save under way or, with none under way, of the last, the pair of frames that a save changes, and
-- the count of the saves' device calls.
pub record BloomState (D : Type 0) : Type 0 where
  pub disk : D
  pub m : ℕ
  pub k : ℕ
  pub mark : ℕ
  pub next : ℕ
  pub twin : TwinState
  pub calls : CallCount

-- a filter has the counts of this one
abbrev pub HasCounts : {D : Type 0} → BloomState D → Filter → Type 0
HasCounts b filter = (filter.m ≡ b.m) × (filter.k ≡ b.k)

-- The device, by what it reads as and by its images, is sound for a filter of which `saved` is
-- saved, and `coming` is being saved if a save is under way.
pub record IsSoundBloom {D : Type 0} (b : BloomState D) (saved coming : Saved) (read : List ℕ)
    (images : List ℕ → Type 0) : Type 0 where
  pub largest : (c : List ℕ) → images c → IsLargest (length c) b.m
  pub old : List ℕ
  pub twin : IsSoundTwin b.twin (filter_region b.m) old read images
  pub len : b.twin.frame_len ≡ filter_frame_len b.m
  pub saved_is : IsFilterFrame saved old
  pub saved_counts : HasCounts b saved.filter
  pub saved_mark : saved.mark ≡ b.mark
  pub coming_is : IsSome b.twin.change → IsFilterFrame coming (next_frame b.twin)
  pub coming_counts : IsSome b.twin.change → HasCounts b coming.filter
  pub coming_mark : IsSome b.twin.change → coming.mark ≡ b.next

-- the file has the old filter or, once the selector's write began, the old one or the new
abbrev pub HasOldOrNew : (began : Type 0) → (old new : Saved) → (file : List ℕ) → Type 0
HasOldOrNew began old new file = HasSaved old file ⊎ (began × HasSaved new file)

-- a save of this filter was begun
abbrev pub with_save : {D : Type 0} → Saved → BloomState D → BloomState D
with_save saved b = record b { next = saved.mark; twin = with_change (saved_frame saved) b.twin }

-- of two, the first behind a save's last call, and else the second
abbrev pub at_end : {A E : Type 0} → Result Step E → (ended goes : A) → A
at_end (Ok Done) ended goes = ended
at_end (Ok More) ended goes = goes
at_end (Err e) ended goes = goes

-- the filter that is saved after a step of a save: the new one after the last, else the old
abbrev pub saved_after : Result Step CallError → (old new : Saved) → Saved
saved_after result old new = at_end result new old

-- what `advance` makes of a filter
abbrev pub BloomAdvances : {D : Type 0} → Result Step CallError → (old new : BloomState D) → Type 0
BloomAdvances (Ok More) old new = new ≡ record old {
  disk = new.disk;
  twin = after_call old.twin;
  calls = call_counted old.calls;
}
BloomAdvances (Ok Done) old new = new ≡ record old {
  disk = new.disk;
  mark = old.next;
  twin = without_spare (twin_after_last old.twin);
  calls = call_counted old.calls;
}
BloomAdvances (Err Fault) old new = new ≡ record old {
  disk = new.disk;
  twin = twin_after_fault old.twin;
  calls = stopped_at old.calls;
}
BloomAdvances (Err (Stopped n)) old new = new ≡ old

-- the device after mounting, whatever the answer
abbrev pub disk_after : {D : Type 0} → Result (BloomState D × Filter) (BloomError × D) → D
disk_after (Ok mounted) = mounted.0.disk
disk_after (Err refusal) = refusal.1

-- mounting came so far as to test the current frame
abbrev pub HasTested : {D : Type 0} → Result (BloomState D × Filter) (BloomError × D) → Type 0
HasTested (Ok mounted) = Unit {0}
HasTested (Err refusal) = TellsOfFrame refusal.0
