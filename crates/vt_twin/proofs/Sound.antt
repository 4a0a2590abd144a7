-- What a crash leaves of a sound twin, and what keeps it sound between its calls.
use Rattle.std.proofs.Common.{◌≡◌, ℕ, ◌+◌, ◌-◌, ◌*◌, ◌%◌, ◌<◌, List, None, sym, ◌∙◌, ap, arith}
use Rattle.std.specs.Prelude.{slice_index}
use Rattle.vt_disk.specs.declared.region.Region.{Region}
use Rattle.vt_disk.specs.Disk.{SameBut, AreAmong, ChangesAt, part}
use Rattle.vt_disk.specs.Region.{Inside}
use Rattle.vt_twin.specs.Frames.{FitsTwin, selector_start}
use Rattle.vt_twin.specs.Twin.{TwinState, fresh, next_frame, with_change, without_spare}
use Rattle.vt_twin.specs.Sound.{IsSoundTwin}
use Rattle.vt_twin.proofs.Changes.{begun_bound, none_made}
use Rattle.vt_twin.proofs.Places.{InFrame, frame_inside, selector_inside, frame_same, named_same, has_same, names_same}

-- what is done to the rest of the disk
pub sound_elsewhere : (t : TwinState) (region : Region) (size : ℕ) → FitsTwin region t.frame_len size
    → (P : ℕ → Type 0) → ((i : ℕ) → P i → ¬ Inside region i)
    → (old read reads : List ℕ) (before after : List ℕ → Type 0) → SameBut P read reads → ChangesAt P before after
    → IsSoundTwin t region old read before → IsSoundTwin t region old reads after
sound_elsewhere t region size room P apart old read reads before after same changes sound = record {
  number = sound.number;
  kept = has_same P region t.frame_len before after changes t.current (free t.current sound.number) old sound.kept;
  named = λ waits. names_same P region t.frame_len before after changes selector_is_free t.current (sound.named waits);
  written = λ made. frame_same P region t.frame_len (1 - t.current) idle_is_free read reads same ∙ sound.written made;
  synced = λ made. has_same P region t.frame_len before after changes (1 - t.current) idle_is_free (next_frame t) (sound.synced made);
  selected = λ made. named_same P region t.frame_len selector_is_free read reads same ∙ sound.selected made;
}
  where
    free : (number : ℕ) → number < 2 → (i : ℕ) → InFrame region t.frame_len number i → ¬ P i
    free number two i here changed = apart i changed (frame_inside region t.frame_len size room number i two here)

    idle_is_free : (i : ℕ) → InFrame region t.frame_len (1 - t.current) i → ¬ P i
    idle_is_free = free (1 - t.current) (omega arith)

    selector_is_free : ¬ P (selector_start region t.frame_len)
    selector_is_free changed = apart (selector_start region t.frame_len) changed (selector_inside region t.frame_len size room)

-- one at rest is sound as a fresh one
pub rests_fresh : (t : TwinState) (region : Region) (old read : List ℕ) (images : List ℕ → Type 0) → t.change ≡ None
    → IsSoundTwin t region old read images → IsSoundTwin (fresh t.frame_len t.current) region old read images
rests_fresh t region old read images none sound = record {
  number = sound.number;
  kept = sound.kept;
  named = λ waits. sound.named (λ begun. omega (arith, begun, begun_bound t, none_made t none));
  written = λ made. absurd (omega (arith, made));
  synced = λ made. absurd (omega (arith, made));
  selected = λ made. absurd (omega (arith, made));
}

-- a read or a sync
pub reads_sound : (t : TwinState) (region : Region) (old read reads : List ℕ) (images after : List ℕ → Type 0) → reads ≡ read → AreAmong after images
    → IsSoundTwin t region old read images → IsSoundTwin t region old reads after
reads_sound t region old read reads images after same among sound = record {
  number = sound.number;
  kept = λ c left. sound.kept c (among c left);
  named = λ waits c left. sound.named waits c (among c left);
  written = λ made. rw same (sound.written made);
  synced = λ made c left. sound.synced made c (among c left);
  selected = λ made. rw same (sound.selected made);
}

-- a change begins
pub begins_sound : (t : TwinState) (frame : List ℕ) (region : Region) (old read : List ℕ) (images : List ℕ → Type 0) → t.change ≡ None
    → IsSoundTwin t region old read images → IsSoundTwin (with_change frame t) region old read images
begins_sound t frame region old read images none it = record {
  number = it.number;
  kept = it.kept;
  named = λ waits. it.named (λ begun. omega (arith, begun, begun_bound t, none_made t none));
  written = λ made. absurd (omega (arith, made));
  synced = λ made. absurd (omega (arith, made));
  selected = λ made. absurd (omega (arith, made));
}

-- the buffer is handed back
pub idle_sound : (t : TwinState) (region : Region) (old read : List ℕ) (images : List ℕ → Type 0)
    → IsSoundTwin t region old read images → IsSoundTwin (without_spare t) region old read images
idle_sound t region old read images it = record {
  number = it.number;
  kept = it.kept;
  named = it.named;
  written = it.written;
  synced = it.synced;
  selected = it.selected;
}

-- a twin is found by its region's start
pub sound_moved : (t : TwinState) (r s : Region) (old read : List ℕ) (images : List ℕ → Type 0) → r.start ≡ s.start → IsSoundTwin t r old read images → IsSoundTwin t s old read images
sound_moved t r s old read images same sound = record {
  number = sound.number;
  kept = λ c left. ap (λ (p : ℕ). part (p + t.frame_len * t.current) t.frame_len c) (sym same) ∙ sound.kept c left;
  named = λ waits c left. ap (λ (p : ℕ). slice_index c (p + 2 * t.frame_len) % 2) (sym same) ∙ sound.named waits c left;
  written = λ made. ap (λ (p : ℕ). part (p + t.frame_len * (1 - t.current)) t.frame_len read) (sym same) ∙ sound.written made;
  synced = λ made c left. ap (λ (p : ℕ). part (p + t.frame_len * (1 - t.current)) t.frame_len c) (sym same) ∙ sound.synced made c left;
  selected = λ made. ap (λ (p : ℕ). slice_index read (p + 2 * t.frame_len) % 2) (sym same) ∙ sound.selected made;
}
