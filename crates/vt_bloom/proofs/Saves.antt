-- What the device keeps of a filter.
use Rattle.std.proofs.Common.{◌≡◌, ◌≤◌, inl, inr, ⊎_elim, ℕ, List, length, None, Some, Ok, Err, refl, sym, ap, ◌∙◌, subst, arith}
use Rattle.std.specs.Prelude.{◌↔◌, IsSome, Result, MatchResult}
use Rattle.vt_disk.specs.declared.call.CallCount.{CallCount}
use Rattle.vt_disk.specs.declared.call.CallError.{CallError}
use Rattle.vt_disk.specs.declared.call.CallError.TheVariants.{Fault, Stopped}
use Rattle.vt_disk.specs.DeviceCalls.{call_counted, stopped_at}
use Rattle.vt_disk.specs.Disk.{ChangesAt, WithinCall}
use Rattle.vt_twin.specs.Frames.{current_frame}
use Rattle.vt_twin.specs.Sound.{TwinHasBegunSelector, GivesOldOrNew, IsSoundTwin, frame_after}
use Rattle.vt_twin.specs.Twin.{TwinState, twin_calls_made, next_frame, without_spare, TwinAdvances}
use Rattle.vt_twin.specs.declared.step.Step.{Step}
use Rattle.vt_twin.specs.declared.step.Step.TheVariants.{More, Done}
use Rattle.vt_twin.proofs.Changes.{begun_made, begun_some, some_none}
use Rattle.vt_twin.proofs.Steps.{sound_gives}
use Rattle.vt_bloom.specs.Bloom.{BloomState, BloomAdvances, IsSoundBloom, HasCounts, HasOldOrNew, with_save, at_end, saved_after}
use Rattle.vt_bloom.specs.Frame.{Saved, Covers, IsFilterFrame, HasSaved, saved_frame, current_of}
use Rattle.vt_bloom.specs.Size.{filter_frame_len, filter_region, IsLargest}

-- a file whose current frame is that of a filter
has_saved : (m n : ℕ) (s : Saved) (frame file : List ℕ) → s.filter.m ≡ m → n ≡ filter_frame_len m
    → IsLargest (length file) m → current_frame (filter_region m) n file ≡ frame → IsFilterFrame s frame
    → HasSaved s file
has_saved m n s frame file same len largest current is = record {
  largest = subst (λ (j : ℕ). IsLargest (length file) j) (sym same) largest;
  frame = subst (λ (l : List ℕ). IsFilterFrame s l)
      (sym (ap (λ (j : ℕ). current_of j file) same
      ∙ ap (λ (j : ℕ). current_frame (filter_region m) j file) (sym len) ∙ current)) is;
}

-- as many bytes stay
pub largest_stays : (m : ℕ) (P : ℕ → Type 0) (before after : List ℕ → Type 0)
    → ChangesAt P before after → ((c : List ℕ) → before c → IsLargest (length c) m)
    → (c : List ℕ) → after c → IsLargest (length c) m
largest_stays m P before after changes largest c left =
    let from = changes c left in
    subst (λ (n : ℕ). IsLargest n m) (sym from.2.same_length) (largest from.0 from.1)

module _ {D : Type 0} (b : BloomState D) (saved coming : Saved) (read : List ℕ)
    (images : List ℕ → Type 0) (sound : IsSoundBloom b saved coming read images) where
  pub has_old : (c : List ℕ) → IsLargest (length c) b.m
      → current_frame (filter_region b.m) b.twin.frame_len c ≡ sound.old → HasSaved saved c
  has_old c largest current =
      has_saved b.m b.twin.frame_len saved sound.old c sound.saved_counts.0 sound.len largest
      current sound.saved_is

  pub has_new : IsSome b.twin.change → (c : List ℕ) → IsLargest (length c) b.m
      → current_frame (filter_region b.m) b.twin.frame_len c ≡ next_frame b.twin → HasSaved coming c
  has_new some c largest current =
      has_saved b.m b.twin.frame_len coming (next_frame b.twin) c (sound.coming_counts some).0
      sound.len largest current (sound.coming_is some)

  -- which filter a file has, by the frame that it gives
  pub has_either : (began : Type 0) → (began → IsSome b.twin.change) → (c : List ℕ)
      → IsLargest (length c) b.m
      → GivesOldOrNew began (filter_region b.m) b.twin.frame_len sound.old (next_frame b.twin) c
      → HasOldOrNew began saved coming c
  has_either began some c largest gives = ⊎_elim
      (λ old. inl (has_old c largest old))
      (λ new. inr (new.0, has_new (some new.0) c largest new.1))
      gives

  pub begun_save : TwinHasBegunSelector b.twin → IsSome b.twin.change
  begun_save = begun_some b.twin.change _

  -- what a crash leaves
  pub crash_leaves : (c : List ℕ) → images c
      → HasOldOrNew (TwinHasBegunSelector b.twin) saved coming c
  crash_leaves c left =
      has_either (TwinHasBegunSelector b.twin) begun_save c (sound.largest c left)
      (sound_gives b.twin (filter_region b.m) sound.old read images sound.twin c left)

  -- where no call is made
  pub crash_stays : (c : List ℕ) → WithinCall images images c
      → HasOldOrNew (2 ≤ twin_calls_made b.twin) saved coming c
  crash_stays c left = ⊎_elim
      inl
      (λ new. inr (begun_made b.twin new.0, new.1))
      (crash_leaves c (⊎_elim (λ was. was) (λ is. is) left))

  pub rest_leaves : b.twin.change ≡ None → (c : List ℕ) → images c → HasSaved saved c
  rest_leaves rest c left = ⊎_elim
      (λ has. has)
      (λ has. absurd (some_none b.twin.change (begun_save has.0) rest))
      (crash_leaves c left)

  pub either_covers : (began : Type 0) (scores : List (List ℕ)) → Covers scores saved
      → (began → Covers scores coming) → (c : List ℕ) → HasOldOrNew began saved coming c
      → (s : Saved) × HasSaved s c × Covers scores s
  either_covers began scores old new c either = ⊎_elim
      (λ has. (saved, has, old))
      (λ has. (coming, has.1, new has.0))
      either

  pub crash_covers : (scores : List (List ℕ)) → Covers scores saved
      → (IsSome b.twin.change → Covers scores coming) → (c : List ℕ) → images c
      → (s : Saved) × HasSaved s c × Covers scores s
  crash_covers scores old new c left =
      either_covers (TwinHasBegunSelector b.twin) scores old (λ begun. new (begun_save begun)) c
      (crash_leaves c left)

  -- a save begins
  pub save_sound : (next : Saved) → b.twin.change ≡ None → IsFilterFrame next (saved_frame next)
      → HasCounts b next.filter → IsSoundBloom (with_save next b) saved next read images
  save_sound next rest is counts = record {
    largest = sound.largest;
    old = sound.old;
    twin = record {
      number = sound.twin.number;
      kept = sound.twin.kept;
      named = λ waits. sound.twin.named (λ begun. none_begun (begun_save begun));
      written = λ made. absurd (omega arith);
      synced = λ made. absurd (omega arith);
      selected = λ made. absurd (omega arith);
    };
    len = sound.len;
    saved_is = sound.saved_is;
    saved_counts = sound.saved_counts;
    saved_mark = sound.saved_mark;
    coming_is = λ _. is;
    coming_counts = λ _. counts;
    coming_mark = λ _. refl;
  }
    where
      none_begun : IsSome b.twin.change → ⊥
      none_begun some = cc

  module _ (some : IsSome b.twin.change) (disk : D) (t : TwinState) (calls : CallCount)
      (reads : List ℕ) (after : List ℕ → Type 0) (len : t.frame_len ≡ b.twin.frame_len)
      (largest : (c : List ℕ) → after c → IsLargest (length c) b.m) where
    -- a call that wasn't the last, or failed
    goes_sound : next_frame t ≡ next_frame b.twin
        → IsSoundTwin t (filter_region b.m) sound.old reads after
        → IsSoundBloom (record b { disk = disk; twin = t; calls = calls }) saved coming reads after
    goes_sound same twin = record {
      largest = largest;
      old = sound.old;
      twin = twin;
      len = len ∙ sound.len;
      saved_is = sound.saved_is;
      saved_counts = sound.saved_counts;
      saved_mark = sound.saved_mark;
      coming_is = λ _. subst (λ (l : List ℕ). IsFilterFrame coming l) (sym same) (sound.coming_is some);
      coming_counts = λ _. sound.coming_counts some;
      coming_mark = λ _. sound.coming_mark some;
    }

    -- the last call
    ended_sound : t.change ≡ None
        → IsSoundTwin t (filter_region b.m) (next_frame b.twin) reads after
        → IsSoundBloom (record b {
          disk = disk;
          mark = b.next;
          twin = without_spare t;
          calls = calls;
        }) coming coming reads after
    ended_sound rest twin = record {
      largest = largest;
      old = next_frame b.twin;
      twin = record {
        number = twin.number;
        kept = twin.kept;
        named = twin.named;
        written = twin.written;
        synced = twin.synced;
        selected = twin.selected;
      };
      len = len ∙ sound.len;
      saved_is = sound.coming_is some;
      saved_counts = sound.coming_counts some;
      saved_mark = sound.coming_mark some;
      coming_is = λ changing. absurd (none changing);
      coming_counts = λ changing. absurd (none changing);
      coming_mark = λ changing. absurd (none changing);
    }
      where
        none : IsSome t.change → ⊥
        none changing = cc

    -- a call, whatever came of it
    pub step_sound : (outcome : Result Step CallError) → TwinAdvances outcome b.twin t
        → IsSoundTwin t (filter_region b.m) (frame_after outcome b.twin sound.old) reads after
        → IsSoundBloom (record b {
          disk = disk;
          mark = at_end outcome b.next b.mark;
          twin = at_end outcome (without_spare t) t;
          calls = calls;
        }) (saved_after outcome saved coming) coming reads after
    step_sound (Ok Done) steps = ended_sound (ap (λ (u : TwinState). u.change) steps)
    step_sound (Ok More) steps = goes_sound (ap (λ (u : TwinState). next_frame u) steps)
    step_sound (Err e) steps = goes_sound (ap (λ (u : TwinState). next_frame u) steps)

-- what a call makes of a filter that isn't stopped
pub advances : {D : Type 0} (b : BloomState D) (disk : D) (t : TwinState) (calls : CallCount)
    (outcome : Result Step CallError) → b.calls.stopped ≡ None
    → ((n : ℕ) → outcome ≡ Err (Stopped n) ↔ (b.calls.stopped ≡ Some n))
    → TwinAdvances outcome b.twin t
    → MatchResult outcome (λ _. calls ≡ call_counted b.calls) (λ _. calls ≡ stopped_at b.calls)
    → BloomAdvances outcome b (record b {
      disk = disk;
      mark = at_end outcome b.next b.mark;
      twin = at_end outcome (without_spare t) t;
      calls = calls;
    })
advances b disk t calls (Ok More) runs stops steps counts = λ i. record b {
  disk = disk;
  twin = steps i;
  calls = counts i;
}
advances b disk t calls (Ok Done) runs stops steps counts = λ i. record b {
  disk = disk;
  mark = b.next;
  twin = without_spare (steps i);
  calls = counts i;
}
advances b disk t calls (Err Fault) runs stops steps counts = λ i. record b {
  disk = disk;
  twin = steps i;
  calls = counts i;
}
advances b disk t calls (Err (Stopped n)) runs stops steps counts =
    absurd (let is : None ≡ Some n = sym runs ∙ (stops n).0 refl in cc)
