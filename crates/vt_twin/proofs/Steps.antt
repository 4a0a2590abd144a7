-- What each call of a change leaves of a sound twin.
use Rattle.std.proofs.Common.{◌≡◌, ⊎_elim, inl, inr, ℕ, ◌+◌, ◌-◌, ◌%◌, ◌<◌, ◌≤◌, List, get_or, Some, length, sym, ◌∙◌, ap, subst, arith}
use Rattle.std.proofs.lemmas.Bool.{cases_lt, cases_eq}
use Rattle.std.proofs.lemmas.List.{length-replicate}
use Rattle.vt_disk.specs.declared.region.Region.{Region}
use Rattle.vt_disk.specs.Disk.{SameBut, ChangesAt, WithinCall, Only, with_bytes, part}
use Rattle.vt_disk.proofs.Bytes.{part-with_bytes, with_bytes_within}
use Rattle.vt_disk.specs.DeviceCalls.{TouchedBy, bytes_after}
use Rattle.vt_disk.specs.DeviceCalls.DeviceCall.{sync}
use Rattle.vt_twin.specs.declared.calls.Stage.{Stage}
use Rattle.vt_twin.specs.declared.calls.Stage.TheVariants.{WriteFrame, SyncFrame, WriteSelector, SyncSelector}
use Rattle.vt_twin.specs.Frames.{FitsTwin, frame_start, selector_start, selector_len, selector_bytes, frame_of, named_number, current_frame}
use Rattle.vt_twin.specs.Twin.{TwinState, twin_calls_made, calls_begun, next_frame, after_call, twin_after_last, twin_after_fault}
use Rattle.vt_twin.specs.Calls.{call_at, next_stage, stage_number}
use Rattle.vt_twin.specs.Sound.{HasFrame, NamesFrame, IsSoundTwin, TwinHasBegunSelector, GivesOldOrNew}
use Rattle.vt_twin.proofs.Changes.{begun_bound}
use Rattle.vt_twin.proofs.Places.{current_free, idle_free, selector_free, frame_same, named_same, has_same, names_same, frame_bound}

-- what a crash between two calls leaves
pub sound_gives : (t : TwinState) (region : Region) (old read : List ℕ) (images : List ℕ → Type 0) → IsSoundTwin t region old read images
    → (c : List ℕ) → images c → GivesOldOrNew (TwinHasBegunSelector t) region t.frame_len old (next_frame t) c
sound_gives t region old read images sound c left = ⊎_elim
    (λ (few : calls_begun t < 3). inl (gives old (sound.named (λ begun. omega (arith, few, begun)) c left) sound.kept))
    (λ (begun : 3 ≤ calls_begun t). ⊎_elim
    (λ (same : named_number region t.frame_len c ≡ t.current). inl (gives old same sound.kept))
    (λ (other : named_number region t.frame_len c ≡ t.current → ⊥).
    let is : named_number region t.frame_len c ≡ 1 - t.current = omega (arith, sound.number) in
    inr (begun, gives (next_frame t) is (sound.synced (omega (arith, begun, begun_bound t)))))
    (cases_eq (named_number region t.frame_len c) t.current))
    (cases_lt (calls_begun t) 3)
  where
    gives : {number : ℕ} (frame : List ℕ) → named_number region t.frame_len c ≡ number → HasFrame region t.frame_len number frame images → current_frame region t.frame_len c ≡ frame
    gives frame is has = ap (λ (k : ℕ). frame_of region t.frame_len k c) is ∙ has c left

-- what a crash within a call leaves, by the twin before it and after it
pub crash_gives : (t later : TwinState) (region : Region) (old read reads : List ℕ) (before after : List ℕ → Type 0)
    → IsSoundTwin t region old read before → IsSoundTwin later region old reads after
    → later.frame_len ≡ t.frame_len → next_frame later ≡ next_frame t → calls_begun later ≤ twin_calls_made t + 1
    → (c : List ℕ) → WithinCall before after c → GivesOldOrNew (2 ≤ twin_calls_made t) region t.frame_len old (next_frame t) c
crash_gives t later region old read reads before after sound sound_later same_len same_frame begun c left = ⊎_elim
    (λ (was : before c). ⊎_elim inl (λ gives. inr (omega (arith, gives.0, begun_bound t), gives.1)) (sound_gives t region old read before sound c was))
    (λ (is : after c). ⊎_elim
    (λ gives. inl (ap (λ (n : ℕ). current_frame region n c) (sym same_len) ∙ gives))
    (λ gives. inr (omega (arith, gives.0, begun), ap (λ (n : ℕ). current_frame region n c) (sym same_len) ∙ gives.1 ∙ same_frame))
    (sound_gives later region old reads after sound_later c is))
    left

module _ (t : TwinState) (region : Region) (size : ℕ) (room : FitsTwin region t.frame_len size)
    (old read reads : List ℕ) (before after : List ℕ → Type 0) (stage : Stage) (made : twin_calls_made t ≡ stage_number stage) (whole : length (next_frame t) ≡ t.frame_len)
    (same : SameBut (TouchedBy (call_at (stage_number stage) region t.frame_len t.current (next_frame t))) read reads)
    (changes : ChangesAt (TouchedBy (call_at (stage_number stage) region t.frame_len t.current (next_frame t))) before after)
    (sound : IsSoundTwin t region old read before) where
  P : ℕ → Type 0
  P = TouchedBy (call_at (stage_number stage) region t.frame_len t.current (next_frame t))

  kept_after : HasFrame region t.frame_len t.current old after
  unfolding P
  kept_after = has_same P region t.frame_len before after changes t.current (current_free region t.frame_len size room t.current sound.number (next_frame t) whole stage) old sound.kept

  named_after : ¬ (3 ≤ twin_calls_made t + 1) → NamesFrame region t.frame_len t.current after
  unfolding P
  named_after waits =
      names_same P region t.frame_len before after changes
      (selector_free region t.frame_len size room t.current sound.number (next_frame t) whole stage (λ third. waits (omega (arith, made, third))))
      t.current (sound.named (λ begun. waits (omega (arith, begun, begun_bound t))))

  later : 1 ≤ twin_calls_made t → 1 ≤ stage_number stage
  later some = omega (arith, made, some)

  written_after : 1 ≤ twin_calls_made t → frame_of region t.frame_len (1 - t.current) reads ≡ next_frame t
  unfolding P
  written_after some =
      frame_same P region t.frame_len (1 - t.current) (idle_free region t.frame_len size room t.current sound.number (next_frame t) whole stage (later some)) read reads same
      ∙ sound.written some

  synced_after : 2 ≤ twin_calls_made t → HasFrame region t.frame_len (1 - t.current) (next_frame t) after
  unfolding P
  synced_after some =
      has_same P region t.frame_len before after changes (1 - t.current) (idle_free region t.frame_len size room t.current sound.number (next_frame t) whole stage (later (omega arith)))
      (next_frame t) (sound.synced some)

  selected_after : 3 ≤ twin_calls_made t → named_number region t.frame_len reads ≡ 1 - t.current
  unfolding P
  selected_after some =
      named_same P region t.frame_len (selector_free region t.frame_len size room t.current sound.number (next_frame t) whole stage (λ third. omega (arith, made, third, some))) read reads same
      ∙ sound.selected some

  -- a call that failed
  pub fault_sound : IsSoundTwin (twin_after_fault t) region old reads after
  fault_sound = record {
    number = sound.number;
    kept = kept_after;
    named = named_after;
    written = written_after;
    synced = synced_after;
    selected = selected_after;
  }

  module _ (fits : length read ≡ size)
      (bytes : reads ≡ bytes_after (call_at (stage_number stage) region t.frame_len t.current (next_frame t)) read)
      (settled : call_at (stage_number stage) region t.frame_len t.current (next_frame t) ≡ sync → Only reads after) where
    written_by : (k : ℕ) → stage_number stage ≡ k → reads ≡ bytes_after (call_at k region t.frame_len t.current (next_frame t)) read
    written_by k is = subst (λ (n : ℕ). reads ≡ bytes_after (call_at n region t.frame_len t.current (next_frame t)) read) is bytes

    -- the first call writes the idle frame
    frame_read : frame_of region t.frame_len (1 - t.current) reads ≡ next_frame t
    frame_read = ⊎_elim first written_after (cases_lt (twin_calls_made t) 1)
      where
        first : twin_calls_made t < 1 → frame_of region t.frame_len (1 - t.current) reads ≡ next_frame t
        first none =
            let bytes_are : reads ≡ with_bytes (frame_start region t.frame_len (1 - t.current)) (next_frame t) read =
            written_by 0 (omega (arith, made, none)) in
            ap (λ (file : List ℕ). frame_of region t.frame_len (1 - t.current) file) bytes_are
            ∙ subst (λ (k : ℕ). part (frame_start region t.frame_len (1 - t.current)) k (with_bytes (frame_start region t.frame_len (1 - t.current)) (next_frame t) read) ≡ next_frame t) whole
            (part-with_bytes (frame_start region t.frame_len (1 - t.current)) (next_frame t) read
            (omega (arith, whole, fits, room.within, room.least, frame_bound t.frame_len (1 - t.current) (omega arith))))

    -- the third call writes the selector
    start : ℕ
    start = selector_start region t.frame_len

    selector : List ℕ
    selector = selector_bytes (1 - t.current) (selector_len region t.frame_len)

    selector_fits : start + length selector ≤ length read
    unfolding start selector
    selector_fits = omega (arith, length-replicate {A = ℕ} (selector_len region t.frame_len - 1) 0, fits, room.within, room.least)

    selector_read : 3 ≤ twin_calls_made t + 1 → named_number region t.frame_len reads ≡ 1 - t.current
    unfolding start selector
    selector_read some = ⊎_elim third selected_after (cases_lt (twin_calls_made t) 3)
      where
        third : twin_calls_made t < 3 → named_number region t.frame_len reads ≡ 1 - t.current
        third few =
            let bytes_are : reads ≡ with_bytes start selector read =
            written_by 2 (omega (arith, made, some, few)) in
            let some_bytes : start < start + length selector = omega arith in
            let first : start - start ≡ 0 = omega arith in
            let small : (1 - t.current) % 2 ≡ 1 - t.current = omega (arith, sound.number) in
            ap (λ (file : List ℕ). named_number region t.frame_len file) bytes_are
            ∙ ap (λ (b : ℕ). b % 2) (with_bytes_within start selector read selector_fits 0 start (omega arith) some_bytes ∙ ap (λ (k : ℕ). get_or selector k 0) first)
            ∙ small

    -- the second call syncs the idle frame
    syncs_second : stage_number stage ≡ 1 → call_at (stage_number stage) region t.frame_len t.current (next_frame t) ≡ sync
    syncs_second second = ap (λ (n : ℕ). call_at n region t.frame_len t.current (next_frame t)) second

    frame_synced : 2 ≤ twin_calls_made t + 1 → HasFrame region t.frame_len (1 - t.current) (next_frame t) after
    frame_synced some = ⊎_elim second synced_after (cases_lt (twin_calls_made t) 2)
      where
        second : twin_calls_made t < 2 → HasFrame region t.frame_len (1 - t.current) (next_frame t) after
        second few c left = ap (λ (file : List ℕ). frame_of region t.frame_len (1 - t.current) file) (settled (syncs_second (omega (arith, made, few, some))) c left) ∙ frame_read

    -- a call that succeeded, and wasn't the last
    pub call_sound : IsSoundTwin (after_call t) region old reads after
    call_sound = record {
      number = sound.number;
      kept = kept_after;
      named = λ waits. named_after (λ begun. waits (omega (arith, begun)));
      written = λ some. frame_read;
      synced = frame_synced;
      selected = selector_read;
    }

    -- the last one
    pub last_sound : stage_number stage ≡ 3 → IsSoundTwin (twin_after_last t) region (next_frame t) reads after
    last_sound last = record {
      number = omega (arith, sound.number);
      kept = synced_after (omega (arith, made, last));
      named = λ waits c left.
          ap (λ (file : List ℕ). named_number region t.frame_len file) (settled syncs_last c left)
          ∙ selected_after (omega (arith, made, last));
      written = λ some. absurd (omega (arith, some));
      synced = λ some. absurd (omega (arith, some));
      selected = λ some. absurd (omega (arith, some));
    }
      where
        syncs_last : call_at (stage_number stage) region t.frame_len t.current (next_frame t) ≡ sync
        syncs_last = ap (λ (n : ℕ). call_at n region t.frame_len t.current (next_frame t)) last
