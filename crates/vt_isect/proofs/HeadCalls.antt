-- A call of the change of the head.
use Rattle.std.proofs.Common.{◌≡◌, ◌≢◌, inl, inr, ℕ, List, Option, None, Result, Ok, Err, IsTrue, refl, sym, ◌∙◌, ap, subst, arith}
use Rattle.std.proofs.lemmas.Result.{on_ok_weaker}
use Rattle.vt_base.specs.Faults.{CountsFault, one_more}
use Rattle.vt_disk.specs.Calls.{WritesWithin}
use Rattle.vt_disk.specs.DeviceCalls.{CallMade}
use Rattle.vt_disk.specs.Members.{DiskOf}
use Rattle.vt_disk.proofs.Calls.{writes_wider}
use Rattle.vt_disk.proofs.DeviceCalls.{makes_told}
use Rattle.vt_twin.specs.Twin.{TwinState, TwinAdvances, twin_calls_made, next_call as twin_call, next_frame, without_spare}
use Rattle.vt_twin.specs.Sound.{IsSoundTwin, frame_after}
use Rattle.vt_twin.specs.declared.step.Step.{Step}
use Rattle.vt_twin.specs.declared.step.Step.TheVariants.{More, Done}
use Rattle.vt_twin.proofs.Sound.{idle_sound}
use Rattle.vt_isect.specs.declared.error.ShardErr.{ShardErr}
use Rattle.vt_isect.specs.declared.error.ShardErr.TheVariants.{Fault}
use Rattle.vt_isect.specs.declared.head.Head.{Head}
use Rattle.vt_isect.specs.declared.phase.Phase.{Phase}
use Rattle.vt_isect.specs.declared.phase.Phase.TheVariants.{Rest, ChangeHead}
use Rattle.vt_isect.specs.Faults.{is_section_fault}
use Rattle.vt_isect.specs.Layout.{head_place}
use Rattle.vt_isect.specs.Section.{SectionState, IsWell, PutsEntries, call_count}
use Rattle.vt_isect.specs.Writeback.{SectionAdvances, SectionGoesOn, NextCallReads, KeepsDiskSound, MayWrite, NextPhase, NextCallSyncs, SectionTakesStep, NextCallWrites}
use Rattle.vt_isect.proofs.Follows.{agrees_as, keeps_quiet}
use Rattle.vt_isect.proofs.Keeps.{head_goes, keeps_head}
use Rattle.vt_isect.proofs.Writes.{head_writes, syncs_next}

module _ {D : Type 0} (disk : DiskOf D) (t : SectionState D) (buffer : Option (List ℕ)) (capacity : ℕ) (frames : List (Option ℕ))
    (well : IsWell disk (disk.size t.disk) t buffer capacity frames) (phase : t.phase ≡ ChangeHead) (goes : t.stopped ≡ None)
    (d : D) (w : TwinState) (calls : ℕ) (stopped : Option ℕ) (within : WritesWithin disk head_place 1 t.disk d) (len : w.frame_len ≡ t.head_twin.frame_len) where
  -- the section with the twin behind the call
  abbrev v : SectionState D
  v = record t { disk = d; head_twin = w; calls = calls; stopped = stopped }

  takes : (result : Result Step ShardErr) (head : Head) (p : Phase) (twin : TwinState) → CallMade disk (twin_call t.head_twin head_place) result (call_count t) (call_count v) t.disk d
      → CountsFault is_section_fault result (disk.faults t.disk) (disk.faults d) → (IsTrue disk.tells → KeepsDiskSound disk result t (record v { head = head; phase = p; head_twin = twin }))
      → SectionAdvances result t (record v { head = head; phase = p; head_twin = twin }) → SectionTakesStep disk result t (record v { head = head; phase = p; head_twin = twin })
  takes result head p twin makes faults sound steps = record {
    sound = sound;
    steps = steps;
    written = λ told. on_ok_weaker result
        (λ bytes. subst (λ (q : Phase). NextCallWrites q t (disk.bytes t.disk) (disk.bytes d)) (sym phase) (head_writes t (disk.bytes t.disk) (disk.bytes d) well.head_len (bytes told))) makes.written;
    settled = λ syncs. on_ok_weaker result (λ settled. settled (syncs_next t ChangeHead (subst (λ (q : Phase). NextCallSyncs q t) phase syncs))) makes.settled;
    writes = writes_wider disk _ _ (λ i inside. subst (λ (q : Phase). MayWrite q t i) (sym phase) inside) 1 1 (omega arith) t.disk d within;
    calls = makes.calls;
    faults = faults;
  }

  -- the same is under way
  same_sound : (result : Result Step ShardErr) → result ≢ Ok Done → IsTrue disk.tells → next_frame w ≡ next_frame t.head_twin
      → ((old : List ℕ) → IsSoundTwin t.head_twin head_place old (disk.bytes t.disk) (disk.images t.disk) → IsSoundTwin w head_place old (disk.bytes d) (disk.images d))
      → KeepsDiskSound disk result t v
  same_sound result other told next is = keeps_quiet result t v _ _ _ _ (λ n done. let e = done.1 in cc)
      (λ known sound. head_goes t (disk.size t.disk) _ _ _ _ phase well.room (within.bytes told) within.images d w calls stopped known (λ none. goes) (len ∙ well.head_len) next is sound)
      (λ score c h known agrees. agrees_as score c h t v known refl refl (inl (refl, λ entry way. way)) (λ entry way. way) agrees)

  goes_on : calls ≡ one_more t.calls → SectionGoesOn t v
  goes_on counted = record { section = record { buckets = refl; name = refl; entries = refl; most = refl }; head_is = refl; next_is = refl; calls = counted }

  module _ {E : Type 0} where
    abbrev Twins : Result Step E → Type 0
    Twins result = (old : List ℕ) → IsTrue disk.tells → IsSoundTwin t.head_twin head_place old (disk.bytes t.disk) (disk.images t.disk)
        → IsSoundTwin w head_place (frame_after result t.head_twin old) (disk.bytes d) (disk.images d)

    abbrev MadeBy : Result Step E → Type 0
    MadeBy result = CallMade disk (twin_call t.head_twin head_place) result (call_count t) (call_count v) t.disk d

    pub head_stops : (failed : E) → MadeBy (Err failed) → TwinAdvances {E = E} (Err failed) t.head_twin w → Twins (Err failed) → SectionTakesStep disk (Err Fault) t v
    head_stops failed made steps is = takes (Err Fault) t.head t.phase w (makes_told disk _ _ _ _ _ (Err failed) (Err Fault) ((λ e. absurd (cc)), (λ e. absurd (cc))) made) made.cause
        (λ told. same_sound (Err Fault) (λ e. cc) told (ap next_frame steps) (λ old it. is old told it))
        (inr (λ read. subst NextCallReads phase read, goes_on (ap (λ c. c.made) made.counts), refl, record { written = refl; framed = refl; begun = refl; bucket = refl; group = refl }, ap (λ c. c.stopped) made.counts))

    pub head_more : MadeBy (Ok More) → TwinAdvances {E = E} (Ok More) t.head_twin w → Twins (Ok More) → twin_calls_made t.head_twin ≢ 3 → SectionTakesStep disk (Ok More) t v
    head_more made steps is other = takes (Ok More) t.head t.phase w (makes_told disk _ _ _ _ _ (Ok More) (Ok More) ((λ e. refl), (λ e. refl)) made) made.cause
        (λ told. same_sound (Ok More) (λ e. cc) told (ap next_frame steps) (λ old it. is old told it)) (
          goes_on (ap (λ c. c.made) made.counts),
          ap (λ c. c.stopped) made.counts ∙ goes,
          subst (λ (q : Phase). NextPhase q t v) (sym phase) (other, phase, steps, record { written = refl; framed = refl; begun = refl; bucket = refl; group = refl }),
        )

    pub head_ends : MadeBy (Ok Done) → TwinAdvances {E = E} (Ok Done) t.head_twin w → Twins (Ok Done) → twin_calls_made t.head_twin ≡ 3
        → SectionTakesStep disk (Ok Done) t (record v { head = t.next; phase = Rest; head_twin = without_spare w })
    head_ends made steps is three = takes (Ok Done) t.next Rest (without_spare w) (makes_told disk _ _ _ _ _ (Ok Done) (Ok Done) ((λ e. refl), (λ e. refl)) made) made.cause
        (λ told. keeps_head t (disk.size t.disk) _ _ _ _ phase well.room (within.bytes told) within.images d (without_spare w) calls stopped (λ none. goes) (len ∙ well.head_len)
        (ap (λ (x : TwinState). x.change) steps) (λ old it. idle_sound w head_place _ _ _ (is old told it))) (
          phase,
          three,
          record {
            section = record { buckets = refl; name = refl; entries = refl; most = refl };
            written = refl;
            group = well.alone (λ puts. subst PutsEntries phase puts);
            head_is = refl;
            next_is = refl;
            phase = refl;
            calls = ap (λ c. c.made) made.counts;
            stopped = ap (λ c. c.stopped) made.counts ∙ goes;
          },
        )
