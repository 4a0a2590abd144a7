-- The entries that a step puts into their buckets.
use Rattle.std.proofs.Common.{◌≡◌, ⊎_elim, ℕ, take, drop, Result, Ok, Err, refl, sym, ◌∙◌, ap, subst}
use Rattle.std.specs.Prelude.{◌↔◌}
use Rattle.std.specs.List.{Contains}
use Rattle.vt_base.specs.declared.place.Entry.{Entry}
use Rattle.vt_twin.specs.declared.step.Step.{Step}
use Rattle.vt_twin.specs.declared.step.Step.TheVariants.{More, Done}
use Rattle.vt_isect.specs.declared.error.ShardErr.{ShardErr}
use Rattle.vt_isect.specs.declared.error.ShardErr.TheVariants.{Fault, Damaged, Stopped}
use Rattle.vt_isect.specs.declared.phase.Phase.{Phase}
use Rattle.vt_isect.specs.declared.phase.Phase.TheVariants.{Rest, ReadSelector, ReadFrame, WriteFrame, SyncFrames, WriteSelector, SyncSelectors, ChangeHead}
use Rattle.vt_isect.specs.Section.{SectionState, HasGroup, IsOfGroup, PutsEntries, bucket_number, entries_of}
use Rattle.vt_isect.specs.Writeback.{SectionAdvances, BeginsGroup, BeginsHead, Completes, NextPhase, WritesEntryBack}
use Rattle.vt_isect.proofs.AreNext.{none_written}
use Rattle.vt_isect.proofs.Members.{Groups}

module _ {D : Type 0} (old new : SectionState D) (group : Groups old) (entry : Entry) where
  -- what the step writes back
  abbrev Wrote : Result Step ShardErr → Type 0
  Wrote result = WritesEntryBack old new entry
      ↔ (Completes result old (bucket_number old entry) × IsOfGroup old (bucket_number old entry) entry)

  -- nothing, where as many are written and no bucket is completed
  nothing : (result : Result Step ShardErr) → new.written ≡ old.written
      → ¬ Completes result old (bucket_number old entry) → Wrote result
  nothing result same never = (
    λ wrote. absurd (none_written old.written (entries_of old) entry
        (subst (λ (n : ℕ). Contains (drop old.written (take n (entries_of old))) entry) same wrote)),
    λ done. absurd (never done.0),
  )

  -- those of the group, where its buckets are completed
  all : old.phase ≡ SyncSelectors → new.written ≡ old.begun → Wrote (Ok More)
  all phase behind =
      let it = group (subst PutsEntries (sym phase) tt) in
      let upto : new.written ≡ old.framed = behind ∙ sym (it.whole (subst HasGroup (sym phase) tt)).1 in (
        λ wrote.
            let has : Contains (drop old.written (take old.framed (entries_of old))) entry =
            subst (λ (n : ℕ). Contains (drop old.written (take n (entries_of old))) entry) upto wrote in
            ((refl, phase, it.own entry has), (has, refl)),
        λ done. subst (λ (n : ℕ). Contains (drop old.written (take n (entries_of old))) entry)
            (sym upto) done.1.0,
      )

  more : (q : Phase) → old.phase ≡ q → NextPhase q old new → Wrote (Ok More)
  more Rest is next = absurd next
  more ReadSelector is next = nothing (Ok More) next.1.written (λ done. let e = done.1 in cc)
  more (ReadFrame s) is next = nothing (Ok More) next.1.written (λ done. let e = done.1 in cc)
  more (WriteFrame s) is next = nothing (Ok More) next.0.written (λ done. let e = done.1 in cc)
  more SyncFrames is next = nothing (Ok More) next.1.written (λ done. let e = done.1 in cc)
  more (WriteSelector j) is next = nothing (Ok More) next.0.written (λ done. let e = done.1 in cc)
  more SyncSelectors is next = all is (⊎_elim
      (λ (here : BeginsGroup old.begun new). here.1)
      (λ (there : BeginsHead old.begun new). there.1)
      next)
  more ChangeHead is next = nothing (Ok More) next.3.written (λ done. let e = done.1 in cc)

  pub wrote_is : (result : Result Step ShardErr) → SectionAdvances result old new → Wrote result
  wrote_is (Ok More) steps = more old.phase refl steps.2
  wrote_is (Ok Done) steps = nothing (Ok Done) steps.2.written (λ done. let e = done.0 in cc)
  wrote_is (Err Fault) steps = nothing (Err Fault)
      (⊎_elim (λ end. end.1.written) (λ stop. stop.3.written) steps)
      (λ done. let e = done.0 in cc)
  wrote_is (Err (Damaged b want found)) steps = nothing (Err (Damaged b want found))
      steps.1.written (λ done. let e = done.0 in cc)
  wrote_is (Err (Stopped n)) steps = nothing (Err (Stopped n))
      (ap (λ x. x.written) steps.1) (λ done. let e = done.0 in cc)
