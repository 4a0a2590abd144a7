-- A part of a file, as a reader of an archive gives it.
use Rattle.std.proofs.Common.{◌≡◌, ◌-◌, ℕ, min, Result, Ok, Err, List, length, take, refl, sym, ◌∙◌, ap, subst, arith}
use Rattle.std.proofs.lemmas.List.{take_all}
use Rattle.vt_tree.specs.declared.entry.Entry.{Entry}
use Rattle.vt_tree.specs.declared.error.TreeErr.{TreeErr}
use Rattle.vt_tree.specs.Calls.{Call}
use Rattle.vt_tree.specs.Making.{EndsBy}
use Rattle.vt_tree.specs.Maps.{BlockMap, Maps}
use Rattle.vac_read.specs.declared.error.VacBad.{VacBad}
use Rattle.vac_read.specs.declared.last_way.WayBlock.{WayBlock}
use Rattle.vac_read.specs.LastWay.{IsRightWay, ReadsFileOnWay, ReadsOnWay}
use Rattle.vac_read.specs.Reading.{ReadsArchive, of_tree, refused_by}
use Rattle.vac_read.proofs.Readings.{TellsRange, given}

module _ {S : Type 0} (does : S → Call → S → Type 0) (holds : S → Maps → Type 0)
    (score_of : List ℕ → List ℕ) where
  refused_so : (s s' : S) (old new : List WayBlock) (e : Entry) (at len : ℕ)
      (answer : Result (List ℕ) TreeErr)
      → (reads : ReadsOnWay does score_of s s' old new e at len answer)
      → EndsBy (refused_by (of_tree answer)) reads.calls
  refused_so s s' old new e at len (Ok bytes) reads = reads.refused
  refused_so s s' old new e at len (Err err) reads = reads.refused

  -- a reading of an archive, by the calls that were made on the way
  pub part_told : (s s' : S) (old new : List WayBlock) (e : Entry) (at len : ℕ)
      (result : Result (List ℕ) VacBad) (other : Result (Unit {0}) VacBad) (P : BlockMap → Type 0)
      → refused_by other ≡ refused_by result
      → (it : ReadsFileOnWay does holds score_of s s' old new e at len result)
      → ((map : BlockMap) → (IsRightWay map old → IsRightWay map new × TellsRange e at len result map)
      → P map)
      → (told : ReadsArchive does holds score_of s s' other P) × (told.calls ≡ it.reads.calls)
  part_told s s' old new e at len result other P same it so =
      let tells : (map : BlockMap) → (IsRightWay map old
      → IsRightWay map new × TellsRange e at len (of_tree it.answer) map) → P map =
      λ map h. so map (subst (λ (r : Result (List ℕ) VacBad). IsRightWay map old
      → IsRightWay map new × TellsRange e at len r map) (sym it.is) h) in (
        record {
          calls = it.reads.calls;
          made = it.reads.made;
          gets = it.reads.gets;
          refused = subst (λ o. EndsBy o it.reads.calls)
              (sym (same ∙ ap (λ (r : Result (List ℕ) VacBad). refused_by r) it.is))
              (refused_so s s' old new e at len it.answer it.reads);
          right = λ map once calls_tell. tells map (λ right. (
            it.reads.right map calls_tell right,
            given does holds score_of it.answer map e at len it.fit
                (it.reads.gives map once calls_tell right),
          ));
          held = λ m held.
              let h = it.held m held in (
                h.0,
                tells m.held (λ right.
                    let r = h.1 right in
                    (r.0, given does holds score_of it.answer m.held e at len it.fit r.1)),
              );
        },
        refl,
      )

-- no more was given than was asked for
pub all_told : (bytes : List ℕ) (n size at : ℕ) → length bytes ≡ min n (size - at)
    → take n bytes ≡ bytes
all_told bytes n size at len = take_all n bytes (omega arith)
