-- Why a partition can't be opened, told with its number.
use Rattle.std.proofs.Common.{◌≡◌, ◌≢◌, inl, inr, ⊎_elim, ℕ, Some, refl, ◌∙◌, arith}
use Rattle.std.specs.Prelude.{IsTrue, MatchBool}
use Rattle.vt_base.specs.Faults.{HasRisen}
use Rattle.vt_bloom.specs.declared.error.BloomError.{BloomError}
use Rattle.vt_bloom.specs.declared.error.BloomError.TheVariants as bloom_error
use Rattle.vt_bloom.specs.Faults as bloom
use Rattle.vt_disk.specs.Members.{DiskOf}
use Rattle.vt_isect.specs.declared.error.SectBad.{SectBad}
use Rattle.vt_isect.specs.declared.error.SectBad.TheVariants as sect_bad
use Rattle.vt_isect.specs.declared.TheConstants.{FRAME_LEN}
use Rattle.vt_isect.specs.Faults as isect
use Rattle.vt_isect.specs.Layout.{head_place}
use Rattle.vt_part.specs.declared.error.PartBad.{PartBad}
use Rattle.vt_part.specs.declared.error.PartBad.TheVariants as part_bad
use Rattle.vt_part.specs.Faults as part
use Rattle.vt_part.specs.Table.{head_of}
use Rattle.vt_twin.specs.Frames.{current_frame}
use Rattle.vt_format.specs.Opening.{RefusesArenaPart, RefusesDisk, RefusesFilter, RefusesSection, index_error}
use Rattle.vt_mount_errors.specs.MountErrors.{of_filter, of_part, of_section}
use Rattle.vt_mount_errors.proofs.NamesTwo.{bloom_differs, part_differs}

module _ {D : Type 0} (disk : DiskOf D) (number : ℕ) (d e : D) where
  part_why : (before : ℕ) (bad : PartBad) → bad ≢ part_bad.Fault → part.RefusesPartMount (disk.size d) (head_of (disk.bytes d)) bad
      → RefusesArenaPart disk number before d (of_part number bad)
  part_why before bad other it = ⊎_elim (λ first. inl (bad, first, refl)) (λ fault. absurd (other fault.1)) it

  pub part_refused : (before : ℕ) (bad : PartBad)
      → (IsTrue disk.tells → part.RefusesPartMount (disk.size d) (head_of (disk.bytes d)) bad) → part.NamesPartCause (disk.size d) bad
      → MatchBool (part.is_part_fault bad) (HasRisen (disk.faults d) (disk.faults e)) (disk.faults e ≡ disk.faults d)
      → RefusesDisk disk number (RefusesArenaPart disk number before d) (index_error (Some number) (of_part number bad)) d e
  part_refused before part_bad.Fault refused names cause = (refl, cause)
  part_refused before (part_bad.TooSmall len need) refused names cause =
      (omega (arith, names.0, names.1), cause, λ yes. inr (part_why before _ (λ same. absurd (cc)) (refused yes)))
  part_refused before part_bad.NotFormatted refused names cause =
      (tt, cause, λ yes. inr (part_why before _ (λ same. absurd (cc)) (refused yes)))
  part_refused before (part_bad.Torn field found want) refused names cause =
      (part_differs field found want names.1, cause, λ yes. inr (part_why before _ (λ same. absurd (cc)) (refused yes)))
  part_refused before (part_bad.DuplicateName first second) refused names cause = absurd names
  part_refused before part_bad.NoMemory refused names cause = absurd names

  section_why : (before : ℕ) (bad : SectBad) → bad ≢ sect_bad.Fault → bad ≢ sect_bad.NoMemory
      → isect.RefusesSectionMount (disk.size d) (current_frame head_place FRAME_LEN (disk.bytes d)) bad
      → RefusesSection disk number before d (of_section number bad)
  section_why before bad no_fault memory it = ⊎_elim
      (λ first. inl (bad, first, refl))
      (λ now. ⊎_elim (λ is. absurd (no_fault is)) (λ is. absurd (memory is)) now.1)
      it

  pub section_refused : (before : ℕ) (bad : SectBad)
      → (IsTrue disk.tells → isect.RefusesSectionMount (disk.size d) (current_frame head_place FRAME_LEN (disk.bytes d)) bad)
      → isect.NamesSectionCause (disk.size d) bad
      → MatchBool (isect.refuses_by_fault bad) (HasRisen (disk.faults d) (disk.faults e)) (disk.faults e ≡ disk.faults d)
      → RefusesDisk disk number (RefusesSection disk number before d) (index_error (Some number) (of_section number bad)) d e
  section_refused before sect_bad.Fault refused names cause = (refl, cause)
  section_refused before (sect_bad.TooSmall len need) refused names cause = (
    omega (arith, names.0, names.1, names.2),
    cause,
    λ yes. inr (section_why before _ (λ same. absurd (cc)) (λ same. absurd (cc)) (refused yes)),
  )
  section_refused before sect_bad.NotFormatted refused names cause =
      (tt, cause, λ yes. inr (section_why before _ (λ same. absurd (cc)) (λ same. absurd (cc)) (refused yes)))
  section_refused before (sect_bad.Torn field found want) refused names cause = (
    λ same. names.1 (same ∙ names.2),
    cause,
    λ yes. inr (section_why before _ (λ same. absurd (cc)) (λ same. absurd (cc)) (refused yes)),
  )
  section_refused before sect_bad.NoMemory refused names cause = (tt, cause, λ yes. inl refl)

  filter_why : (bad : BloomError) → bad ≢ bloom_error.Fault → bad ≢ bloom_error.NoMemory
      → bloom.RefusesFilterMount (disk.bytes d) (disk.size d) bad → RefusesFilter disk number d (of_filter number bad)
  filter_why bad no_fault memory it = ⊎_elim
      (λ short. (bad, refl, inl short))
      (λ more. ⊎_elim
      (λ now. ⊎_elim (λ is. absurd (no_fault is)) (λ is. absurd (memory is)) now.1)
      (λ first. (bad, refl, inr first))
      more)
      it

  pub filter_refused : (bad : BloomError)
      → (IsTrue disk.tells → bloom.RefusesFilterMount (disk.bytes d) (disk.size d) bad) → bloom.NamesFilterCause (disk.size d) bad
      → MatchBool (bloom.is_filter_fault bad) (HasRisen (disk.faults d) (disk.faults e)) (disk.faults e ≡ disk.faults d)
      → RefusesDisk disk number (RefusesFilter disk number d) (index_error (Some number) (of_filter number bad)) d e
  filter_refused bloom_error.Fault refused names cause = (refl, cause)
  filter_refused (bloom_error.TooSmall len need) refused names cause = (
    omega (arith, names.0, names.1, names.2),
    cause,
    λ yes. inr (filter_why _ (λ same. absurd (cc)) (λ same. absurd (cc)) (refused yes)),
  )
  filter_refused bloom_error.NotFormatted refused names cause =
      (tt, cause, λ yes. inr (filter_why _ (λ same. absurd (cc)) (λ same. absurd (cc)) (refused yes)))
  filter_refused (bloom_error.Torn field found want) refused names cause = (
    bloom_differs field found want (disk.size d) names.1,
    cause,
    λ yes. inr (filter_why _ (λ same. absurd (cc)) (λ same. absurd (cc)) (refused yes)),
  )
  filter_refused bloom_error.NoMemory refused names cause = (tt, cause, λ yes. inl refl)
