-- Why a command that formats a file ends with a status other than 0.
use Rattle.std.proofs.Common.{◌≡◌, ◌≢◌, ⊎_elim, inl, inr, ◌<◌, ℕ, Bool, List, refl, sym, ◌∙◌, subst, Some, Err, Result}
use Rattle.std.specs.Prelude.{⊤}
use Rattle.vt_base.specs.Faults.{HasRisen}
use Rattle.vt_base.specs.declared.mount.MountBad.{MountBad}
use Rattle.vt_base.specs.declared.mount.MountBad.TheVariants as mount_bad
use Rattle.vt_disk.specs.Members.{DiskOf}
use Rattle.vt_format.specs.Arenas.{FormatsArenas, RefusesArenaFormat, RefusesTable}
use Rattle.vt_format.specs.Worked.{WorksOn}
use Rattle.vt_partitions.specs.Parts.{Standing}
use Rattle.run_base.specs.declared.error.CommandError.{CommandError}
use Rattle.run_base.specs.Change.{StreamChange, PartsChange}
use Rattle.run_base.specs.Errors.{Causes, HasCauseIn, HasDiskCause, no_cause, with_parts, with_sink}
use Rattle.run_base.specs.Formatting.{IsOfOneFile, IsRefusalOf}
use Rattle.run_base.proofs.Causes.{as_told, have_failed}

-- what a refusal tells of the partition that was worked on
abbrev pub Shows : {D : Type 0} → DiskOf D → MountBad → (old new : D) → Type 0
Shows disk mount_bad.Fault old new = HasRisen (disk.faults old) (disk.faults new)
Shows disk (mount_bad.NotFormatted part) old new = ⊤
Shows disk (mount_bad.TooSmall part len need) old new = len < need
Shows disk (mount_bad.Disagree part field found want) old new = found ≢ want
Shows disk mount_bad.NoMemory old new = ⊤
Shows disk bad old new = ⊥

table_shows : {D : Type 0} (disk : DiskOf D) (bad : MountBad) (old new : D) → RefusesTable bad → Shows disk bad old new
table_shows disk (mount_bad.NotFormatted part) old new refused = tt
table_shows disk (mount_bad.TooSmall part len need) old new refused = refused.1
table_shows disk (mount_bad.Disagree part field found want) old new refused = refused.1
table_shows disk bad old new refused = absurd refused

arenas_show : {D : Type 0} (disk : DiskOf D) (size : ℕ) (bad : MountBad) (old new : D) → RefusesArenaFormat disk size bad old new → Shows disk bad old new
arenas_show disk size bad old new refused = ⊎_elim
    (λ small. subst (λ (b : MountBad). Shows disk b old new) (sym small.1) small.0)
    (λ rest. ⊎_elim
    (λ fault. subst (λ (b : MountBad). Shows disk b old new) (sym fault.0) fault.1)
    (λ others. ⊎_elim
    (λ memory. subst (λ (b : MountBad). Shows disk b old new) (sym memory) tt)
    (λ table. table_shows disk bad old new table.1)
    others)
    rest)
    refused

pub arenas : {D : Type 0} (disk : DiskOf D) (name : List ℕ) (size : ℕ) (bad : MountBad) (old new : D)
    → FormatsArenas disk name size (Err bad) old new → Shows disk bad old new
arenas disk name size bad old new formats = arenas_show disk size bad old new formats.refused

-- ---- by what the command told

one_file : {D : Type 0} (disk : DiskOf D) (bad : MountBad) (old new : D) → Shows disk bad old new → IsOfOneFile bad
one_file disk mount_bad.Fault old new shows = tt
one_file disk (mount_bad.NotFormatted part) old new shows = tt
one_file disk (mount_bad.TooSmall part len need) old new shows = tt
one_file disk (mount_bad.Disagree part field found want) old new shows = tt
one_file disk mount_bad.NoMemory old new shows = tt
one_file disk (mount_bad.DuplicateName first second) old new shows = shows
one_file disk (mount_bad.Damaged site want found) old new shows = shows

fault_alone : {T : Type 0} (bad : MountBad) (result : Result T MountBad) → result ≡ Err bad → result ≡ Err mount_bad.Fault → IsOfOneFile bad
fault_alone (mount_bad.DuplicateName first second) result is fault = absurd (let wrong = sym is ∙ fault in cc)
fault_alone (mount_bad.Damaged site want found) result is fault = absurd (let wrong = sym is ∙ fault in cc)
fault_alone bad result is fault = tt

-- a refusal of one file alone comes of work on it
pub of_one_file : {D T : Type 0} (disk : DiskOf D) (tells : Bool) (len : ℕ) (Formats : Result T MountBad → D → D → Type 0) (faults faults' : ℕ)
    (old new : Standing D) (bad : MountBad) → ((bad : MountBad) (before after : D) → Formats (Err bad) before after → Shows disk bad before after)
    → WorksOn disk tells len Formats faults faults' old new (Err bad) → IsOfOneFile bad
of_one_file disk tells len Formats faults faults' old new bad shows worked = ⊎_elim
    (λ w. one_file disk bad w.0.before w.0.after (shows bad w.0.before w.0.after w.0.work))
    (λ not_had. fault_alone bad (Err bad) refl not_had.2)
    worked

module _ {P D K T : Type 0} (disk : DiskOf D) (file : List ℕ) (len : ℕ)
    (Formats : Result T MountBad → D → D → Type 0)
    (shows : (bad : MountBad) (before after : D) → Formats (Err bad) before after
    → Shows disk bad before after) (parts : PartsChange P D) (sink : StreamChange K) where
  abbrev causes : Causes
  causes = with_parts disk parts (with_sink sink no_cause)

  abbrev Worked : Result T MountBad → Type 0
  Worked result = WorksOn disk parts.tells len Formats parts.faults parts.faults' (parts.old file)
      (parts.new file) result

  of_fault : Worked (Err mount_bad.Fault) → HasDiskCause disk parts
  of_fault worked = ⊎_elim
      (λ w. inr (record {
        name = file;
        before = w.0.before;
        after = w.0.after;
        grow_to = Some len;
        handed = w.0.handed;
        back = w.0.back;
        rose = have_failed _ _ (shows mount_bad.Fault w.0.before w.0.after w.0.work);
      }))
      (λ not_had. inl not_had.1)
      worked

  pub refused : (bad : MountBad) (failure : CommandError) → IsRefusalOf file bad failure
      → Worked (Err bad) → HasCauseIn causes (Err failure)
  refused mount_bad.Fault failure is worked = as_told causes failure _ is (of_fault worked)
  refused (mount_bad.NotFormatted part) failure is worked = as_told causes failure _ is tt
  refused (mount_bad.TooSmall part n need) failure is worked = as_told causes failure _ is
      (⊎_elim
      (λ w. shows (mount_bad.TooSmall part n need) w.0.before w.0.after w.0.work)
      (λ not_had. absurd (let wrong = not_had.2 in cc)) worked)
  refused (mount_bad.Disagree part field found want) failure is worked =
      as_told causes failure _ is (⊎_elim
      (λ w. shows (mount_bad.Disagree part field found want) w.0.before w.0.after w.0.work)
      (λ not_had. absurd (let wrong = not_had.2 in cc)) worked)
  refused mount_bad.NoMemory failure is worked = as_told causes failure _ is tt
  refused (mount_bad.DuplicateName first second) failure is worked = absurd is
  refused (mount_bad.Damaged site want found) failure is worked = absurd is
