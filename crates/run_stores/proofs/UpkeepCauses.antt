-- Why an index isn't rebuilt, or arenas aren't checked.
use Rattle.std.proofs.Common.{◌≡◌, ⊎_elim, inl, inr, ℕ, suc, List, [], ◌∷◌, Option, None, Some, Result, Ok, Err, refl, sym, ◌∙◌, subst}
use Rattle.std.specs.Prelude.{IfSome, IsTrue, MatchResult, slice_get, slice_index}
use Rattle.std.specs.Option.{option_or}
use Rattle.vt_base.specs.declared.mount.MountBad.{MountBad}
use Rattle.vt_base.specs.declared.mount.MountBad.TheVariants as mount_bad
use Rattle.vt_check.specs.declared.checking.ArenaReport.{ArenaReport}
use Rattle.vt_check.specs.declared.checking.CheckErr.{CheckErr}
use Rattle.vt_check.specs.declared.checking.CheckErr.TheVariants as check_err
use Rattle.vt_check.specs.declared.checking.Damage.{Damage}
use Rattle.vt_check.specs.declared.checking.Report.{Report}
use Rattle.vt_check.specs.Checking.{DamageDiffers}
use Rattle.vt_conf.specs.declared.conf.Conf.{Conf}
use Rattle.vt_recover.specs.declared.devices.Devices.{Devices}
use Rattle.vt_core.specs.Files.{all_of}
use Rattle.vt_core.specs.Mounting.{devices_in}
use Rattle.vt_disk.specs.Members.{DiskOf}
use Rattle.vt_format.specs.Index.{files_in_order}
use Rattle.vt_log.specs.Faults.{OneHasRisen}
use Rattle.vt_log.proofs.Lists.{slice_get_other}
use Rattle.vt_open.specs.declared.error.OpenError.{OpenError}
use Rattle.vt_open.specs.declared.error.OpenError.TheVariants.{Refused}
use Rattle.vt_open.specs.Names.{files_of}
use Rattle.vt_open.specs.Opening.{NamesCause}
use Rattle.vt_open.proofs.Opened.{same_faults}
use Rattle.vt_rebuild.specs.declared.error.RebuildBad.{RebuildBad}
use Rattle.vt_rebuild.specs.declared.error.RebuildBad.TheVariants as rebuild_bad
use Rattle.vt_maintain.specs.declared.error.MaintainError.{MaintainError}
use Rattle.vt_maintain.specs.declared.error.MaintainError.TheVariants.{Unopened, Ended}
use Rattle.vt_maintain.specs.Checking.{ChecksOn}
use Rattle.vt_maintain.specs.Devices.{RefusesDevices, device_faults}
use Rattle.vt_maintain.specs.Opened.{RefusesOpening, RefusesUse}
use Rattle.vt_maintain.specs.Rebuilding.{Rebuilds, StopsOn}
use Rattle.vt_maintain.specs.Stores.{NamesUnopened, OnStore, WorksOnStore}
use Rattle.run_base.specs.declared.error.CommandError.{CommandError}
use Rattle.run_base.specs.declared.error.CommandError.TheVariants.{DiskFault, NoMemory, WriteFault}
use Rattle.run_base.specs.Blocks.{FindsNoConf}
use Rattle.run_base.specs.Change.{StreamChange, FilesChange, MakesNothing, PartsChange}
use Rattle.run_stores.specs.Buildindex.{DoesBuildindex, IsRebuildRefusal, RebuildsConf, blocks_line, rebuild_failure}
use Rattle.run_stores.specs.Checkarenas.{ChecksConf, DoesCheckarenas, IsCheckRefusal, TellsReports, arena_lines, check_failure, first_reported_damage, damage_outcome}
use Rattle.run_base.specs.Unopened.{IsOpenRefusal}
use Rattle.run_base.specs.Configurations.{IsRefusalAmong}
use Rattle.run_base.specs.Errors.{Causes, HasCauseIn, HaveFailed, CommandOutcome, no_cause, with_files, with_parts, with_sink}
use Rattle.run_base.specs.Formatting.{Prints}
use Rattle.run_base.proofs.Causes.{as_told, have_failed, printed_has_cause}
use Rattle.run_base.proofs.OpenCauses.{has_failed, open_told, same_len}
use Rattle.run_base.proofs.StoreCauses.{no_conf_cause}

-- ---- a store that isn't found, or on which a call failed

-- what they are lent
abbrev causes_in : {I P D K : Type 0} → DiskOf D → FilesChange I → PartsChange P D → StreamChange K → Causes
causes_in disk files parts sink = with_files files (with_parts disk parts (with_sink sink no_cause))

module _ {I P D K : Type 0} (score : List ℕ → List ℕ) (disk : DiskOf D) (file : List ℕ)
    (conf : Conf) (files : FilesChange I) (parts : PartsChange P D) (sink : StreamChange K) where
  abbrev causes : Causes
  causes = causes_in disk files parts sink

  abbrev IsOn : ((devices back : Devices D) → Type 0) → Type 0
  IsOn Does = OnStore disk (IsTrue parts.tells) conf Does parts.old parts.new

  abbrev Uses : {T E : Type 0} → (Devices D → MountBad → Type 0)
      → (Result T E → (devices back : Devices D) → Type 0) → Result T (MaintainError E) → Type 0
  Uses Cause Does = WorksOnStore disk (IsTrue parts.tells) conf Cause Does parts.old parts.new
      parts.faults parts.faults'

  store_fault : (Does : (devices back : Devices D) → Type 0) (on : IsOn Does)
      → OneHasRisen (device_faults disk on.devices) (device_faults disk on.back)
      → HasCauseIn causes (Err DiskFault)
  store_fault Does on rose =
      let all = on.taken in
      let same = same_faults disk (IsTrue parts.tells) conf parts.old on.during on.devices all in
      let risen = have_failed _ _ rose.rose in
      inr (has_failed disk parts (all_of (files_of conf)) (all_of all.handed)
      (all_of (devices_in on.back)) rose.which
      (same_len all.handed (files_of conf) all.shape)
      (same_len (devices_in on.back) (files_of conf) on.shape) all.taken.stood
      (λ t. on.given.stand t (all.taken.out t) (all.taken.apart t))
      (subst (λ (counts : List ℕ). HaveFailed (slice_index counts rose.which)
      (slice_index (device_faults disk on.back) rose.which)) same risen))

  refused_told : (Cause : Devices D → MountBad → Type 0) (why : MountBad) (failure : CommandError)
      → IsOn (λ devices. RefusesDevices (Cause devices) disk devices why) → NamesCause (Refused why)
      → IsRefusalAmong file (files_in_order conf) why failure → HasCauseIn causes (Err failure)
  refused_told Cause mount_bad.Fault failure on names is =
      as_told causes failure DiskFault is (store_fault _ on on.does.counts)
  refused_told Cause (mount_bad.NotFormatted part) failure on names is =
      as_told causes failure _ is tt
  refused_told Cause (mount_bad.TooSmall part len need) failure on names is =
      as_told causes failure _ is names
  refused_told Cause (mount_bad.DuplicateName first second) failure on names is =
      as_told causes failure _ is tt
  refused_told Cause (mount_bad.Disagree part field found want) failure on names is =
      as_told causes failure _ is names
  refused_told Cause (mount_bad.Damaged site want found) failure on names is =
      as_told causes failure _ is names
  refused_told Cause mount_bad.NoMemory failure on names is = as_told causes failure _ is tt

  found_told : (Cause : Devices D → MountBad → Type 0) (why : MountBad) (bad : OpenError)
      (failure : CommandError) → bad ≡ Refused why
      → IsOn (λ devices. RefusesDevices (Cause devices) disk devices why) → NamesCause bad
      → IsOpenRefusal file conf bad failure → HasCauseIn causes (Err failure)
  found_told Cause why bad failure is on names told =
      let two : NamesCause (Refused why) = subst NamesCause is names in
      ⊎_elim
      (λ among. refused_told Cause why failure on two among)
      (λ memory. as_told causes failure NoMemory memory tt)
      (subst (λ (b : OpenError). IsOpenRefusal file conf b failure) is told)

  unopened_told : {T E : Type 0} (Cause : Devices D → MountBad → Type 0)
      (Does : Result T E → (devices back : Devices D) → Type 0) (bad : OpenError) (failure : CommandError)
      → Uses Cause Does (Err (Unopened bad)) → NamesCause bad
      → IsOpenRefusal file conf bad failure → HasCauseIn causes (Err failure)
  unopened_told Cause Does bad failure uses names told = ⊎_elim
      (λ taking. open_told score disk file conf parts causes (λ it. it) bad failure (inl taking)
      names told)
      (λ found. found_told Cause found.0 bad failure found.1 found.3 names told)
      uses

  -- ---- an index that isn't rebuilt

  rebuild_ended : (bad : RebuildBad) → IsOn (StopsOn score disk bad)
      → HasCauseIn causes (Err (rebuild_failure bad))
  rebuild_ended rebuild_bad.Fault on = store_fault _ on on.does.counts
  rebuild_ended (rebuild_bad.IndexFull bucket) on = tt
  rebuild_ended (rebuild_bad.Damaged place want found) on = on.does.damage
  rebuild_ended rebuild_bad.NoMemory on = tt

  rebuild_told : (bad : MaintainError RebuildBad) (failure : CommandError)
      → Uses (RefusesOpening disk) (Rebuilds score disk) (Err bad) → NamesUnopened bad
      → IsRebuildRefusal file conf bad failure → HasCauseIn causes (Err failure)
  rebuild_told (Unopened bad) failure uses names told =
      unopened_told (RefusesOpening disk) (Rebuilds score disk) bad failure uses names told
  rebuild_told (Ended bad) failure uses names told =
      as_told causes failure (rebuild_failure bad) told (rebuild_ended bad uses.0)

  rebuilt_has_cause : (outcome : CommandOutcome)
      → RebuildsConf score disk file conf outcome parts sink → HasCauseIn causes outcome
  rebuilt_has_cause outcome it = by it.result it.uses it.differs it.told
    where
      by : (result : Result ℕ (MaintainError RebuildBad))
          → Uses (RefusesOpening disk) (Rebuilds score disk) result
          → MatchResult result (λ _. Unit {0}) NamesUnopened
          → MatchResult result (λ blocks. Prints (blocks_line blocks) outcome sink)
          (λ bad. ((failure : CommandError) × (outcome ≡ Err failure)
          × IsRebuildRefusal file conf bad failure) × (sink.after ≡ sink.before))
          → HasCauseIn causes outcome
      by (Ok blocks) uses names told =
          printed_has_cause causes (blocks_line blocks) outcome sink (λ rose. rose) told
      by (Err bad) uses names told = subst (HasCauseIn causes) (sym told.0.1)
          (rebuild_told bad told.0.0 uses names told.0.2)

  -- ---- arenas that aren't checked, or are damaged

  check_ended : (bad : CheckErr) → IsOn (ChecksOn score disk (Err bad))
      → HasCauseIn causes (Err (check_failure bad))
  check_ended check_err.Fault on = store_fault _ on on.does.counts
  check_ended check_err.NoMemory on = tt

  check_told : (bad : MaintainError CheckErr) (failure : CommandError)
      → Uses (RefusesUse score disk) (ChecksOn score disk) (Err bad) → NamesUnopened bad
      → IsCheckRefusal file conf bad failure → HasCauseIn causes (Err failure)
  check_told (Unopened bad) failure uses names told =
      unopened_told (RefusesUse score disk) (ChecksOn score disk) bad failure uses names told
  check_told (Ended bad) failure uses names told =
      as_told causes failure (check_failure bad) told (check_ended bad uses.0)

  -- a damage that is told has two values
  either_differs : (own : Option Damage) (rest : Option Damage) (damage : Damage)
      → IfSome own DamageDiffers → ((d : Damage) → rest ≡ Some d → DamageDiffers d)
      → option_or own rest ≡ Some damage → DamageDiffers damage
  either_differs None rest damage differs more is = more damage is
  either_differs (Some own) rest damage differs more is =
      let same : own ≡ damage = cc in subst DamageDiffers same differs

  first_differs : (reports : List ArenaReport)
      → ((i : ℕ) (report : ArenaReport) → slice_get reports i ≡ Some report
      → IfSome report.damage DamageDiffers)
      → (damage : Damage) → first_reported_damage reports ≡ Some damage → DamageDiffers damage
  first_differs [] each damage is = absurd (cc)
  first_differs (report ∷ reports) each damage is =
      either_differs report.damage (first_reported_damage reports) damage (each 0 report refl)
      (first_differs reports (λ i. each (suc i))) is

  each_differs : (report : Report) → IsOn (ChecksOn score disk (Ok report)) → (i : ℕ)
      (arena : ArenaReport) → slice_get report.arenas.items i ≡ Some arena
      → IfSome arena.damage DamageDiffers
  each_differs report on i arena at =
      let checks = on.does in
      let many = checks.reports.many ∙ sym checks.opened.log_is.found.whole.many in
      let found = slice_get_other checks.log.heads report.arenas.items i arena many at in
      (checks.reports.each i found.0 arena found.1 at).differs

  outcome_told : (first : Option Damage)
      → ((damage : Damage) → first ≡ Some damage → DamageDiffers damage)
      → HasCauseIn causes (damage_outcome first)
  outcome_told None differs = tt
  outcome_told (Some damage) differs = differs damage refl

  reports_told : (reports : List ArenaReport) (outcome : CommandOutcome)
      → ((damage : Damage) → first_reported_damage reports ≡ Some damage → DamageDiffers damage)
      → TellsReports reports outcome sink → HasCauseIn causes outcome
  reports_told reports outcome differs told = by told.0 told.1 told.2
    where
      by : (printed : CommandOutcome) → Prints (arena_lines reports) printed sink
          → MatchResult printed (λ _. outcome ≡ damage_outcome (first_reported_damage reports))
          (λ failure. outcome ≡ Err failure) → HasCauseIn causes outcome
      by (Ok done) prints is = subst (HasCauseIn causes) (sym is)
          (outcome_told (first_reported_damage reports) differs)
      by (Err WriteFault) prints is = subst (HasCauseIn causes) (sym is) prints.1
      by (Err failure) prints is = absurd prints

  checked_has_cause : (outcome : CommandOutcome)
      → ChecksConf score disk file conf outcome parts sink → HasCauseIn causes outcome
  checked_has_cause outcome it = by it.result it.uses it.differs it.told
    where
      by : (result : Result Report (MaintainError CheckErr))
          → Uses (RefusesUse score disk) (ChecksOn score disk) result
          → MatchResult result (λ _. Unit {0}) NamesUnopened
          → MatchResult result (λ report. TellsReports report.arenas.items outcome sink)
          (λ bad. ((failure : CommandError) × (outcome ≡ Err failure)
          × IsCheckRefusal file conf bad failure) × (sink.after ≡ sink.before))
          → HasCauseIn causes outcome
      by (Ok report) uses names told = reports_told report.arenas.items outcome
          (first_differs report.arenas.items (each_differs report uses.0)) told
      by (Err bad) uses names told = subst (HasCauseIn causes) (sym told.0.1)
          (check_told bad told.0.0 uses names told.0.2)

-- ---- by what was done

module _ {I P D K : Type 0} (score : List ℕ → List ℕ) (disk : DiskOf D) (file : List ℕ)
    (outcome : CommandOutcome) (files : FilesChange I) (parts : PartsChange P D) (sink : StreamChange K) where
  none_cause : FindsNoConf file outcome files (MakesNothing parts sink)
      → HasCauseIn (causes_in disk files parts sink) outcome
  none_cause = no_conf_cause (causes_in disk files parts sink) file outcome files (λ rose. rose)

  pub rebuild_cause : DoesBuildindex score disk file outcome files parts sink
      → HasCauseIn (causes_in disk files parts sink) outcome
  rebuild_cause does = ⊎_elim none_cause
      (λ it. rebuilt_has_cause score disk file it.0 files parts sink outcome it.2) does

  pub check_cause : DoesCheckarenas score disk file outcome files parts sink
      → HasCauseIn (causes_in disk files parts sink) outcome
  check_cause does = ⊎_elim none_cause
      (λ it. checked_has_cause score disk file it.0 files parts sink outcome it.2) does
