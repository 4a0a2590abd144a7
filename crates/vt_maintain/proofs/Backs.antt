-- Devices that are handed back.
use Rattle.std.proofs.Common.{◌≡◌, ◌∙◌, ◌⊎◌, ⊎_elim, inl, inr, ℕ, List, [], ◌++◌, length, map, reverse, Err, None, refl, sym, ap, subst, append-nil}
use Rattle.std.specs.Prelude.{IsTrue, MatchBool}
use Rattle.std.specs.List.{AllZip}
use Rattle.std.specs.Option.{option_to_list}
use Rattle.vt_base.specs.declared.mount.MountBad.{MountBad}
use Rattle.vt_base.specs.declared.mount.MountBad.TheVariants.{Disagree, NoMemory}
use Rattle.vt_base.specs.declared.mount.MountField.{MountField}
use Rattle.vt_base.specs.declared.mount.MountField.TheVariants.{Arenas, Buckets}
use Rattle.vt_recover.specs.declared.devices.Devices.{Devices}
use Rattle.vt_core.specs.declared.TheConstants.{MOST_ARENAS, MOST_BUCKETS}
use Rattle.vt_core.specs.Files.{PerDevice, all_of}
use Rattle.vt_core.specs.Mounting.{devices_in, tables_in}
use Rattle.vt_core.specs.Opening.{AreHeld, IsLogFound, TestsHeads, buckets_in_each, with_log}
use Rattle.vt_recover.specs.Opening.{IsFoundSection}
use Rattle.vt_recover.specs.Refusals.{CountsRefusal, SectionIsRefused}
use Rattle.vt_core.specs.Refusals.{PassesOrRefuses}
use Rattle.vt_core.proofs.BesideWork.{tests_counts}
use Rattle.vt_core.proofs.Calls.{map_all}
use Rattle.vt_recover.proofs.Held.{hold_still, hold_zip, counts_less, counts_more}
use Rattle.vt_core.proofs.LogMount.{log_mount}
use Rattle.vt_recover.proofs.OpenWork.{opened_faults, opened_held}
use Rattle.vt_disk.specs.Members.{DiskOf}
use Rattle.vt_isect.specs.Section.{SectionState}
use Rattle.vt_log.specs.Answers.{HoldTheSame}
use Rattle.vt_log.specs.Faults.{AreReadAt, OneHasRisen, RefusesLogMount, is_log_fault}
use Rattle.vt_log.specs.Log.{LogState, disks_of}
use Rattle.vt_log.specs.Logs.{IsLog}
use Rattle.vt_log.specs.declared.error.LogBad.{LogBad}
use Rattle.vt_log.specs.declared.error.LogBad.TheVariants as log_bad
use Rattle.vt_model.specs.History.{History}
use Rattle.vt_part.specs.Layout.{AreDistinct, layout_of}
use Rattle.vt_mount_errors.specs.MountErrors.{of_log}
use Rattle.vt_rebuild.specs.Building.{disks_under}
use Rattle.vt_maintain.specs.Devices.{RefusesDevices, device_faults}
use Rattle.vt_maintain.specs.Opened.{AreOpened, IsLogOn, RefusesOpening, RefusesUse}

-- nothing stands behind the devices of the sections
pub closed_sections : {D : Type 0} (disks room result : List D) → room ≡ [] → result ≡ disks ++ reverse room → result ≡ disks
closed_sections {D} disks room result none is = is ∙ ap (λ (l : List D). disks ++ reverse l) none ∙ append-nil disks

module _ {D : Type 0} (disk : DiskOf D) where
  -- the counts of all devices, where those of the sections tell of the refusal
  pub all_counts : (bad : MountBad) (old new : PerDevice D) → map disk.faults new.partitions ≡ map disk.faults old.partitions
      → CountsRefusal bad (map disk.faults old.sections) (map disk.faults new.sections) → map disk.faults new.filter ≡ map disk.faults old.filter
      → CountsRefusal bad (map disk.faults (all_of old)) (map disk.faults (all_of new))
  all_counts bad old new parts it filter =
      let f : D → ℕ = disk.faults in
      let p : List ℕ = map f old.partitions in
      let rest : List ℕ = map f old.filter in
      let told : CountsRefusal bad ((p ++ map f old.sections) ++ rest) ((p ++ map f new.sections) ++ rest) =
      counts_more bad rest (p ++ map f old.sections) (p ++ map f new.sections) (counts_less bad p (map f old.sections) (map f new.sections) it) in
      let after : map f (all_of new) ≡ (p ++ map f new.sections) ++ rest = map_all f new ∙ (λ i. (parts i ++ map f new.sections) ++ filter i) in
      subst (λ (l : List ℕ). CountsRefusal bad l (map f (all_of new))) (sym (map_all f old))
      (subst (λ (l : List ℕ). CountsRefusal bad ((p ++ map f old.sections) ++ rest) l) (sym after) told)

  -- and all counts, where none has risen
  pub all_quiet : (old new : PerDevice D) → map disk.faults new.partitions ≡ map disk.faults old.partitions → map disk.faults new.sections ≡ map disk.faults old.sections
      → map disk.faults new.filter ≡ map disk.faults old.filter → map disk.faults (all_of new) ≡ map disk.faults (all_of old)
  all_quiet old new parts sections filter = map_all disk.faults new ∙ (λ i. (parts i ++ sections i) ++ filter i) ∙ sym (map_all disk.faults old)

  pub counts_disagree : (bad : MountBad) (part : ℕ) (field : MountField) (found want : ℕ) (old new : List ℕ) → bad ≡ Disagree part field found want → new ≡ old → CountsRefusal bad old new
  counts_disagree bad part field found want old new is same = subst (λ (b : MountBad). CountsRefusal b old new) (sym is) same

  -- the log was found, and the sections beside it are refused
  pub refused_beside : (score : List ℕ → List ℕ) (Cause : MountBad → Type 0) (devices : Devices D) (log : LogState D) (bad : MountBad) (back : Devices D) (after : List D)
      → IsLogFound score disk (disks_of devices.parts.items) devices.sections.items devices.filter log → Cause bad → log.tables ≡ tables_in devices
      → devices_in back ≡ with_log log.disks after devices.filter → tables_in back ≡ log.tables → HoldTheSame disk devices.sections.items after
      → CountsRefusal bad (map disk.faults devices.sections.items) (map disk.faults after) → RefusesDevices Cause disk devices bad back
  refused_beside score Cause devices log bad back after given why same is are held counts = record {
    why = why;
    tables = are ∙ same;
    held = subst (λ (p : PerDevice D). AreHeld disk (devices_in devices) p) (sym is)
        (record { partitions = given.held; sections = held; filter = hold_still disk (option_to_list devices.filter) });
    counts = subst (λ (p : PerDevice D). CountsRefusal bad (device_faults disk devices) (map disk.faults (all_of p))) (sym is)
        (all_counts bad (devices_in devices) (with_log log.disks after devices.filter) given.faults counts refl);
  }

  -- sections that were found hold what they held, and count no failed call
  pub sections_held : (devices : List D) (sections : List (SectionState D)) → AllZip (IsFoundSection disk) devices sections → HoldTheSame disk devices (disks_under sections)
  sections_held devices sections zip = hold_zip disk devices (disks_under sections) (opened_held disk devices sections zip)

  pub sections_quiet : (devices : List D) (sections : List (SectionState D)) → AllZip (IsFoundSection disk) devices sections
      → map disk.faults (disks_under sections) ≡ map disk.faults devices
  sections_quiet devices sections zip = opened_faults disk devices sections zip

  -- a section is refused
  pub refused_sections : (score : List ℕ → List ℕ) (devices : Devices D) (log : LogState D) (sections : List D) (part : ℕ) (bad : MountBad) (back : Devices D) (after : List D)
      → IsLogOn score disk devices log → devices.sections.items ≡ sections → length devices.parts.items ≡ part
      → (bad ≡ NoMemory) ⊎ SectionIsRefused disk part sections bad → HoldTheSame disk sections after
      → CountsRefusal bad (map disk.faults sections) (map disk.faults after)
      → devices_in back ≡ with_log log.disks after devices.filter → tables_in back ≡ log.tables → RefusesDevices (RefusesOpening disk devices) disk devices bad back
  refused_sections score devices log sections part bad back after on same at cause held counts is are =
      let why : RefusesOpening disk devices bad = ⊎_elim
      (λ memory. inl memory)
      (λ refused. inr (inr (inr (inl (subst (λ (n : ℕ). SectionIsRefused disk n devices.sections.items bad) (sym at)
      (subst (λ (l : List D). SectionIsRefused disk part l bad) (sym same) refused))))))
      cause in
      refused_beside score (RefusesOpening disk devices) devices log bad back after on.found why on.tables is are
      (subst (λ (l : List D). HoldTheSame disk l after) (sym same) held)
      (subst (λ (l : List D). CountsRefusal bad (map disk.faults l) (map disk.faults after)) (sym same) counts)

  -- too many buckets
  pub refused_buckets : (score : List ℕ → List ℕ) (devices : Devices D) (log : LogState D) (sections : List (SectionState D)) (part : ℕ) (bad : MountBad) (back : Devices D)
      → IsLogFound score disk (disks_of devices.parts.items) devices.sections.items devices.filter log → AllZip (IsFoundSection disk) devices.sections.items sections
      → length devices.parts.items ≡ part → PassesOrRefuses Buckets MOST_BUCKETS part (buckets_in_each sections) (Err bad) → log.tables ≡ tables_in devices
      → devices_in back ≡ with_log log.disks (disks_under sections) devices.filter → tables_in back ≡ log.tables → RefusesDevices (RefusesOpening disk devices) disk devices bad back
  refused_buckets score devices log sections part bad back given zip at passes same is are =
      refused_beside score (RefusesOpening disk devices) devices log bad back (disks_under sections) given
      (inr (inr (inr (inr (sections, zip, subst (λ (p : ℕ). PassesOrRefuses Buckets MOST_BUCKETS p (buckets_in_each sections) (Err bad)) (sym at) passes))))) same is are
      (sections_held devices.sections.items sections zip)
      (counts_disagree bad _ _ _ _ (map disk.faults devices.sections.items) (map disk.faults (disks_under sections)) passes.2 (sections_quiet devices.sections.items sections zip))

  -- the sections aren't in use
  pub refused_use : (score : List ℕ → List ℕ) (devices : Devices D) (log : LogState D) (sections : List (SectionState D)) (bad : MountBad) (back : Devices D)
      → AreOpened score disk devices log sections → TestsHeads {U = Unit {0}} (length devices.parts.items) sections (Err bad)
      → devices_in back ≡ with_log log.disks (disks_under sections) devices.filter → tables_in back ≡ log.tables → RefusesDevices (RefusesUse score disk devices) disk devices bad back
  refused_use score devices log sections bad back opened heads is are =
      let items = devices.sections.items in
      let quiet : CountsRefusal bad (map disk.faults items) (map disk.faults (disks_under sections)) =
      subst (λ (l : List ℕ). CountsRefusal bad (map disk.faults items) l) (sym (sections_quiet items sections opened.sections_are))
      (tests_counts (length devices.parts.items) sections None 0 bad (inr (inl heads)) (map disk.faults items)) in
      refused_beside score (RefusesUse score disk devices) devices log bad back (disks_under sections) opened.log_is.found
      (inr (log, sections, opened, heads)) opened.log_is.tables is are (sections_held items sections opened.sections_are) quiet

  -- too many arenas
  pub refused_arenas : (devices : Devices D) (bad : MountBad) (back : Devices D) → devices_in back ≡ devices_in devices → tables_in back ≡ tables_in devices
      → PassesOrRefuses Arenas MOST_ARENAS 0 (map (λ t. t.count) (tables_in devices)) (Err bad) → RefusesDevices (RefusesOpening disk devices) disk devices bad back
  refused_arenas devices bad back is are passes = record {
    why = inr (inl passes);
    tables = are;
    held = subst (λ (p : PerDevice D). AreHeld disk (devices_in devices) p) (sym is) (record {
      partitions = hold_still disk (disks_of devices.parts.items);
      sections = hold_still disk devices.sections.items;
      filter = hold_still disk (option_to_list devices.filter);
    });
    counts = counts_disagree bad _ _ _ _ (device_faults disk devices) (device_faults disk back) passes.2 (ap (λ (p : PerDevice D). map disk.faults (all_of p)) is);
  }

  -- the log is refused
  pub refused_log : (score : List ℕ → List ℕ) (devices : Devices D) (why : LogBad) (bad : MountBad) (back : Devices D)
      → devices_in back ≡ with_log (disks_of back.parts.items) devices.sections.items devices.filter → tables_in back ≡ tables_in devices
      → bad ≡ of_log (layout_of (tables_in devices)) why
      → (fields : List (List ℕ)) → (IsTrue disk.tells → AreReadAt (layout_of (tables_in devices)) (map disk.bytes (disks_of devices.parts.items)) fields)
      → RefusesLogMount (map (λ t. t.name) (tables_in devices)) (layout_of (tables_in devices)) fields why
      → HoldTheSame disk (disks_of devices.parts.items) (disks_of back.parts.items)
      → MatchBool (is_log_fault why) (OneHasRisen (map disk.faults (disks_of devices.parts.items)) (map disk.faults (disks_of back.parts.items)))
      (map disk.faults (disks_of back.parts.items) ≡ map disk.faults (disks_of devices.parts.items))
      → ((g : History) (base : ℕ) → IsTrue disk.tells → AreDistinct (map (λ t. t.name) (tables_in devices))
      → IsLog score (layout_of (tables_in devices)) (map disk.bytes (disks_of devices.parts.items)) g base → (why ≡ log_bad.Fault) ⊎ (why ≡ log_bad.NoMemory))
      → RefusesDevices (RefusesOpening disk devices) disk devices bad back
  refused_log score devices why bad back is are told fields read refuses held counts found =
      let it = log_mount score disk (tables_in devices) (disks_of devices.parts.items) devices.sections.items devices.filter (record { lumps = 1; clean = 1 }) 0
      (disks_of back.parts.items) why back is are fields read refuses held counts found in
      record {
        why = inr (inr (inl (record { why = why; bad_is = told; fields = fields; read = read; refuses = refuses })));
        tables = are;
        held = subst (λ (p : PerDevice D). AreHeld disk (devices_in devices) p) (sym is) (record {
          partitions = held;
          sections = hold_still disk devices.sections.items;
          filter = hold_still disk (option_to_list devices.filter);
        });
        counts = subst (λ (b : MountBad). CountsRefusal b (device_faults disk devices) (device_faults disk back)) (sym told) it.refused.counts;
      }
