-- Why the store of a configuration is not opened.
use Rattle.std.proofs.Common.{◌≡◌, ⊎_elim, inl, inr, ℕ, zero, suc, List, [], ◌∷◌, length, map, None, Err, refl, sym, subst, arith}
use Rattle.std.specs.Prelude.{IsTrue, slice_index}
use Rattle.std.proofs.lemmas.List.{length-append, length-map}
use Rattle.vt_base.specs.declared.mount.MountBad.{MountBad}
use Rattle.vt_base.specs.declared.mount.MountBad.TheVariants as mount_bad
use Rattle.vt_conf.specs.declared.conf.Conf.{Conf}
use Rattle.vt_conf.specs.declared.conf.PartFile.{PartFile}
use Rattle.vt_disk.specs.Members.{DiskOf}
use Rattle.vt_format.specs.Index.{files_in_order}
use Rattle.vt_log.specs.Faults.{OneHasRisen}
use Rattle.vt_core.specs.Files.{PerDevice, all_of}
use Rattle.vt_recover.specs.Refusals.{CountsRefusal}
use Rattle.vt_open.specs.declared.error.OpenError.{OpenError}
use Rattle.vt_open.specs.declared.error.OpenError.TheVariants.{Missing, Refused}
use Rattle.vt_open.specs.Names.{HaveOneShape, StandUnder, files_of}
use Rattle.vt_open.specs.Opening.{FindsNoStore, NamesCause, RefusesStore}
use Rattle.vt_open.specs.Taking.{RefusesTaking}
use Rattle.vt_partitions.specs.Parts.{HandsOut, Standing}
use Rattle.run_base.specs.declared.error.CommandError.{CommandError}
use Rattle.run_base.specs.declared.error.CommandError.TheVariants.{DiskFault, NoMemory}
use Rattle.run_base.specs.Change.{StreamChange, PartsChange}
use Rattle.run_base.specs.Unopened.{IsOpenRefusal, TellsUnopened}
use Rattle.run_base.specs.Configurations.{IsRefusalAmong}
use Rattle.run_base.specs.Errors.{Causes, HasCauseIn, HasDiskCause, PartHasFailed, HaveFailed, CommandOutcome}
use Rattle.run_base.proofs.Causes.{as_told, have_failed}

module _ {P D : Type 0} (disk : DiskOf D) (parts : PartsChange P D) where
  pub has_failed : (files : List PartFile) (before after : List D) (k : ℕ)
      → length before ≡ length files → length after ≡ length files
      → (IsTrue parts.tells → StandUnder parts.old files before)
      → (IsTrue parts.tells → StandUnder parts.new files after)
      → HaveFailed (slice_index (map disk.faults before) k) (slice_index (map disk.faults after) k)
      → PartHasFailed disk parts
  has_failed [] [] [] k many many' stood stand rose =
      absurd (⊎_elim (λ less. omega (arith, less)) (λ full. omega (arith, full)) rose)
  has_failed (file ∷ files) (b ∷ before) (a ∷ after) zero many many' stood stand rose = record {
    name = file.name;
    before = b;
    after = a;
    grow_to = None;
    handed = λ tells. subst (λ (x : Standing D). HandsOut disk x None b) (sym (stood tells).0)
        (inl (omega arith, refl));
    back = λ tells. (stand tells).0;
    rose = rose;
  }
  has_failed (file ∷ files) (b ∷ before) (a ∷ after) (suc k) many many' stood stand rose =
      has_failed files before after k (omega (arith, many)) (omega (arith, many'))
      (λ tells. (stood tells).1) (λ tells. (stand tells).1) rose
  has_failed [] (b ∷ before) after k many many' stood stand rose = absurd (omega (arith, many))
  has_failed [] [] (a ∷ after) k many many' stood stand rose = absurd (omega (arith, many'))
  has_failed (file ∷ files) [] after k many many' stood stand rose = absurd (omega (arith, many))
  has_failed (file ∷ files) (b ∷ before) [] k many many' stood stand rose =
      absurd (omega (arith, many'))

pub same_len : {X Y : Type 0} (these : PerDevice X) (those : PerDevice Y) → HaveOneShape these those
    → length (all_of these) ≡ length (all_of those)
same_len these those it = simp length-append (omega (arith, it.partitions, it.sections, it.filter))

module _ {P D : Type 0} (score : List ℕ → List ℕ) (disk : DiskOf D) (file : List ℕ) (conf : Conf)
    (parts : PartsChange P D) where
  abbrev Refuses : OpenError → Type 0
  Refuses = RefusesStore score disk (IsTrue parts.tells) conf parts.old parts.new parts.faults
      parts.faults'

  -- a call of a partition failed while they were handed out, or while the store was mounted
  taking_fault : (bad : OpenError)
      → RefusesTaking disk (IsTrue parts.tells) 0 (length conf.arenas.items)
      (all_of (files_of conf)) parts.old parts.new parts.faults parts.faults' bad
      → bad ≡ Refused mount_bad.Fault → PartHasFailed disk parts
  taking_fault (Missing part) it is = absurd (cc)
  taking_fault (Refused bad) it is =
      let same : bad ≡ mount_bad.Fault = cc in
      let rose : OneHasRisen (map disk.faults it.handed) (map disk.faults it.back) =
      subst (λ (b : MountBad). CountsRefusal b (map disk.faults it.handed)
      (map disk.faults it.back)) same it.cause.1 in
      has_failed disk parts it.are.front it.handed it.back rose.which it.are.many
      (omega (
        arith,
        rose.many,
        it.are.many,
        length-map it.handed disk.faults,
        length-map it.back disk.faults,
      )) it.are.stood it.are.stand
      (have_failed _ _ rose.rose)

  finding_fault : (it : FindsNoStore score disk (IsTrue parts.tells) conf parts.old parts.new
      mount_bad.Fault) → PartHasFailed disk parts
  finding_fault it =
      has_failed disk parts (all_of (files_of conf)) (all_of it.handed) (all_of it.back)
      it.counts.which (same_len it.handed (files_of conf) it.shape)
      (same_len it.back (files_of conf) it.shape_back) (λ tells. (it.stood tells).under)
      (λ tells. (it.stand tells).under) (have_failed _ _ it.counts.rose)

  open_fault : Refuses (Refused mount_bad.Fault) → HasDiskCause disk parts
  open_fault it = inr (⊎_elim
      (λ taking. taking_fault (Refused mount_bad.Fault) taking refl)
      (λ finding. finding_fault (subst (λ (b : MountBad). FindsNoStore score disk
      (IsTrue parts.tells) conf parts.old parts.new b) (let is = finding.1 in cc) finding.3))
      it)

  missing : (part : ℕ) → Refuses (Missing part) → HasDiskCause disk parts
  missing part it = ⊎_elim
      (λ taking. inl taking.cause.2)
      (λ finding. absurd (let no = finding.1 in cc)) it

  module _ (causes : Causes) (tells : HasDiskCause disk parts → causes.disks) where
    among : (bad : MountBad) (failure : CommandError) → Refuses (Refused bad)
        → NamesCause (Refused bad) → IsRefusalAmong file (files_in_order conf) bad failure
        → HasCauseIn causes (Err failure)
    among mount_bad.Fault failure it names is =
        as_told causes failure DiskFault is (tells (open_fault it))
    among (mount_bad.NotFormatted part) failure it names is = as_told causes failure _ is tt
    among (mount_bad.TooSmall part len need) failure it names is =
        as_told causes failure _ is names
    among (mount_bad.DuplicateName first second) failure it names is =
        as_told causes failure _ is tt
    among (mount_bad.Disagree part field found want) failure it names is =
        as_told causes failure _ is names
    among (mount_bad.Damaged site want found) failure it names is =
        as_told causes failure _ is names
    among mount_bad.NoMemory failure it names is = as_told causes failure _ is tt

    pub open_told : (bad : OpenError) (failure : CommandError) → Refuses bad → NamesCause bad
        → IsOpenRefusal file conf bad failure → HasCauseIn causes (Err failure)
    open_told (Missing part) failure it names is =
        as_told causes failure DiskFault is (tells (missing part it))
    open_told (Refused bad) failure it names is = ⊎_elim
        (λ refusal. among bad failure it names refusal)
        (λ memory. as_told causes failure NoMemory memory tt) is

    pub none_opened : {R K : Type 0} (outcome : CommandOutcome) (source : StreamChange R) (sink : StreamChange K)
        → TellsUnopened score disk file conf outcome source sink parts → HasCauseIn causes outcome
    none_opened outcome source sink x = subst (λ (o : CommandOutcome). HasCauseIn causes o)
        (sym x.outcome_is) (open_told x.bad x.failure x.refused x.differs x.told)
