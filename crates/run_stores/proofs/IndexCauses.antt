-- Why the command that formats an index ends with a status other than 0.
use Rattle.std.proofs.Common.{⊎_elim, inl, inr, ℕ, List, Some, None, refl, sym, subst, Ok, Err, Result, arith}
use Rattle.std.specs.Prelude.{IsTrue}
use Rattle.vt_base.specs.declared.mount.MountBad.{MountBad}
use Rattle.vt_base.specs.declared.mount.MountBad.TheVariants as mount_bad
use Rattle.vt_conf.specs.declared.conf.Conf.{Conf}
use Rattle.vt_conf.specs.declared.conf.PartFile.{PartFile}
use Rattle.vt_disk.specs.Members.{DiskOf}
use Rattle.vt_format.specs.declared.index.Index.{Index}
use Rattle.vt_format.specs.declared.index.IndexError.{IndexError}
use Rattle.vt_format.specs.declared.index.IndexError.TheVariants as index_error
use Rattle.vt_format.specs.Index.{IndexFails, FailsAt, files_in_order}
use Rattle.vt_format.specs.Opening.{NamesCause}
use Rattle.vt_partitions.specs.Parts.{HandsOut, Standing}
use Rattle.run_base.specs.declared.error.CommandError.{CommandError}
use Rattle.run_base.specs.declared.error.CommandError.TheVariants.{DiskFault, NoMemory}
use Rattle.run_base.specs.Change.{StreamChange, FilesChange, PartsChange}
use Rattle.run_stores.specs.Fmtindex.{DoesFmtindex, FormatsIndex, IndexesConf, IsIndexRefusal, TellsIndex, index_line}
use Rattle.run_base.specs.Configurations.{IsRefusalAmong}
use Rattle.run_base.specs.Errors.{Causes, CommandOutcome, HasCauseIn, HasDiskCause, no_cause, with_files, with_parts, with_sink}
use Rattle.run_base.proofs.Causes.{as_told, have_failed, printed_has_cause}
use Rattle.run_base.proofs.StoreCauses.{no_conf_cause}

-- ---- what a fault comes of

-- what it is lent
abbrev causes_in : {I P D K : Type 0} → DiskOf D → FilesChange I → PartsChange P D → StreamChange K → Causes
causes_in disk files parts sink = with_files files (with_parts disk parts (with_sink sink no_cause))

module _ {I P D K : Type 0} (disk : DiskOf D) (file : List ℕ) (conf : Conf)
    (files : FilesChange I) (parts : PartsChange P D) (sink : StreamChange K) where
  abbrev causes : Causes
  causes = causes_in disk files parts sink

  abbrev named : List PartFile
  named = files_in_order conf

  failed : (part : ℕ) → FailsAt disk (IsTrue parts.tells) 0 named parts.old parts.new part
      → HasDiskCause disk parts
  failed part it = inr (record {
    name = it.file.name;
    before = it.before;
    after = it.after;
    grow_to = None;
    handed = λ tells. subst (λ (x : Standing D). HandsOut disk x None it.before) (sym (it.was tells))
        (inl (omega arith, refl));
    back = it.is;
    rose = have_failed _ _ it.rose;
  })

  among : (bad : MountBad) (failure : CommandError) → NamesCause (index_error.Refused bad)
      → IsRefusalAmong file named bad failure → HasCauseIn causes (Err failure)
  among mount_bad.Fault failure names is = absurd names
  among (mount_bad.NotFormatted part) failure names is = as_told causes failure _ is tt
  among (mount_bad.TooSmall part len need) failure names is = as_told causes failure _ is names
  among (mount_bad.DuplicateName first second) failure names is = as_told causes failure _ is tt
  among (mount_bad.Disagree part field found want) failure names is =
      as_told causes failure _ is names
  among (mount_bad.Damaged site want found) failure names is = absurd names
  among mount_bad.NoMemory failure names is = as_told causes failure _ is tt

  -- what is told of an index that isn't formatted has its cause
  index_has_cause : (bad : IndexError) (failure : CommandError)
      → IndexFails disk (IsTrue parts.tells) 0 named parts.old parts.new parts.faults parts.faults' bad
      → NamesCause bad → IsIndexRefusal file conf bad failure → HasCauseIn causes (Err failure)
  index_has_cause (index_error.Fault None) failure fails names is =
      as_told causes failure DiskFault is (failed fails.1 fails.2)
  index_has_cause (index_error.Fault (Some part)) failure fails names is =
      as_told causes failure DiskFault is
      (⊎_elim (λ outside. inl outside.0) (λ inside. failed part inside.1) fails)
  index_has_cause (index_error.Refused bad) failure fails names is = ⊎_elim
      (λ refusal. among bad failure names refusal)
      (λ memory. as_told causes failure NoMemory memory tt)
      is
  index_has_cause (index_error.Stopped part) failure fails names is =
      as_told causes failure DiskFault is (failed part fails.1)

  indexed_has_cause : (outcome : CommandOutcome) → IndexesConf disk file conf outcome parts sink
      → HasCauseIn causes outcome
  indexed_has_cause outcome it = by it.result it.formats it.told
    where
      by : (result : Result Index IndexError) → FormatsIndex disk conf parts result
          → TellsIndex file conf result outcome sink → HasCauseIn causes outcome
      by (Ok index) formats told =
          printed_has_cause causes (index_line conf.index index) outcome sink (λ rose. rose) told
      by (Err bad) formats told = subst (HasCauseIn causes) (sym told.0.1)
          (index_has_cause bad told.0.0 formats.cause formats.differs told.0.2)

pub index_cause : {I P D K : Type 0} (disk : DiskOf D) (file : List ℕ) (outcome : CommandOutcome)
    (files : FilesChange I) (parts : PartsChange P D) (sink : StreamChange K)
    → DoesFmtindex disk file outcome files parts sink
    → HasCauseIn (causes_in disk files parts sink) outcome
index_cause disk file outcome files parts sink does = ⊎_elim
    (no_conf_cause (causes_in disk files parts sink) file outcome files (λ rose. rose))
    (λ it. indexed_has_cause disk file it.0 files parts sink outcome it.2)
    does
