-- Input that ends well is answered to its end over the store of a configuration.
use Rattle.std.proofs.Common.{◌≡◌, ◌⊎◌, ⊎_elim, ℕ, List, Option, Some, Err, refl, sym, ◌∙◌, ap, subst, arith}
use Rattle.std.specs.Prelude.{IsTrue}
use Rattle.std.specs.Option.{option_to_list}
use Rattle.vt_base.specs.declared.mount.MountBad.{MountBad}
use Rattle.vt_conf.specs.declared.conf.Conf.{Conf}
use Rattle.vt_conf.specs.declared.conf.PartFile.{PartFile}
use Rattle.vt_conf.specs.declared.error.ConfCause.{ConfCause}
use Rattle.vt_conf.specs.Configuration.{Configures, IsFirstCause, SameConf}
use Rattle.vt_disk.specs.Members.{DiskOf}
use Rattle.vt_core.specs.Files.{PerDevice, all_of}
use Rattle.vt_open.specs.declared.error.OpenError.{OpenError}
use Rattle.vt_open.specs.declared.error.OpenError.TheVariants.{Missing, Refused}
use Rattle.vt_open.specs.Names.{AreUnder, HaveOneShape, StandUnder, files_of}
use Rattle.vt_open.specs.Opening.{IsFaultOrMemory}
use Rattle.vt_partitions.specs.Parts.{Standing}
use Rattle.run_base.specs.declared.error.CommandError.{CommandError}
use Rattle.run_base.specs.declared.error.CommandError.TheVariants.{BadConf, DiskFault, FileFault, NoMemory}
use Rattle.run_base.specs.Change.{FilesChange}
use Rattle.run_base.specs.Unopened.{IsOpenRefusal}
use Rattle.run_base.specs.Configurations.{IsWrong, ReadsNone}
use Rattle.run_base.specs.Errors.{HasCauseIn}
use Rattle.vt_commands.specs.HandedIn.{NoneFails}
use Rattle.vt_commands.specs.Work.{Work, causes_of}

-- ---- the configuration

-- the files of what is read are those of what the text says
same_files : (a b : Conf) → SameConf a b → files_of a ≡ files_of b
same_files a b same =
    ap (λ (files : List PartFile). record {
      partitions = files;
      sections = a.sections.items;
      filter = option_to_list a.filter;
    }) same.arenas
    ∙ ap (λ (files : List PartFile). record {
      partitions = b.arenas.items;
      sections = files;
      filter = option_to_list a.filter;
    }) same.sections
    ∙ ap (λ (o : Option PartFile). record {
      partitions = b.arenas.items;
      sections = b.sections.items;
      filter = option_to_list o;
    }) same.filter

pub under_same : {D : Type 0} (standing : List ℕ → Standing D) (a b : Conf)
    (devices : PerDevice D) → SameConf a b → AreUnder standing a devices
    → AreUnder standing b devices
under_same standing a b devices same under =
    let files = same_files a b same in
    record {
      shape = subst (λ (f : PerDevice PartFile). HaveOneShape devices f) files under.shape;
      under = subst (λ (f : PerDevice PartFile). StandUnder standing (all_of f) (all_of devices))
          files under.under;
    }

-- a text that says a configuration isn't refused
never_wrong : (text : List ℕ) (conf : Conf) (line : ℕ) (why : ConfCause) → Configures text conf
    → ¬ IsFirstCause text line why → IsWrong text line why → ⊥
never_wrong text conf line why says never wrong = ⊎_elim
    (λ long. omega (arith, long.0, says.are.is_text.most))
    (λ cause. never cause.1) wrong

pub none_read : {I : Type 0} (file text : List ℕ) (conf : Conf) (failure : CommandError)
    (files : FilesChange I) → Configures text conf
    → ((line : ℕ) (why : ConfCause) → ¬ IsFirstCause text line why) → IsTrue files.tells
    → files.content file ≡ Some text → ReadsNone file failure files
    → (failure ≡ FileFault → ⊥) → failure ≡ NoMemory
none_read file text conf (BadConf bad) files says never tells content none no_fault =
    let told = none.1 tells in
    let same : told.0 ≡ text = (let is = sym told.1 ∙ content in cc) in
    absurd (never_wrong text conf bad.line bad.why says (never bad.line bad.why)
    (subst (λ (t : List ℕ). IsWrong t bad.line bad.why) same told.2))
none_read file text conf FileFault files says never tells content none no_fault =
    absurd (no_fault refl)
none_read file text conf NoMemory files says never tells content none no_fault = refl
none_read file text conf failure files says never tells content none no_fault = absurd none

-- ---- a store that isn't opened

module _ {R K I P D N L : Type 0} (disk : DiskOf D) (work : Work R K I P D N L)
    (fails : NoneFails disk work) where
  no_disk_fault : (failure : CommandError) → failure ≡ DiskFault → HasCauseIn (causes_of disk work) (Err failure) → ⊥
  no_disk_fault failure is cause = ⊎_elim fails.parts fails.disks
      (subst (λ (f : CommandError). HasCauseIn (causes_of disk work) (Err f)) is cause)

  pub none_opened_well : (file : List ℕ) (conf : Conf) (bad : OpenError) (failure : CommandError)
      → IsFaultOrMemory bad → IsOpenRefusal file conf bad failure
      → HasCauseIn (causes_of disk work) (Err failure) → failure ≡ NoMemory
  none_opened_well file conf (Missing part) failure found told cause =
      absurd (no_disk_fault failure told cause)
  none_opened_well file conf (Refused bad) failure found told cause = ⊎_elim
      (λ fault. ⊎_elim (λ among. absurd (no_disk_fault failure among cause)) (λ memory. memory)
      (subst (λ (b : MountBad). IsOpenRefusal file conf (Refused b) failure) fault told))
      (λ short. ⊎_elim (λ among. among) (λ memory. memory)
      (subst (λ (b : MountBad). IsOpenRefusal file conf (Refused b) failure) short told))
      found
