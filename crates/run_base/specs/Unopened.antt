-- What is told where the store that a configuration names is not opened.
use Rattle.std.specs.Prelude.{ℕ, ◌≡◌, ◌⊎◌, IsTrue, List, Err}
use Rattle.vt_conf.specs.declared.conf.Conf.{Conf}
use Rattle.vt_disk.specs.Members.{DiskOf}
use Rattle.vt_format.specs.Index.{files_in_order}
use Rattle.vt_open.specs.declared.error.OpenError.{OpenError}
use Rattle.vt_open.specs.declared.error.OpenError.TheVariants.{Missing, Refused}
use Rattle.vt_open.specs.Opening.{NamesCause, RefusesStore}
use Rattle.run_base.specs.declared.error.CommandError.{CommandError}
use Rattle.run_base.specs.declared.error.CommandError.TheVariants.{DiskFault, NoMemory}
use Rattle.run_base.specs.Change.{StreamChange, PartsChange}
use Rattle.run_base.specs.Configurations.{IsRefusalAmong}
use Rattle.run_base.specs.Errors.{CommandOutcome}

-- why the store isn't opened, unless memory runs out for a file's name
abbrev pub IsOpenRefusal : (file : List ℕ) → Conf → OpenError → CommandError → Type 0
IsOpenRefusal file conf (Missing part) failure = failure ≡ DiskFault
IsOpenRefusal file conf (Refused bad) failure =
    IsRefusalAmong file (files_in_order conf) bad failure ⊎ (failure ≡ NoMemory)

-- It is told why the store wasn't opened, and nothing was read or written.
pub record TellsUnopened {R K P D : Type 0} (score : List ℕ → List ℕ) (disk : DiskOf D)
    (file : List ℕ) (conf : Conf) (outcome : CommandOutcome) (source : StreamChange R)
    (sink : StreamChange K)
    (parts : PartsChange P D) : Type 0 where
  pub bad : OpenError
  pub refused : RefusesStore score disk (IsTrue parts.tells) conf parts.old parts.new parts.faults
      parts.faults' bad
  pub differs : NamesCause bad
  pub failure : CommandError
  pub told : IsOpenRefusal file conf bad failure
  pub outcome_is : outcome ≡ Err failure
  pub unread : source.after ≡ source.before
  pub unwritten : sink.after ≡ sink.before
