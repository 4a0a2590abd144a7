-- The command `buildindex CONF`: rebuilds the index of the store that a configuration names from its
-- arenas (venti(8)).
use Rattle.std.specs.Prelude.{ℕ, ◌≡◌, ◌⊎◌, IfErr, IsTrue, List, [], ◌∷◌, Err, Result, codes, decimal, MatchResult}
use Rattle.std.specs.List.{concat}
use Rattle.vt_conf.specs.declared.conf.Conf.{Conf}
use Rattle.vt_disk.specs.Members.{DiskOf}
use Rattle.vt_rebuild.specs.declared.error.RebuildBad.{RebuildBad}
use Rattle.vt_rebuild.specs.declared.error.RebuildBad.TheVariants as rebuild_bad
use Rattle.vt_maintain.specs.declared.error.MaintainError.{MaintainError}
use Rattle.vt_maintain.specs.declared.error.MaintainError.TheVariants.{Unopened, Ended}
use Rattle.vt_maintain.specs.Opened.{RefusesOpening}
use Rattle.vt_maintain.specs.Rebuilding.{Rebuilds}
use Rattle.vt_maintain.specs.Stores.{NamesUnopened, WorksOnStore}
use Rattle.run_base.specs.declared.error.CommandError.{CommandError}
use Rattle.run_base.specs.declared.error.CommandError.TheVariants.{DiskFault, IndexFull, Damaged, NoMemory}
use Rattle.run_base.specs.Blocks.{FindsNoConf}
use Rattle.run_base.specs.Change.{StreamChange, FilesChange, MakesNothing, PartsChange}
use Rattle.run_base.specs.Unopened.{IsOpenRefusal}
use Rattle.run_base.specs.Configurations.{ReadsConf}
use Rattle.run_base.specs.Errors.{CommandOutcome}
use Rattle.run_base.specs.Formatting.{Prints}

-- what is printed of an index with the entries of so many blocks
abbrev pub blocks_line : (blocks : ℕ) → List ℕ
blocks_line blocks = concat (codes "buildindex: " ∷ decimal blocks ∷ codes " blocks\n" ∷ [])

-- what is told of what ended the work
abbrev pub rebuild_failure : RebuildBad → CommandError
rebuild_failure rebuild_bad.Fault = DiskFault
rebuild_failure (rebuild_bad.IndexFull bucket) = IndexFull
rebuild_failure (rebuild_bad.Damaged place want found) = Damaged want found
rebuild_failure rebuild_bad.NoMemory = NoMemory

-- what is told where the index isn't rebuilt
abbrev pub IsRebuildRefusal : (file : List ℕ) → Conf → MaintainError RebuildBad → CommandError
    → Type 0
IsRebuildRefusal file conf (Unopened bad) failure = IsOpenRefusal file conf bad failure
IsRebuildRefusal file conf (Ended bad) failure = failure ≡ rebuild_failure bad

-- The index of the configuration's store is rebuilt, and the count of its blocks is printed, or it
-- is told why not, and nothing is printed.
pub record RebuildsConf {K P D : Type 0} (score : List ℕ → List ℕ) (disk : DiskOf D)
    (file : List ℕ) (conf : Conf) (outcome : CommandOutcome) (parts : PartsChange P D)
    (sink : StreamChange K)
    : Type 0 where
  pub result : Result ℕ (MaintainError RebuildBad)
  pub uses : WorksOnStore disk (IsTrue parts.tells) conf (RefusesOpening disk) (Rebuilds score disk)
      parts.old parts.new parts.faults parts.faults' result
  pub differs : IfErr result NamesUnopened
  pub told : MatchResult result (λ blocks. Prints (blocks_line blocks) outcome sink)
      (λ bad. ((failure : CommandError) × (outcome ≡ Err failure)
      × IsRebuildRefusal file conf bad failure)
      × (sink.after ≡ sink.before))

-- The configuration was read, and the index of its store rebuilt; or it is told why none was read,
-- and nothing is done.
abbrev pub DoesBuildindex : {I P D K : Type 0} → (List ℕ → List ℕ) → DiskOf D → (file : List ℕ)
    → CommandOutcome → FilesChange I → PartsChange P D → StreamChange K → Type 0
DoesBuildindex score disk file outcome files parts sink =
    FindsNoConf file outcome files (MakesNothing parts sink)
    ⊎ ((conf : Conf) × ReadsConf file conf files
    × RebuildsConf score disk file conf outcome parts sink)
