-- The command `fmtindex CONF`: puts the sections that a configuration names to use as an index.
use Rattle.std.specs.Prelude.{ℕ, ◌≡◌, ◌⊎◌, IsTrue, IfErr, IfOk, OnOk, List, [], ◌∷◌, Err, Result, codes, decimal, length, map, MatchResult}
use Rattle.std.specs.List.{Contains, concat}
use Rattle.vt_conf.specs.declared.conf.Conf.{Conf}
use Rattle.vt_disk.specs.Members.{DiskOf}
use Rattle.vt_format.specs.declared.index.Index.{Index}
use Rattle.vt_format.specs.declared.index.IndexError.{IndexError}
use Rattle.vt_format.specs.declared.index.IndexError.TheVariants as index_error
use Rattle.vt_format.specs.Index.{AnswersFor, ArePutToUse, IndexFails, LeavesThere, StopsIndex, files_in_order}
use Rattle.vt_format.specs.Opening.{FindsArenas, NamesCause}
use Rattle.vt_partitions.specs.Parts.{StaysThere}
use Rattle.run_base.specs.declared.error.CommandError.{CommandError}
use Rattle.run_base.specs.declared.error.CommandError.TheVariants.{DiskFault, NoMemory}
use Rattle.run_base.specs.Blocks.{FindsNoConf}
use Rattle.run_base.specs.Change.{StreamChange, FilesChange, MakesNothing, PartsChange}
use Rattle.run_base.specs.Configurations.{ReadsConf, IsRefusalAmong}
use Rattle.run_base.specs.Errors.{CommandOutcome}
use Rattle.run_base.specs.Formatting.{Prints}

-- what is printed of an index
abbrev pub index_line : (name : List ℕ) → Index → List ℕ
index_line name index =
    concat (codes "fmtindex " ∷ name ∷ codes ": " ∷ decimal index.buckets ∷ codes " buckets in "
    ∷ decimal index.sections ∷ codes " sections\n" ∷ [])

-- what is told where the index isn't formatted
abbrev pub IsIndexRefusal : (file : List ℕ) → Conf → IndexError → CommandError → Type 0
IsIndexRefusal file conf (index_error.Fault part) failure = failure ≡ DiskFault
IsIndexRefusal file conf (index_error.Refused bad) failure =
    IsRefusalAmong file (files_in_order conf) bad failure ⊎ (failure ≡ NoMemory)
IsIndexRefusal file conf (index_error.Stopped part) failure = failure ≡ DiskFault

-- What became of the partitions that the configuration names: all its sections are in use, or one
-- is refused, the first in order; or a call failed.
pub record FormatsIndex {P D : Type 0} (disk : DiskOf D) (conf : Conf) (parts : PartsChange P D)
    (result : Result Index IndexError) : Type 0 where
  pub used : IfOk result (λ it. IsTrue parts.tells → IsTrue disk.tells
      → ArePutToUse disk parts.old parts.new 0 it.buckets conf.sections.items)
  pub sections : IfOk result (λ it. it.sections ≡ length conf.sections.items)
  pub stopped : IfErr result (λ bad. IsTrue parts.tells → IsTrue disk.tells → (total : ℕ)
      × StopsIndex disk parts.old parts.new 0 total (length conf.arenas.items)
      conf.sections.items bad)
  pub found : IsTrue parts.tells → IsTrue disk.tells → AnswersFor
      (FindsArenas disk parts.old conf [] [] conf.arenas.items) result
  pub differs : IfErr result NamesCause
  pub cause : IfErr result
      (IndexFails disk (IsTrue parts.tells) 0 (files_in_order conf) parts.old parts.new
      parts.faults parts.faults')
  pub faults : OnOk result (parts.faults' ≡ parts.faults)
  pub back : IsTrue parts.tells → (name : List ℕ)
      → LeavesThere disk result (parts.old name) (parts.new name)
  pub stays : IsTrue parts.tells → (name : List ℕ)
      → ¬ Contains (map (λ file. file.name) conf.sections.items) name
      → StaysThere disk (parts.old name) (parts.new name)

-- What came of it is printed, or it is told why not; then nothing is printed.
abbrev pub TellsIndex : {K : Type 0} → (file : List ℕ) → Conf → Result Index IndexError
    → CommandOutcome
    → StreamChange K → Type 0
TellsIndex file conf result outcome change = MatchResult result
    (λ index. Prints (index_line conf.index index) outcome change)
    (λ bad. ((failure : CommandError) × (outcome ≡ Err failure)
    × IsIndexRefusal file conf bad failure)
    × (change.after ≡ change.before))

-- the index of this configuration was formatted, and that is told
pub record IndexesConf {K P D : Type 0} (disk : DiskOf D) (file : List ℕ) (conf : Conf)
    (outcome : CommandOutcome) (parts : PartsChange P D) (sink : StreamChange K) : Type 0 where
  pub result : Result Index IndexError
  pub formats : FormatsIndex disk conf parts result
  pub told : TellsIndex file conf result outcome sink

-- The configuration was read, and its index formatted; or it is told why none was read, and nothing
-- is done.
abbrev pub DoesFmtindex : {I P D K : Type 0} → DiskOf D → (file : List ℕ) → CommandOutcome
    → FilesChange I → PartsChange P D → StreamChange K → Type 0
DoesFmtindex disk file outcome files parts sink =
    FindsNoConf file outcome files (MakesNothing parts sink)
    ⊎ ((conf : Conf) × ReadsConf file conf files × IndexesConf disk file conf outcome parts sink)
