-- What a command does that formats the partition of one file (venti(8)).
use Rattle.std.specs.Prelude.{ℕ, ◌≡◌, ◌≢◌, ◌++◌, ⊤, IsTrue, List, Result, Ok, Err, MatchResult}
use Rattle.vt_base.specs.Faults.{HasRisen}
use Rattle.vt_base.specs.declared.mount.MountBad.{MountBad}
use Rattle.vt_base.specs.declared.mount.MountBad.TheVariants as mount_bad
use Rattle.vt_disk.specs.Members.{DiskOf}
use Rattle.vt_format.specs.Worked.{WorksOn}
use Rattle.vt_out.specs.Streams.{AppendsPrefix}
use Rattle.run_base.specs.declared.error.CommandError.{CommandError}
use Rattle.run_base.specs.declared.error.CommandError.TheVariants.{NotFormatted, TooSmall, Disagree, DiskFault, WriteFault, NoMemory}
use Rattle.run_base.specs.Change.{StreamChange, PartsChange}
use Rattle.run_base.specs.Errors.{CommandOutcome}

-- what is told where the partition of this file is refused, which is the only one
abbrev pub IsRefusalOf : (file : List ℕ) → MountBad → CommandError → Type 0
IsRefusalOf file mount_bad.Fault failure = failure ≡ DiskFault
IsRefusalOf file (mount_bad.NotFormatted part) failure = failure ≡ NotFormatted file
IsRefusalOf file (mount_bad.TooSmall part len need) failure = failure ≡ TooSmall file len need
IsRefusalOf file (mount_bad.Disagree part field found want) failure =
    failure ≡ Disagree file field found want
IsRefusalOf file mount_bad.NoMemory failure = failure ≡ NoMemory
IsRefusalOf file bad failure = ⊥

-- The refusal is one that a single partition may get.
abbrev pub IsOfOneFile : MountBad → Type 0
IsOfOneFile (mount_bad.DuplicateName first second) = ⊥
IsOfOneFile (mount_bad.Damaged site want found) = ⊥
IsOfOneFile bad = ⊤

-- The text was written, and that is the outcome; or a write failed behind a front of it.
abbrev pub Prints : {K : Type 0} → (text : List ℕ) → CommandOutcome → StreamChange K → Type 0
Prints text (Ok done) change =
    (IsTrue change.tells → change.new ≡ change.old ++ text) × (change.faults' ≡ change.faults)
Prints text (Err WriteFault) change =
    (IsTrue change.tells → AppendsPrefix change.old change.new text)
    × HasRisen change.faults change.faults'
Prints text (Err failure) change = ⊥

-- What came of it is printed, or it is told why the partition is refused; then nothing is printed.
abbrev pub TellsFormatted : {K T : Type 0} → (file : List ℕ) → (text : T → List ℕ)
    → Result T MountBad
    → CommandOutcome → StreamChange K → Type 0
TellsFormatted file text result outcome change = MatchResult result
    (λ made. Prints (text made) outcome change)
    (λ bad. ((failure : CommandError) × (outcome ≡ Err failure) × IsRefusalOf file bad failure)
    × (change.after ≡ change.before))

-- This was done to the partition of the file, with so many bytes at least, and to no other.
pub record FormatsFile {P D K T : Type 0} (disk : DiskOf D) (file : List ℕ) (len : ℕ)
    (Formats : Result T MountBad → D → D → Type 0) (text : T → List ℕ) (outcome : CommandOutcome)
    (parts : PartsChange P D) (sink : StreamChange K) : Type 0 where
  pub result : Result T MountBad
  pub worked : WorksOn disk parts.tells len Formats parts.faults parts.faults' (parts.old file)
      (parts.new file) result
  pub others : IsTrue parts.tells → (other : List ℕ) → other ≢ file
      → parts.new other ≡ parts.old other
  pub told : TellsFormatted file text result outcome sink

-- a word was refused, for this cause, and nothing was done
pub record RefusesWord (IsWhy : CommandError → Type 0) (outcome : CommandOutcome) (Idle : Type 0)
    : Type 0 where
  pub failure : CommandError
  pub why : IsWhy failure
  pub outcome_is : outcome ≡ Err failure
  pub idle : Idle
