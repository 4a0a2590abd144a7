-- Why a command ends with a status other than 0.
use Rattle.std.proofs.Common.{◌≡◌, ◌≢◌, ⊎_elim, inl, inr, ◌<◌, ◌≤◌, ◌-◌, ◌^◌, ℕ, List, sym, subst, Ok, Err, arith}
use Rattle.std.proofs.Math.Nat.{eq-or-lt_of_le}
use Rattle.vt_base.specs.Faults.{HasRisen}
use Rattle.run_base.specs.declared.error.CommandError.{CommandError}
use Rattle.run_base.specs.declared.error.CommandError.TheVariants.{BadConf, BadWords, DiskFault, FileFault, FolderFault, NoMemory, ReadFault, Server, WriteFault}
use Rattle.vt_client.specs.declared.error.ClientErr.TheVariants as errs
use Rattle.vt_remote.specs.declared.talk.RemoteError.{RemoteError}
use Rattle.vt_remote.specs.declared.talk.RemoteError.TheVariants as remote
use Rattle.run_base.specs.Change.{StreamChange, FilesChange}
use Rattle.run_base.specs.Errors.{Causes, CommandOutcome, HasCauseIn, HaveFailed, server_status, status_of}
use Rattle.run_base.specs.Formatting.{Prints}
use Rattle.run_base.specs.Configurations.{ReadsNone}

pub have_failed : (old new : ℕ) → HasRisen old new → HaveFailed old new
have_failed old new rose =
    let most : new ≤ 2 ^ 64 - 1 = omega (arith, rose) in
    ⊎_elim (λ is. inr is) (λ (below : new < 2 ^ 64 - 1). inl (omega (arith, rose, below))) (eq-or-lt_of_le most)

module _ (causes : Causes) where
  pub as_told : (failure told : CommandError) → failure ≡ told → HasCauseIn causes (Err told)
      → HasCauseIn causes (Err failure)
  as_told failure told is cause =
      subst (λ (f : CommandError). HasCauseIn causes (Err f)) (sym is) cause

  pub printed_has_cause : {K : Type 0} (text : List ℕ) (outcome : CommandOutcome) (sink : StreamChange K)
      → (HasRisen sink.faults sink.faults' → causes.sink) → Prints text outcome sink
      → HasCauseIn causes outcome
  printed_has_cause text (Ok done) sink rises prints = tt
  printed_has_cause text (Err WriteFault) sink rises prints = rises prints.1
  printed_has_cause text (Err failure) sink rises prints = absurd prints

  -- so has what is told where no configuration is read
  pub none_has_cause : {I : Type 0} (file : List ℕ) (files : FilesChange I) (failure : CommandError)
      → (HasRisen files.faults files.faults' → causes.files) → ReadsNone file failure files
      → HasCauseIn causes (Err failure)
  none_has_cause file files (BadConf bad) rises none = tt
  none_has_cause file files FileFault rises none = rises none
  none_has_cause file files NoMemory rises none = tt
  none_has_cause file files failure rises none = absurd none

-- of more causes
pub widened : (narrow wide : Causes) (outcome : CommandOutcome) → (narrow.words → wide.words)
    → (narrow.disks → wide.disks) → (narrow.source → wide.source) → (narrow.files → wide.files)
    → (narrow.folders → wide.folders) → (narrow.sink → wide.sink)
    → ((bad : RemoteError) → narrow.server bad → wide.server bad) → HasCauseIn narrow outcome
    → HasCauseIn wide outcome
widened narrow wide (Err BadWords) words disks source files folders sink server cause = words cause
widened narrow wide (Err DiskFault) words disks source files folders sink server cause = disks cause
widened narrow wide (Err ReadFault) words disks source files folders sink server cause = source cause
widened narrow wide (Err FileFault) words disks source files folders sink server cause = files cause
widened narrow wide (Err FolderFault) words disks source files folders sink server cause =
    folders cause
widened narrow wide (Err WriteFault) words disks source files folders sink server cause = sink cause
widened narrow wide (Err (Server bad)) words disks source files folders sink server cause =
    server bad cause
widened narrow wide outcome words disks source files folders sink server cause = cause

-- status 1 tells of words alone
pub server_never : (bad : RemoteError) → server_status bad ≢ 1
server_never remote.Undialled is = cc
server_never (remote.Refused errs.ReadFault) is = cc
server_never (remote.Refused why) is = cc

pub never_words : (causes : Causes) (outcome : CommandOutcome) → ¬ causes.words
    → HasCauseIn causes outcome → status_of outcome ≢ 1
never_words causes (Err BadWords) never cause is = never cause
never_words causes (Err (Server bad)) never cause is = server_never bad is
never_words causes outcome never cause is = cc
