-- What words tell of a run, and what its status does.
use Rattle.std.proofs.Common.{◌≡◌, ◌≢◌, ◌⊎◌, ⊎_elim, inl, inr, ℕ, List, [], ◌∷◌, codes, refl, sym, ◌∙◌, ap, subst, Ok, Err}
use Rattle.vt_base.specs.Faults.{HasRisen}
use Rattle.vt_disk.specs.Members.{DiskOf}
use Rattle.vt_cli.specs.declared.asked.Asked.{Asked}
use Rattle.vt_cli.specs.declared.asked.Asked.TheVariants.{Do, Faulty}
use Rattle.vt_cli.specs.declared.command.Command.{Command}
use Rattle.vt_cli.specs.declared.command.Command.TheVariants.{Session}
use Rattle.vt_cli.specs.Words.{Asks, AreFaulty, AsksForNothing}
use Rattle.vt_cli.proofs.Asking.{alone}
use Rattle.vt_client.specs.declared.error.ClientErr.TheVariants as errs
use Rattle.vt_remote.specs.declared.talk.RemoteError.{RemoteError}
use Rattle.vt_remote.specs.declared.talk.RemoteError.TheVariants as remote
use Rattle.run_base.specs.declared.error.CommandError.TheVariants.{BadWords, DiskFault, ReadFault, FileFault, FolderFault, WriteFault, NoMemory, Refused, Server}
use Rattle.run_sessions.specs.Session.{DoesSession}
use Rattle.run_sessions.specs.SessionConf.{DoesSessionConf}
use Rattle.run_base.specs.Errors.{CommandOutcome, HaveFailed, PartHasFailed, HasLinkFailed, server_status, status_of, outcome_line, line, HasCauseIn}
use Rattle.run_base.specs.Members.{LinkOf}
use Rattle.run_base.specs.Places.{EndsIdle, in_memory}
use Rattle.vt_commands.specs.Run.{DoesCommand, DoesAsked, DoesWords}
use Rattle.vt_commands.specs.Work.{IsIdle, Work, causes_of, lent_causes}
use Rattle.run_base.proofs.Causes.{never_words, server_never}
use Rattle.vt_commands.proofs.Only.{does_caused}

-- ---- by what the words ask for

module _ {R K I P D N L : Type 0} (disk : DiskOf D) (link : LinkOf L) (score : List ℕ → List ℕ)
    (outcome : CommandOutcome) (work : Work R K I P D N L) where
  faulty_idle : (asked : Asked) → AsksForNothing asked → DoesAsked disk link score asked outcome work
      → EndsIdle (Err BadWords) outcome (IsIdle work)
  faulty_idle Faulty faulty does = does
  faulty_idle asked faulty does = absurd faulty

  module _ (words : List (List ℕ)) (preface : List ℕ)
      (does : DoesWords disk link score words preface outcome work) where
    pub done : (command : Command) → Asks words (Do command)
        → DoesCommand disk link score command outcome work
        ⊎ EndsIdle (Err NoMemory) outcome (IsIdle work)
    done command asks = ⊎_elim
        (λ it. inl (subst (λ asked. DoesAsked disk link score asked outcome work)
        (alone words command it.0 asks it.1) it.2))
        (λ short. inr short.1)
        does

    pub refused : AreFaulty words → EndsIdle (Err BadWords) outcome (IsIdle work)
        ⊎ EndsIdle (Err NoMemory) outcome (IsIdle work)
    refused faulty = ⊎_elim
        (λ it. inl (faulty_idle it.0 (faulty it.0 it.1) it.2))
        (λ short. inr short.1)
        does

    -- a command never ends as other words do
    pub never_bad : (command : Command) → Asks words (Do command) → status_of outcome ≢ 1
    never_bad command asks = ⊎_elim
        (λ it. never_words (lent_causes disk work) outcome (λ no. no)
        (does_caused disk outcome work link score command it))
        (λ idle one. let wrong = ap status_of (sym idle.is) ∙ one in cc)
        (done command asks)

-- the line of status 1
pub line_of_one : (outcome : CommandOutcome) → status_of outcome ≡ 1 → outcome_line outcome ≡ line (codes "bad command line" ∷ [])
line_of_one (Err BadWords) one = refl
line_of_one (Err (Server bad)) one = absurd (server_never bad one)
line_of_one outcome one = absurd (cc)

-- ---- by the status

not_disk : (bad : RemoteError) → server_status bad ≢ 4
not_disk remote.Undialled is = cc
not_disk (remote.Refused errs.ReadFault) is = cc
not_disk (remote.Refused why) is = cc

module _ {R K I P D N L : Type 0} (disk : DiskOf D) (work : Work R K I P D N L) where
  pub disk_risen : (outcome : CommandOutcome) → status_of outcome ≡ 4
      → HasCauseIn (causes_of disk work) outcome
      → HasRisen work.parts.faults work.parts.faults' ⊎ PartHasFailed disk work.parts
  disk_risen (Err DiskFault) is cause = cause
  disk_risen (Err (Server bad)) is cause = absurd (not_disk bad is)
  disk_risen outcome is cause = absurd (cc)

  pub read_risen : (outcome : CommandOutcome) → status_of outcome ≡ 6
      → HasCauseIn (causes_of disk work) outcome
      → HasRisen work.source.faults work.source.faults'
      ⊎ HasRisen work.files.faults work.files.faults'
      ⊎ HaveFailed work.folders.faults work.folders.faults'
      ⊎ HasRisen work.dialer.faults work.dialer.faults'
      ⊎ HasLinkFailed work.dialer.read_faults work.dialer
  read_risen (Err ReadFault) is cause = inl cause
  read_risen (Err FileFault) is cause = inr (inl cause)
  read_risen (Err FolderFault) is cause = inr (inr (inl cause))
  read_risen (Err (Server remote.Undialled)) is cause = inr (inr (inr (inl cause)))
  read_risen (Err (Server (remote.Refused errs.ReadFault))) is cause = inr (inr (inr (inr cause)))
  read_risen outcome is cause = absurd (cc)

  pub write_risen : (outcome : CommandOutcome) → status_of outcome ≡ 7
      → HasCauseIn (causes_of disk work) outcome
      → HasRisen work.sink.faults work.sink.faults'
      ⊎ HasLinkFailed work.dialer.write_faults work.dialer
  write_risen (Err WriteFault) is cause = inl cause
  write_risen (Err (Server (remote.Refused errs.WriteFault))) is cause = inr cause
  write_risen outcome is cause = absurd (cc)

pub well_status : (outcome : CommandOutcome) (status : ℕ) → status ≡ status_of outcome
    → (outcome ≡ Ok tt) ⊎ (outcome ≡ Err NoMemory) → (status ≡ 0) ⊎ (status ≡ 8)
well_status outcome status is well = ⊎_elim
    (λ good. inl (is ∙ ap status_of good)) (λ short. inr (is ∙ ap status_of short)) well

module _ {R K I P D N L : Type 0} (disk : DiskOf D) (link : LinkOf L) (score : List ℕ → List ℕ)
    (outcome : CommandOutcome) (work : Work R K I P D N L) where
  abbrev IsWell : Type 0
  IsWell = (outcome ≡ Ok tt) ⊎ (outcome ≡ Err NoMemory)

  abbrev DoesOrEnds : Command → Type 0
  DoesOrEnds command = DoesCommand disk link score command outcome work
      ⊎ EndsIdle (Err NoMemory) outcome (IsIdle work)

  -- a session on input that ends well
  pub session_well : (DoesSession score outcome work.source work.sink → IsWell)
      → DoesOrEnds (Session in_memory) → IsWell
  session_well well = ⊎_elim
      (λ does. ⊎_elim (λ known. well known.1) (λ other. absurd (other.0 refl)) does.0)
      (λ idle. inr idle.is)

  -- a session over the store of a configuration
  pub conf_well : (file : List ℕ) → file ≢ in_memory
      → (DoesSessionConf score disk file outcome work.source work.sink work.files work.parts → IsWell)
      → DoesOrEnds (Session file) → IsWell
  conf_well file other well = ⊎_elim
      (λ does. ⊎_elim (λ memory. absurd (other memory.0)) (λ conf. well conf.1) does.0)
      (λ idle. inr idle.is)
