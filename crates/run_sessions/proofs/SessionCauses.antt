-- Why a session ends with a status other than 0.
use Rattle.std.proofs.Common.{◌≡◌, ⊎_elim, inr, ℕ, ◌<◌, ◌^◌, List, Option, None, Some, Result, Ok, Err, sym, subst}
use Rattle.std.specs.Prelude.{◌&&◌, IfErr, IfSome, slice_index}
use Rattle.vt_base.specs.Faults.{HasRisen}
use Rattle.vt_base.specs.declared.why.Why.{Why}
use Rattle.vt_base.specs.declared.why.Why.TheVariants as whys
use Rattle.vt_conf.specs.declared.conf.Conf.{Conf}
use Rattle.vt_disk.specs.Members.{DiskOf}
use Rattle.vt_model.specs.Causes.{OneRose}
use Rattle.vt_session.specs.declared.Ended.{Ended}
use Rattle.vt_session.specs.declared.Ended.TheVariants as ends
use Rattle.vt_handler.specs.Links.{ReadCause}
use Rattle.vt_handler.specs.Sessions.{SinkCause}
use Rattle.vt_core.specs.Core.{CoreState, devices_of, each_of}
use Rattle.vt_core.specs.Files.{all_of}
use Rattle.vt_open.specs.Names.{files_of}
use Rattle.vt_use.specs.declared.session.StoreServed.{StoreServed}
use Rattle.vt_use.specs.Sessions.{FailsFor}
use Rattle.vt_use.proofs.SessionLeaves.{tells_causes}
use Rattle.run_base.specs.Change.{StreamChange, FilesChange, PartsChange}
use Rattle.run_sessions.specs.Session.{DoesSession}
use Rattle.run_sessions.specs.SessionAt.{DoesSessionAt}
use Rattle.run_sessions.specs.SessionConf.{DoesSessionConf, ServesConf}
use Rattle.run_base.specs.Errors.{Causes, HasCauseIn, PartHasFailed, HaveFailed, CommandOutcome, no_cause, with_files, with_parts, with_sink, with_source}
use Rattle.run_base.specs.Served.{closed_with, failed_in, failure_for, first_outcome, outcome_of, outcome_of_end}
use Rattle.run_base.proofs.OpenCauses.{has_failed, same_len, none_opened}
use Rattle.run_base.proofs.StoreCauses.{no_conf_cause}

-- ---- how a session ends

module _ {R K : Type 0} (source : StreamChange R) (sink : StreamChange K) (causes : Causes)
    (reads : HasRisen source.faults source.faults' → causes.source)
    (writes : HasRisen sink.faults sink.faults' → causes.sink) where
  ended_cause : (ended : Ended) (taken : ℕ) → ReadCause ended source.faults source.faults'
      → SinkCause ended sink.faults sink.faults' → HasCauseIn causes (outcome_of_end ended taken)
  ended_cause ends.ReadFault taken read write = reads read
  ended_cause ends.WriteFault taken read write = writes write
  ended_cause ended taken read write = tt

  -- where what the store fails for has its cause
  module _ (Fails : Why → Type 0)
      (whys : (why : Why) → Fails why → HasCauseIn causes (Err (failure_for why))) where
    failed_cause : (failure : Option Why) → IfSome failure Fails
        → HasCauseIn causes (failed_in failure)
    failed_cause None it = tt
    failed_cause (Some why) it = whys why it

    closed_cause : (closed : Result (Unit {0}) Why) → IfErr closed Fails
        → HasCauseIn causes (closed_with closed)
    closed_cause (Ok done) it = tt
    closed_cause (Err why) it = whys why it

    first_cause : (first second : CommandOutcome) → HasCauseIn causes first
        → HasCauseIn causes second → HasCauseIn causes (first_outcome first second)
    first_cause (Ok done) second x y = y
    first_cause (Err failure) second x y = x

    outcome_cause : (end : StoreServed) → IfSome end.failure Fails → IfErr end.closed Fails
        → ReadCause end.ended source.faults source.faults'
        → SinkCause end.ended sink.faults sink.faults' → HasCauseIn causes (outcome_of end)
    outcome_cause end failed closed read write = first_cause (failed_in end.failure) _
        (failed_cause end.failure failed)
        (first_cause (outcome_of_end end.ended end.taken) (closed_with end.closed)
        (ended_cause end.ended end.taken read write) (closed_cause end.closed closed))

  -- over a store in memory nothing but memory is wanting
  memory_cause : (why : Why) → why ≡ whys.NoMemory → HasCauseIn causes (Err (failure_for why))
  memory_cause why is = subst (λ (w : Why). HasCauseIn causes (Err (failure_for w))) (sym is) tt

  pub in_memory_cause : (score : List ℕ → List ℕ) (outcome : CommandOutcome)
      → DoesSession score outcome source sink → HasCauseIn causes outcome
  in_memory_cause score outcome it =
      let x = it.serves in
      subst (HasCauseIn causes) (sym it.outcome_is)
      (outcome_cause (λ why. why ≡ whys.NoMemory) memory_cause it.end x.needs.failure
      (subst (λ (closed : Result (Unit {0}) Why). IfErr closed (λ why. why ≡ whys.NoMemory))
      (sym x.needs.closed) tt)
      x.read x.write)

pub session_cause : {R K : Type 0} (score : List ℕ → List ℕ) (outcome : CommandOutcome)
    (source : StreamChange R) (sink : StreamChange K) → DoesSession score outcome source sink
    → HasCauseIn (with_source source (with_sink sink no_cause)) outcome
session_cause score outcome source sink = in_memory_cause source sink
    (with_source source (with_sink sink no_cause)) (λ rose. rose) (λ rose. rose) score outcome

-- ---- a session over the store of a configuration

pub served_rises : {R K P D : Type 0} (score : List ℕ → List ℕ) (disk : DiskOf D) (conf : Conf)
    (outcome : CommandOutcome) (source : StreamChange R) (sink : StreamChange K) (parts : PartsChange P D)
    (x : ServesConf score disk conf outcome source sink parts)
    → OneRose (each_of disk.faults x.opened) (each_of disk.faults x.serves.ended)
    → PartHasFailed disk parts
served_rises score disk conf outcome source sink parts x rose =
    let s = x.serves in
    has_failed disk parts (all_of (files_of conf)) (all_of x.opens.handed)
    (all_of (devices_of s.ended)) rose.0 (same_len x.opens.handed (files_of conf) x.opens.shape)
    (same_len (devices_of s.ended) (files_of conf) s.shape) x.opens.taken.stood
    (λ t. s.given.stand t (x.opens.taken.out t) (x.opens.taken.apart t))
    (subst (λ (counts : List ℕ). HaveFailed (slice_index counts rose.0)
    (slice_index (each_of disk.faults s.ended) rose.0)) x.opens.faults_are rose.1)

module _ {R K I P D : Type 0} (score : List ℕ → List ℕ) (disk : DiskOf D)
    (fits : (device : D) → disk.faults device < 2 ^ 64) (file : List ℕ) (outcome : CommandOutcome)
    (source : StreamChange R) (sink : StreamChange K) (files : FilesChange I) (parts : PartsChange P D) where
  abbrev causes : Causes
  causes = with_source source (with_sink sink (with_files files (with_parts disk parts no_cause)))

  why_cause : (opened ended : CoreState D)
      → (OneRose (each_of disk.faults opened) (each_of disk.faults ended) → PartHasFailed disk parts)
      → (why : Why) → FailsFor disk why opened ended → HasCauseIn causes (Err (failure_for why))
  why_cause opened ended rises whys.DiskFault it = inr (rises it)
  why_cause opened ended rises (whys.Stopped call) it = inr (rises it)
  why_cause opened ended rises (whys.Damaged site want found) it = it
  why_cause opened ended rises whys.NoMemory it = tt
  why_cause opened ended rises why it = absurd it

  served_cause : (conf : Conf) → ServesConf score disk conf outcome source sink parts
      → HasCauseIn causes outcome
  served_cause conf x =
      let s = x.serves in
      let tells = tells_causes score disk s.end s.now x.opened s.ended
      (source.tells && sink.tells) s.input s.output s.serves fits x.opens.mounts.fresh.stops in
      subst (HasCauseIn causes) (sym s.outcome_is)
      (outcome_cause source sink causes (λ rose. rose) (λ rose. rose)
      (λ why. FailsFor disk why x.opened s.ended)
      (why_cause x.opened s.ended (served_rises score disk conf outcome source sink parts x)) s.end
      tells.failure tells.closed s.read s.write)

  pub session_conf_cause : DoesSessionConf score disk file outcome source sink files parts
      → HasCauseIn causes outcome
  session_conf_cause does = ⊎_elim
      (no_conf_cause causes file outcome files (λ rose. rose))
      (λ it. ⊎_elim
      (none_opened score disk file it.0 parts causes (λ why. why) outcome source sink)
      (served_cause it.0)
      it.2)
      does

  pub session_at_cause : DoesSessionAt score disk file outcome source sink files parts
      → HasCauseIn causes outcome
  session_at_cause does = ⊎_elim
      (λ memory. in_memory_cause source sink causes (λ rose. rose) (λ rose. rose) score outcome
      memory.1)
      (λ conf. session_conf_cause conf.1)
      does
