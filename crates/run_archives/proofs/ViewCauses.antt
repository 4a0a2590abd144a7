-- Why an archive isn't served to its end.
use Rattle.std.proofs.Common.{◌≡◌, ⊎_elim, inr, ℕ, false, List, Option, Some, None, Result, Ok, Err, sym, subst}
use Rattle.std.specs.List.{All}
use Rattle.std.specs.Prelude.{IfOk, IfSome, IsTrue}
use Rattle.vt_base.specs.Faults.{HasRisen}
use Rattle.vt_base.specs.declared.why.Why.{Why}
use Rattle.vt_client.specs.Clients.{ClientState}
use Rattle.vt_client.specs.Stores.{DoesAsClient}
use Rattle.vt_client.specs.declared.error.ClientErr.{ClientErr}
use Rattle.vt_client.specs.declared.error.ClientErr.TheVariants as errs
use Rattle.vt_conf.specs.declared.address.Address.{Address}
use Rattle.vt_conf.specs.declared.conf.Conf.{Conf}
use Rattle.vt_disk.specs.Members.{DiskOf}
use Rattle.vt_model.specs.Causes.{OneRose}
use Rattle.vt_core.specs.Core.{CoreState, each_of, stops_of}
use Rattle.vt_use.specs.Places.{Doing, UsesAt, as_refused, as_server, holds_nothing}
use Rattle.vt_use.specs.declared.used_at.StoreAt.{StoreAt}
use Rattle.vt_use.specs.declared.used_at.StoreAt.TheVariants as place
use Rattle.vt_use.specs.declared.used_at.StoreError.{StoreError}
use Rattle.vt_use.specs.declared.used_at.UsedAt.{UsedAt}
use Rattle.vt_remote.specs.Remote.{IsBack, TalksFor}
use Rattle.vt_tree.specs.Calls.{Call}
use Rattle.vt_tree.specs.Maps.{Maps}
use Rattle.vt_tree.specs.declared.error.BlockErr.TheVariants as blocks
use Rattle.vt_tree.specs.declared.error.TreeErr.TheVariants as trees
use Rattle.vac_read.specs.declared.error.VacBad.{VacBad}
use Rattle.vac_read.specs.declared.error.VacBad.TheVariants as vac
use Rattle.nine_view.specs.declared.serving.Ended.{Ended}
use Rattle.nine_view.specs.declared.serving.Ended.TheVariants as ends
use Rattle.nine_view.specs.declared.serving.Served.{Served}
use Rattle.nine_view.specs.Serving.{ReadCause, WriteCause}
use Rattle.vac_view.specs.Remote.{FailsOver}
use Rattle.vac_view.specs.Stored.{FailsIn, ViewsByJob}
use Rattle.vac_view.specs.Viewing.{Passed, ViewsArchive, ViewsBy, first_bad}
use Rattle.run_base.specs.declared.place.Place.{Place}
use Rattle.run_base.specs.declared.place.Place.TheVariants.{Memory, At}
use Rattle.run_base.specs.Blocks.{SaysNoScore}
use Rattle.run_base.specs.Change.{StreamChange, DialerChange, FilesChange, PartsChange}
use Rattle.run_archives.specs.Vacfs.{DoesVacfs, IsUnmade, TellsView, ViewsPlace}
use Rattle.run_base.specs.Errors.{Causes, HasCauseIn, PartHasFailed, CommandOutcome, no_cause, with_dialer, with_files, with_parts, with_sink, with_source}
use Rattle.run_base.specs.Members.{LinkOf}
use Rattle.run_base.specs.Served.{first_outcome}
use Rattle.run_archives.specs.Viewed.{outcome_of_view, outcome_of_view_end, passed_over, unread_for, unread_in}
use Rattle.run_base.proofs.StoreCauses.{AreCaused, link_cause, place_cause, unused_cause, used_rises, word_cause}
use Rattle.run_base.proofs.Causes.{as_told}

-- ---- how it ended

-- why its ends are told
abbrev pub EndsFor : Passed → Served → Type 0
EndsFor p served = ReadCause served.ended p.read_faults p.read_faults'
    × WriteCause served.ended p.write_faults p.write_faults'

module _ {R K : Type 0} (source : StreamChange R) (sink : StreamChange K) (causes : Causes)
    (reads : HasRisen source.faults source.faults' → causes.source)
    (writes : HasRisen sink.faults sink.faults' → causes.sink) where
  end_cause : (ended : Ended) (taken : ℕ) → ReadCause ended source.faults source.faults'
      → WriteCause ended sink.faults sink.faults'
      → HasCauseIn causes (outcome_of_view_end ended taken)
  end_cause ends.ReadFault taken read write = reads read
  end_cause ends.WriteFault taken read write = writes write
  end_cause ended taken read write = tt

  module _ (refusal : Option StoreError) (Fails : VacBad → Type 0)
      (whys : (bad : VacBad) → Fails bad → HasCauseIn causes (Err (unread_for bad refusal)))
    where
      view_cause : (result : Result Served VacBad) → IfSome (first_bad result) Fails
          → IfOk result (EndsFor (passed_over source sink))
          → HasCauseIn causes (outcome_of_view result refusal)
      view_cause (Ok served) fails ended = of served.failure fails
        where
          of : (failure : Option VacBad) → IfSome failure Fails
              → HasCauseIn causes (first_outcome (unread_in failure refusal)
              (outcome_of_view_end served.ended served.taken))
          of None fails = end_cause served.ended served.taken ended.0 ended.1
          of (Some bad) fails = whys bad fails
      view_cause (Err bad) fails ended = whys bad fails

module _ {R K I P D N L : Type 0} (score_of : List ℕ → List ℕ) (disk : DiskOf D)
    (link : LinkOf L) (laws : AreCaused score_of disk link) (store : List ℕ)
    (outcome : CommandOutcome) (source : StreamChange R) (sink : StreamChange K)
    (files : FilesChange I) (parts : PartsChange P D) (dialer : DialerChange N L) where
  abbrev causes : Causes
  causes = with_source source (with_sink sink (with_files files (with_parts disk parts
      (with_dialer dialer no_cause))))

  abbrev passed : Passed
  passed = passed_over source sink

  -- no call fails where there is no archive
  unmade_cause : (s : List ℕ) → IsUnmade score_of s outcome → HasCauseIn causes outcome
  unmade_cause s why = ⊎_elim
      (λ memory. subst (HasCauseIn causes) (sym memory) tt)
      (λ none. ⊎_elim
      (λ empty. subst (HasCauseIn causes) (sym empty.1) tt)
      (λ absent. subst (HasCauseIn causes) (sym absent.1) tt) none)
      why

  module _ (reads : dialer.read_faults ≡ link.read_faults)
      (writes : dialer.write_faults ≡ link.write_faults)
      (stored_fails : (s : List ℕ) (p : Passed) (result : Result Served VacBad) (said : Option Why)
      (added : ℕ) (closed : Result (Unit {0}) Why) (old new : CoreState D)
      → ViewsByJob score_of disk s p result said added closed old new
      → All (λ stop. stop ≡ None) (stops_of old) → IfSome (first_bad result) (FailsIn disk old new))
      (server_fails : (s : List ℕ) (p : Passed) (result : Result Served VacBad) (calls : List Call)
      (met last : ClientState L) (back : L) → TalksFor link score_of calls met last back
      → ViewsBy (DoesAsClient link score_of) holds_nothing score_of s p result calls met last
      → IfSome (first_bad result) (λ bad. FailsOver link bad last.refused back))
      (s : List ℕ) where
    abbrev Does : Result Served VacBad → Doing
    Does result = λ S act holds calls from to.
        ViewsBy act holds score_of s passed result calls from to

    -- its ends are told as the link counts failed calls
    view_ended : {S : Type 0} (act : S → Call → S → Type 0) (holds : S → Maps → Type 0)
        (result : Result Served VacBad) (old new : S)
        → ViewsArchive act holds score_of s passed result old new → IfOk result (EndsFor passed)
    view_ended act holds (Ok served) old new it = (it.reads, it.writes)
    view_ended act holds (Err bad) old new it = tt

    -- ---- of a store of this process

    stored_bad : (opened left : CoreState D) (said : Option Why)
        → (OneRose (each_of disk.faults opened) (each_of disk.faults left) → PartHasFailed disk parts)
        → (bad : VacBad) → FailsIn disk opened left bad
        → HasCauseIn causes (Err (unread_for bad (as_refused said)))
    stored_bad opened left None rises (vac.Tree (trees.Block blocks.Fault)) it = inr (rises it)
    stored_bad opened left (Some why) rises (vac.Tree (trees.Block blocks.Fault)) it = inr (rises it)
    stored_bad opened left said rises (vac.Tree (trees.Block (blocks.WrongScore want found))) it =
        absurd it
    stored_bad opened left said rises (vac.Tree (trees.Block (blocks.Damaged want found))) it = it
    stored_bad opened left said rises bad it = tt

    conf_cause : (conf : Conf) (u : UsedAt (Result Served VacBad))
        → UsesAt score_of disk link (place.Conf conf) 0 false Does (Ok u) parts dialer
        → HasCauseIn causes (outcome_of_view u.output u.refusal)
    conf_cause conf u x =
        let y = x.0.uses in
        subst (λ (o : Option StoreError). HasCauseIn causes (outcome_of_view u.output o))
        (sym x.0.refusal_is)
        (view_cause source sink causes (λ rose. rose) (λ rose. rose) (as_refused x.0.said)
        (FailsIn disk y.opened y.left)
        (stored_bad y.opened y.left x.0.said (used_rises score_of disk conf parts _ y)) u.output
        (stored_fails s passed u.output x.0.said u.blocks x.0.ended y.opened y.left y.does
        y.opens.mounts.fresh.stops)
        (view_ended _ _ u.output _ _ y.does.does.does.views))

    -- ---- of a server

    remote_bad : (address : Address) (bad : VacBad) (refused : Option ClientErr) (back : L)
        → FailsOver link bad refused back
        → IsBack (IsTrue dialer.tells) address back dialer.old dialer.new
        → HasCauseIn causes (Err (unread_for bad (as_server refused)))
    remote_bad address (vac.Tree (trees.Block blocks.Fault)) (Some errs.ReadFault) back it is =
        link_cause link address dialer reads writes errs.ReadFault back it is
    remote_bad address (vac.Tree (trees.Block blocks.Fault)) (Some errs.WriteFault) back it is =
        link_cause link address dialer reads writes errs.WriteFault back it is
    remote_bad address (vac.Tree (trees.Block blocks.Fault)) refused back it is = absurd it
    remote_bad address (vac.Tree (trees.Block (blocks.WrongScore want found))) refused back it is =
        record { form = tt; values = λ same. it (cc) }
    remote_bad address (vac.Tree (trees.Block (blocks.Damaged want found))) refused back it is =
        absurd it
    remote_bad address bad refused back it is = tt

    server_cause : (address : Address) (u : UsedAt (Result Served VacBad))
        → UsesAt score_of disk link (place.Server address) 0 false Does (Ok u) parts dialer
        → HasCauseIn causes (outcome_of_view u.output u.refusal)
    server_cause address u x =
        let y = x.0 in
        subst (λ (o : Option StoreError). HasCauseIn causes (outcome_of_view u.output o))
        (sym y.refusal_is)
        (view_cause source sink causes (λ rose. rose) (λ rose. rose) (as_server y.last.refused)
        (λ bad. FailsOver link bad y.last.refused y.back)
        (λ bad it. remote_bad address bad y.last.refused y.back it y.is_back) u.output
        (server_fails s passed u.output y.calls y.met y.last y.back y.talks y.does)
        (view_ended _ _ u.output _ _ y.does.views))

    -- ---- the command

    used_cause : (at : StoreAt) (u : UsedAt (Result Served VacBad))
        → UsesAt score_of disk link at 0 false Does (Ok u) parts dialer
        → HasCauseIn causes (outcome_of_view u.output u.refusal)
    used_cause (place.Conf conf) u x = conf_cause conf u x
    used_cause (place.Server address) u x = server_cause address u x

    told_cause : (at : StoreAt) (used : Result (UsedAt (Result Served VacBad)) StoreError)
        → UsesAt score_of disk link at 0 false Does used parts dialer
        → TellsView store at used outcome source sink → HasCauseIn causes outcome
    told_cause at (Ok u) x told = subst (HasCauseIn causes) (sym told.0) (used_cause at u x)
    told_cause at (Err bad) x told = subst (HasCauseIn causes) (sym told.0.1)
        (unused_cause score_of disk link laws store 0 false parts dialer reads writes causes
        (λ why. why) (λ bad why. why) Does at bad told.0.0 x told.0.2)

    placed_cause : (place : Place)
        → ViewsPlace score_of disk link store s outcome source sink parts dialer place
        → HasCauseIn causes outcome
    placed_cause Memory it = unmade_cause s it.why
    placed_cause (At at) it = told_cause at it.used it.uses it.told

  pub view_caused : (reads : dialer.read_faults ≡ link.read_faults)
      (writes : dialer.write_faults ≡ link.write_faults)
      (stored_fails : (s : List ℕ) (p : Passed) (result : Result Served VacBad) (said : Option Why)
      (added : ℕ) (closed : Result (Unit {0}) Why) (old new : CoreState D)
      → ViewsByJob score_of disk s p result said added closed old new
      → All (λ stop. stop ≡ None) (stops_of old) → IfSome (first_bad result) (FailsIn disk old new))
      (server_fails : (s : List ℕ) (p : Passed) (result : Result Served VacBad) (calls : List Call)
      (met last : ClientState L) (back : L) → TalksFor link score_of calls met last back
      → ViewsBy (DoesAsClient link score_of) holds_nothing score_of s p result calls met last
      → IfSome (first_bad result) (λ bad. FailsOver link bad last.refused back))
      (score_word : List ℕ)
      → DoesVacfs score_of disk link store score_word outcome source sink files parts dialer
      → HasCauseIn causes outcome
  view_caused reads writes stored_fails server_fails score_word does = ⊎_elim
      (word_cause causes (SaysNoScore score_word) outcome
      (λ failure why. as_told causes failure _ why.1 tt))
      (λ it. place_cause causes store files
      (ViewsPlace score_of disk link store it.0 outcome source sink parts dialer) outcome
      (λ rose. rose) (placed_cause reads writes stored_fails server_fails it.0) it.2)
      does
