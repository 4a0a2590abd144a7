-- Why a store at a place isn't used, says no, or fails.
use Rattle.std.proofs.Common.{◌≡◌, ⊎_elim, inr, ℕ, ◌<◌, Bool, List, Option, Some, None, Result, Ok, Err, refl, sym, ◌∙◌, subst}
use Rattle.std.specs.List.{All}
use Rattle.std.specs.Prelude.{IfErr, IfSome, IsTrue, slice_index}
use Rattle.vt_base.specs.Faults.{HasRisen}
use Rattle.vt_base.specs.declared.why.Why.{Why}
use Rattle.vt_base.specs.declared.why.Why.TheVariants as whys
use Rattle.vt_client.specs.declared.error.ClientErr.{ClientErr}
use Rattle.vt_client.specs.declared.error.ClientErr.TheVariants as errs
use Rattle.vt_client.specs.Clients.{ClientState}
use Rattle.vt_conf.specs.declared.address.Address.{Address}
use Rattle.vt_conf.specs.declared.conf.Conf.{Conf}
use Rattle.vt_disk.specs.Members.{DiskOf}
use Rattle.vt_model.specs.Causes.{OneRose}
use Rattle.vt_handler.specs.Serving.{tells_failure}
use Rattle.vt_core.specs.Core.{CoreState, devices_of, each_of, stops_of}
use Rattle.vt_core.specs.Files.{all_of}
use Rattle.vt_open.specs.Names.{files_of}
use Rattle.vt_use.specs.PlaceAnswers.{answer_at, answer_in}
use Rattle.vt_use.specs.PlaceCalls.{CallsStore}
use Rattle.vt_use.specs.Places.{Doing, UsesAt, as_ended, as_refused, as_server}
use Rattle.vt_use.specs.declared.used_at.StoreAt.{StoreAt}
use Rattle.vt_use.specs.declared.used_at.StoreAt.TheVariants as place
use Rattle.vt_use.specs.declared.used_at.StoreError.{StoreError}
use Rattle.vt_use.specs.declared.used_at.StoreError.TheVariants as stores
use Rattle.vt_use.specs.declared.used_at.UsedAt.{UsedAt}
use Rattle.vt_use.proofs.Refusals.{calls_store}
use Rattle.vt_remote.specs.declared.talk.RemoteError.{RemoteError}
use Rattle.vt_remote.specs.declared.talk.RemoteError.TheVariants as remote
use Rattle.vt_remote.specs.Refused.{HasCauseOver, IsFirstRefusal}
use Rattle.vt_remote.specs.Remote.{IsBack, MeetsInVain, MeetsNoServer, TalksFor}
use Rattle.vt_tree.specs.declared.error.BlockErr.{BlockErr}
use Rattle.vt_tree.specs.Calls.{Call}
use Rattle.vt_use.specs.Causes.{FailsFor}
use Rattle.vt_use.specs.Uses.{Uses}
use Rattle.run_base.specs.declared.error.CommandError.{CommandError}
use Rattle.run_base.specs.declared.place.Place.{Place}
use Rattle.run_base.specs.Blocks.{FindsNoConf, IsStoreRefusal, TellsBlock, TellsRefusal, refusal_for}
use Rattle.run_base.specs.Change.{StreamChange, DialerChange, FilesChange, PartsChange}
use Rattle.run_base.specs.Errors.{Causes, HasCauseIn, HasDiskCause, PartHasFailed, HasServerCause, HaveFailed, CommandOutcome}
use Rattle.run_base.specs.Formatting.{RefusesWord}
use Rattle.run_base.specs.Members.{LinkOf}
use Rattle.run_base.specs.Places.{AtPlace, FindsNoneAt, FindsNoPlace}
use Rattle.run_base.proofs.Causes.{as_told, none_has_cause, printed_has_cause}
use Rattle.run_base.proofs.OpenCauses.{has_failed, open_told, same_len}

-- ---- of a configuration's store

-- a call of a partition failed while its store was in use
pub used_rises : {P D : Type 0} (score : List ℕ → List ℕ) (disk : DiskOf D) (conf : Conf)
    (parts : PartsChange P D) (Does : (opened left : CoreState D) → Type 0)
    (x : Uses score disk (IsTrue parts.tells) conf Does parts.old parts.new)
    → OneRose (each_of disk.faults x.opened) (each_of disk.faults x.left) → PartHasFailed disk parts
used_rises score disk conf parts Does x rose = has_failed disk parts (all_of (files_of conf))
    (all_of x.opens.handed) (all_of (devices_of x.left)) rose.0
    (same_len x.opens.handed (files_of conf) x.opens.shape)
    (same_len (devices_of x.left) (files_of conf) x.shape) x.opens.taken.stood
    (λ t. x.given.stand t (x.opens.taken.out t) (x.opens.taken.apart t))
    (subst (λ (counts : List ℕ). HaveFailed (slice_index counts rose.0)
    (slice_index (each_of disk.faults x.left) rose.0)) x.opens.faults_are rose.1)

-- a failure of the store comes of a partition, of two values, or of want of memory
pub why_told : {P D : Type 0} (disk : DiskOf D) (parts : PartsChange P D) (causes : Causes)
    (tells : HasDiskCause disk parts → causes.disks) (opened left : CoreState D)
    (rises : OneRose (each_of disk.faults opened) (each_of disk.faults left)
    → PartHasFailed disk parts) (why : Why)
    → (tells_failure why ≡ Bool.true → FailsFor disk why opened left)
    → HasCauseIn causes (Err (refusal_for why))
why_told disk parts causes tells opened left rises whys.DiskFault it = tells (inr (rises (it refl)))
why_told disk parts causes tells opened left rises (whys.Stopped call) it =
    tells (inr (rises (it refl)))
why_told disk parts causes tells opened left rises (whys.Damaged site want found) it = it refl
why_told disk parts causes tells opened left rises why it = tt

-- ---- of a server

-- why a server didn't answer, as the run tells it
pub link_cause : {N L : Type 0} (link : LinkOf L) (address : Address) (dialer : DialerChange N L)
    (reads : dialer.read_faults ≡ link.read_faults) (writes : dialer.write_faults ≡ link.write_faults)
    (why : ClientErr) (back : L) → HasCauseOver link why back
    → IsBack (IsTrue dialer.tells) address back dialer.old dialer.new
    → HasServerCause dialer (remote.Refused why)
link_cause {N} {L} link address dialer reads writes errs.ReadFault back cause is = record {
  link = back;
  failed = subst (λ (count : L → ℕ). 0 < count back) (sym reads) cause;
  address = address;
  taken_back = is;
}
link_cause {N} {L} link address dialer reads writes errs.WriteFault back cause is = record {
  link = back;
  failed = subst (λ (count : L → ℕ). 0 < count back) (sym writes) cause;
  address = address;
  taken_back = is;
}
link_cause link address dialer reads writes (errs.WrongScore want found) back cause is = cause
link_cause link address dialer reads writes why back cause is = tt

-- ---- of either

-- the laws on what a store says no to
pub record AreCaused {D L : Type 0} (score : List ℕ → List ℕ) (disk : DiskOf D) (link : LinkOf L)
    : Type 0 where
  pub said : (now : ℕ) (writes : Bool) (calls : List Call) (said : Option Why)
      (closed : Result (Unit {0}) Why) (old new : CoreState D)
      → CallsStore score disk now writes calls said closed old new
      → All (λ stop. stop ≡ None) (stops_of old)
      → IfSome said (λ why. tells_failure why ≡ Bool.true → FailsFor disk why old new)
  pub closed : (now : ℕ) (writes : Bool) (calls : List Call) (said : Option Why)
      (closed : Result (Unit {0}) Why) (old new : CoreState D)
      → CallsStore score disk now writes calls said closed old new
      → All (λ stop. stop ≡ None) (stops_of old) → IfErr closed (λ why. FailsFor disk why old new)
  pub met : (why : ClientErr) (back : L) → MeetsInVain link score why back
      → HasCauseOver link why back
  pub first : (calls : List Call) (met last : ClientState L) (back : L)
      → TalksFor link score calls met last back → IsFirstRefusal link last.refused calls back

module _ {P D N L : Type 0} (score : List ℕ → List ℕ) (disk : DiskOf D) (link : LinkOf L)
    (laws : AreCaused score disk link) (file : List ℕ) (now : ℕ) (writes : Bool)
    (parts : PartsChange P D) (dialer : DialerChange N L)
    (read_counts : dialer.read_faults ≡ link.read_faults)
    (write_counts : dialer.write_faults ≡ link.write_faults) (causes : Causes)
    (tells : HasDiskCause disk parts → causes.disks)
    (serves : (bad : RemoteError) → HasServerCause dialer bad → causes.server bad) where
  -- a server that isn't met
  unmet_cause : (address : Address) (bad : RemoteError)
      → MeetsNoServer link score (IsTrue dialer.tells) address dialer.old dialer.new dialer.faults
      dialer.faults' bad → HasServerCause dialer bad
  unmet_cause address remote.Undialled none = none.1
  unmet_cause address (remote.Refused why) none =
      link_cause link address dialer read_counts write_counts why none.0
      (laws.met why none.0 none.1) none.2

  module _ {O : Type 0} (Does : O → Doing) where
    abbrev Uses_ : StoreAt → Result (UsedAt O) StoreError → Type 0
    Uses_ at used = UsesAt score disk link at now writes Does used parts dialer

    -- it wasn't used
    pub unused_cause : (at : StoreAt) (bad : StoreError) (failure : CommandError)
        → Uses_ at (Err bad) → IsStoreRefusal file bad at failure → HasCauseIn causes (Err failure)
    unused_cause (place.Conf conf) (stores.Unopened bad) failure none told =
        open_told score disk file conf parts causes tells bad failure none.0.0 none.0.1 told
    unused_cause (place.Conf conf) (stores.Refused why) failure none told = absurd none.0
    unused_cause (place.Conf conf) (stores.Server bad) failure none told = absurd none.0
    unused_cause (place.Server address) (stores.Unopened bad) failure none told = absurd none.0
    unused_cause (place.Server address) (stores.Refused why) failure none told = absurd none.0
    unused_cause (place.Server address) (stores.Server bad) failure none told =
        subst (λ (f : CommandError). HasCauseIn causes (Err f)) (sym told)
        (serves bad (unmet_cause address bad none.0))

    -- of a configuration's store that was used
    said_cause : (conf : Conf) (u : UsedAt O) (x : Uses_ (place.Conf conf) (Ok u)) (bad : StoreError)
        (failure : CommandError) (said : Option Why) → x.0.said ≡ said
        → Some bad ≡ as_refused said → IsStoreRefusal file bad (place.Conf conf) failure
        → HasCauseIn causes (Err failure)
    said_cause conf u x bad failure None is refusal told = let never : ⊥ = cc in absurd never
    said_cause conf u x bad failure (Some why) is refusal told =
        let same : bad ≡ stores.Refused why = cc in
        let one = subst (λ (b : StoreError). IsStoreRefusal file b (place.Conf conf) failure) same
        told in
        let y = x.0.uses in
        as_told causes failure (refusal_for why) one
        (why_told disk parts causes tells y.opened y.left
        (used_rises score disk conf parts _ y) why
        (subst (λ (o : Option Why). IfSome o (λ w. tells_failure w ≡ Bool.true
        → FailsFor disk w y.opened y.left)) is
        (laws.said now writes y.does.does.calls x.0.said x.0.ended y.opened y.left
        (calls_store score disk now writes _ x.0.said u.blocks x.0.ended y.opened y.left y.does)
        y.opens.mounts.fresh.stops)))

    ended_cause : (conf : Conf) (u : UsedAt O) (x : Uses_ (place.Conf conf) (Ok u)) (bad : StoreError)
        (failure : CommandError) (ended : Result (Unit {0}) Why) → x.0.ended ≡ ended
        → Err bad ≡ as_ended ended → IsStoreRefusal file bad (place.Conf conf) failure
        → HasCauseIn causes (Err failure)
    ended_cause conf u x bad failure (Ok done) is refusal told = let never : ⊥ = cc in absurd never
    ended_cause conf u x bad failure (Err why) is refusal told =
        let same : bad ≡ stores.Refused why = cc in
        let one = subst (λ (b : StoreError). IsStoreRefusal file b (place.Conf conf) failure) same
        told in
        let y = x.0.uses in
        as_told causes failure (refusal_for why) one
        (why_told disk parts causes tells y.opened y.left
        (used_rises score disk conf parts _ y) why
        (λ fails. subst (λ (r : Result (Unit {0}) Why). IfErr r (λ w.
        FailsFor disk w y.opened y.left)) is
        (laws.closed now writes y.does.does.calls x.0.said x.0.ended y.opened y.left
        (calls_store score disk now writes _ x.0.said u.blocks x.0.ended y.opened y.left y.does)
        y.opens.mounts.fresh.stops)))

    -- of a server that was met
    first_cause : (address : Address) (u : UsedAt O) (x : Uses_ (place.Server address) (Ok u))
        (bad : StoreError) (failure : CommandError) (refused : Option ClientErr)
        → x.0.last.refused ≡ refused → Some bad ≡ as_server refused
        → IsStoreRefusal file bad (place.Server address) failure → HasCauseIn causes (Err failure)
    first_cause address u x bad failure None is refusal told = let never : ⊥ = cc in absurd never
    first_cause address u x bad failure (Some why) is refusal told =
        let same : bad ≡ stores.Server (remote.Refused why) = cc in
        let one = subst (λ (b : StoreError). IsStoreRefusal file b (place.Server address) failure) same
        told in
        let first = subst (λ (o : Option ClientErr). IsFirstRefusal link o x.0.calls x.0.back) is
        (laws.first x.0.calls x.0.met x.0.last x.0.back x.0.talks) in
        subst (λ (f : CommandError). HasCauseIn causes (Err f)) (sym one)
        (serves (remote.Refused why) (link_cause link address dialer read_counts write_counts why
        x.0.back first.1 x.0.is_back))

    -- what it said no to
    pub refusal_cause : (at : StoreAt) (u : UsedAt O) (bad : StoreError) (failure : CommandError)
        → Uses_ at (Ok u) → u.refusal ≡ Some bad → IsStoreRefusal file bad at failure
        → HasCauseIn causes (Err failure)
    refusal_cause (place.Conf conf) u bad failure x is told =
        said_cause conf u x bad failure x.0.said refl (sym is ∙ x.0.refusal_is) told
    refusal_cause (place.Server address) u bad failure x is told =
        first_cause address u x bad failure x.0.last.refused refl (sym is ∙ x.0.refusal_is) told

    -- the end of its use
    pub closed_cause : (at : StoreAt) (u : UsedAt O) (bad : StoreError) (failure : CommandError)
        → Uses_ at (Ok u) → u.closed ≡ Err bad → IsStoreRefusal file bad at failure
        → HasCauseIn causes (Err failure)
    closed_cause (place.Conf conf) u bad failure x is told =
        ended_cause conf u x bad failure x.0.ended refl (sym is ∙ x.0.closed_is) told
    closed_cause (place.Server address) u bad failure x is told =
        let never : Err bad ≡ Ok tt = sym is ∙ x.0.closed_is in absurd (cc)

  -- ---- one block

  module _ {T K : Type 0} (Does : Result T BlockErr → Doing) (at : StoreAt) (text : T → List ℕ)
      (outcome : CommandOutcome) (sink : StreamChange K)
      (rises : HasRisen sink.faults sink.faults' → causes.sink) where
    told_cause : (bad : StoreError) → TellsRefusal file at bad outcome
        → ((failure : CommandError) → IsStoreRefusal file bad at failure
        → HasCauseIn causes (Err failure)) → HasCauseIn causes outcome
    told_cause bad told cause = subst (HasCauseIn causes) (sym told.1) (cause told.0 told.2)

    pub block_cause : (used : Result (UsedAt (Result T BlockErr)) StoreError) → Uses_ Does at used
        → TellsBlock file at text (answer_at used) outcome sink → HasCauseIn causes outcome
    block_cause (Err bad) x told = told_cause bad told.0 (λ failure. unused_cause Does at bad failure x)
    block_cause (Ok u) x told = of u.output u.refusal u.closed refl refl told
      where
        of : (output : Result T BlockErr) (refusal : Option StoreError)
            (closed : Result (Unit {0}) StoreError) → u.refusal ≡ refusal → u.closed ≡ closed
            → TellsBlock file at text (answer_in output refusal closed) outcome sink
            → HasCauseIn causes outcome
        of (Ok value) refusal (Ok done) said ended told =
            printed_has_cause causes (text value) outcome sink rises told
        of (Ok value) refusal (Err bad) said ended told = told_cause bad told.0
            (λ failure is. closed_cause Does at u bad failure x ended is)
        of (Err err) (Some bad) closed said ended told = told_cause bad told.0
            (λ failure is. refusal_cause Does at u bad failure x said is)
        of (Err err) None closed said ended told = told_cause (stores.Refused whys.NoMemory) told.0
            (λ failure is. as_told causes failure (refusal_for whys.NoMemory) is tt)

-- ---- words and places

pub no_conf_cause : {I Idle : Type 0} (causes : Causes) (file : List ℕ) (outcome : CommandOutcome)
    (files : FilesChange I) → (HasRisen files.faults files.faults' → causes.files)
    → FindsNoConf file outcome files Idle → HasCauseIn causes outcome
no_conf_cause causes file outcome files rises it = subst (HasCauseIn causes) (sym it.outcome_is)
    (none_has_cause causes file files it.failure rises it.none)

-- where a word was refused
pub word_cause : {Idle : Type 0} (causes : Causes) (IsWhy : CommandError → Type 0) (outcome : CommandOutcome)
    → ((failure : CommandError) → IsWhy failure → HasCauseIn causes (Err failure))
    → RefusesWord IsWhy outcome Idle → HasCauseIn causes outcome
word_cause causes IsWhy outcome whys it =
    subst (HasCauseIn causes) (sym it.outcome_is) (whys it.failure it.why)

-- where no store was found
pub unfound_cause : {I : Type 0} (causes : Causes) (store : List ℕ) (files : FilesChange I)
    (failure : CommandError) → (HasRisen files.faults files.faults' → causes.files)
    → FindsNoneAt store files failure → HasCauseIn causes (Err failure)
unfound_cause causes store files failure rises none = ⊎_elim
    (λ unread. none_has_cause causes store files failure rises unread.1)
    (λ memory. as_told causes failure _ memory.0 tt) none

pub place_cause : {I Idle : Type 0} (causes : Causes) (store : List ℕ) (files : FilesChange I)
    (Does : Place → Type 0) (outcome : CommandOutcome)
    → (HasRisen files.faults files.faults' → causes.files)
    → ((place : Place) → Does place → HasCauseIn causes outcome)
    → AtPlace store files Does outcome Idle → HasCauseIn causes outcome
place_cause causes store files Does outcome rises whys it = ⊎_elim
    (λ none. word_cause causes (FindsNoPlace store files) outcome
    (λ failure why. unfound_cause causes store files failure rises why.1) none)
    (λ at. whys at.0 at.2) it
