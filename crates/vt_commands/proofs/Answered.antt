-- One block of a configuration's store, where no call fails: the model's answer, or want of memory.
use Rattle.std.proofs.Common.{◌≡◌, ⊎_elim, inl, inr, ℕ, ◌<◌, ◌++◌, Bool, List, length, Option, Some, None, Result, Ok, Err, refl, sym, ◌∙◌, ap, subst, arith, length-append}
use Rattle.std.specs.Prelude.{◌&&◌, IfErr, IfSome, IsTrue, nat_lt}
use Rattle.std.proofs.lemmas.Bool.{lt-ltb}
use Rattle.vt_base.specs.Kind.{is_kind}
use Rattle.vt_base.specs.Protocol.{Operation, RMessage, r_refused, write}
use Rattle.vt_base.specs.declared.TheConstants.{MAX_BLOCK}
use Rattle.vt_base.specs.declared.why.Why.{Why}
use Rattle.vt_base.specs.declared.why.Why.TheVariants as whys
use Rattle.vt_conf.specs.declared.conf.Conf.{Conf as Configuration}
use Rattle.vt_disk.specs.Members.{DiskOf}
use Rattle.vt_model.specs.Answer.{answer}
use Rattle.vt_model.specs.Causes.{OneRose}
use Rattle.vt_model.specs.History.{History}
use Rattle.vt_model.specs.Places.{Setup}
use Rattle.vt_handler.specs.Serving.{answered, tells_failure}
use Rattle.vt_core.specs.Causes.{IsUndamagedWhy}
use Rattle.vt_core.specs.Core.{CoreState, each_of}
use Rattle.vt_open.specs.declared.error.OpenError.{OpenError}
use Rattle.vt_open.specs.Opening.{IsFaultOrMemory, RefusesStore}
use Rattle.vt_tree.specs.declared.error.BlockErr.{BlockErr}
use Rattle.vt_use.specs.Answers.{IsAnswer}
use Rattle.vt_use.specs.Causes.{FailsFor}
use Rattle.vt_use.specs.OneBlock.{own_answer}
use Rattle.vt_use.specs.Blocks.{closed_behind}
use Rattle.vt_use.specs.PlaceAnswers.{answer_at}
use Rattle.vt_use.specs.Members.{LinkOf}
use Rattle.vt_use.specs.Places.{Doing, UsesAt}
use Rattle.vt_use.specs.declared.used_at.StoreAt.TheVariants as at
use Rattle.vt_use.specs.declared.used_at.StoreError.{StoreError}
use Rattle.vt_use.specs.declared.used_at.UsedAt.{UsedAt}
use Rattle.run_base.specs.declared.error.CommandError.{CommandError}
use Rattle.run_base.specs.declared.error.CommandError.TheVariants.{NoMemory, ReadFault, Refused as RefusedBy, WriteFault}
use Rattle.run_base.specs.declared.place.Place.{Place}
use Rattle.run_base.specs.declared.place.Place.TheVariants.{Memory, At}
use Rattle.vt_commands.specs.Answers.{TellsReply, TellsReplyOrMemory}
use Rattle.run_base.specs.Blocks.{TellsBlock, refusal_for}
use Rattle.run_base.specs.Change.{FilesChange}
use Rattle.run_base.specs.Configurations.{ReadsConf}
use Rattle.run_sessions.specs.Write.{TakesNoBlock, TakesNone}
use Rattle.run_base.specs.Errors.{HasCauseIn, CommandOutcome}
use Rattle.run_base.specs.Formatting.{Prints}
use Rattle.run_base.specs.Places.{FindsPlace, NamesFile}
use Rattle.run_base.proofs.StoreCauses.{used_rises}
use Rattle.vt_commands.specs.HandedIn.{NoneFails}
use Rattle.vt_commands.specs.Work.{Work, causes_of}
use Rattle.vt_commands.proofs.CompleteConf.{none_opened_well}
use Rattle.vt_commands.proofs.Stored.{UsedFor, answer_is, as_at, where_used}

-- ---- why it failed

-- the answer failed for what was said first, or at the end
pub causes_so : {D T : Type 0} (disk : DiskOf D) (opened left : CoreState D)
    (output : Result T BlockErr) (said : Option Why) (ended : Result (Unit {0}) Why)
    → IfSome said (λ why. tells_failure why ≡ Bool.true → FailsFor disk why opened left)
    → IfErr ended (λ why. FailsFor disk why opened left)
    → IfErr (closed_behind (own_answer output said) ended)
    (λ why. tells_failure why ≡ Bool.true → FailsFor disk why opened left)
causes_so disk opened left (Ok value) said (Ok done) first end = tt
causes_so disk opened left (Ok value) said (Err why) first end = λ failed. end
causes_so disk opened left (Err err) (Some why) ended first end = first
causes_so disk opened left (Err err) None ended first end = λ failed. tt

-- ---- where no call fails

module _ {R K I P D N L : Type 0} (score : List ℕ → List ℕ) (disk : DiskOf D)
    (link : LinkOf L) (file : List ℕ)
    (conf : Configuration) (work : Work R K I P D N L) (fails : NoneFails disk work) where
  pub printed_well : (text : List ℕ) (outcome : CommandOutcome) → Prints text outcome work.sink
      → (outcome ≡ Ok tt) × (IsTrue work.sink.tells → work.sink.new ≡ work.sink.old ++ text)
  printed_well text (Ok done) prints = (refl, prints.0)
  printed_well text (Err WriteFault) prints = absurd (fails.sink prints.1)
  printed_well text (Err failure) prints = absurd prints

  -- the store failed, though no call did
  failed_well : (opened left : CoreState D)
      (quiet : OneRose (each_of disk.faults opened) (each_of disk.faults left) → ⊥) (why : Why)
      (outcome : CommandOutcome) → outcome ≡ Err (refusal_for why)
      → FailsFor disk why opened left → tells_failure why ≡ Bool.true → IsUndamagedWhy why
      → outcome ≡ Err NoMemory
  failed_well opened left quiet whys.NoMemory outcome is fails_for failed undamaged = is
  failed_well opened left quiet whys.DiskFault outcome is fails_for failed undamaged =
      absurd (quiet fails_for)
  failed_well opened left quiet (whys.Stopped call) outcome is fails_for failed undamaged =
      absurd (quiet fails_for)
  failed_well opened left quiet (whys.Damaged site want found) outcome is fails_for failed undamaged =
      absurd undamaged
  failed_well opened left quiet why outcome is fails_for failed undamaged = absurd fails_for

  module _ {T : Type 0} (message : T → RMessage) (text : T → List ℕ) (m : Operation) (c : Setup)
      (h : History) (shows : (value : T) (outcome : CommandOutcome)
      → Prints (text value) outcome work.sink → TellsReply (message value) outcome work.sink)
      (outcome : CommandOutcome) where
    answered_well : (opened left : CoreState D)
        (quiet : OneRose (each_of disk.faults opened) (each_of disk.faults left) → ⊥)
        (result : Result T Why)
        → IfErr result (λ why. tells_failure why ≡ Bool.true → FailsFor disk why opened left)
        → IsAnswer score c h m (answered message result)
        → TellsBlock file (at.Conf conf) text (as_at result) outcome work.sink
        → TellsReplyOrMemory (answer score c h m).reply outcome work.sink
    answered_well opened left quiet (Ok value) causes answers told = ⊎_elim
        (λ same. inr (subst (λ (r : RMessage). TellsReply r outcome work.sink) same
        (shows value outcome told)))
        (λ never. absurd never) answers
    answered_well opened left quiet (Err why) causes answers told =
        let is : outcome ≡ Err (refusal_for why) = told.0.1 ∙ ap Err told.0.2 in
        ⊎_elim
        (λ same. inr (subst (λ (r : RMessage). TellsReply r outcome work.sink) same
        ((why, refl, is), told.1)))
        (λ failed. inl (failed_well opened left quiet why outcome is (causes failed.0) failed.0
        failed.1))
        answers

    pub stored_well : (now : ℕ) (writes : Bool) (Does : Result T BlockErr → Doing)
        (answers : (output : Result T BlockErr) (said : Option Why) (added : ℕ)
        (ended : Result (Unit {0}) Why)
        → UsedFor score disk link conf now writes work.parts work.dialer Does output said added
        ended → IsAnswer score c h m (answered message (closed_behind (own_answer output said) ended)))
        (causes : (output : Result T BlockErr) (said : Option Why) (added : ℕ)
        (ended : Result (Unit {0}) Why)
        → (x : UsedFor score disk link conf now writes work.parts work.dialer Does output said
        added ended) → IfErr (closed_behind (own_answer output said) ended)
        (λ why. tells_failure why ≡ Bool.true → FailsFor disk why x.opened x.left))
        (found : (bad : OpenError) → RefusesStore score disk (IsTrue work.parts.tells) conf
        work.parts.old work.parts.new work.parts.faults work.parts.faults' bad
        → IsFaultOrMemory bad) (cause : HasCauseIn (causes_of disk work) outcome)
        (used : Result (UsedAt (Result T BlockErr)) StoreError)
        → UsesAt score disk link (at.Conf conf) now writes Does used work.parts work.dialer
        → TellsBlock file (at.Conf conf) text (answer_at used) outcome work.sink
        → TellsReplyOrMemory (answer score c h m).reply outcome work.sink
    stored_well now writes Does answers causes found cause used x told = where_used score disk
        link conf now writes work.parts work.dialer Does
        (λ u. TellsBlock file (at.Conf conf) text (answer_at u) outcome work.sink
        → TellsReplyOrMemory (answer score c h m).reply outcome work.sink)
        (λ output said added ended uses told'. answered_well uses.opened uses.left
        (λ rose. fails.disks (used_rises score disk conf work.parts _ uses rose))
        (closed_behind (own_answer output said) ended) (causes output said added ended uses)
        (answers output said added ended uses)
        (subst (λ (r : Result T StoreError). TellsBlock file (at.Conf conf) text r outcome work.sink)
        (answer_is output said ended) told'))
        (λ bad refuses told'. inl (told'.0.1 ∙ ap Err
        (none_opened_well disk work fails file conf bad told'.0.0 (found bad refuses) told'.0.2
        (subst (HasCauseIn (causes_of disk work)) told'.0.1 cause))))
        used x told

-- ---- what is handed in

-- a block that is too large is refused by the model
pub too_big : (score : List ℕ → List ℕ) (c : Setup) (h : History) (kind : ℕ) (bytes : List ℕ)
    → is_kind kind ≡ Bool.true → MAX_BLOCK < length bytes
    → (answer score c h (write kind bytes)).reply ≡ r_refused whys.TooBig
too_big score c h kind bytes is large =
    let so : nat_lt MAX_BLOCK (length bytes) ≡ Bool.true = lt-ltb MAX_BLOCK (length bytes) large in
    rw (is, so) refl

pub first_tells : (a b : Bool) → IsTrue (a && b) → IsTrue a
first_tells Bool.true b both = refl
first_tells Bool.false b both = both

module _ {R K I P D N L : Type 0} (score : List ℕ → List ℕ) (disk : DiskOf D)
    (outcome : CommandOutcome) (work : Work R K I P D N L) (fails : NoneFails disk work)
    (cause : HasCauseIn (causes_of disk work) outcome) where
  -- why no block came in, where no read failed
  pub none_taken : (c : Setup) (h : History) (kind : ℕ) → is_kind kind ≡ Bool.true
      → IsTrue work.source.tells → TakesNoBlock outcome work.source work.sink
      → TellsReplyOrMemory (answer score c h (write kind work.source.old)).reply outcome work.sink
  none_taken c h kind is tells it = of it.failure it.takes it.outcome_is
    where
      of : (failure : CommandError) → TakesNone failure work.source → outcome ≡ Err failure
          → TellsReplyOrMemory (answer score c h (write kind work.source.old)).reply outcome
          work.sink
      of (RefusedBy why) takes told =
          let front = takes.1 tells in
          let large : MAX_BLOCK < length work.source.old = subst (λ (l : List ℕ).
          MAX_BLOCK < length l) (sym front.2)
          (omega (arith, length-append front.0 work.source.new, front.1)) in
          inr (subst (λ (r : RMessage). TellsReply r outcome work.sink)
          (sym (too_big score c h kind work.source.old is large))
          ((whys.TooBig, refl, told ∙ ap (λ (w : Why). Err (RefusedBy w)) takes.0), it.unwritten))
      of ReadFault takes told = absurd (fails.source takes.1)
      of NoMemory takes told = inl told
      of failure takes told = absurd takes

-- a word that names a file names no other place
pub in_conf : {I X : Type 0} (file : List ℕ) (files : FilesChange I) (Does : Place → Type 0)
    → NamesFile file → ((conf : Configuration) → ReadsConf file conf files → Does (At (at.Conf conf)) → X)
    → (place : Place) → FindsPlace file files place → Does place → X
in_conf file files Does names of Memory found does = absurd (names.0 found.0)
in_conf file files Does names of (At (at.Server address)) found does =
    absurd (names.1 address found.1.0)
in_conf file files Does names of (At (at.Conf conf)) found does = of conf found.1.1 does
