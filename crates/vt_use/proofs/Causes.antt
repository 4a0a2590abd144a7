-- Why a store failed first in a session, whatever its devices hold.
use Rattle.std.proofs.Common.{◌≡◌, ⊎_elim, ℕ, zero, suc, ◌<◌, List, [], ◌∷◌, ◌++◌, map, Bool, true, cond, Option, None, Some, Result, Ok, Err, refl, sym, ◌∙◌, ap, subst, arith}
use Rattle.std.specs.List.{All, AllByRecursion}
use Rattle.std.specs.Option.{option_and_then, option_or, option_to_list}
use Rattle.std.specs.Prelude.{◌^◌, IfSome, IfErr, slice_get}
use Rattle.std.proofs.lemmas.Bool.{cases_Bool}
use Rattle.vt_base.specs.declared.answer.Said.{Said}
use Rattle.vt_base.specs.declared.answer.Said.TheVariants.{Score, Block, Synced, Refused}
use Rattle.vt_base.specs.declared.why.Why.{Why}
use Rattle.vt_base.specs.declared.why.Why.TheVariants.{BadType, TooBig, TooSmall, Absent, Collision, IndexFull, ArenasFull, DiskFault, Stopped, Damaged, NoMemory}
use Rattle.vt_base.specs.Protocol.{Operation, ping, read, write, sync, RMessage}
use Rattle.vt_bloom.specs.Bloom.{BloomState}
use Rattle.vt_disk.specs.Members.{DiskOf}
use Rattle.vt_model.specs.Causes.{OneRose}
use Rattle.vt_handler.specs.Serving.{tells_failure}
use Rattle.vt_handler.specs.Taking.{DoesOne, DoesCalls, DoesSome, first_told}
use Rattle.vt_shard.specs.Shard.{ShardState}
use Rattle.vt_core.specs.Asking.{MayBeTold, shard_of, stop_for}
use Rattle.vt_core.specs.Causes.{CountsSaid}
use Rattle.vt_core.specs.Core.{CoreState, each_of, stops_of}
use Rattle.vt_base.specs.Operations.{operation_of}
use Rattle.vt_core.proofs.AskWork.{one_rose}
use Rattle.vt_base.specs.Operations.{result_of}
use Rattle.vt_requests.specs.Driven.{DrivenState, DoesRequest}
use Rattle.vt_requests.specs.Ending.{EndsFor}
use Rattle.vt_requests.proofs.Risen.{same_fell}
use Rattle.vt_use.specs.Causes.{FailsFor, HasItsCause, TellsStops}
use Rattle.vt_use.specs.Stores.{store_on}
use Rattle.vt_use.proofs.Runs.{calls_run, one_runs}
use Rattle.vt_use.proofs.Tells.{all_fit, rose_within, run_tells, tells_more, tells_same}

-- ---- no operation is refused by a part that hasn't stopped

shards_none : {D : Type 0} (shards : List (ShardState D)) (more : List (Option ℕ)) (i call : ℕ)
    → All (λ stop. stop ≡ None) (map (λ (s : ShardState D). s.section.stopped) shards ++ more)
    → option_and_then (λ (s : ShardState D). s.section.stopped) (slice_get shards i) ≡ Some call
    → ⊥
shards_none [] more i call all is = cc
shards_none (s ∷ shards) more zero call all is =
    let none : s.section.stopped ≡ None = all 0 None (omega arith) in
    let no : None ≡ Some call = sym none ∙ is in cc
shards_none (s ∷ shards) more (suc i) call all is =
    shards_none shards more i call (λ k d less. all (suc k) d (omega arith)) is

module _ {D : Type 0} (score : List ℕ → List ℕ) where
  never_stopped : (k : CoreState D) → All (λ stop. stop ≡ None) (stops_of k) → (m : Operation)
      (call : ℕ) → stop_for score k m ≡ Some call → ⊥
  never_stopped k all ping call is = cc
  never_stopped k all (read s kind count) call is = cc
  never_stopped k all sync call is =
      let none : k.log.stopped ≡ None = all 0 None (omega arith) in
      let no : None ≡ Some call = sym none ∙ is in cc
  never_stopped k all (write kind bytes) call is =
      let none : k.log.stopped ≡ None = all 0 None (omega arith) in
      shards_none k.shards (map (λ (b : BloomState D). b.calls.stopped) (option_to_list k.bloom))
      (shard_of k (score bytes)) call (λ i d less. all (suc i) d (omega arith))
      (subst (λ (o : Option ℕ). option_or o (option_and_then
      (λ (s : ShardState D). s.section.stopped) (slice_get k.shards (shard_of k (score bytes))))
      ≡ Some call) none is)

stop_at : (stops : List (Option ℕ)) (i call : ℕ) → All (λ stop. stop ≡ None) stops
    → slice_get stops i ≡ Some (Some call) → ⊥
stop_at [] i call all is = cc
stop_at (stop ∷ stops) zero call all is =
    let none : stop ≡ None = all 0 None (omega arith) in
    let no : Some None ≡ Some (Some call) = ap Some (sym none) ∙ is in cc
stop_at (stop ∷ stops) (suc i) call all is =
    stop_at stops i call (λ k d less. all (suc k) d (omega arith)) is

-- ---- one request

pub said_why : (said : Said) (why : Why) → result_of said ≡ Err why → said ≡ Refused why
said_why (Score given) why is = absurd (cc)
said_why (Block bytes) why is = absurd (cc)
said_why Synced why is = absurd (cc)
said_why (Refused other) why is = cc

module _ {D : Type 0} (score : List ℕ → List ℕ) (disk : DiskOf D)
    (fits : (device : D) → disk.faults device < 2 ^ 64) where
  abbrev counts : CoreState D → List ℕ
  counts k = each_of disk.faults k

  abbrev NoneStopped : CoreState D → Type 0
  NoneStopped k = All (λ stop. stop ≡ None) (stops_of k)

  -- from a start where no part had stopped
  module _ (start : CoreState D) (none : NoneStopped start) where
    -- no part has stopped since, or a count rose
    stopped_so : (k : CoreState D) (m : Operation) (call : ℕ) → TellsStops disk start k
        → stop_for score k m ≡ Some call → OneRose (counts start) (counts k)
    stopped_so k m call tells is = ⊎_elim
        (λ same. absurd (never_stopped score k
        (subst (λ (stops : List (Option ℕ)). All (λ stop. stop ≡ None) stops) (sym same) none) m
        call is))
        (λ rose. rose) tells.stops

    rose_later : (k last : CoreState D) → TellsStops disk k last → OneRose (counts start) (counts k)
        → OneRose (counts start) (counts last)
    rose_later k last later rose = rose_within (counts start) (counts start) (counts k)
        (counts last) (all_fit disk fits last) (same_fell (counts start)) rose later.fell

    rose_here : (k k' last : CoreState D) → TellsStops disk start k → TellsStops disk k' last
        → OneRose (counts k) (counts k') → OneRose (counts start) (counts last)
    rose_here k k' last before later rose = rose_within (counts start) (counts k) (counts k')
        (counts last) (all_fit disk fits last) before.fell rose later.fell

    why_for : (why : Why) (m : Operation) (k k' last : CoreState D) → TellsStops disk start k
        → TellsStops disk k last → TellsStops disk k' last
        → CountsSaid (Refused why) (counts k) (counts k') → MayBeTold score k m why
        → tells_failure why ≡ true → FailsFor disk why start last
    why_for DiskFault m k k' last before later behind rose may fails =
        rose_here k k' last before behind (one_rose (counts k) (counts k') rose)
    why_for (Stopped call) m k k' last before later behind rose may fails =
        rose_later k last later (stopped_so k m call before may.1)
    why_for (Damaged site want found) m k k' last before later behind rose may fails = may.2
    why_for NoMemory m k k' last before later behind rose may fails = tt
    why_for BadType m k k' last before later behind rose may fails = absurd (cc)
    why_for TooBig m k k' last before later behind rose may fails = absurd (cc)
    why_for TooSmall m k k' last before later behind rose may fails = absurd (cc)
    why_for Absent m k k' last before later behind rose may fails = absurd (cc)
    why_for Collision m k k' last before later behind rose may fails = absurd (cc)
    why_for IndexFull m k k' last before later behind rose may fails = absurd (cc)
    why_for ArenasFull m k k' last before later behind rose may fails = absurd (cc)

    request_fails : (why : Why) (m : Operation) (d d' last : DrivenState D)
        → DoesRequest score disk m (Err why) d d' → tells_failure why ≡ true
        → TellsStops disk start d.core → TellsStops disk d.core last.core
        → TellsStops disk d'.core last.core → FailsFor disk why start last.core
    request_fails why m d d' last it fails before later behind =
        let said = said_why it.answer.said why it.says in
        why_for why (operation_of it.asked) d.core d'.core last.core before later
        behind
        (subst (λ (s : Said). CountsSaid s (counts d.core) (counts d'.core)) said
        it.answers.counts)
        (it.answers.cause why said) fails

    one_fails : (why : Why) (m : Operation) (d d' last : DrivenState D)
        → DoesOne (store_on score disk) d m (Err why) d' → tells_failure why ≡ true
        → TellsStops disk start d.core → TellsStops disk d.core last.core
        → TellsStops disk d'.core last.core → FailsFor disk why start last.core
    one_fails why ping d d' last it fails before later behind = absurd (let no = it.0 in cc)
    one_fails why (read s kind count) d d' last it fails before later behind =
        request_fails why (read s kind count) d d' last it fails before later behind
    one_fails why (write kind bytes) d d' last it fails before later behind =
        request_fails why (write kind bytes) d d' last it fails before later behind
    one_fails why sync d d' last it fails before later behind =
        request_fails why sync d d' last it fails before later behind

    -- ---- several

    first_fails : (calls : List (Operation × Result RMessage Why)) (d last : DrivenState D)
        (why : Why) → DoesCalls (store_on score disk) d calls last
        → TellsStops disk start d.core → first_told calls ≡ Some why
        → FailsFor disk why start last.core
    first_fails [] d last why it before is = absurd (cc)
    first_fails ((m, Ok reply) ∷ calls) d last why it before is =
        let here = run_tells disk fits score d.core it.0.core
        (one_runs score disk d it.0 m (Ok reply) it.1) in
        first_fails calls it.0 last why it.2
        (tells_more disk fits start d.core it.0.core before here) is
    first_fails ((m, Err other) ∷ calls) d last why it before is =
        let here = run_tells disk fits score d.core it.0.core
        (one_runs score disk d it.0 m (Err other) it.1) in
        let behind = run_tells disk fits score it.0.core last.core
        (calls_run score disk it.0 last calls it.2) in
        let later = tells_more disk fits d.core it.0.core last.core here behind in
        ⊎_elim
        (λ fails.
        let told : Some other ≡ Some why = subst (λ (b : Bool).
        option_or (cond b (Some other) None) (first_told calls) ≡ Some why) fails is in
        let same : other ≡ why = cc in
        subst (λ (w : Why). FailsFor disk w start last.core) same
        (one_fails other m d it.0 last it.1 fails before later behind))
        (λ no. first_fails calls it.0 last why it.2
        (tells_more disk fits start d.core it.0.core before here)
        (subst (λ (b : Bool). option_or (cond b (Some other) None) (first_told calls)
        ≡ Some why) no is))
        (cases_Bool (tells_failure other))

    -- what is told of a failure holds later too
    more_fails : (why : Why) (served new : CoreState D) → TellsStops disk served new
        → FailsFor disk why start served → FailsFor disk why start new
    more_fails DiskFault served new later it = rose_later served new later it
    more_fails (Stopped call) served new later it = rose_later served new later it
    more_fails (Damaged site want found) served new later it = it
    more_fails NoMemory served new later it = it
    more_fails BadType served new later it = it
    more_fails TooBig served new later it = it
    more_fails TooSmall served new later it = it
    more_fails Absent served new later it = it
    more_fails Collision served new later it = it
    more_fails IndexFull served new later it = it
    more_fails ArenasFull served new later it = it

    -- each of these has its cause
    pub all_told : (calls : List (Operation × Result RMessage Why)) (d last : DrivenState D)
        (new : CoreState D) → DoesCalls (store_on score disk) d calls last
        → TellsStops disk start d.core → TellsStops disk last.core new
        → AllByRecursion (HasItsCause disk start new) calls
    all_told [] d last new it before after = tt
    all_told ((m, Ok reply) ∷ calls) d last new it before after =
        let here = run_tells disk fits score d.core it.0.core
        (one_runs score disk d it.0 m (Ok reply) it.1) in (
          tt,
          all_told calls it.0 last new it.2 (tells_more disk fits start d.core it.0.core before here)
              after,
        )
    all_told ((m, Err why) ∷ calls) d last new it before after =
        let here = run_tells disk fits score d.core it.0.core
        (one_runs score disk d it.0 m (Err why) it.1) in
        let behind = run_tells disk fits score it.0.core last.core
        (calls_run score disk it.0 last calls it.2) in
        let later = tells_more disk fits d.core it.0.core last.core here behind in (
          λ fails. more_fails why last.core new after
              (one_fails why m d it.0 last it.1 fails before later behind),
          all_told calls it.0 last new it.2
              (tells_more disk fits start d.core it.0.core before here) after,
        )

    pub by_failure : (failure : Option Why) (d last : DrivenState D) → d.core ≡ start
        → DoesSome (store_on score disk) d last None failure
        → IfSome failure (λ why. FailsFor disk why start last.core)
    by_failure None d last is it = tt
    by_failure (Some why) d last is it = first_fails it.calls d last why it.does
        (tells_same disk start d.core is) (sym it.failure_is)

    -- ---- the end

    end_fails : (why : Why) (served new : CoreState D) → TellsStops disk start served
        → TellsStops disk served new → EndsFor disk why served new → FailsFor disk why start new
    end_fails DiskFault served new before later it = rose_here served new new before
        (tells_same disk new new refl) it
    end_fails (Stopped call) served new before later it = ⊎_elim
        (λ same. absurd (stop_at (stops_of served) it.0 call
        (subst (λ (stops : List (Option ℕ)). All (λ stop. stop ≡ None) stops) (sym same) none)
        it.1))
        (λ rose. rose_later served new later rose) before.stops
    end_fails (Damaged site want found) served new before later it = it
    end_fails NoMemory served new before later it = absurd it
    end_fails BadType served new before later it = absurd it
    end_fails TooBig served new before later it = absurd it
    end_fails TooSmall served new before later it = absurd it
    end_fails Absent served new before later it = absurd it
    end_fails Collision served new before later it = absurd it
    end_fails IndexFull served new before later it = absurd it
    end_fails ArenasFull served new before later it = absurd it

    pub if_failure : (failure : Option Why) (served new : CoreState D)
        → TellsStops disk served new → IfSome failure (λ why. FailsFor disk why start served)
        → IfSome failure (λ why. FailsFor disk why start new)
    if_failure None served new later it = tt
    if_failure (Some why) served new later it = more_fails why served new later it

    pub if_closed : (closed : Result (Unit {0}) Why) (served new : CoreState D)
        → TellsStops disk start served → TellsStops disk served new
        → IfErr closed (λ why. EndsFor disk why served new)
        → IfErr closed (λ why. FailsFor disk why start new)
    if_closed (Ok done) served new before later it = tt
    if_closed (Err why) served new before later it = end_fails why served new before later it
