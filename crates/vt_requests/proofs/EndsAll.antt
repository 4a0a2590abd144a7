-- What the end of a store's use leaves, by the events of its parts.
use Rattle.std.proofs.Common.{◌≡◌, ◌≢◌, ◌⊎◌, ⊎_elim, inl, inr, ◌+◌, ◌≤◌, ℕ, zero, suc, List, [], ◌∷◌, ◌++◌, length, map, Option, Some, None, Result, Ok, Err, refl, sym, ◌∙◌, ap, subst, arith}
use Rattle.std.proofs.lemmas.Bool.{cases_lt}
use Rattle.std.proofs.lemmas.List.Elements.{All-from_recursion, recursion_from_All}
use Rattle.std.proofs.lemmas.Option.{same_Some, slice_get_within}
use Rattle.std.specs.List.{All, AllByRecursion}
use Rattle.std.specs.Option.{option_to_list}
use Rattle.std.specs.Prelude.{IsTrue, MatchResult, slice_get, slice_index}
use Rattle.vt_base.specs.declared.why.Why.{Why}
use Rattle.vt_base.specs.declared.why.Why.TheVariants.{BadType, TooBig, TooSmall, Absent, Collision, IndexFull, ArenasFull, DiskFault, Stopped, Damaged, NoMemory}
use Rattle.vt_disk.specs.Members.{DiskOf}
use Rattle.vt_model.specs.History.{History}
use Rattle.vt_bloom.specs.Bloom.{BloomState}
use Rattle.vt_log.specs.Log.{LogState}
use Rattle.vt_model.specs.Causes.{NoneFell, OneRose}
use Rattle.vt_shard.specs.Shard.{ShardState}
use Rattle.vt_core.specs.declared.event.Event.{Event}
use Rattle.vt_core.specs.declared.event.Event.TheVariants.{Ask, Answer as AskAnswer, LogAdvance, FileBegin, FileAdvance, BloomAdvance, EvictLump, EvictIndex}
use Rattle.vt_core.specs.declared.event.Out.{Out}
use Rattle.vt_core.specs.declared.event.Out.TheVariants.{Said as SaidOut, Waits, NotYet, Moved, Nothing, Failed}
use Rattle.vt_core.specs.Causes.{CountsOut, CountsWhy, IsUndamagedWhy}
use Rattle.vt_core.specs.Core.{CoreState, each_of, history_len, stops_of}
use Rattle.vt_core.specs.Sound.{IsSound}
use Rattle.vt_core.specs.Steps.{Runs, Steps}
use Rattle.vt_core.specs.Work.{IsSaved}
use Rattle.vt_recover.proofs.Lists.{at_map}
use Rattle.vt_core.proofs.AskWork.{one_rose}
use Rattle.vt_requests.specs.Ending.{Ends, EndsFor, EndsParts, FilesAll, EventHasFailed, TellsFirst, first_failure, first_of}
use Rattle.vt_requests.specs.Working.{DoesWork, WorkFails, IsShardFiled, IsOwnWork, NeedsDurable, WorksInPieces}
use Rattle.vt_requests.proofs.Ended.{AsRun, as_many, as_run, failed_left, failed_right, get_left, tells_then}
use Rattle.vt_requests.proofs.FilterLeft.{filter_gives}
use Rattle.vt_requests.proofs.Pieces.{log_gives, shard_gives}
use Rattle.vt_requests.proofs.Risen.{AllFit, fell_then, rose_fell, rose_then}
use Rattle.vt_requests.proofs.Whys.{IsStoppedAt, IsWhy, filter_fails, log_fails, shard_fails}
use Rattle.vt_requests.proofs.WorkDone.{AreOwn, Worked, none_worked, runs_then, step_worked, worked_on}
use Rattle.vt_requests.proofs.SyncTold.{durable_is_own}

-- ---- runs of own work

pub own_worked : {D : Type 0} (score : List ℕ → List ℕ) (disk : DiskOf D) (events : List Event) (outs : List Out) (old new : CoreState D) → AllByRecursion IsOwnWork events
    → Runs score disk events outs old new → Worked score disk old new
own_worked {D} score disk [] [] old new own same = subst (λ (k : CoreState D). Worked score disk old k) (sym same) (none_worked score disk old)
own_worked score disk (event ∷ events) (out ∷ outs) old new own run =
    worked_on score disk old run.0 new (step_worked score disk event out old run.0 own.0 run.1) (own_worked score disk events outs run.0 new own.1 run.2)
own_worked score disk [] (out ∷ outs) old new own run = absurd run
own_worked score disk (event ∷ events) [] old new own run = absurd run

-- an out that isn't a failure
abbrev IsFine : Out → Type 0
IsFine out = (why : Why) → out ≢ Failed why

fine_or_failed : (out : Out) → IsFine out ⊎ ((why : Why) × (out ≡ Failed why))
fine_or_failed Moved = inl (λ why e. cc)
fine_or_failed Nothing = inl (λ why e. cc)
fine_or_failed (SaidOut answer) = inl (λ why e. cc)
fine_or_failed Waits = inl (λ why e. cc)
fine_or_failed NotYet = inl (λ why e. cc)
fine_or_failed (Failed why) = inr (why, refl)

-- what the store's own work gives, that isn't a failure, leaves all counts
own_counts : {D : Type 0} (score : List ℕ → List ℕ) (disk : DiskOf D) (event : Event) (out : Out) (old new : CoreState D) → IsFine out → Steps score disk event out old new → IsOwnWork event
    → each_of disk.faults new ≡ each_of disk.faults old
own_counts score disk event Moved old new fine step own = step.counts
own_counts score disk event Nothing old new fine step own = step.counts
own_counts score disk event Waits old new fine step own = step.counts
own_counts score disk event NotYet old new fine step own = step.counts
own_counts score disk event (Failed why) old new fine step own = absurd (fine why refl)
own_counts score disk event (SaidOut answer) old new fine step own = absurd (never event own step)
  where
    never : (e : Event) → IsOwnWork e → Steps score disk e (SaidOut answer) old new → ⊥
    never LogAdvance own s = log_gives disk (SaidOut answer) old new s.does
    never (FileBegin shard) own s = s.does.changes
    never (FileAdvance shard) own s = shard_gives disk (SaidOut answer) s.does.before s.does.after s.does.changes
    never BloomAdvance own s = filter_gives old.bits old.log.durable (SaidOut answer) old.bloom new.bloom s.does.saves
    never (Ask session request now) own s = own
    never (AskAnswer session) own s = own
    never (EvictLump shard) own s = own
    never (EvictIndex shard) own s = own

first_fine : (out : Out) (outs : List Out) → IsFine out → first_failure (out ∷ outs) ≡ first_failure outs
first_fine Moved outs fine = refl
first_fine Nothing outs fine = refl
first_fine (SaidOut answer) outs fine = refl
first_fine Waits outs fine = refl
first_fine NotYet outs fine = refl
first_fine (Failed why) outs fine = absurd (fine why refl)

first_failed : (out : Out) (outs : List Out) (why : Why) → out ≡ Failed why → first_failure (out ∷ outs) ≡ Some why
first_failed (Failed w) outs why is = let same : w ≡ why = cc in ap Some same
first_failed Moved outs why is = absurd (cc)
first_failed Nothing outs why is = absurd (cc)
first_failed (SaidOut answer) outs why is = absurd (cc)
first_failed Waits outs why is = absurd (cc)
first_failed NotYet outs why is = absurd (cc)

-- counts and stops where nothing failed
pub own_well : {D : Type 0} (score : List ℕ → List ℕ) (disk : DiskOf D) (events : List Event) (outs : List Out) (old new : CoreState D) → AllByRecursion IsOwnWork events → Runs score disk events outs old new
    → first_failure outs ≡ None → (each_of disk.faults new ≡ each_of disk.faults old) × (stops_of new ≡ stops_of old)
own_well {D} score disk [] [] old new own same none = (ap (λ (k : CoreState D). each_of disk.faults k) same, ap (λ (k : CoreState D). stops_of k) same)
own_well score disk (event ∷ events) (out ∷ outs) old new own run none = ⊎_elim
    (λ fine.
    let rest = own_well score disk events outs run.0 new own.1 run.2 (sym (first_fine out outs fine) ∙ none) in
    (rest.0 ∙ own_counts score disk event out old run.0 fine run.1 own.0, rest.1 ∙ run.1.stops.cause (fine DiskFault)))
    (λ failed. absurd (let no = sym none ∙ first_failed out outs failed.0 failed.1 in cc))
    (fine_or_failed out)
own_well score disk [] (out ∷ outs) old new own run none = absurd run
own_well score disk (event ∷ events) [] old new own run none = absurd run

-- a stop stays
pub own_stay : {D : Type 0} (score : List ℕ → List ℕ) (disk : DiskOf D) (events : List Event) (outs : List Out) (old new : CoreState D) → Runs score disk events outs old new → (i call : ℕ)
    → slice_get (stops_of old) i ≡ Some (Some call) → slice_get (stops_of new) i ≡ Some (Some call)
own_stay {D} score disk [] [] old new same i call at = subst (λ (k : CoreState D). slice_get (stops_of k) i ≡ Some (Some call)) (sym same) at
own_stay score disk (event ∷ events) (out ∷ outs) old new run i call at = own_stay score disk events outs run.0 new run.2 i call (run.1.stops.stay i call at)
own_stay score disk [] (out ∷ outs) old new run i call at = absurd run
own_stay score disk (event ∷ events) [] old new run i call at = absurd run

-- the counts of a step that failed
pub why_fell : (why : Why) (old new : List ℕ) → AllFit old → CountsWhy why old new → NoneFell old new
why_fell DiskFault old new fit it = rose_fell old new fit it
why_fell (Stopped call) old new fit it = λ i. omega (arith, ap (λ (ns : List ℕ). slice_index ns i) it)
why_fell (Damaged site want found) old new fit it = λ i. omega (arith, ap (λ (ns : List ℕ). slice_index ns i) it)
why_fell BadType old new fit it = λ i. omega (arith, ap (λ (ns : List ℕ). slice_index ns i) it)
why_fell TooBig old new fit it = λ i. omega (arith, ap (λ (ns : List ℕ). slice_index ns i) it)
why_fell TooSmall old new fit it = λ i. omega (arith, ap (λ (ns : List ℕ). slice_index ns i) it)
why_fell Absent old new fit it = λ i. omega (arith, ap (λ (ns : List ℕ). slice_index ns i) it)
why_fell Collision old new fit it = λ i. omega (arith, ap (λ (ns : List ℕ). slice_index ns i) it)
why_fell IndexFull old new fit it = λ i. omega (arith, ap (λ (ns : List ℕ). slice_index ns i) it)
why_fell ArenasFull old new fit it = λ i. omega (arith, ap (λ (ns : List ℕ). slice_index ns i) it)
why_fell NoMemory old new fit it = λ i. omega (arith, ap (λ (ns : List ℕ). slice_index ns i) it)

step_fell : {D : Type 0} (score : List ℕ → List ℕ) (disk : DiskOf D) (fit : (k : CoreState D) → AllFit (each_of disk.faults k)) (event : Event) (out : Out) (old new : CoreState D) → IsOwnWork event
    → Steps score disk event out old new → NoneFell (each_of disk.faults old) (each_of disk.faults new)
step_fell score disk fit event out old new own step = ⊎_elim
    (λ fine. λ i. omega (arith, ap (λ (ns : List ℕ). slice_index ns i) (own_counts score disk event out old new fine step own)))
    (λ failed. why_fell failed.0 (each_of disk.faults old) (each_of disk.faults new) (fit old) (subst (λ (o : Out). CountsOut o (each_of disk.faults old) (each_of disk.faults new)) failed.1 step.counts))
    (fine_or_failed out)

pub own_fell : {D : Type 0} (score : List ℕ → List ℕ) (disk : DiskOf D) (fit : (k : CoreState D) → AllFit (each_of disk.faults k)) (events : List Event) (outs : List Out) (old new : CoreState D)
    → AllByRecursion IsOwnWork events → Runs score disk events outs old new → NoneFell (each_of disk.faults old) (each_of disk.faults new)
own_fell {D} score disk fit [] [] old new own same = λ i. omega (arith, ap (λ (k : CoreState D). slice_index (each_of disk.faults k) i) same)
own_fell score disk fit (event ∷ events) (out ∷ outs) old new own run =
    fell_then (each_of disk.faults old) (each_of disk.faults run.0) (each_of disk.faults new) (step_fell score disk fit event out old run.0 own.0 run.1)
    (own_fell score disk fit events outs run.0 new own.1 run.2)
own_fell score disk fit [] (out ∷ outs) old new own run = absurd run
own_fell score disk fit (event ∷ events) [] old new own run = absurd run

-- ---- why the first failure came

behind_front : {X : Type 0} (xs ys : List X) (i : ℕ) (x : X) → slice_get ys i ≡ Some x → slice_get (xs ++ ys) (length xs + i) ≡ Some x
behind_front [] ys i x at = ap (λ (n : ℕ). slice_get ys n) (omega arith) ∙ at
behind_front {X} (y ∷ xs) ys i x at =
    let next : length (y ∷ xs) + i ≡ suc (length xs + i) = omega arith in
    ap (λ (n : ℕ). slice_get (y ∷ xs ++ ys) n) next ∙ behind_front xs ys i x at

-- where a part has stopped that is worked on, it is one of those that have
abbrev HasStopped : {D : Type 0} → (k : CoreState D) → (call : ℕ) → Type 0
HasStopped k call = (i : ℕ) × (slice_get (stops_of k) i ≡ Some (Some call))

to_ends : {D : Type 0} (disk : DiskOf D) (why : Why) (stopped : ℕ → Type 0) (old new : CoreState D) → (why ≡ DiskFault → OneRose (each_of disk.faults old) (each_of disk.faults new))
    → ((call : ℕ) → stopped call → HasStopped old call) → IsWhy why stopped → EndsFor disk why old new
to_ends disk DiskFault stopped old new rose known it = rose refl
to_ends disk (Stopped call) stopped old new rose known it = known call it
to_ends disk (Damaged site want found) stopped old new rose known it = it
to_ends disk BadType stopped old new rose known it = it
to_ends disk TooBig stopped old new rose known it = it
to_ends disk TooSmall stopped old new rose known it = it
to_ends disk Absent stopped old new rose known it = it
to_ends disk Collision stopped old new rose known it = it
to_ends disk IndexFull stopped old new rose known it = it
to_ends disk ArenasFull stopped old new rose known it = it
to_ends disk NoMemory stopped old new rose known it = it

step_ends : {D : Type 0} (score : List ℕ → List ℕ) (disk : DiskOf D) (event : Event) (why : Why) (old mid new : CoreState D) → IsOwnWork event → Steps score disk event (Failed why) old mid
    → (why ≡ DiskFault → OneRose (each_of disk.faults old) (each_of disk.faults new)) → EndsFor disk why old new
step_ends {D} score disk LogAdvance why old mid new own step rose =
    to_ends disk why (λ call. old.log.stopped ≡ Some call) old new rose (λ call is. (0, ap Some is)) (log_fails disk why old mid step.does)
step_ends {D} score disk (FileAdvance shard) why old mid new own step rose =
    to_ends disk why (IsStoppedAt shard old) old new rose
    (λ call is. (
      suc shard,
      get_left (map (λ (s : ShardState D). s.section.stopped) old.shards) (map (λ (b : BloomState D). b.calls.stopped) (option_to_list old.bloom)) shard (Some call)
          (at_map (λ (s : ShardState D). s.section.stopped) old.shards shard is.0 is.1 ∙ ap Some is.2),
    ))
    (shard_fails disk shard why old mid step.does)
step_ends {D} score disk BloomAdvance why old mid new own step rose =
    to_ends disk why (λ call. (b : BloomState D) × (old.bloom ≡ Some b) × (b.calls.stopped ≡ Some call)) old new rose
    (λ call is. (
      suc (length (map (λ (s : ShardState D). s.section.stopped) old.shards) + 0),
      behind_front (map (λ (s : ShardState D). s.section.stopped) old.shards) (map (λ (b : BloomState D). b.calls.stopped) (option_to_list old.bloom)) 0 (Some call)
          (ap (λ (o : Option (BloomState D)). slice_get (map (λ (b : BloomState D). b.calls.stopped) (option_to_list o)) 0) is.1 ∙ ap Some is.2),
    ))
    (filter_fails why old mid step.does)
step_ends score disk (FileBegin shard) why old mid new own step rose = absurd step.does.changes
step_ends score disk (Ask session request now) why old mid new own step rose = absurd own
step_ends score disk (AskAnswer session) why old mid new own step rose = absurd own
step_ends score disk (EvictLump shard) why old mid new own step rose = absurd own
step_ends score disk (EvictIndex shard) why old mid new own step rose = absurd own

-- a cause behind pieces that went on is one
ends_behind : {D : Type 0} (disk : DiskOf D) (why : Why) (old mid new : CoreState D) → each_of disk.faults mid ≡ each_of disk.faults old → stops_of mid ≡ stops_of old → EndsFor disk why mid new → EndsFor disk why old new
ends_behind disk DiskFault old mid new counts stops it = subst (λ (ns : List ℕ). OneRose ns (each_of disk.faults new)) counts it
ends_behind disk (Stopped call) old mid new counts stops it = (it.0, sym (ap (λ (l : List (Option ℕ)). slice_get l it.0) stops) ∙ it.1)
ends_behind disk (Damaged site want found) old mid new counts stops it = it
ends_behind disk BadType old mid new counts stops it = it
ends_behind disk TooBig old mid new counts stops it = it
ends_behind disk TooSmall old mid new counts stops it = it
ends_behind disk Absent old mid new counts stops it = it
ends_behind disk Collision old mid new counts stops it = it
ends_behind disk IndexFull old mid new counts stops it = it
ends_behind disk ArenasFull old mid new counts stops it = it
ends_behind disk NoMemory old mid new counts stops it = it

pub own_cause : {D : Type 0} (score : List ℕ → List ℕ) (disk : DiskOf D) (fit : (k : CoreState D) → AllFit (each_of disk.faults k)) (events : List Event) (outs : List Out) (why : Why) (old new : CoreState D)
    → AllByRecursion IsOwnWork events → Runs score disk events outs old new → first_failure outs ≡ Some why → EndsFor disk why old new
own_cause score disk fit [] [] why old new own same first = absurd (cc)
own_cause {D} score disk fit (event ∷ events) (out ∷ outs) why old new own run first = ⊎_elim
    (λ fine. ends_behind disk why old run.0 new (own_counts score disk event out old run.0 fine run.1 own.0) (run.1.stops.cause (fine DiskFault))
    (own_cause score disk fit events outs why run.0 new own.1 run.2 (sym (first_fine out outs fine) ∙ first)))
    (λ failed.
    let same : failed.0 ≡ why = same_Some failed.0 why (sym (first_failed out outs failed.0 failed.1) ∙ first) in
    let is : out ≡ Failed why = failed.1 ∙ ap (λ (w : Why). Failed w) same in
    let step : Steps score disk event (Failed why) old run.0 = subst (λ (o : Out). Steps score disk event o old run.0) is run.1 in
    step_ends score disk event why old run.0 new own.0 step
    (λ fault. rose_then (each_of disk.faults old) (each_of disk.faults run.0) (each_of disk.faults new) (fit new)
    (one_rose (each_of disk.faults old) (each_of disk.faults run.0) (subst (λ (w : Why). CountsWhy w (each_of disk.faults old) (each_of disk.faults run.0)) fault step.counts))
    (own_fell score disk fit events outs run.0 new own.1 run.2)))
    (fine_or_failed out)
own_cause score disk fit [] (out ∷ outs) why old new own run first = absurd run
own_cause score disk fit (event ∷ events) [] why old new own run first = absurd run

-- on sound devices it isn't damage
pub own_undamaged : {D : Type 0} (score : List ℕ → List ℕ) (disk : DiskOf D) (events : List Event) (outs : List Out) (why : Why) (old new : CoreState D) → AllByRecursion IsOwnWork events
    → Runs score disk events outs old new → first_failure outs ≡ Some why → (h : History) → IsTrue disk.tells → IsSound score disk old h → IsUndamagedWhy why
own_undamaged score disk [] [] why old new own same first h tells sound = absurd (cc)
own_undamaged score disk (event ∷ events) (out ∷ outs) why old new own run first h tells sound = ⊎_elim
    (λ fine. own_undamaged score disk events outs why run.0 new own.1 run.2 (sym (first_fine out outs fine) ∙ first) h tells
    ((step_worked score disk event out old run.0 own.0 run.1).quiet h tells sound).0)
    (λ failed.
    let same : failed.0 ≡ why = same_Some failed.0 why (sym (first_failed out outs failed.0 failed.1) ∙ first) in
    (subst (λ (o : Out). Steps score disk event o old run.0) (failed.1 ∙ ap (λ (w : Why). Failed w) same) run.1).undamaged h tells sound)
    (fine_or_failed out)
own_undamaged score disk [] (out ∷ outs) why old new own run first h tells sound = absurd run
own_undamaged score disk (event ∷ events) [] why old new own run first h tells sound = absurd run

-- nothing failed where no failure is first
none_has : (event : Event) (events : List Event) (outs : List Out) → first_failure outs ≡ None → ¬ EventHasFailed event events outs
none_has event events outs none it = by_place outs it.at none it.out_is
  where
    by_place : (os : List Out) (i : ℕ) → first_failure os ≡ None → slice_get os i ≡ Some (Failed it.why) → ⊥
    by_place [] i none at = cc
    by_place (out ∷ os) zero none at = let no = sym none ∙ first_failed out os it.why (same_Some out (Failed it.why) at) in cc
    by_place (out ∷ os) (suc i) none at = ⊎_elim
        (λ fine. by_place os i (sym (first_fine out os fine) ∙ none) at)
        (λ failed. let no = sym none ∙ first_failed out os failed.0 failed.1 in cc)
        (fine_or_failed out)

-- ---- the whole end

saves_own : {D : Type 0} → AreOwn {D = D} (λ event k. event ≡ BloomAdvance)
saves_own event k needed = subst (λ (e : Event). IsOwnWork e) (sym needed) tt

module _ {D : Type 0} (score : List ℕ → List ℕ) (disk : DiskOf D) (fit : (k : CoreState D) → AllFit (each_of disk.faults k)) (r1 r2 r3 : Result (Unit {0}) Why) (old k1 k2 new : CoreState D)
    (commits : DoesWork score disk (NeedsDurable (history_len old)) r1 old k1) (durable : (done : Unit {0}) → r1 ≡ Ok done → history_len old ≤ k1.log.durable)
    (files : FilesAll score disk (length k1.shards) r2 k1 k2)
    (saves : DoesWork score disk (λ event k. event ≡ BloomAdvance) r3 k2 new) (saves_same : new ≡ record k2 { bloom = new.bloom })
    (saved : (done : Unit {0}) → r3 ≡ Ok done → (b : BloomState D) → new.bloom ≡ Some b → IsSaved new.log.durable b) where
  abbrev a : AsRun score disk LogAdvance r1 old k1
  a = as_run score disk (NeedsDurable (history_len old)) LogAdvance (durable_is_own (history_len old)) (λ e why x y needed step. needed.0) r1 old k1 commits

  abbrev c : AsRun score disk BloomAdvance r3 k2 new
  c = as_run score disk (λ event k. event ≡ BloomAdvance) BloomAdvance saves_own (λ e why x y needed step. needed) r3 k2 new saves

  abbrev events : List Event
  events = (a.events ++ files.events) ++ c.events

  abbrev outs : List Out
  outs = (a.outs ++ files.outs) ++ c.outs

  many_a : length a.events ≡ length a.outs
  many_a = as_many score disk a.events a.outs old k1 a.runs

  runs_b : Runs score disk (a.events ++ files.events) (a.outs ++ files.outs) old k2
  runs_b = runs_then score disk a.events files.events a.outs files.outs old k1 k2 a.runs files.runs

  runs : Runs score disk events outs old new
  runs = runs_then score disk (a.events ++ files.events) c.events (a.outs ++ files.outs) c.outs old k2 new runs_b c.runs

  files_own : AllByRecursion IsOwnWork files.events
  files_own = recursion_from_All IsOwnWork files.events files.own

  own : AllByRecursion IsOwnWork events
  own = own_then (a.events ++ files.events) c.events (own_then a.events files.events a.own files_own) c.own
    where
      own_then : (xs ys : List Event) → AllByRecursion IsOwnWork xs → AllByRecursion IsOwnWork ys → AllByRecursion IsOwnWork (xs ++ ys)
      own_then [] ys x y = y
      own_then (e ∷ xs) ys x y = (x.0, own_then xs ys x.1 y)

  worked : Worked score disk old new
  worked = own_worked score disk events outs old new own runs

  log_k2 : k2.log ≡ k1.log
  log_k2 = ap (λ (k : CoreState D). k.log) files.same

  log_new : new.log ≡ k2.log
  log_new = ap (λ (k : CoreState D). k.log) saves_same

  many_shards : length k2.shards ≡ length k1.shards
  many_shards = (own_worked score disk files.events files.outs k1 k2 files_own files.runs).keeps.store.shards

  not_left : (event : Event) → ¬ EventHasFailed event events outs → ¬ EventHasFailed event a.events a.outs
  not_left event none failed = none (failed_left event (a.events ++ files.events) c.events (a.outs ++ files.outs) c.outs (failed_left event a.events files.events a.outs files.outs failed))

  not_mid : (event : Event) → ¬ EventHasFailed event events outs → ¬ EventHasFailed event files.events files.outs
  not_mid event none failed = none (failed_left event (a.events ++ files.events) c.events (a.outs ++ files.outs) c.outs (failed_right event a.events files.events a.outs files.outs many_a failed))

  not_right : (event : Event) → ¬ EventHasFailed event events outs → ¬ EventHasFailed event c.events c.outs
  not_right event none failed = none (failed_right event (a.events ++ files.events) c.events (a.outs ++ files.outs) c.outs (as_many score disk (a.events ++ files.events) (a.outs ++ files.outs) old k2 runs_b) failed)

  log_done : (r : Result (Unit {0}) Why) → r1 ≡ r → ¬ EventHasFailed LogAdvance events outs → new.log.durable ≡ history_len new
  log_done (Err why) is none = absurd (not_left LogAdvance none (a.failed why is))
  log_done (Ok done) is none =
      let low = durable done is in
      let log : new.log.durable ≡ k1.log.durable = ap (λ (l : LogState D). l.durable) (log_new ∙ log_k2) in
      omega (arith, low, log, worked.len)

  filter_done : (r : Result (Unit {0}) Why) → r3 ≡ r → (b : BloomState D) → new.bloom ≡ Some b → ¬ EventHasFailed BloomAdvance events outs → IsSaved new.log.durable b
  filter_done (Err why) is b at none = absurd (not_right BloomAdvance none (c.failed why is))
  filter_done (Ok done) is b at none = saved done is b at

  tells : TellsFirst (first_of (first_of r1 r2) r3) outs
  tells = tells_then (first_of r1 r2) r3 (a.outs ++ files.outs) c.outs (tells_then r1 r2 a.outs files.outs a.tells files.tells) c.tells

  abbrev parts : EndsParts score disk (first_of (first_of r1 r2) r3) old new
  parts = record {
    events = events;
    outs = outs;
    own = All-from_recursion IsOwnWork events own;
    runs = runs;
    log = log_done r1 refl;
    shards = λ i s at none.
        let before : slice_get k2.shards i ≡ Some s = sym (ap (λ (k : CoreState D). slice_get k.shards i) saves_same) ∙ at in
        subst (λ (n : ℕ). IsShardFiled n s) (sym (ap (λ (l : LogState D). l.durable) log_new))
        (files.shards i s (omega (arith, slice_get_within k2.shards i s before, many_shards)) before (not_mid (FileAdvance i) none));
    filter = filter_done r3 refl;
    tells = tells;
  }

  by_result : (r : Result (Unit {0}) Why) → first_of (first_of r1 r2) r3 ≡ r → TellsFirst r outs → Ends score disk r old new
  by_result (Err why) is first = record {
    parts = subst (λ (x : Result (Unit {0}) Why). EndsParts score disk x old new) is parts;
    keeps = worked.keeps;
    len = worked.len;
    stops = record { stay = own_stay score disk events outs old new runs; cause = λ not. absurd (not (λ e. cc)) };
    cause = own_cause score disk fit events outs why old new own runs first;
    fell = own_fell score disk fit events outs old new own runs;
    same = tt;
    sound = λ h tells sound. (worked.quiet h tells sound).0;
    undamaged = own_undamaged score disk events outs why old new own runs first;
    ends_well = λ h tells sound none rose. absurd (no_cause why (own_cause score disk fit events outs why old new own runs first) (own_undamaged score disk events outs why old new own runs first h tells sound) none rose);
    whole = λ h tells sound e. absurd (cc);
  }
    where
      no_cause : (w : Why) → EndsFor disk w old new → IsUndamagedWhy w → All (λ stop. stop ≡ None) (stops_of old) → ¬ OneRose (each_of disk.faults old) (each_of disk.faults new) → ⊥
      no_cause DiskFault cause undamaged none rose = rose cause
      no_cause (Stopped call) cause undamaged none rose = none_stopped (stops_of old) (recursion_from_All (λ (stop : Option ℕ). stop ≡ None) (stops_of old) none) cause.0 call cause.1
        where
          none_stopped : (l : List (Option ℕ)) → AllByRecursion (λ (stop : Option ℕ). stop ≡ None) l → (i n : ℕ) → slice_get l i ≡ Some (Some n) → ⊥
          none_stopped [] none i n at = cc
          none_stopped (o ∷ l) none zero n at = let no = sym none.0 ∙ same_Some o (Some n) at in cc
          none_stopped (o ∷ l) none (suc i) n at = none_stopped l none.1 i n at
      no_cause (Damaged site want found) cause undamaged none rose = undamaged
      no_cause BadType cause undamaged none rose = cause
      no_cause TooBig cause undamaged none rose = cause
      no_cause TooSmall cause undamaged none rose = cause
      no_cause Absent cause undamaged none rose = cause
      no_cause Collision cause undamaged none rose = cause
      no_cause IndexFull cause undamaged none rose = cause
      no_cause ArenasFull cause undamaged none rose = cause
      no_cause NoMemory cause undamaged none rose = cause
  by_result (Ok done) is first =
      let well = own_well score disk events outs old new own runs first in
      record {
        parts = subst (λ (x : Result (Unit {0}) Why). EndsParts score disk x old new) is parts;
        keeps = worked.keeps;
        len = worked.len;
        stops = record { stay = own_stay score disk events outs old new runs; cause = λ _. well.1 };
        cause = tt;
        fell = own_fell score disk fit events outs old new own runs;
        same = well.0;
        sound = λ h tells sound. (worked.quiet h tells sound).0;
        undamaged = λ h tells sound. tt;
        ends_well = λ h tells sound none rose. refl;
        whole = λ h tells sound e.
            let after = (worked.quiet h tells sound).0 in
            let all : new.log.durable ≡ length h = parts.log (none_has LogAdvance events outs first) ∙ after.log.front in
            record {
              durable = all;
              shards = λ i s at.
                  let filed = parts.shards i s at (none_has (FileAdvance i) events outs first) in
                  let most = (after.whole.shards i s at).mark in
                  let high : new.log.durable ≤ s.section.head.mark = ⊎_elim (λ low. absurd (filed.1 (inr low))) (λ high. high) (cases_lt s.section.head.mark new.log.durable) in
                  (filed.0, omega (arith, all, most, high));
              filter = λ b at. subst (λ (n : ℕ). IsSaved n b) all (parts.filter b at (none_has BloomAdvance events outs first));
            };
      }

  pub ended : Ends score disk (first_of (first_of r1 r2) r3) old new
  ended = by_result (first_of (first_of r1 r2) r3) refl tells

-- saves change the filter alone
pub saves_alone : {D : Type 0} (score : List ℕ → List ℕ) (disk : DiskOf D) (result : Result (Unit {0}) Why) (old new : CoreState D) → DoesWork score disk (λ event k. event ≡ BloomAdvance) result old new
    → new ≡ record old { bloom = new.bloom }
saves_alone {D} score disk result old new it = by_result result it.ends
  where
    one : (event : Event) (out : Out) (k m : CoreState D) → event ≡ BloomAdvance → Steps score disk event out k m → m ≡ record k { bloom = m.bloom }
    one event out k m is step = (subst (λ (e : Event). Steps score disk e out k m) is step).does.same

    then : (k m n : CoreState D) → m ≡ record k { bloom = m.bloom } → n ≡ record m { bloom = n.bloom } → n ≡ record k { bloom = n.bloom }
    then k m n first second = second ∙ ap (λ (x : CoreState D). record x { bloom = n.bloom }) first

    all : (es : List Event) (os : List Out) (k m : CoreState D) → WorksInPieces score disk (λ event j. event ≡ BloomAdvance) es os k m → m ≡ record k { bloom = m.bloom }
    all [] [] k m same = subst (λ (x : CoreState D). x ≡ record k { bloom = x.bloom }) (sym same) refl
    all (event ∷ es) (out ∷ os) k m w = then k w.0 m (one event out k w.0 w.1 w.3) (all es os w.0 m w.4)
    all [] (out ∷ os) k m w = absurd w
    all (event ∷ es) [] k m w = absurd w

    first : it.mid ≡ record old { bloom = it.mid.bloom }
    first = all it.events it.outs old it.mid it.works

    by_result : (r : Result (Unit {0}) Why) → MatchResult r (λ _. new ≡ it.mid) (λ why. WorkFails score disk (λ event j. event ≡ BloomAdvance) why it.mid new) → new ≡ record old { bloom = new.bloom }
    by_result (Ok done) same = subst (λ (x : CoreState D). x ≡ record old { bloom = x.bloom }) (sym same) first
    by_result (Err why) fails = then old it.mid new first (one fails.event (Failed why) it.mid new fails.needed fails.steps)

-- no shard so far
pub no_shard : {D : Type 0} (score : List ℕ → List ℕ) (disk : DiskOf D) (k : CoreState D) → FilesAll score disk 0 (Ok tt) k k
no_shard score disk k = record {
  events = [];
  outs = [];
  own = All-from_recursion IsOwnWork [] tt;
  runs = refl;
  same = refl;
  shards = λ i s within at none. absurd (omega (arith, within));
  tells = refl;
}
