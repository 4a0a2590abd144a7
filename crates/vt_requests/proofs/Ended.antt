-- The end of a store's use, part by part.
use Rattle.std.proofs.Common.{◌≡◌, ◌≢◌, ⊎_elim, ◌+◌, ℕ, zero, suc, List, [], ◌∷◌, ◌++◌, length, Option, Some, None, Result, Ok, Err, refl, sym, ◌∙◌, ap, subst, arith}
use Rattle.std.proofs.lemmas.Bool.{cases_lt}
use Rattle.std.proofs.lemmas.List.Elements.{All-from_recursion, recursion_from_All}
use Rattle.std.proofs.lemmas.Option.{same_Some}
use Rattle.std.specs.List.{AllByRecursion}
use Rattle.std.specs.Option.{option_or}
use Rattle.std.specs.Prelude.{slice_get, slice_set}
use Rattle.vt_base.specs.declared.why.Why.{Why}
use Rattle.vt_disk.specs.Members.{DiskOf}
use Rattle.vt_shard.specs.Shard.{ShardState}
use Rattle.vt_core.specs.declared.event.Event.{Event}
use Rattle.vt_core.specs.declared.event.Event.TheVariants.{FileBegin, FileAdvance}
use Rattle.vt_core.specs.declared.event.Out.{Out}
use Rattle.vt_core.specs.declared.event.Out.TheVariants.{Said as SaidOut, Waits, NotYet, Moved, Nothing, Failed}
use Rattle.vt_core.specs.Core.{CoreState}
use Rattle.vt_core.specs.Steps.{Runs, Steps}
use Rattle.vt_core.proofs.Runs.{one_more_event}
use Rattle.vt_core.proofs.Mounted.{recursion_append}
use Rattle.vt_requests.specs.Ending.{FilesAll, EventHasFailed, TellsFirst, first_failure, first_of}
use Rattle.vt_requests.specs.Working.{DoesWork, FilesEntries, HasFiled, IsShardFiled, IsOwnWork, WentOn, WorksInPieces}
use Rattle.vt_requests.proofs.AtShard.{same_others}
use Rattle.vt_requests.proofs.WorkDone.{AreOwn, runs_then, works_run}

-- ---- lists

pub get_left : {X : Type 0} (xs ys : List X) (i : ℕ) (x : X) → slice_get xs i ≡ Some x → slice_get (xs ++ ys) i ≡ Some x
get_left [] ys i x at = absurd (cc)
get_left (y ∷ xs) ys zero x at = at
get_left (y ∷ xs) ys (suc i) x at = get_left xs ys i x at

get_right : {X : Type 0} (xs ys : List X) (n i : ℕ) (x : X) → n ≡ length xs → slice_get ys i ≡ Some x → slice_get (xs ++ ys) (n + i) ≡ Some x
get_right {X} [] ys n i x is at = ap (λ (j : ℕ). slice_get ys j) (omega (arith, is)) ∙ at
get_right {X} (y ∷ xs) ys zero i x is at = absurd (omega (arith, is))
get_right {X} (y ∷ xs) ys (suc n) i x is at =
    let next : suc n + i ≡ suc (n + i) = omega arith in
    ap (λ (j : ℕ). slice_get (y ∷ xs ++ ys) j) next ∙ get_right xs ys n i x (omega (arith, is)) at

-- ---- what failed

failure_then : (first later : List Out) → first_failure (first ++ later) ≡ option_or (first_failure first) (first_failure later)
failure_then [] later = refl
failure_then (Failed why ∷ first) later = refl
failure_then (Moved ∷ first) later = failure_then first later
failure_then (Nothing ∷ first) later = failure_then first later
failure_then (SaidOut answer ∷ first) later = failure_then first later
failure_then (Waits ∷ first) later = failure_then first later
failure_then (NotYet ∷ first) later = failure_then first later

pub tells_then : (a b : Result (Unit {0}) Why) (first later : List Out) → TellsFirst a first → TellsFirst b later → TellsFirst (first_of a b) (first ++ later)
tells_then (Ok done) (Ok ends) first later a b = failure_then first later ∙ ap (λ (o : Option Why). option_or o (first_failure later)) a ∙ b
tells_then (Ok done) (Err why) first later a b = failure_then first later ∙ ap (λ (o : Option Why). option_or o (first_failure later)) a ∙ b
tells_then (Err why) b first later a tells = failure_then first later ∙ ap (λ (o : Option Why). option_or o (first_failure later)) a

pub failed_left : (event : Event) (events later : List Event) (outs gives : List Out) → EventHasFailed event events outs → EventHasFailed event (events ++ later) (outs ++ gives)
failed_left event events later outs gives it = record {
  at = it.at;
  why = it.why;
  event_is = get_left events later it.at event it.event_is;
  out_is = get_left outs gives it.at (Failed it.why) it.out_is;
}

pub failed_right : (event : Event) (first events : List Event) (gave outs : List Out) → length first ≡ length gave → EventHasFailed event events outs → EventHasFailed event (first ++ events) (gave ++ outs)
failed_right event first events gave outs many it = record {
  at = length first + it.at;
  why = it.why;
  event_is = get_right first events (length first) it.at event refl it.event_is;
  out_is = get_right gave outs (length first) it.at (Failed it.why) many it.out_is;
}

pub as_many : {D : Type 0} (score : List ℕ → List ℕ) (disk : DiskOf D) (events : List Event) (outs : List Out) (old new : CoreState D) → Runs score disk events outs old new → length events ≡ length outs
as_many score disk [] [] old new run = refl
as_many score disk (event ∷ events) (out ∷ outs) old new run = omega (arith, as_many score disk events outs run.0 new run.2)
as_many score disk [] (out ∷ outs) old new run = absurd run
as_many score disk (event ∷ events) [] old new run = absurd run

-- ---- work as a run

-- Own work, in which a piece failed just if the last one did.
pub record AsRun {D : Type 0} (score : List ℕ → List ℕ) (disk : DiskOf D) (event : Event) (result : Result (Unit {0}) Why) (old new : CoreState D) : Type 0 where
  pub events : List Event
  pub outs : List Out
  pub own : AllByRecursion IsOwnWork events
  pub runs : Runs score disk events outs old new
  pub tells : TellsFirst result outs
  pub failed : (why : Why) → result ≡ Err why → EventHasFailed event events outs

went_well : (out : Out) (outs : List Out) → WentOn out → first_failure outs ≡ None → first_failure (out ∷ outs) ≡ None
went_well Moved outs went none = none
went_well Nothing outs went none = none
went_well (SaidOut answer) outs went none = absurd went
went_well Waits outs went none = absurd went
went_well NotYet outs went none = absurd went
went_well (Failed why) outs went none = absurd went

none_failed : {D : Type 0} (score : List ℕ → List ℕ) (disk : DiskOf D) (Needs : Event → CoreState D → Type 0) (events : List Event) (outs : List Out) (old new : CoreState D)
    → WorksInPieces score disk Needs events outs old new → first_failure outs ≡ None
none_failed score disk Needs [] [] old new it = refl
none_failed score disk Needs (event ∷ events) (out ∷ outs) old new it = went_well out outs it.2 (none_failed score disk Needs events outs it.0 new it.4)
none_failed score disk Needs [] (out ∷ outs) old new it = absurd it
none_failed score disk Needs (event ∷ events) [] old new it = absurd it

pub are_own : {D : Type 0} (score : List ℕ → List ℕ) (disk : DiskOf D) (Needs : Event → CoreState D → Type 0) → AreOwn Needs → (events : List Event) (outs : List Out) (old new : CoreState D)
    → WorksInPieces score disk Needs events outs old new → AllByRecursion IsOwnWork events
are_own score disk Needs own [] [] old new it = tt
are_own score disk Needs own (event ∷ events) (out ∷ outs) old new it = (own event old it.1, are_own score disk Needs own events outs it.0 new it.4)
are_own score disk Needs own [] (out ∷ outs) old new it = absurd it
are_own score disk Needs own (event ∷ events) [] old new it = absurd it

-- where nothing but this event fails
abbrev pub FailsAs : {D : Type 0} → (List ℕ → List ℕ) → DiskOf D → (Needs : Event → CoreState D → Type 0) → Event → Type 0
FailsAs {D} score disk Needs event = (e : Event) (why : Why) (old new : CoreState D) → Needs e old → Steps score disk e (Failed why) old new → e ≡ event

pub as_run : {D : Type 0} (score : List ℕ → List ℕ) (disk : DiskOf D) (Needs : Event → CoreState D → Type 0) (event : Event) → AreOwn Needs → FailsAs score disk Needs event
    → (result : Result (Unit {0}) Why) (old new : CoreState D) → DoesWork score disk Needs result old new → AsRun score disk event result old new
as_run {D} score disk Needs event own fails (Ok done) old new it = record {
  events = it.events;
  outs = it.outs;
  own = are_own score disk Needs own it.events it.outs old it.mid it.works;
  runs = subst (λ (k : CoreState D). Runs score disk it.events it.outs old k) (sym it.ends) (works_run score disk Needs it.events it.outs old it.mid it.works);
  tells = none_failed score disk Needs it.events it.outs old it.mid it.works;
  failed = λ why is. absurd (cc);
}
as_run {D} score disk Needs event own fails (Err why) old new it =
    let run = works_run score disk Needs it.events it.outs old it.mid it.works in
    let many = as_many score disk it.events it.outs old it.mid run in
    let last : it.ends.event ≡ event = fails it.ends.event why it.mid new it.ends.needed it.ends.steps in
    record {
      events = it.events ++ it.ends.event ∷ [];
      outs = it.outs ++ Failed why ∷ [];
      own = recursion_append IsOwnWork it.events (it.ends.event ∷ []) (are_own score disk Needs own it.events it.outs old it.mid it.works) (own it.ends.event it.mid it.ends.needed, tt);
      runs = one_more_event score disk it.events it.outs it.ends.event (Failed why) old it.mid new run it.ends.steps;
      tells = failure_then it.outs (Failed why ∷ []) ∙ ap (λ (o : Option Why). option_or o (Some why)) (none_failed score disk Needs it.events it.outs old it.mid it.works);
      failed = λ w is. failed_right event it.events (it.ends.event ∷ []) it.outs (Failed why ∷ []) many
          (record { at = 0; why = why; event_is = ap Some last; out_is = refl });
    }

-- ---- shards

pub files_are_own : {D : Type 0} (shard : ℕ) → AreOwn (FilesEntries {D = D} shard)
files_are_own shard event k needed = ⊎_elim (λ begins. subst (λ (e : Event). IsOwnWork e) (sym begins) tt) (λ goes. subst (λ (e : Event). IsOwnWork e) (sym goes) tt) needed

files_fail : {D : Type 0} (score : List ℕ → List ℕ) (disk : DiskOf D) (shard : ℕ) → FailsAs score disk (FilesEntries {D = D} shard) (FileAdvance shard)
files_fail {D} score disk shard event why old new needed step = ⊎_elim
    (λ begins. absurd (none (subst (λ (e : Event). Steps score disk e (Failed why) old new) begins step)))
    (λ goes. goes) needed
  where
    none : Steps score disk (FileBegin shard) (Failed why) old new → ⊥
    none s = s.does.changes

-- a piece of a shard's work leaves all but the shard
record KeepsOthers {D : Type 0} (shard : ℕ) (old new : CoreState D) : Type 0 where
  same : new ≡ record old { shards = new.shards }
  others : (i : ℕ) → i ≢ shard → slice_get new.shards i ≡ slice_get old.shards i

others_then : {D : Type 0} (shard : ℕ) (old mid new : CoreState D) → KeepsOthers shard old mid → KeepsOthers shard mid new → KeepsOthers shard old new
others_then {D} shard old mid new a b = record {
  same = b.same ∙ ap (λ (k : CoreState D). record k { shards = new.shards }) a.same;
  others = λ i other. b.others i other ∙ a.others i other;
}

piece_keeps : {D : Type 0} (score : List ℕ → List ℕ) (disk : DiskOf D) (shard : ℕ) (event : Event) (out : Out) (old new : CoreState D) → FilesEntries shard event old → Steps score disk event out old new
    → KeepsOthers shard old new
piece_keeps {D} score disk shard event out old new needed step = ⊎_elim
    (λ begins. let it : Steps score disk (FileBegin shard) out old new = subst (λ (e : Event). Steps score disk e out old new) begins step in
    record { same = by_same it.does.after it.does.same; others = same_others shard old new _ it.does })
    (λ goes. let it : Steps score disk (FileAdvance shard) out old new = subst (λ (e : Event). Steps score disk e out old new) goes step in
    record { same = by_same it.does.after it.does.same; others = same_others shard old new _ it.does })
    needed
  where
    by_same : (after : ShardState D) → new ≡ record old { shards = slice_set old.shards shard after } → new ≡ record old { shards = new.shards }
    by_same after is = is ∙ ap (λ (ss : List (ShardState D)). record old { shards = ss }) (sym (ap (λ (k : CoreState D). k.shards) is))

works_keep : {D : Type 0} (score : List ℕ → List ℕ) (disk : DiskOf D) (shard : ℕ) (events : List Event) (outs : List Out) (old new : CoreState D) → WorksInPieces score disk (FilesEntries shard) events outs old new
    → KeepsOthers shard old new
works_keep {D} score disk shard [] [] old new same = subst (λ (k : CoreState D). KeepsOthers shard old k) (sym same) (record { same = refl; others = λ i other. refl })
works_keep score disk shard (event ∷ events) (out ∷ outs) old new it =
    others_then shard old it.0 new (piece_keeps score disk shard event out old it.0 it.1 it.3) (works_keep score disk shard events outs it.0 new it.4)
works_keep score disk shard [] (out ∷ outs) old new it = absurd it
works_keep score disk shard (event ∷ events) [] old new it = absurd it

file_keeps : {D : Type 0} (score : List ℕ → List ℕ) (disk : DiskOf D) (shard : ℕ) (result : Result (Unit {0}) Why) (old new : CoreState D) → DoesWork score disk (FilesEntries shard) result old new → KeepsOthers shard old new
file_keeps {D} score disk shard (Ok done) old new it = subst (λ (k : CoreState D). KeepsOthers shard old k) (sym it.ends) (works_keep score disk shard it.events it.outs old it.mid it.works)
file_keeps score disk shard (Err why) old new it =
    others_then shard old it.mid new (works_keep score disk shard it.events it.outs old it.mid it.works) (piece_keeps score disk shard it.ends.event (Failed why) it.mid new it.ends.needed it.ends.steps)

-- one shard more
pub one_shard_more : {D : Type 0} (score : List ℕ → List ℕ) (disk : DiskOf D) (shard : ℕ) (all filed : Result (Unit {0}) Why) (old mid new : CoreState D)
    → FilesAll score disk shard all old mid → DoesWork score disk (FilesEntries shard) filed mid new → ((done : Unit {0}) → filed ≡ Ok done → HasFiled shard new)
    → FilesAll score disk (shard + 1) (first_of all filed) old new
one_shard_more {D} score disk shard all filed old mid new a works has =
    let b = as_run score disk (FilesEntries shard) (FileAdvance shard) (files_are_own shard) (files_fail score disk shard) filed mid new works in
    let keeps = file_keeps score disk shard filed mid new works in
    let many = as_many score disk a.events a.outs old mid a.runs in
    let durable : new.log.durable ≡ mid.log.durable = ap (λ (k : CoreState D). k.log.durable) keeps.same in
    record {
      events = a.events ++ b.events;
      outs = a.outs ++ b.outs;
      own = All-from_recursion IsOwnWork (a.events ++ b.events) (recursion_append IsOwnWork a.events b.events (recursion_from_All IsOwnWork a.events a.own) b.own);
      runs = runs_then score disk a.events b.events a.outs b.outs old mid new a.runs b.runs;
      same = keeps.same ∙ ap (λ (k : CoreState D). record k { shards = new.shards }) a.same;
      shards = λ i s within at well. ⊎_elim
          (λ before.
          let other : i ≢ shard = λ e. omega (arith, before, e) in
          subst (λ (n : ℕ). IsShardFiled n s) (sym durable)
          (a.shards i s before (sym (keeps.others i other) ∙ at) (λ failed. well (failed_left (FileAdvance i) a.events b.events a.outs b.outs failed))))
          (λ last.
          let e : i ≡ shard = omega (arith, within, last) in
          filed_well filed refl b (subst (λ (n : ℕ). slice_get new.shards n ≡ Some s) e at)
          (λ failed. well (subst (λ (n : ℕ). EventHasFailed (FileAdvance n) (a.events ++ b.events) (a.outs ++ b.outs)) (sym e) (failed_right (FileAdvance shard) a.events b.events a.outs b.outs many failed))))
          (cases_lt i shard);
      tells = tells_then all filed a.outs b.outs a.tells b.tells;
    }
  where
    filed_well : (r : Result (Unit {0}) Why) → filed ≡ r → (b : AsRun score disk (FileAdvance shard) filed mid new) → {s : ShardState D} → slice_get new.shards shard ≡ Some s
        → ¬ EventHasFailed (FileAdvance shard) b.events b.outs → IsShardFiled new.log.durable s
    filed_well (Err why) is b {s} at well = absurd (well (b.failed why is))
    filed_well (Ok done) is b {s} at well =
        let it = has done is in
        subst (λ (t : ShardState D). IsShardFiled new.log.durable t) (same_Some it.state s (sym it.at ∙ at)) it.filed
