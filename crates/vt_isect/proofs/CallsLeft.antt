-- How many device calls are left.
use Rattle.std.proofs.Common.{◌≡◌, ⊎_elim, ℕ, ◌+◌, ◌-◌, ◌*◌, ◌%◌, ◌<◌, ◌≤◌, List, [], ◌∷◌, length, length-append, Option, Some, None, Result, Ok, Err, refl, ap, arith}
use Rattle.std.specs.Prelude.{IfErr, OnOk}
use Rattle.std.specs.Option.{option_map_or}
use Rattle.vt_twin.specs.Twin.{FrameChange, TwinState, twin_calls_made}
use Rattle.vt_twin.specs.declared.step.Step.{Step}
use Rattle.vt_twin.specs.declared.step.Step.TheVariants.{More, Done}
use Rattle.vt_isect.specs.declared.error.ShardErr.{ShardErr}
use Rattle.vt_isect.specs.declared.error.ShardErr.TheVariants.{Fault, Damaged, Stopped}
use Rattle.vt_isect.specs.declared.groups.Member.{Member}
use Rattle.vt_isect.specs.declared.phase.Phase.{Phase}
use Rattle.vt_isect.specs.declared.phase.Phase.TheVariants.{Rest, ReadSelector, ReadFrame, WriteFrame, SyncFrames, WriteSelector, SyncSelectors, ChangeHead}
use Rattle.vt_isect.specs.Entries.{EntriesState, listed_entries}
use Rattle.vt_isect.specs.Section.{SectionState, HasHeadFrame, IsLent}
use Rattle.vt_isect.specs.Writeback.{SectionAdvances, BeginsBehind, BeginsBucket, BeginsGroup, BeginsHead, SectionGoesOn, NextCallReads, NextPhase, SameGroup, calls_left, later, most_calls}
use Rattle.vt_isect.proofs.IsRead.{read_phase}

-- what is left where this is done next
left_as : {D : Type 0} (t : SectionState D) (q : Phase) → t.phase ≡ q → calls_left t ≡ most_calls q t
left_as t q is = ap (λ (p : Phase). most_calls p t) is

lent_made : (t : TwinState) → IsLent t.change → twin_calls_made t < 4
lent_made t lent = of t.change lent
  where
    of : (o : Option FrameChange) → IsLent o → option_map_or (λ it. it.made) o 0 < 4
    of None lent = absurd lent
    of (Some it) lent = lent.1

-- a change of the head under way has made fewer than four
pub head_made : {D : Type 0} (t : SectionState D) (buffer : Option (List ℕ)) → HasHeadFrame t buffer → t.phase ≡ ChangeHead → twin_calls_made t.head_twin < 4
head_made t buffer frame is = lent_made t.head_twin (frame.lent is)

-- as many entries stand behind it
same_later : {D : Type 0} (old new : SectionState D) → SectionGoesOn old new → SameGroup old new
    → later new ≡ later old
same_later old new goes same =
    λ i. length (listed_entries (goes.section.entries i))
    - same.begun i

-- what is left where a bucket is read next
read_left : {D : Type 0} (t : SectionState D) → NextCallReads t.phase → calls_left t ≤ 6 * later t + length t.group + 10
read_left t reads = read_phase (λ p. most_calls p t ≤ 6 * later t + length t.group + 10) (omega arith) (λ s. omega arith) t.phase reads

-- behind a bucket that is written there are fewer
bucket_lower : {D : Type 0} (old new : SectionState D) (more : ℕ) → SectionGoesOn old new → BeginsBucket old.begun new → length new.group ≡ more
    → calls_left new + 6 ≤ 6 * later old + more + 10
bucket_lower old new more goes here many =
    let list = ap (λ (o : Option EntriesState). length (listed_entries o)) goes.section.entries in
    let left = read_left new here.0 in
    let from = here.1 in
    let some = here.2 in
    let within = here.3.within in
    omega (arith, left, list, from, some, within, many)

-- behind a group that is written there are fewer, or the head is left
begins_lower : {D : Type 0} (old new : SectionState D) → SectionGoesOn old new
    → BeginsBehind old.begun new → calls_left new < 6 * later old + 5
begins_lower old new goes begins = ⊎_elim
    (λ (here : BeginsGroup old.begun new).
    let lower = bucket_lower old new 0 goes here.0 (ap (λ (l : List Member). length l) here.2) in
    omega (arith, lower))
    (λ (there : BeginsHead old.begun new).
    let left = left_as new ChangeHead there.0 in
    let none = there.4 in
    omega (arith, left, none))
    begins

-- a step leaves fewer
more_lower : {D : Type 0} (old new : SectionState D) (q : Phase) → SectionGoesOn old new
    → NextPhase q old new → ((j : ℕ) → q ≡ WriteSelector j → j < length old.group)
    → (q ≡ ChangeHead → twin_calls_made old.head_twin < 4) → calls_left new < most_calls q old
more_lower old new Rest goes next members head = absurd next
more_lower old new ReadSelector goes next members head =
    let left = left_as new (ReadFrame next.0.0) next.0.1 in
    let same = same_later old new goes next.1 in
    omega (arith, left, same, ap (λ (l : List Member). length l) next.1.group)
more_lower old new (ReadFrame s) goes next members head =
    let left = left_as new (WriteFrame (s % 2)) next.0 in
    let same = same_later old new goes next.1 in
    omega (arith, left, same, ap (λ (l : List Member). length l) next.1.group)
more_lower old new (WriteFrame s) goes next members head =
    let one : Member = record { bucket = old.bucket; current = s } in
    let many : length new.group ≡ length old.group + 1 = omega (arith, ap (λ (l : List Member). length l) next.0.group, length-append old.group (one ∷ [])) in
    ⊎_elim
    (λ here.
    let lower = bucket_lower old new (length old.group + 1) goes here.1 many in
    omega (arith, lower))
    (λ there.
    let left = left_as new SyncFrames there.0 in
    let list = ap (λ (o : Option EntriesState). length (listed_entries o)) goes.section.entries in
    omega (arith, left, list, there.2, many))
    next.1
more_lower old new SyncFrames goes next members head =
    let left = left_as new (WriteSelector 0) next.0 in
    let same = same_later old new goes next.1 in
    omega (arith, left, same, ap (λ (l : List Member). length l) next.1.group)
more_lower old new (WriteSelector j) goes next members head =
    let same = same_later old new goes next.0 in
    let many = ap (λ (l : List Member). length l) next.0.group in
    let at = members j refl in
    ⊎_elim
    (λ on.
    let left = left_as new (WriteSelector (j + 1)) on.1 in
    omega (arith, left, same, many, on.0))
    (λ last.
    let left = left_as new SyncSelectors last.1 in
    omega (arith, left, same, many, at))
    next.1
more_lower old new SyncSelectors goes next members head = begins_lower old new goes next
more_lower old new ChangeHead goes next members head =
    let left = left_as new ChangeHead next.1 in
    let one = ap twin_calls_made next.2 in
    let low = head refl in
    omega (arith, left, one, low)

pub advance_lower : {D : Type 0} (result : Result Step ShardErr) (old new : SectionState D)
    → SectionAdvances result old new → ((j : ℕ) → old.phase ≡ WriteSelector j → j < length old.group)
    → (old.phase ≡ ChangeHead → twin_calls_made old.head_twin < 4)
    → OnOk result (calls_left new < calls_left old)
advance_lower (Ok More) old new step members head =
    more_lower old new old.phase step.0 step.2 members head
advance_lower (Ok Done) old new step members head =
    let left = left_as new Rest step.2.phase in
    let was = left_as old ChangeHead step.0 in
    let made = step.1 in
    omega (arith, left, was, made)
advance_lower (Err bad) old new step members head = tt

-- what begins
pub begun_left : {D : Type 0} (t : SectionState D) (entries : EntriesState) → BeginsBehind 0 t
    → t.entries ≡ Some entries → calls_left t ≤ 6 * length entries.items + 4
begun_left t entries begins is =
    let list = ap (λ (o : Option EntriesState). length (listed_entries o)) is in
    ⊎_elim
    (λ (here : BeginsGroup 0 t).
    let left = read_left t here.0.0 in
    let from = here.0.1 in
    let some = here.0.2 in
    let within = here.0.3.within in
    omega (arith, left, list, from, some, within, ap (λ (l : List Member). length l) here.2))
    (λ (there : BeginsHead 0 t).
    let left = left_as t ChangeHead there.0 in
    let none = there.4 in
    omega (arith, left, none))
    begins

pub none_left : {D : Type 0} (t : SectionState D) → t.phase ≡ Rest → calls_left t ≡ 0
none_left t is = left_as t Rest is

-- a step that gives up ends what was under way, or stops it
pub ends_none : {D : Type 0} (result : Result Step ShardErr) (old new : SectionState D) → SectionAdvances result old new
    → IfErr result (λ _. new.stopped ≡ None → calls_left new ≡ 0)
ends_none (Ok step) old new it = tt
ends_none (Err Fault) old new it = λ none. ⊎_elim
    (λ end. none_left new end.1.phase)
    (λ stop. absurd (let e = stop.4 in cc))
    it
ends_none (Err (Damaged b want found)) old new it = λ none. none_left new it.1.phase
ends_none (Err (Stopped n)) old new it = λ none. absurd (let e = ap (λ x. x.stopped) it.1 in let was = it.0 in cc)
