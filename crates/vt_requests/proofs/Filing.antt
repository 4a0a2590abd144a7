-- How a shard's writeback goes on, and how much is left of it.
use Rattle.std.proofs.Common.{◌≡◌, ◌≢◌, ◌⊎◌, ⊎_elim, inl, inr, ◌+◌, ◌*◌, ◌<◌, ◌≤◌, ℕ, Bool, true, false, cond, List, ◌++◌, length, filter, get_or, Option, Some, None, Ok, refl, sym, ◌∙◌, ap, subst, arith, length-append}
use Rattle.std.specs.Prelude.{IsSome, max, nat_lt, ◌||◌}
use Rattle.std.specs.List.{list_any}
use Rattle.std.proofs.Math.Nat.{mul-le-mul_left, mul-le-mul_right, suc-mul}
use Rattle.std.proofs.lemmas.Bool.{cases_Bool, ltb-true, ltb-false, lt-ltb, le-ltb}
use Rattle.std.proofs.lemmas.List.{length-map}
use Rattle.std.proofs.lemmas.List.Elements.{Contains-get_or}
use Rattle.std.proofs.lemmas.List.Folds.{list_any_at, list_any_none}
use Rattle.std.proofs.lemmas.List.Sums.{count_by-le-length, length-filter}
use Rattle.std.proofs.lemmas.List.Sorted.{length_permutation}
use Rattle.vt_base.specs.declared.place.Info.{Info}
use Rattle.vt_disk.specs.Members.{DiskOf}
use Rattle.vt_icache.specs.Index.{entries_below, entry_of, is_below}
use Rattle.vt_isect.specs.declared.groups.Member.{Member}
use Rattle.vt_isect.specs.declared.head.Head.{Head}
use Rattle.vt_isect.specs.declared.phase.Phase.{Phase}
use Rattle.vt_isect.specs.declared.phase.Phase.TheVariants.{Rest, ReadSelector, ReadFrame, WriteFrame, SyncFrames, WriteSelector, SyncSelectors, ChangeHead}
use Rattle.vt_isect.specs.Section.{SectionState, entries_of}
use Rattle.vt_isect.specs.Writeback.{BeginsBehind, calls_left, most_calls}
use Rattle.vt_isect.proofs.IsRead.{read_phase}
use Rattle.vt_twin.specs.declared.step.Step.{Step}
use Rattle.vt_twin.specs.declared.step.Step.TheVariants.{More, Done}
use Rattle.vt_log.specs.Log.{LogState}
use Rattle.vt_log.specs.Owed.{owed}
use Rattle.vt_shard.specs.Shard.{HasBelow, ShardState}
use Rattle.vt_shard.specs.Writeback.{HasWork, ShardTakesStep, without_list}
use Rattle.vt_core.specs.declared.event.Out.TheVariants.{Moved}
use Rattle.vt_core.specs.Work.{AdvancesWriteback, BeginsWriteback}
use Rattle.vt_recover.proofs.WritingBack.{goes_on}
use Rattle.vt_core.proofs.ShardCall.{list_head, list_next}
use Rattle.vt_requests.specs.Working.{has_work, left_in, left_with, most_left}
use Rattle.vt_requests.proofs.Pieces.{shard_moved}
use Rattle.vt_model.proofs.Lists.{both_false}

-- ---- a step of a writeback

list_phase : {D : Type 0} (p : Phase) (t : SectionState D) → (without_list p t).phase ≡ t.phase
list_phase Rest t = refl
list_phase ReadSelector t = refl
list_phase (ReadFrame s) t = refl
list_phase (WriteFrame s) t = refl
list_phase SyncFrames t = refl
list_phase (WriteSelector j) t = refl
list_phase SyncSelectors t = refl
list_phase ChangeHead t = refl

-- What is known of a shard behind a call that went well.
pub record Advanced {D : Type 0} (before after : ShardState D) : Type 0 where
  pub below : ℕ
  pub under : before.writeback ≡ Some below
  pub left : calls_left after.section < calls_left before.section
  pub fewer : length after.index.dirty ≤ length before.index.dirty
  pub ends : ((after.writeback ≡ Some below) × (after.section.next ≡ before.section.next))
      ⊎ ((after.writeback ≡ None) × ¬ HasBelow below after.index.dirty × (after.section.head ≡ before.section.next))

fewer_dirty : {D : Type 0} (before after : ShardState D) (step : Step) (below : ℕ) → before.writeback ≡ Some below → ShardTakesStep (Ok step) before after → length after.index.dirty ≤ length before.index.dirty
fewer_dirty before after step below is takes =
    let it = takes.settles below is in
    omega (arith, length_permutation before.index.dirty (it.settled ++ after.index.dirty) it.dirty, length-append it.settled after.index.dirty)

advanced_by : {D : Type 0} (before after : ShardState D) (step : Step) (below : ℕ) → before.writeback ≡ Some below → ShardTakesStep (Ok step) before after → Advanced before after
advanced_by before after More below is takes =
    let it = takes.advances.section in
    let phase : after.section.phase ≡ it.0.phase = ap (λ (t : SectionState _). t.phase) it.2 ∙ list_phase it.0.phase it.0 in
    let runs : after.section.phase ≢ Rest = λ rest. goes_on before.section.phase before.section it.0 it.1.2 (sym phase ∙ rest) in
    record {
      below = below;
      under = is;
      left = takes.left;
      fewer = fewer_dirty before after More below is takes;
      ends = inl (takes.advances.goes_on runs ∙ is, ap (λ (t : SectionState _). t.next) it.2 ∙ list_next it.0.phase it.0 ∙ it.1.0.next_is);
    }
advanced_by before after Done below is takes =
    let it = takes.advances.section in
    let phase : after.section.phase ≡ Rest = ap (λ (t : SectionState _). t.phase) it.2 ∙ list_phase it.0.phase it.0 ∙ it.1.2.phase in
    record {
      below = below;
      under = is;
      left = takes.left;
      fewer = fewer_dirty before after Done below is takes;
      ends = inr (takes.advances.ends phase, takes.filed below refl is, ap (λ (t : SectionState _). t.head) it.2 ∙ list_head it.0.phase it.0 ∙ it.1.2.head_is);
    }

some_is : (o : Option ℕ) → IsSome o → (n : ℕ) × (o ≡ Some n)
some_is None is = absurd (cc)
some_is (Some n) is = (n, refl)

pub advanced : {D : Type 0} (disk : DiskOf D) (before after : ShardState D) → AdvancesWriteback disk Moved before after → Advanced before after
advanced disk before after it =
    let moved = shard_moved disk before after it in
    let below = some_is before.writeback moved.0 in
    advanced_by before after moved.1.0 below.0 below.1 moved.1.1

-- ---- whether there is something to write back

some_below : (below : ℕ) (dirty : List Info) → HasBelow below dirty → list_any (λ info. nat_lt info.number below) dirty ≡ true
some_below below dirty (info, has, low) =
    list_any_at (λ (x : Info). nat_lt x.number below) dirty has.0 info has.1 (ap (λ (x : Info). nat_lt x.number below) has.2 ∙ lt-ltb info.number below low)

none_below : (below : ℕ) (dirty : List Info) → ¬ HasBelow below dirty → list_any (λ info. nat_lt info.number below) dirty ≡ false
none_below below dirty none = list_any_none (λ (x : Info). nat_lt x.number below) dirty
    (λ k d lt. ⊎_elim
    (λ yes. absurd (none (get_or dirty k d, Contains-get_or dirty k d lt, ltb-true (get_or dirty k d).number below yes)))
    (λ no. no) (cases_Bool (nat_lt (get_or dirty k d).number below)))

either_true : (a b : Bool) → (a ≡ true) ⊎ (b ≡ true) → (a || b) ≡ true
either_true true b is = refl
either_true false true is = refl
either_true false false is = ⊎_elim (λ e. e) (λ e. e) is

pub there_is_work : {D : Type 0} (durable : ℕ) (s : ShardState D) → HasWork durable s → has_work durable s ≡ true
there_is_work durable s work = either_true (list_any (λ info. nat_lt info.number durable) s.index.dirty) (nat_lt s.section.head.mark durable)
    (⊎_elim (λ below. inl (some_below durable s.index.dirty below)) (λ mark. inr (lt-ltb s.section.head.mark durable mark)) work)

pub there_is_none : {D : Type 0} (durable : ℕ) (s : ShardState D) → ¬ HasBelow durable s.index.dirty → durable ≤ s.section.head.mark → has_work durable s ≡ false
there_is_none durable s none mark =
    ap (λ (b : Bool). b || nat_lt s.section.head.mark durable) (none_below durable s.index.dirty none) ∙ le-ltb s.section.head.mark durable mark

pub no_work_from : {D : Type 0} (durable : ℕ) (s : ShardState D) → ¬ HasBelow durable s.index.dirty → durable ≤ s.section.head.mark → ¬ HasWork durable s
no_work_from durable s none mark work = ⊎_elim none (λ low. omega (arith, low, mark)) work

-- ---- how much is left

times_more : (c i j : ℕ) → i ≤ j → c * i ≤ c * j
times_more c i j le = mul-le-mul_left c le

times : (a b m n x : ℕ) → m ≤ n → x ≤ n → a < b → a * (m + 1) + x < b * (n + 1)
times a b m n x fewer most less =
    let first : (a + 1) * (n + 1) ≤ b * (n + 1) = mul-le-mul_right {m = a + 1} {n = b} (n + 1) (omega (arith, less)) in
    let second : a * (m + 1) ≤ a * (n + 1) = times_more a (m + 1) (n + 1) (omega (arith, fewer)) in
    let split : (a + 1) * (n + 1) ≡ a * (n + 1) + (n + 1) = one_more_time a (n + 1) in
    omega (arith, first, second, split, most)
  where
    one_more_time : (c i : ℕ) → (c + 1) * i ≡ c * i + i
    one_more_time c i = grind (arith, suc-mul)

same_times : (a m n x y : ℕ) → m ≤ n → x < y → a * (m + 1) + x < a * (n + 1) + y
same_times a m n x y fewer less =
    let second : a * (m + 1) ≤ a * (n + 1) = times_more a (m + 1) (n + 1) (omega (arith, fewer)) in
    omega (arith, second, less)

less_by : (calls calls' most most' : ℕ) (again : Bool) → calls' < calls → most' ≤ most → calls' + cond again most' 0 < calls + cond again most 0
less_by calls calls' most most' true less fewer = omega (arith, less, fewer)
less_by calls calls' most most' false less fewer = omega (arith, less)

ended_by : (calls most most' : ℕ) (again : Bool) (work : Bool) → 0 < calls → most' ≤ most → (again ≡ false → work ≡ false) → cond work most' 0 < calls + cond again most 0
ended_by calls most most' true true some fewer ends = omega (arith, some, fewer)
ended_by calls most most' true false some fewer ends = omega (arith, some)
ended_by calls most most' false true some fewer ends = absurd (let no = ends refl in cc)
ended_by calls most most' false false some fewer ends = omega (arith, some)

pub most_fewer : {D : Type 0} (before after : ShardState D) → length after.index.dirty ≤ length before.index.dirty → most_left after ≤ most_left before
most_fewer before after fewer = omega (arith, fewer)

pub advance_less : {D : Type 0} (durable : ℕ) (before after : ShardState D) → Advanced before after → left_in durable after after.writeback < left_in durable before before.writeback
advance_less {D} durable before after it =
    subst (λ (o : Option ℕ). left_in durable after after.writeback < left_in durable before o) (sym it.under)
    (⊎_elim
    (λ more. subst (λ (o : Option ℕ). left_in durable after o < left_in durable before (Some it.below)) (sym more.0)
    (subst (λ (n : Head). calls_left after.section + cond (nat_lt it.below durable || nat_lt n.mark durable) (most_left after) 0 < left_in durable before (Some it.below)) (sym more.1)
    (less_by (calls_left before.section) (calls_left after.section) (most_left before) (most_left after) (nat_lt it.below durable || nat_lt before.section.next.mark durable)
    it.left (most_fewer before after it.fewer))))
    (λ done. subst (λ (o : Option ℕ). left_in durable after o < left_in durable before (Some it.below)) (sym done.0)
    (ended_by (calls_left before.section) (most_left before) (most_left after) (nat_lt it.below durable || nat_lt before.section.next.mark durable) (has_work durable after)
    (omega (arith, it.left)) (most_fewer before after it.fewer)
    (λ no. let each = both_false (nat_lt it.below durable) (nat_lt before.section.next.mark durable) no in
    let low : durable ≤ it.below = ltb-false it.below durable each.0 in
    let mark : durable ≤ before.section.next.mark = ltb-false before.section.next.mark durable each.1 in
    there_is_none durable after
    (λ below. done.1 (below.0, below.1, omega (arith, below.2, low)))
    (omega (arith, mark, ap (λ (h : Head). h.mark) done.2)))))
    it.ends)

-- a writeback begins
begun_left : {D : Type 0} (t : SectionState D) (many : ℕ) → length (entries_of t) ≤ many → BeginsBehind 0 t → calls_left t < 6 * many + 5
begun_left t many few begins = ⊎_elim
    (λ group. read_phase (λ p. most_calls p t < 6 * many + 5) (omega (arith, few, group.0.2, group.0.3.within, ap (λ (l : List Member). length l) group.2))
    (λ s. omega (arith, few, group.0.2, group.0.3.within, ap (λ (l : List Member). length l) group.2)) t.phase group.0.0)
    (λ head. subst (λ (p : Phase). most_calls p t < 6 * many + 5) (sym head.0) (omega arith))
    begins

pub begin_less : {D : Type 0} (durable : ℕ) (before after : ShardState D) → BeginsWriteback durable Moved before after → left_in durable after after.writeback < left_in durable before before.writeback
begin_less {D} durable before after it =
    let begins = it.2 in
    let mark : ℕ = max before.section.head.mark durable in
    let under : after.writeback ≡ Some durable = ap (λ (s : ShardState D). s.writeback) begins.shard in
    let next : after.section.next.mark ≡ mark = ap (λ (t : SectionState D). t.next.mark) begins.section in
    let many : length (entries_of after.section) ≤ length before.index.dirty =
    omega (
      arith,
      length_permutation (entries_below durable before.index.dirty) (entries_of after.section) begins.entries,
      length-map (filter (is_below durable) before.index.dirty) entry_of,
      length-filter (is_below durable) before.index.dirty,
      count_by-le-length (is_below durable) before.index.dirty,
    ) in
    let again : (nat_lt durable durable || nat_lt after.section.next.mark durable) ≡ false =
    ap (λ (b : Bool). b || nat_lt after.section.next.mark durable) (le-ltb durable durable (omega arith)) ∙ le-ltb after.section.next.mark durable (omega (arith, next)) in
    subst (λ (o : Option ℕ). left_in durable after after.writeback < left_in durable before o) (sym it.0)
    (subst (λ (b : Bool). left_in durable after after.writeback < cond b (most_left before) 0) (sym (there_is_work durable before it.1))
    (subst (λ (o : Option ℕ). left_in durable after o < most_left before) (sym under)
    (subst (λ (b : Bool). calls_left after.section + cond b (most_left after) 0 < most_left before) (sym again)
    (omega (arith, begun_left after.section (length before.index.dirty) many begins.begins)))))

pub begin_fewer : {D : Type 0} (durable : ℕ) (before after : ShardState D) → BeginsWriteback durable Moved before after → length after.index.dirty ≤ length before.index.dirty
begin_fewer {D} durable before after it = omega (arith, ap (λ (s : ShardState D). length s.index.dirty) it.2.shard)

-- ---- and with the log

pub shard_less : {D : Type 0} (log : LogState D) (before after : ShardState D) → length after.index.dirty ≤ length before.index.dirty
    → left_in log.durable after after.writeback < left_in log.durable before before.writeback → left_with log after < left_with log before
shard_less log before after fewer less = same_times (owed log) (most_left after) (most_left before) (left_in log.durable after after.writeback) (left_in log.durable before before.writeback)
    (most_fewer before after fewer) less

none_left : {D : Type 0} (durable : ℕ) (s : ShardState D) (b : Bool) → cond b (most_left s) 0 ≤ most_left s
none_left durable s true = omega arith
none_left durable s false = omega arith

pub log_less : {D : Type 0} (old new : LogState D) (s : ShardState D) → s.writeback ≡ None → ¬ HasWork old.durable s → owed new < owed old → left_with new s < left_with old s
log_less old new s rests none less =
    let now : left_in new.durable s s.writeback ≤ most_left s = subst (λ (o : Option ℕ). left_in new.durable s o ≤ most_left s) (sym rests) (none_left new.durable s (has_work new.durable s)) in
    let all = times (owed new) (owed old) (most_left s) (most_left s) (left_in new.durable s s.writeback) (omega arith) now less in
    omega (arith, all)
