-- How many calls are left until a filter is saved.
use Rattle.std.proofs.Common.{◌≡◌, ⊎_elim, ◌+◌, ◌-◌, ◌<◌, ◌≤◌, ℕ, Bool, true, false, cond, Option, Some, None, Result, Ok, Err, refl, sym, ◌∙◌, ap, subst, arith}
use Rattle.std.proofs.lemmas.Bool.{cases_Bool, cases_lt, eqb-true, eq-eqb}
use Rattle.std.specs.Option.{option_map_or}
use Rattle.std.specs.Prelude.{IfOk, IsSome, ◌==◌, ◌↔◌}
use Rattle.vt_bloom.specs.Bits.{Filter}
use Rattle.vt_bloom.specs.Bloom.{BloomState, BloomAdvances}
use Rattle.vt_twin.specs.Twin.{FrameChange, TwinState, twin_calls_made}
use Rattle.vt_twin.specs.declared.step.Step.{Step}
use Rattle.vt_twin.specs.declared.step.Step.TheVariants.{More, Done}
use Rattle.vt_disk.specs.declared.call.CallError.{CallError}
use Rattle.vt_disk.specs.declared.call.CallError.TheVariants as call_error
use Rattle.vt_core.specs.declared.event.Out.{Out}
use Rattle.vt_core.specs.declared.event.Out.TheVariants.{Moved, Nothing}
use Rattle.vt_core.specs.Core.{CoreState}
use Rattle.vt_core.specs.Work.{IsSaveBegun, IsSaved, Saves, SavesFilter, SavesIn, SavesOne, out_of_save}
use Rattle.vt_requests.proofs.Pieces.{IsWorkOut}

-- the calls of the save under way, and of one more where that leaves the filter unsaved
abbrev pub save_left : {D : Type 0} → (durable : ℕ) → BloomState D → Option FrameChange → ℕ
save_left durable b None = cond (b.mark == durable) 0 4
save_left durable b (Some change) = (4 - change.made) + cond (b.next == durable) 0 5

abbrev pub filter_left : {D : Type 0} → (durable : ℕ) → Option (BloomState D) → ℕ
filter_left durable None = 0
filter_left durable (Some b) = save_left durable b b.twin.change

-- ---- what a call gives

save_out : (answer : Result Step CallError) → IsWorkOut (out_of_save answer)
save_out (Ok step) = tt
save_out (Err call_error.Fault) = tt
save_out (Err (call_error.Stopped call)) = tt

pub filter_gives : {D : Type 0} (bits : Filter) (durable : ℕ) (out : Out) (old new : Option (BloomState D)) → SavesIn bits durable out old new → IsWorkOut out
filter_gives bits durable out None new it = subst IsWorkOut (sym it.0) tt
filter_gives bits durable out (Some b) new it = ⊎_elim
    (λ rests. subst IsWorkOut (sym rests.1) tt)
    (λ s. subst IsWorkOut (sym s.out_is) (save_out s.answer)) it.2

not_nothing : (answer : Result Step CallError) → Nothing ≡ out_of_save answer → ⊥
not_nothing (Ok step) is = cc
not_nothing (Err call_error.Fault) is = cc
not_nothing (Err (call_error.Stopped call)) is = cc

-- where nothing was done the filter is saved
pub filter_idle : {D : Type 0} (bits : Filter) (durable : ℕ) (old new : Option (BloomState D)) → SavesIn bits durable Nothing old new → (b : BloomState D) → new ≡ Some b → IsSaved durable b
filter_idle bits durable None new it b is = absurd (let no = sym it.1 ∙ is in cc)
filter_idle {D} bits durable (Some before) new it b is = ⊎_elim
    (λ rests. subst (λ (x : BloomState D). IsSaved durable x) (sym rests.2 ∙ same) rests.0)
    (λ s. absurd (not_nothing s.answer s.out_is)) it.2
  where
    same : it.0 ≡ b
    same = let both : Some it.0 ≡ Some b = sym it.1 ∙ is in cc

-- ---- a call that went well leaves less

abbrev LeavesLess : {D : Type 0} → (durable : ℕ) → (old new : BloomState D) → Type 0
LeavesLess durable old new = save_left durable new new.twin.change < save_left durable old old.twin.change

eqs : (a b : ℕ) → (a ≡ b → ⊥) → (a == b) ≡ false
eqs a b other = ⊎_elim (λ same. absurd (other (eqb-true a b same))) (λ no. no) (cases_Bool (a == b))

few : (m : ℕ) → m ≤ 3 → (m ≡ 3 → ⊥) → m < 3
few m most other = ⊎_elim (λ lt. lt) (λ ge. absurd (other (omega (arith, most, ge)))) (cases_lt m 3)

-- of a save that is under way
more_less : {D : Type 0} (durable : ℕ) (old new : BloomState D) (change : FrameChange) → old.twin.change ≡ Some change → change.made ≤ 3 → (change.made ≡ 3 → ⊥)
    → BloomAdvances (Ok More) old new → LeavesLess durable old new
more_less {D} durable old new change is most other it =
    subst (λ (b : BloomState D). LeavesLess durable old b) (sym it)
    (subst (λ (o : Option FrameChange). (4 - (option_map_or (λ (c : FrameChange). c.made) o 0 + 1)) + cond (old.next == durable) 0 5 < save_left durable old o) (sym is)
    (omega (arith, few change.made most other)))

last_less : (m : ℕ) (b : Bool) → m ≡ 3 → cond b 0 4 < (4 - m) + cond b 0 5
last_less m true is = omega (arith, is)
last_less m false is = omega (arith, is)

done_less : {D : Type 0} (durable : ℕ) (old new : BloomState D) (change : FrameChange) → old.twin.change ≡ Some change → change.made ≡ 3 → BloomAdvances (Ok Done) old new → LeavesLess durable old new
done_less {D} durable old new change is last it =
    subst (λ (b : BloomState D). LeavesLess durable old b) (sym it)
    (subst (λ (o : Option FrameChange). cond (old.next == durable) 0 4 < save_left durable old o) (sym is) (last_less change.made (old.next == durable) last))

some_change : (o : Option FrameChange) → IsSome o → (c : FrameChange) × (o ≡ Some c)
some_change None is = absurd (cc)
some_change (Some c) is = (c, refl)

made_is : (t : TwinState) (c : FrameChange) → t.change ≡ Some c → twin_calls_made t ≡ c.made
made_is t c is = ap (λ (o : Option FrameChange). option_map_or (λ (it : FrameChange). it.made) o 0) is

module _ {D : Type 0} (bits : Filter) (durable : ℕ) (old begun new : BloomState D) (made : twin_calls_made begun.twin ≤ 3) (begins : IsSaveBegun bits durable old begun) where
  by_step : (step : Step) → ((step ≡ Done) ↔ (twin_calls_made begun.twin ≡ 3)) → BloomAdvances (Ok step) begun new → LeavesLess durable old new
  by_step More done it = ⊎_elim
      (λ was.
      let c = some_change old.twin.change was.0 in
      let same : begun.twin.change ≡ Some c.0 = ap (λ (b : BloomState D). b.twin.change) was.1 ∙ c.1 in
      let is : twin_calls_made begun.twin ≡ c.0.made = made_is begun.twin c.0 same in
      subst (λ (b : BloomState D). LeavesLess durable b new) was.1
      (more_less durable begun new c.0 same (omega (arith, made, is)) (λ e. let no : More ≡ Done = done.1 (is ∙ e) in cc) it))
      (λ fresh.
      let same : begun.twin.change ≡ Some _ = ap (λ (b : BloomState D). b.twin.change) fresh.2 in
      let next : begun.next ≡ durable = ap (λ (b : BloomState D). b.next) fresh.2 in
      let zero : twin_calls_made begun.twin ≡ 0 = made_is begun.twin _ same in
      subst (λ (b : BloomState D). LeavesLess durable old b) (sym it)
      (subst (λ (o : Option FrameChange). (4 - (twin_calls_made begun.twin + 1)) + cond (begun.next == durable) 0 5 < save_left durable old o) (sym fresh.0)
      (subst (λ (b : Bool). (4 - (twin_calls_made begun.twin + 1)) + cond b 0 5 < cond (old.mark == durable) 0 4) (sym (eq-eqb begun.next durable next))
      (subst (λ (b : Bool). (4 - (twin_calls_made begun.twin + 1)) + 0 < cond b 0 4) (sym (eqs old.mark durable fresh.1)) (omega (arith, zero))))))
      begins
  by_step Done done it = ⊎_elim
      (λ was.
      let c = some_change old.twin.change was.0 in
      let same : begun.twin.change ≡ Some c.0 = ap (λ (b : BloomState D). b.twin.change) was.1 ∙ c.1 in
      let is : twin_calls_made begun.twin ≡ c.0.made = made_is begun.twin c.0 same in
      subst (λ (b : BloomState D). LeavesLess durable b new) was.1 (done_less durable begun new c.0 same (sym is ∙ done.0 refl) it))
      (λ fresh.
      let same : begun.twin.change ≡ Some _ = ap (λ (b : BloomState D). b.twin.change) fresh.2 in
      let zero : twin_calls_made begun.twin ≡ 0 = made_is begun.twin _ same in
      absurd (omega (arith, zero, done.0 refl)))
      begins

by_answer : {D : Type 0} (bits : Filter) (durable : ℕ) (old new : BloomState D) → (s : Saves bits durable Moved old new) → (r : Result Step CallError) → Moved ≡ out_of_save r
    → IfOk r (λ step. (step ≡ Done) ↔ (twin_calls_made s.begun.twin ≡ 3)) → BloomAdvances r s.begun new → LeavesLess durable old new
by_answer bits durable old new s (Ok step) is done it = by_step bits durable old s.begun new s.made s.begins step done it
by_answer bits durable old new s (Err call_error.Fault) is done it = absurd (cc)
by_answer bits durable old new s (Err (call_error.Stopped call)) is done it = absurd (cc)

one_less : {D : Type 0} (bits : Filter) (durable : ℕ) (old new : BloomState D) → SavesOne bits durable Moved old new → LeavesLess durable old new
one_less bits durable old new it = ⊎_elim
    (λ rests. absurd (let no = rests.1 in cc))
    (λ s. by_answer bits durable old new s s.answer s.out_is s.done s.advances) it

filter_less : {D : Type 0} (bits : Filter) (durable : ℕ) (old new : Option (BloomState D)) → SavesIn bits durable Moved old new → filter_left durable new < filter_left durable old
filter_less bits durable None new it = absurd (let no = it.0 in cc)
filter_less {D} bits durable (Some before) new it =
    subst (λ (o : Option (BloomState D)). filter_left durable o < filter_left durable (Some before)) (sym it.1) (one_less bits durable before it.0 it.2)

pub saves_less : {D : Type 0} (old new : CoreState D) → SavesFilter Moved old new → filter_left new.log.durable new.bloom < filter_left old.log.durable old.bloom
saves_less {D} old new it =
    let durable : new.log.durable ≡ old.log.durable = ap (λ (k : CoreState D). k.log.durable) it.same in
    subst (λ (n : ℕ). filter_left n new.bloom < filter_left old.log.durable old.bloom) (sym durable) (filter_less old.bits old.log.durable old.bloom new.bloom it.saves)
