-- The saved filter's next device call.
use Rattle.std.proofs.Common.{◌≡◌, ◌≢◌, ◌⊎◌, ⊎_elim, inl, inr, ℕ, zero, suc, ◌+◌, ◌≤◌, List, [], ◌∷◌, ◌++◌, length, map, take, Option, Some, None, refl, sym, ◌∙◌, ap, subst, arith}
use Rattle.std.specs.Prelude.{IfOk, ◌↔◌, slice_get, IsTrue, IsSome, Result, Ok, Err}
use Rattle.std.specs.Option.{option_map, option_to_list}
use Rattle.std.proofs.lemmas.List.{length-map, length-take}
use Rattle.std.proofs.lemmas.Option.{same_Some}
use Rattle.std.proofs.lemmas.Bool.{cases_lt}
use Rattle.vt_twin.specs.Twin.{twin_calls_made}
use Rattle.vt_base.specs.declared.answer.Said.{Said}
use Rattle.vt_base.specs.declared.answer.Said.TheVariants.{Score, Block, Synced, Refused}
use Rattle.vt_base.specs.declared.why.Why.{Why}
use Rattle.vt_base.specs.declared.why.Why.TheVariants.{BadType, TooBig, TooSmall, Absent, Collision, IndexFull, ArenasFull, DiskFault, Stopped, Damaged, NoMemory}
use Rattle.vt_base.specs.Faults.{HasRisen, CountsFault}
use Rattle.vt_disk.specs.Calls.{MadeCalls}
use Rattle.vt_disk.specs.DeviceCalls.{is_call_fault}
use Rattle.vt_disk.specs.Disk.{WithinCall}
use Rattle.vt_disk.specs.Members.{DiskOf}
use Rattle.vt_model.specs.History.{History, Accepted}
use Rattle.vt_twin.specs.declared.step.Step.{Step}
use Rattle.vt_twin.specs.declared.step.Step.TheVariants.{More, Done}
use Rattle.vt_disk.specs.declared.call.CallError.{CallError}
use Rattle.vt_disk.specs.declared.call.CallError.TheVariants as call_error
use Rattle.vt_bloom.specs.Bits.{Filter, HasBitsOf}
use Rattle.vt_bloom.specs.Bloom.{BloomState, IsSoundBloom, saved_after, BloomAdvances}
use Rattle.vt_bloom.specs.Frame.{Saved, Covers, HasSaved}
use Rattle.vt_bloom.specs.Laws.{CoversMore}
use Rattle.vt_log.specs.Faults.{OneHasRisen}
use Rattle.vt_log.specs.Sound.{AreImagesOf, AreWithinCallOf}
use Rattle.vt_log.proofs.Lists.{slice_get_other}
use Rattle.vt_core.specs.declared.event.Event.TheVariants.{BloomAdvance}
use Rattle.vt_core.specs.declared.event.Out.{Out}
use Rattle.vt_core.specs.declared.event.Out.TheVariants.{Said as SaidOut, Waits, NotYet, Moved, Nothing, Failed}
use Rattle.vt_core.specs.Causes.{CallsOne, CallsOnce, CountsOut, CountsSaid, CountsWhy, IsUndamaged, KeepsStops}
use Rattle.vt_core.specs.Core.{CoreState, machine_of, devices_of, each_of}
use Rattle.vt_core.specs.Events.{IsWork}
use Rattle.vt_core.specs.Files.{DeviceFiles, all_of}
use Rattle.vt_core.specs.Machine.{Machine}
use Rattle.vt_core.specs.Saving.{SavesSoundly, CallsDevice, devices_of as filter_devices}
use Rattle.vt_core.specs.Sound.{IsSound, IsSoundFilter}
use Rattle.vt_core.specs.Stands.{FilterStandsFor, scores_of}
use Rattle.vt_core.specs.Steps.{Steps, LeavesPrefix, StoreGoesOn}
use Rattle.vt_core.specs.Whole.{IsWhole}
use Rattle.vt_core.specs.Work.{IsSaveBegun, Saves, SavesOne, SavesIn, out_of_save}
use Rattle.vt_core.proofs.Calls.{calls_set, calls_behind, map_all, joined}
use Rattle.vt_recover.proofs.Counts.{risen_behind, risen_set}
use Rattle.vt_core.proofs.Combined.{within_same, covers_longer}
use Rattle.vt_recover.proofs.Lists.{at_map, only_one}
use Rattle.vt_core.proofs.Recovered.{GivesPrefix}
use Rattle.vt_core.proofs.ShardCall.{none_of}

-- ---- one call of a save

begun_disk : {D : Type 0} (bits : Filter) (durable : ℕ) (old begun : BloomState D) → IsSaveBegun bits durable old begun → begun.disk ≡ old.disk
begun_disk {D} bits durable old begun it = ⊎_elim (λ was. ap (λ (b : BloomState D). b.disk) was.1) (λ new. ap (λ (b : BloomState D). b.disk) new.2) it

covers_after : (r : Result Step CallError) (saved coming : Saved) (scores : List (List ℕ)) → Covers scores saved → Covers scores coming → Covers scores (saved_after r saved coming)
covers_after (Ok More) saved coming scores old new = old
covers_after (Ok Done) saved coming scores old new = new
covers_after (Err e) saved coming scores old new = old

module _ {D : Type 0} (disk : DiskOf D) (bits : Filter) (durable : ℕ) (old : BloomState D) where
  -- the device is sound for the saves so far, and for this one
  abbrev pub StaysSound : BloomState D → Type 0
  StaysSound new = (score : List ℕ → List ℕ) (g : History) → IsTrue disk.tells → Covers (scores_of score g) (record { filter = bits; mark = durable })
      → IsSoundFilter score disk old g → IsSoundFilter score disk new g

  pub save_soundly : (begun new : BloomState D) (r : Result Step CallError) → IsSaveBegun bits durable old begun → IsSome begun.twin.change → StaysSound begun
      → ((saved coming : Saved) → IsTrue disk.tells → IsSoundBloom begun saved coming (disk.bytes begun.disk) (disk.images begun.disk)
      → IsSoundBloom new (saved_after r saved coming) coming (disk.bytes new.disk) (disk.images new.disk))
      → ((saved coming : Saved) (scores : List (List ℕ)) → IsTrue disk.tells → IsSoundBloom begun saved coming (disk.bytes begun.disk) (disk.images begun.disk)
      → Covers scores saved → Covers scores coming → (c : List ℕ) → WithinCall (disk.images begun.disk) (disk.images new.disk) c → (left : Saved) × HasSaved left c × Covers scores left)
      → SavesSoundly disk bits durable old new
  save_soundly begun new r begins some begin sound covered = record {
    sound = λ score g tells covers was. let mid = begin score g tells covers was in record {
      saved = saved_after r mid.saved mid.coming;
      coming = mid.coming;
      sound = sound mid.saved mid.coming tells mid.sound;
      covers = covers_after r mid.saved mid.coming (scores_of score g) mid.covers (mid.coming_covers some);
      coming_covers = λ _. mid.coming_covers some;
    };
    crash = λ score g tells covers was file within.
        let mid = begin score g tells covers was in
        let same : old.disk ≡ begun.disk = sym (begun_disk bits durable old begun begins) in
        let left : WithinCall (disk.images begun.disk) (disk.images new.disk) file = subst (λ (d : D). WithinCall (disk.images d) (disk.images new.disk) file) same within in
        let it = covered mid.saved mid.coming (scores_of score g) tells mid.sound mid.covers (mid.coming_covers some) file left in
        record { saved = it.0; has = it.1; covers = it.2 };
  }

-- where nothing is to be saved
pub rests_soundly : {D : Type 0} (disk : DiskOf D) (bits : Filter) (durable : ℕ) (old new : BloomState D) → new ≡ old
    → ((b : BloomState D) (saved coming : Saved) (scores : List (List ℕ)) → IsSoundBloom b saved coming (disk.bytes b.disk) (disk.images b.disk)
    → Covers scores saved → (IsSome b.twin.change → Covers scores coming) → (c : List ℕ) → disk.images b.disk c → (s : Saved) × HasSaved s c × Covers scores s)
    → SavesSoundly disk bits durable old new
rests_soundly {D} disk bits durable old new same leaves = subst (λ (b : BloomState D). SavesSoundly disk bits durable old b) (sym same) (record {
  sound = λ score g tells covers was. was;
  crash = λ score g tells covers was file within.
      let it = leaves old was.saved was.coming (scores_of score g) was.sound was.covers was.coming_covers file (⊎_elim (λ left. left) (λ left. left) within) in
      record { saved = it.0; has = it.1; covers = it.2 };
})

-- what it calls
one_called : {D : Type 0} (disk : DiskOf D) (old new : D) → MadeCalls disk 1 old new → CallsOne disk (old ∷ []) (new ∷ [])
one_called disk old new made = calls_set disk (old ∷ []) 0 old new refl made

one_risen : (old new : ℕ) → HasRisen old new → OneHasRisen (old ∷ []) (new ∷ [])
one_risen old new rose = risen_set (old ∷ []) 0 new (omega arith) rose

module _ {D : Type 0} (disk : DiskOf D) (begun new : BloomState D) where
  runs_on : (r : Result Step CallError) → ((n : ℕ) → (r ≡ Err (call_error.Stopped n)) ↔ (begun.calls.stopped ≡ Some n)) → ((n : ℕ) → r ≢ Err (call_error.Stopped n)) → begun.calls.stopped ≡ None
  runs_on r stopped goes = none_of begun.calls.stopped (λ n is. goes n ((stopped n).1 is))

  pub save_calls : (r : Result Step CallError) → ((n : ℕ) → (r ≡ Err (call_error.Stopped n)) ↔ (begun.calls.stopped ≡ Some n))
      → (begun.calls.stopped ≡ None → MadeCalls disk 1 begun.disk new.disk) → (IsSome begun.calls.stopped → new.disk ≡ begun.disk)
      → CountsFault is_call_fault r (disk.faults begun.disk) (disk.faults new.disk) → disk.size new.disk ≡ disk.size begun.disk
      → CallsDevice disk (out_of_save r) (begun.disk ∷ []) (new.disk ∷ [])
  save_calls (Ok step) stopped made untouched faults size = record {
    calls = one_called disk begun.disk new.disk (made (runs_on (Ok step) stopped (λ n e. cc)));
    faults = ap (λ (n : ℕ). n ∷ []) faults;
    sizes = ap (λ (n : ℕ). n ∷ []) size;
  }
  save_calls (Err call_error.Fault) stopped made untouched faults size = record {
    calls = one_called disk begun.disk new.disk (made (runs_on (Err call_error.Fault) stopped (λ n e. cc)));
    faults = one_risen (disk.faults begun.disk) (disk.faults new.disk) faults;
    sizes = ap (λ (n : ℕ). n ∷ []) size;
  }
  save_calls (Err (call_error.Stopped n)) stopped made untouched faults size = record {
    calls = ap (λ (d : D). d ∷ []) (untouched (subst (λ (o : Option ℕ). IsSome o) (sym ((stopped n).0 refl)) refl));
    faults = ap (λ (n : ℕ). n ∷ []) faults;
    sizes = ap (λ (n : ℕ). n ∷ []) size;
  }

pub calls_begun : {D : Type 0} (disk : DiskOf D) (bits : Filter) (durable : ℕ) (out : Out) (old begun : BloomState D) (new : List D) → IsSaveBegun bits durable old begun
    → CallsDevice disk out (begun.disk ∷ []) new → CallsDevice disk out (old.disk ∷ []) new
calls_begun {D} disk bits durable out old begun new begins = subst (λ (d : D). CallsDevice disk out (d ∷ []) new) (begun_disk bits durable old begun begins)

-- ---- what a save leaves of a filter

pub record KeepsSave {D : Type 0} (durable : ℕ) (out : Out) (old new : BloomState D) : Type 0 where
  pub m : new.m ≡ old.m
  pub k : new.k ≡ old.k
  pub mark : new.mark ≤ durable
  pub next : new.next ≤ durable
  pub made : twin_calls_made new.twin ≤ 3
  pub stay : (call : ℕ) → old.calls.stopped ≡ Some call → new.calls.stopped ≡ Some call
  pub cause : out ≢ Failed DiskFault → new.calls.stopped ≡ old.calls.stopped

one_call_more : (m : ℕ) → m ≤ 3 → (m ≡ 3 → ⊥) → m + 1 ≤ 3
one_call_more m most other = ⊎_elim (λ low. omega (arith, low)) (λ high. absurd (other (omega (arith, most, high)))) (cases_lt m 3)

begun_keeps : {D : Type 0} (bits : Filter) (durable : ℕ) (old begun : BloomState D) → old.mark ≤ durable → old.next ≤ durable → twin_calls_made old.twin ≤ 3 → IsSaveBegun bits durable old begun → KeepsSave durable Moved old begun
begun_keeps {D} bits durable old begun mark next made it = ⊎_elim
    (λ was. subst (λ (b : BloomState D). KeepsSave durable Moved old b) (sym was.1) (record { m = refl; k = refl; mark = mark; next = next; made = made; stay = λ call is. is; cause = λ _. refl }))
    (λ new. subst (λ (b : BloomState D). KeepsSave durable Moved old b) (sym new.2) (record { m = refl; k = refl; mark = mark; next = omega arith; made = omega arith; stay = λ call is. is; cause = λ _. refl }))
    it

pub begun_made : {D : Type 0} (bits : Filter) (durable : ℕ) (old begun : BloomState D) → IsSaveBegun bits durable old begun → twin_calls_made old.twin ≤ 3 → twin_calls_made begun.twin ≤ 3
begun_made {D} bits durable old begun it made = ⊎_elim
    (λ was. subst (λ (b : BloomState D). twin_calls_made b.twin ≤ 3) (sym was.1) made)
    (λ new. subst (λ (b : BloomState D). twin_calls_made b.twin ≤ 3) (sym new.2) (omega arith))
    it

call_keeps : {D : Type 0} (durable : ℕ) (old new : BloomState D) (r : Result Step CallError) → old.mark ≤ durable → old.next ≤ durable → twin_calls_made old.twin ≤ 3
    → IfOk r (λ step. (step ≡ Done) ↔ (twin_calls_made old.twin ≡ 3)) → ((n : ℕ) → (r ≡ Err (call_error.Stopped n)) ↔ (old.calls.stopped ≡ Some n)) → BloomAdvances r old new → KeepsSave durable (out_of_save r) old new
call_keeps {D} durable old new (Ok More) mark next made last stopped it =
    subst (λ (b : BloomState D). KeepsSave durable Moved old b) (sym it) (record { m = refl; k = refl; mark = mark; next = next; made = one_call_more (twin_calls_made old.twin) made (λ e. let no : More ≡ Done = last.1 e in cc); stay = λ call is. is; cause = λ _. refl })
call_keeps {D} durable old new (Ok Done) mark next made last stopped it =
    subst (λ (b : BloomState D). KeepsSave durable Moved old b) (sym it) (record { m = refl; k = refl; mark = next; next = next; made = omega arith; stay = λ call is. is; cause = λ _. refl })
call_keeps {D} durable old new (Err call_error.Fault) mark next made last stopped it =
    subst (λ (b : BloomState D). KeepsSave durable (Failed DiskFault) old b) (sym it) (record {
      m = refl;
      k = refl;
      mark = mark;
      next = next;
      made = made;
      stay = λ call is. let no : Err call_error.Fault ≡ Err (call_error.Stopped call) = (stopped call).1 is in absurd (cc);
      cause = λ other. absurd (other refl);
    })
call_keeps {D} durable old new (Err (call_error.Stopped n)) mark next made last stopped it =
    subst (λ (b : BloomState D). KeepsSave durable (Failed (Stopped n)) old b) (sym it) (record { m = refl; k = refl; mark = mark; next = next; made = made; stay = λ call is. is; cause = λ _. refl })

one_keeps : {D : Type 0} (bits : Filter) (durable : ℕ) (out : Out) (old new : BloomState D) → old.mark ≤ durable → old.next ≤ durable → twin_calls_made old.twin ≤ 3 → SavesOne bits durable out old new → KeepsSave durable out old new
one_keeps {D} bits durable out old new mark next made it = ⊎_elim
    (λ rests. subst (λ (b : BloomState D). KeepsSave durable out old b) (sym rests.2) (record { m = refl; k = refl; mark = mark; next = next; made = made; stay = λ call is. is; cause = λ _. refl }))
    (λ (s : Saves bits durable out old new).
    let first = begun_keeps bits durable old s.begun mark next made s.begins in
    let then = call_keeps durable s.begun new s.answer first.mark first.next first.made s.done s.stopped s.advances in
    subst (λ (o : Out). KeepsSave durable o old new) (sym s.out_is) (record {
      m = then.m ∙ first.m;
      k = then.k ∙ first.k;
      mark = then.mark;
      next = then.next;
      made = then.made;
      stay = λ call is. then.stay call (first.stay call is);
      cause = λ other. then.cause other ∙ first.cause (λ e. cc);
    }))
    it

save_is_work : (r : Result Step CallError) (old new : Machine) → new ≡ old → IsWork (out_of_save r) old new × IsUndamaged (out_of_save r)
save_is_work (Ok step) old new same = (same, tt)
save_is_work (Err call_error.Fault) old new same = (same, tt)
save_is_work (Err (call_error.Stopped n)) old new same = (same, tt)

one_is_work : {D : Type 0} (bits : Filter) (durable : ℕ) (out : Out) (before after : BloomState D) → SavesOne bits durable out before after → (old new : Machine) → new ≡ old → IsWork out old new × IsUndamaged out
one_is_work bits durable out before after it old new same = ⊎_elim
    (λ rests. subst (λ (o : Out). IsWork o old new × IsUndamaged o) (sym rests.1) (same, tt))
    (λ (s : Saves bits durable out before after). subst (λ (o : Out). IsWork o old new × IsUndamaged o) (sym s.out_is) (save_is_work s.answer old new same))
    it

-- ---- where there may be no filter

-- there is none, or it is saved
abbrev SavesNoneOrOne : {D : Type 0} → Filter → (durable : ℕ) → Out → (old new : Option (BloomState D)) → Type 0
SavesNoneOrOne {D} bits durable out old new = ((out ≡ Nothing) × (old ≡ None) × (new ≡ None))
    ⊎ ((before : BloomState D) × (after : BloomState D) × (old ≡ Some before) × (new ≡ Some after) × SavesOne bits durable out before after)

none_or_one : {D : Type 0} (bits : Filter) (durable : ℕ) (out : Out) (old new : Option (BloomState D)) → SavesIn bits durable out old new → SavesNoneOrOne bits durable out old new
none_or_one bits durable out None new it = inl (it.0, refl, it.1)
none_or_one bits durable out (Some before) new it = inr (before, it.0, refl, it.1, it.2)

-- ---- the calls, among those of all devices

module _ {D : Type 0} (disk : DiskOf D) (front old new : List D) where
  once_why : (why : Why) → CallsOnce disk (Failed why) old new → CallsOnce disk (Failed why) (front ++ old) (front ++ new)
  once_why DiskFault it = calls_behind disk front old new it
  once_why (Damaged site want found) it = calls_behind disk front old new it
  once_why (Stopped n) it = ap (λ (ds : List D). front ++ ds) it
  once_why BadType it = ap (λ (ds : List D). front ++ ds) it
  once_why TooBig it = ap (λ (ds : List D). front ++ ds) it
  once_why TooSmall it = ap (λ (ds : List D). front ++ ds) it
  once_why Absent it = ap (λ (ds : List D). front ++ ds) it
  once_why Collision it = ap (λ (ds : List D). front ++ ds) it
  once_why IndexFull it = ap (λ (ds : List D). front ++ ds) it
  once_why ArenasFull it = ap (λ (ds : List D). front ++ ds) it
  once_why NoMemory it = ap (λ (ds : List D). front ++ ds) it

  once_behind : (out : Out) → CallsOnce disk out old new → CallsOnce disk out (front ++ old) (front ++ new)
  once_behind Moved it = calls_behind disk front old new it
  once_behind Nothing it = ap (λ (ds : List D). front ++ ds) it
  once_behind NotYet it = ap (λ (ds : List D). front ++ ds) it
  once_behind Waits it = ap (λ (ds : List D). front ++ ds) it
  once_behind (SaidOut a) it = ap (λ (ds : List D). front ++ ds) it
  once_behind (Failed why) it = once_why why it

module _ (front old new : List ℕ) where
  counts_why : (why : Why) → CountsWhy why old new → CountsWhy why (front ++ old) (front ++ new)
  counts_why DiskFault it = risen_behind front old new it
  counts_why (Damaged site want found) it = ap (λ (ns : List ℕ). front ++ ns) it
  counts_why (Stopped n) it = ap (λ (ns : List ℕ). front ++ ns) it
  counts_why BadType it = ap (λ (ns : List ℕ). front ++ ns) it
  counts_why TooBig it = ap (λ (ns : List ℕ). front ++ ns) it
  counts_why TooSmall it = ap (λ (ns : List ℕ). front ++ ns) it
  counts_why Absent it = ap (λ (ns : List ℕ). front ++ ns) it
  counts_why Collision it = ap (λ (ns : List ℕ). front ++ ns) it
  counts_why IndexFull it = ap (λ (ns : List ℕ). front ++ ns) it
  counts_why ArenasFull it = ap (λ (ns : List ℕ). front ++ ns) it
  counts_why NoMemory it = ap (λ (ns : List ℕ). front ++ ns) it

  counts_said : (said : Said) → CountsSaid said old new → CountsSaid said (front ++ old) (front ++ new)
  counts_said (Refused why) it = counts_why why it
  counts_said (Score score) it = ap (λ (ns : List ℕ). front ++ ns) it
  counts_said (Block bytes) it = ap (λ (ns : List ℕ). front ++ ns) it
  counts_said Synced it = ap (λ (ns : List ℕ). front ++ ns) it

  pub counts_behind : (out : Out) → CountsOut out old new → CountsOut out (front ++ old) (front ++ new)
  counts_behind Moved it = ap (λ (ns : List ℕ). front ++ ns) it
  counts_behind Nothing it = ap (λ (ns : List ℕ). front ++ ns) it
  counts_behind NotYet it = ap (λ (ns : List ℕ). front ++ ns) it
  counts_behind Waits it = ap (λ (ns : List ℕ). front ++ ns) it
  counts_behind (SaidOut a) it = counts_said a.said it
  counts_behind (Failed why) it = counts_why why it

-- ---- stops

single_stays : (a b : Option ℕ) → ((call : ℕ) → a ≡ Some call → b ≡ Some call) → (j call : ℕ) → slice_get (a ∷ []) j ≡ Some (Some call) → slice_get (b ∷ []) j ≡ Some (Some call)
single_stays a b stay zero call at = ap Some (stay call (same_Some a (Some call) at))
single_stays a b stay (suc j) call at = absurd (cc)

stays_behind : (front xs ys : List (Option ℕ)) (call : ℕ) → ((j : ℕ) → slice_get xs j ≡ Some (Some call) → slice_get ys j ≡ Some (Some call))
    → (j : ℕ) → slice_get (front ++ xs) j ≡ Some (Some call) → slice_get (front ++ ys) j ≡ Some (Some call)
stays_behind [] xs ys call stay j at = stay j at
stays_behind (x ∷ front) xs ys call stay zero at = at
stays_behind (x ∷ front) xs ys call stay (suc j) at = stays_behind front xs ys call stay j at

-- ---- the store around the filter

-- a block's place in a front of the history
taken_at : {X : Type 0} (n : ℕ) (xs : List X) (i : ℕ) (x : X) → slice_get (take n xs) i ≡ Some x → slice_get xs i ≡ Some x
taken_at zero xs i x at = absurd (cc)
taken_at (suc n) [] i x at = absurd (cc)
taken_at (suc n) (y ∷ xs) zero x at = at
taken_at (suc n) (y ∷ xs) (suc i) x at = taken_at n xs i x at

mapped_at : {X Y : Type 0} (f : X → Y) (xs : List X) (i : ℕ) (y : Y) → slice_get (map f xs) i ≡ Some y → (x : X) × (slice_get xs i ≡ Some x) × (f x ≡ y)
mapped_at f [] i y at = absurd (cc)
mapped_at f (x ∷ xs) zero y at = (x, refl, same_Some (f x) y at)
mapped_at f (x ∷ xs) (suc i) y at = mapped_at f xs i y at

-- the bits in memory are those of all durable blocks
bits_cover : {D : Type 0} (score : List ℕ → List ℕ) (disk : DiskOf D) (k : CoreState D) (h : History) → IsSound score disk k h
    → Covers (scores_of score (take k.log.durable h)) (record { filter = k.bits; mark = k.log.durable })
bits_cover score disk k h sound =
    let d = k.log.durable in
    let f : Accepted → List ℕ = λ e. score e.block.bytes in
    let fits : d ≤ length h = omega (arith, sound.log.front) in
    record {
      within = omega (arith, length-map (take d h) f, length-take d h, fits);
      set = λ i s below at.
          let it = mapped_at f (take d h) i s at in
          subst (λ (t : List ℕ). HasBitsOf k.bits t) it.2 (sound.bits i it.0 (taken_at d h i it.0 it.1));
    }

module _ {D : Type 0} (score : List ℕ → List ℕ) (disk : DiskOf D) (k : CoreState D) (bloom : Option (BloomState D)) (out : Out)
    (saves : SavesIn k.bits k.log.durable out k.bloom bloom) (w : IsWhole disk k) where
  each_saved : (after : BloomState D) → bloom ≡ Some after → (before : BloomState D) × (k.bloom ≡ Some before) × KeepsSave k.log.durable out before after
  each_saved after is = ⊎_elim
      (λ none. let no : None ≡ Some after = sym none.2 ∙ is in absurd (cc))
      (λ it.
      let was = w.filter it.0 it.2 in
      let same : it.1 ≡ after = same_Some it.1 after (sym it.3 ∙ is) in
      (it.0, it.2, subst (λ (b : BloomState D). KeepsSave k.log.durable out it.0 b) same (one_keeps k.bits k.log.durable out it.0 it.1 was.mark was.next was.made it.4)))
      (none_or_one k.bits k.log.durable out k.bloom bloom saves)

  pub filter_whole : IsWhole disk (record k { bloom = bloom })
  filter_whole = record {
    some_arena = w.some_arena;
    some_shard = w.some_shard;
    few_shards = w.few_shards;
    few_sessions = w.few_sessions;
    shards = λ i s at. let it = w.shards i s at in record { live = it.live; buckets = it.buckets; some = it.some; rest = it.rest; filed = it.filed; writeback = it.writeback; mark = it.mark; next = it.next; numbers = it.numbers; bits = it.bits };
    filter = λ b is. let it = each_saved b is in let was = w.filter it.0 it.1 in
        record { counts = (was.counts.0 ∙ sym it.2.m, was.counts.1 ∙ sym it.2.k); mark = it.2.mark; next = it.2.next; made = it.2.made };
    synced = w.synced;
    waiting = w.waiting;
  }

  filter_is_work : (old new : Machine) → new ≡ old → IsWork out old new × IsUndamaged out
  filter_is_work old new same = ⊎_elim
      (λ none. subst (λ (o : Out). IsWork o old new × IsUndamaged o) (sym none.0) (same, tt))
      (λ it. one_is_work k.bits k.log.durable out it.0 it.1 it.4 old new same)
      (none_or_one k.bits k.log.durable out k.bloom bloom saves)

  -- the stops of the filter, if there is one
  filter_stay : (j call : ℕ) → slice_get (map (λ b. b.calls.stopped) (option_to_list k.bloom)) j ≡ Some (Some call) → slice_get (map (λ b. b.calls.stopped) (option_to_list bloom)) j ≡ Some (Some call)
  filter_stay j call = ⊎_elim
      (λ none.
      subst (λ (o : Option (BloomState D)). slice_get (map (λ b. b.calls.stopped) (option_to_list o)) j ≡ Some (Some call) → slice_get (map (λ b. b.calls.stopped) (option_to_list bloom)) j ≡ Some (Some call)) (sym none.1)
      (λ at. absurd (cc)))
      (λ it.
      let was = w.filter it.0 it.2 in
      let keeps = one_keeps k.bits k.log.durable out it.0 it.1 was.mark was.next was.made it.4 in
      subst (λ (o : Option (BloomState D)). slice_get (map (λ b. b.calls.stopped) (option_to_list o)) j ≡ Some (Some call) → slice_get (map (λ b. b.calls.stopped) (option_to_list bloom)) j ≡ Some (Some call)) (sym it.2)
      (subst (λ (o : Option (BloomState D)). slice_get (it.0.calls.stopped ∷ []) j ≡ Some (Some call) → slice_get (map (λ b. b.calls.stopped) (option_to_list o)) j ≡ Some (Some call)) (sym it.3)
      (single_stays it.0.calls.stopped it.1.calls.stopped keeps.stay j call)))
      (none_or_one k.bits k.log.durable out k.bloom bloom saves)

  -- something of the filter that a save leaves, if there is one
  filter_same : {X : Type 0} (f : BloomState D → X) → ((before after : BloomState D) → KeepsSave k.log.durable out before after → f after ≡ f before)
      → option_map f bloom ≡ option_map f k.bloom
  filter_same f same = ⊎_elim
      (λ none. ap (option_map f) (none.2 ∙ sym none.1))
      (λ it.
      let was = w.filter it.0 it.2 in
      let keeps = one_keeps k.bits k.log.durable out it.0 it.1 was.mark was.next was.made it.4 in
      ap (option_map f) it.3 ∙ ap Some (same it.0 it.1 keeps) ∙ sym (ap (option_map f) it.2))
      (none_or_one k.bits k.log.durable out k.bloom bloom saves)

  list_of : {X : Type 0} (f : BloomState D → X) (o : Option (BloomState D)) → map f (option_to_list o) ≡ option_to_list (option_map f o)
  list_of f None = refl
  list_of f (Some b) = refl

  filter_stops : KeepsStops out k (record k { bloom = bloom })
  filter_stops = record {
    stay = λ j call at. stays_behind (k.log.stopped ∷ map (λ s. s.section.stopped) k.shards) (map (λ b. b.calls.stopped) (option_to_list k.bloom)) (map (λ b. b.calls.stopped) (option_to_list bloom)) call
        (λ n. filter_stay n call) j at;
    cause = λ other.
        let f : BloomState D → Option ℕ = λ b. b.calls.stopped in
        let same : map f (option_to_list bloom) ≡ map f (option_to_list k.bloom) =
        list_of f bloom ∙ ap option_to_list (filter_same f (λ before after keeps. keeps.cause other)) ∙ sym (list_of f k.bloom) in
        ap (λ (ss : List (Option ℕ)). k.log.stopped ∷ (map (λ s. s.section.stopped) k.shards ++ ss)) same;
  }

  module _ (calls : CallsDevice disk out (filter_devices k.bloom) (filter_devices bloom)) where
    filter_calls : CallsOnce disk out (all_of (devices_of k)) (all_of (devices_of (record k { bloom = bloom })))
    filter_calls = once_behind disk (k.log.disks ++ (devices_of k).sections) (devices_of k).filter (devices_of (record k { bloom = bloom })).filter out calls.calls

    filter_sizes : each_of disk.size (record k { bloom = bloom }) ≡ each_of disk.size k
    filter_sizes =
        let f : D → ℕ = disk.size in
        map_all f (devices_of (record k { bloom = bloom }))
        ∙ ap (λ (ns : List ℕ). joined (map f k.log.disks) (map f (devices_of k).sections) ns) calls.sizes
        ∙ sym (map_all f (devices_of k))

    filter_counts : CountsOut out (each_of disk.faults k) (each_of disk.faults (record k { bloom = bloom }))
    filter_counts =
        let f : D → ℕ = disk.faults in
        subst (λ (xs : List ℕ). CountsOut out xs (each_of f (record k { bloom = bloom }))) (sym (map_all f (devices_of k)))
        (subst (λ (ys : List ℕ). CountsOut out (joined (map f k.log.disks) (map f (devices_of k).sections) (map f (devices_of k).filter)) ys) (sym (map_all f (devices_of (record k { bloom = bloom }))))
        (counts_behind (map f k.log.disks ++ map f (devices_of k).sections) (map f (devices_of k).filter) (map f (devices_of (record k { bloom = bloom })).filter) out calls.faults))

    filter_goes_on : StoreGoesOn disk k (record k { bloom = bloom })
    filter_goes_on = record {
      store = record {
        tables = refl;
        layout = refl;
        setup = refl;
        shards = refl;
        filter = filter_same (λ b. b.m) (λ before after keeps. keeps.m);
        counts = (refl, refl);
        sizes = filter_sizes;
        sessions = refl;
        len = omega arith;
        durable = omega arith;
        synced = omega arith;
      };
      one_more = omega arith;
      synced_before = w.synced;
    }

    module _ (soundly : (before after : BloomState D) → k.bloom ≡ Some before → bloom ≡ Some after → SavesSoundly disk k.bits k.log.durable before after) where
      filter_sound : IsTrue disk.tells → (h : History) → IsSound score disk k h → IsSound score disk (record k { bloom = bloom }) h
      filter_sound tells h sound = record {
        whole = filter_whole;
        legal = sound.legal;
        partitions = sound.partitions;
        log = sound.log;
        shards = sound.shards;
        bits = sound.bits;
        filter = λ b is. let it = each_saved b is in
            (soundly it.0 b it.1 is).sound score (take k.log.durable h) tells (bits_cover score disk k h sound) (sound.filter it.0 it.1);
      }

      -- within the call a crash leaves what goes with each history that has the durable blocks
      filter_left : CoversMore → IsTrue disk.tells → (h : History) (files : List (List ℕ)) → IsSound score disk k h
          → AreWithinCallOf disk (filter_devices k.bloom) (filter_devices bloom) files → (n : ℕ) → k.log.durable ≤ n → (i : ℕ) (file : List ℕ) → slice_get files i ≡ Some file
          → FilterStandsFor score (take n h) file
      filter_left more tells h files sound within n keeps i file at =
          let f : BloomState D → D = λ b. b.disk in
          let size : D → ℕ = disk.size in
          let many : length files ≡ length (filter_devices bloom) =
          within.many ∙ sym (length-map (filter_devices k.bloom) size) ∙ ap length (sym calls.sizes) ∙ length-map (filter_devices bloom) size in
          let old_device = slice_get_other (filter_devices k.bloom) files i file within.many at in
          let new_device = slice_get_other (filter_devices bloom) files i file many at in
          let old = mapped_at f (option_to_list k.bloom) i old_device.0 old_device.1 in
          let new = mapped_at f (option_to_list bloom) i new_device.0 new_device.1 in
          let left = within.each i old.0.disk new.0.disk file (at_map f (option_to_list k.bloom) i old.0 old.1) (at_map f (option_to_list bloom) i new.0 new.1) at in
          let was = only_one k.bloom i old.0 old.1 in
          let it = (soundly old.0 new.0 was (only_one bloom i new.0 new.1)).crash score (take k.log.durable h) tells (bits_cover score disk k h sound) (sound.filter old.0 was) file left in
          record { saved = it.saved; has = it.has; covers = covers_longer more score h k.log.durable n it.saved keeps it.covers }

      -- the filter is taken as it reads, and put back
      filter_crash : CoversMore → GivesPrefix disk → ((d : D) → IsTrue disk.tells → disk.images d (disk.bytes d))
          → IsTrue disk.tells → LeavesPrefix score disk k (record k { bloom = bloom })
      filter_crash more gives reads tells h files sound within =
          let devices : List D = (devices_of k).filter in
          let rest : DeviceFiles = record files { filter = map disk.bytes devices } in
          let as_read : AreImagesOf disk devices (map disk.bytes devices) = record {
            many = length-map devices disk.bytes;
            each = λ i d file at is. subst (disk.images d) (same_Some (disk.bytes d) file (sym (at_map disk.bytes devices i d at) ∙ is)) (reads d tells);
          } in
          let it = gives score k h rest sound (record {
            partitions = within_same disk k.log.disks files.partitions within.partitions;
            sections = within_same disk (devices_of k).sections files.sections within.sections;
            filter = as_read;
          }) in
          record {
            n = it.n;
            keeps = it.keeps;
            within = it.within;
            stands = record {
              partitions = it.stands.partitions;
              log = it.stands.log;
              many = it.stands.many;
              sections = it.stands.sections;
              filter = filter_left more tells h files.filter sound within.filter it.n it.keeps;
            };
          }

      -- All of it.
      pub filter_steps : CoversMore → GivesPrefix disk → ((d : D) → IsTrue disk.tells → disk.images d (disk.bytes d))
          → Steps score disk BloomAdvance out k (record k { bloom = bloom })
      filter_steps more gives reads = record {
        machine = λ tells h sound. (h, (filter_is_work (machine_of k h) (machine_of (record k { bloom = bloom }) h) refl).0, filter_sound tells h sound);
        crash = filter_crash more gives reads;
        undamaged = λ h _ _. (filter_is_work (machine_of k h) (machine_of k h) refl).1;
        does = record { saves = saves; same = refl };
        calls = filter_calls;
        counts = filter_counts;
        stops = filter_stops;
        goes_on = filter_goes_on;
      }
