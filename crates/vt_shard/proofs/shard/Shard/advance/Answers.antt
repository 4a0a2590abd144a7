use Rattle.std.proofs.Common.{◌≡◌, ◌-◌, ◌++◌, ◌∙◌, ℕ, List, length, take, drop, refl, sym, ap, subst}
use Rattle.std.specs.Prelude.{IsSome}
use Rattle.std.proofs.lemmas.List.{take_at}
use Rattle.vt_isect.specs.declared.head.Head.{Head}
use Rattle.vt_shard.specs.Sound.{IsSoundFrom}
use Rattle.vt_shard.specs.Writeback.{written_back}
use Rattle.vt_shard.proofs.Advances.{sound_then}
use Rattle.vt_shard.proofs.IsWell.{goes_on, under_way_of}
use Rattle.vt_shard.proofs.LeavesLive.{agrees_further, agrees_whole, step_live}
use Rattle.vt_shard.proofs.TakesStep.{takes}
use Rattle.vt_shard.proofs.WellAfter.{range, apart, dirty, count_in_range, count_some, counts_after, well_then}
use Rattle.vt_shard.proofs.shard.Shard.advance.Goals as goal
use Rattle.vt_shard.proofs.shard.Shard.advance.Goals.{After-written}

-- what the step put into its bucket
written : (g : _) (c : After-written g) → take (c.written.result - c.written-before.result) (drop c.written-before.result c.entries.result.now)
    ≡ written_back c.self.inside.section c.advance-answer.new.self
written g c = range _ _ _ c.self.invariant c.in-Some.below c.in-Some.is c.advance-answer.result c.advance-answer.new.self c.advance-answer.ensures.steps
    c.entries.result.now c.written-before.result c.written.result c.written-before.ensures.count c.written.ensures.count c.entries.ensures

pub settle-requires-clause-apart : goal.settle-requires-clause-apart
settle-requires-clause-apart g c =
    apart _ _ _ c.self.invariant c.in-Some.below c.in-Some.is c.advance-answer.result c.advance-answer.new.self c.advance-answer.ensures.steps
    _ (written g (goal.at.settle-requires-clause-apart g c).After-written)

pub settle-requires-clause-dirty : goal.settle-requires-clause-dirty
settle-requires-clause-dirty g c =
    dirty _ _ _ c.self.invariant c.in-Some.below c.in-Some.is c.advance-answer.result c.advance-answer.new.self c.advance-answer.ensures.steps
    _ (written g (goal.at.settle-requires-clause-dirty g c).After-written)

pub count_off-requires-clause-in_range : goal.count_off-requires-clause-in_range
count_off-requires-clause-in_range g c =
    rw c.deref_mut.ensures.value
    (count_in_range _ _ _ c.self.invariant c.in-Some.below c.in-Some.is c.advance-answer.result c.advance-answer.new.self c.advance-answer.ensures.steps
    _ (written g (goal.at.count_off-requires-clause-in_range g c).After-written) _ c.settle.ensures.settled c.head-head.result c.head-head.ensures)

pub count_off-requires-clause-some : goal.count_off-requires-clause-some
count_off-requires-clause-some g c =
    rw c.deref_mut.ensures.value
    (count_some _ _ _ c.self.invariant c.in-Some.below c.in-Some.is c.advance-answer.result c.advance-answer.new.self c.advance-answer.ensures.steps
    _ (written g (goal.at.count_off-requires-clause-some g c).After-written) _ c.settle.ensures.settled c.head-head.result c.head-head.ensures)

pub invariant_of-self : goal.invariant_of-self
invariant_of-self g c =
    let are = written g (goal.at.invariant_of-self g c).After-written in
    let counts : List ℕ = c.count_off.new.waiting in
    let counts_are : take c.self.inside.waiting.len (counts ++ drop (length counts) c.self.inside.waiting.items) ≡ counts =
    take_at counts (drop (length counts) c.self.inside.waiting.items) c.self.inside.waiting.len (c.count_off.auto.waiting ∙ c.deref_mut.ensures.len) in
    rw (counts_are, c.end_at_rest.ensures.section)
    (well_then _ _ _ c.self.invariant c.in-Some.below c.in-Some.is c.advance-answer.result c.advance-answer.new.self c.advance-answer.ensures.steps
    c.advance-answer.ensures.left _ are _ c.settle.ensures.settled _ _ _ _ _ _ _
    c.end_at_rest.ensures.rest c.end_at_rest.ensures.goes_on c.end_at_rest.ensures.room
    (counts_after _ _ _ c.self.invariant c.in-Some.below c.in-Some.is c.advance-answer.result c.advance-answer.new.self c.advance-answer.ensures.steps
    _ are _ c.settle.ensures.settled c.head-head.result c.head-head.ensures _
    (rw c.deref_mut.ensures.value at c.count_off.ensures) (rw c.deref_mut.ensures.value at c.count_off.auto.waiting)))

pub returns-clause-sound : goal.returns-clause-sound
returns-clause-sound g c told =
    rw (← c.self.view_is, c.end_at_rest.ensures.section)
    (λ score setup h durable from sound.
    sound_then score setup g.D.Disk _ h durable from sound _ _ c.self.invariant c.in-Some.below c.in-Some.is
    c.advance-answer.result c.advance-answer.new.self c.advance-answer.ensures.steps (c.advance-answer.ensures.sound told) c.advance-answer.ensures.wrote
    _ (written g (goal.at.returns-clause-sound g c).After-written) _ c.settle.ensures.settled
    _ (ap (λ (x : Head). x.total) c.head-head.ensures) _ c.forget.ensures.dropped c.forget.ensures.kept
    _ _ _ (λ rest. (c.end_at_rest.ensures.rest rest).0) (λ on. (c.end_at_rest.ensures.goes_on on).0))

pub returns-clause-crash : goal.returns-clause-crash
returns-clause-crash g c =
    rw (← c.self.view_is, c.end_at_rest.ensures.section)
    (λ score setup h durable from n told sound le fits file within.
    let step = c.advance-answer.ensures.agrees score setup (take n h) sound.known told sound.section
    (agrees_further score setup h c.self.inside.section sound.known durable n sound.keys le sound.agrees) in
    step_live score setup g.D.Disk _ h durable from sound n c.advance-answer.result c.advance-answer.new.self c.advance-answer.ensures.steps
    step.0 file (step.2 file within))

pub returns-clause-takes : goal.returns-clause-takes
returns-clause-takes g c =
    rw (← c.self.view_is, c.end_at_rest.ensures.section)
    (takes _ c.in-Some.below c.in-Some.is (under_way_of _ _ _ c.self.invariant c.in-Some.below c.in-Some.is)
    c.advance-answer.result c.advance-answer.new.self c.advance-answer.ensures.steps
    c.advance-answer.ensures.done c.advance-answer.ensures.left c.advance-answer.ensures.stopped c.advance-answer.ensures.untouched
    (goes_on _ _ _ c.self.invariant (subst IsSome (sym c.in-Some.is) refl))
    _ (written g (goal.at.returns-clause-takes g c).After-written) _ c.settle.ensures.settled c.settle.ensures.none
    _ (ap (λ (x : Head). x.total) c.head-head.ensures) _ c.forget.ensures.dropped c.forget.ensures.kept
    _ _ _ (rw (← c.bucket_under_way-bucket.ensures.bucket) c.end_at_rest.ensures.rest) c.end_at_rest.ensures.goes_on)

pub returns-clause-reads : goal.returns-clause-reads
returns-clause-reads g c =
    rw (← c.self.view_is, c.end_at_rest.ensures.section)
    (record {
      merged = c.advance-answer.ensures.merged;
      names = c.advance-answer.ensures.differs;
      damaged = c.advance-answer.ensures.damaged;
    })

pub returns-clause-calls : goal.returns-clause-calls
returns-clause-calls g c =
    rw (← c.self.view_is, c.end_at_rest.ensures.section)
    (record {
      faults = c.advance-answer.ensures.faults;
      calls = c.advance-answer.ensures.calls;
      writes = c.advance-answer.ensures.writes;
      written = c.advance-answer.ensures.written;
      synced = c.advance-answer.ensures.settled;
    })

pub returns-clause-undamaged : goal.returns-clause-undamaged
returns-clause-undamaged g c = λ score setup h durable from told sound few.
    let was = subst (λ t. IsSoundFrom score setup g.D.Disk t h durable from) (sym c.self.view_is) sound in
    c.advance-answer.ensures.undamaged score setup h was.known told was.section (agrees_whole score setup g.D.Disk _ h durable from was) few
