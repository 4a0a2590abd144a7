-- One call of the disk is made, and each clause says what it leaves.
use Rattle.std.proofs.Common.{◌+◌, List, Ok, Err, length, set, drop, refl, ◌∙◌, ap, arith}
use Rattle.vt_disk.specs.declared.call.CallError.{CallError}
use Rattle.vt_clump.specs.declared.packed.Packed.{Packed}
use Rattle.vt_part.specs.declared.layout.ArenaRegion.{ArenaRegion}
use Rattle.vt_arena.specs.declared.head.ArenaHead.{ArenaHead}
use Rattle.vt_log.specs.declared.error.Progress.TheVariants.{Step, Durable}
use Rattle.vt_log.specs.declared.error.LogErr.TheVariants.{Fault}
use Rattle.vt_log.specs.Committing.{MakesOneCall}
use Rattle.vt_log.specs.View.{state_of}
use Rattle.vt_log.proofs.EndsCommit.{next_there}
use Rattle.vt_log.proofs.HoldTheSame.{with_disk}
use Rattle.vt_log.proofs.MakesOneCall.{IsCalledIn, region_at, arena_there, same_len, more_in_parts, fault_in_parts, ended_in_parts, turned_in_parts, IsLast, last_call, Settles, IsNextArena, seals_too, next_arena_there}
use Rattle.vt_log.proofs.IsWhole.{durable_small}
use Rattle.vt_log.proofs.log.Log.make_call.Goals as goal

pub advance-requires-clause-same : goal.advance-requires-clause-same
advance-requires-clause-same g c =
    same_len g.D.Disk _ c.args.self.now c.as_slice.result.now _ c.self.view_is c.self.invariant c.requires.some c.as_slice.ensures refl

-- a call that isn't the last of its commit
called_more : (g : _) (c : goal.In-Ok-More g)
    → IsCalledIn g.S.Scorer.score_of g.D.Disk
    c.self.inside.parts.items c.index_mut.result.now (state_of c.self.inside) c.args.self.now (region_at c.as_slice.result.now c.self.inside.committing)
    c.advance.new.disk c.advance.new.self (Ok c.in-Ok-More.field-0)
called_more g c = record {
  made = record {
    sound = c.in-Ok-More.ensures.sound g.S.Scorer.score_of;
    crash = c.in-Ok-More.ensures.crash g.S.Scorer.score_of;
    last = c.in-Ok-More.ensures.last g.S.Scorer.score_of;
    settled = c.in-Ok-More.ensures.settled;
    steps = c.in-Ok-More.ensures.steps (rw (← c.self.view_is) at c.requires.runs);
    left = c.in-Ok-More.ensures.left;
    done = λ is. (c.in-Ok-More.ensures.done).0 (cc);
    n = c.self.inside.calls;
    m = c.advance.new.calls;
    makes = c.in-Ok-More.ensures.makes (rw (← c.self.view_is) at c.requires.runs);
    writes = c.in-Ok-More.ensures.writes;
  };
  there = arena_there g.D.Disk c.self.inside.parts.items c.index_mut.result.now (state_of c.self.inside) c.args.self.now c.as_slice.result.now
      (region_at c.as_slice.result.now c.self.inside.committing) c.self.view_is c.self.invariant refl refl c.requires.runs c.requires.some c.requires.ready
      c.as_slice.ensures refl c.index_mut.ensures.value;
}

more : (g : _) (c : goal.In-Ok-More g)
    → MakesOneCall g.S.Scorer.score_of g.D.Disk c.args.self.now
    (with_disk c.self.inside.parts.items (region_at c.as_slice.result.now c.self.inside.committing).part c.index_mut.result.now c.advance.new.disk (record (state_of c.self.inside) {
      arena = c.advance.new.self;
      calls = c.advance.new.calls.made;
      stopped = c.advance.new.calls.stopped;
    }))
    (Ok Step)
more g c = more_in_parts (called_more g c) c.in-Ok-More.field-0-is (c.in-Ok-More.ensures.makes (rw (← c.self.view_is) at c.requires.runs)).counts

pub invariant_of-self : goal.invariant_of-self
invariant_of-self g c = (more g c).whole

pub returns-in-Ok-More : goal.returns-in-Ok-More
returns-in-Ok-More g c = more g c

pub overflow_add-self : goal.overflow_add-self
overflow_add-self g c = omega (arith, durable_small g.D.Disk _ c.self.invariant, c.staged-blocks.ensures.most)

-- the last one, where the commit doesn't seal
called_ended : (g : _) (c : goal.Then-not-sealed g)
    → IsCalledIn g.S.Scorer.score_of g.D.Disk
    c.self.inside.parts.items c.index_mut.result.now (state_of c.self.inside) c.args.self.now (region_at c.as_slice.result.now c.self.inside.committing)
    c.advance.new.disk c.advance.new.self (Ok c.in-Ok-Done.field-0)
called_ended g c = record {
  made = record {
    sound = c.in-Ok-Done.ensures.sound g.S.Scorer.score_of;
    crash = c.in-Ok-Done.ensures.crash g.S.Scorer.score_of;
    last = c.in-Ok-Done.ensures.last g.S.Scorer.score_of;
    settled = c.in-Ok-Done.ensures.settled;
    steps = c.in-Ok-Done.ensures.steps (rw (← c.self.view_is) at c.requires.runs);
    left = c.in-Ok-Done.ensures.left;
    done = λ is. (c.in-Ok-Done.ensures.done).0 (cc);
    n = c.self.inside.calls;
    m = c.advance.new.calls;
    makes = c.in-Ok-Done.ensures.makes (rw (← c.self.view_is) at c.requires.runs);
    writes = c.in-Ok-Done.ensures.writes;
  };
  there = arena_there g.D.Disk c.self.inside.parts.items c.index_mut.result.now (state_of c.self.inside) c.args.self.now c.as_slice.result.now
      (region_at c.as_slice.result.now c.self.inside.committing) c.self.view_is c.self.invariant refl refl c.requires.runs c.requires.some c.requires.ready
      c.as_slice.ensures refl c.index_mut.ensures.value;
}

last_ended : (g : _) (c : goal.Then-not-sealed g) → IsLast (state_of c.self.inside) (region_at c.as_slice.result.now c.self.inside.committing) c.index_mut-in-Ok-Done.result.now c.advance.new.self
last_ended g c = last_call (called_ended g c).there c.index_mut-in-Ok-Done.ensures.value c.head.ensures.head c.in-Ok-Done.ensures.len c.head.ensures.fit

settles_ended : (g : _) (c : goal.Then-not-sealed g)
    → Settles (state_of c.self.inside) c.index_mut-in-Ok-Done.result.now c.advance.new.self
    (set c.self.inside.heads.items c.self.inside.committing (record c.index_mut-in-Ok-Done.result.now { head = c.head.result }))
    c.drop_committed.new.self (c.self.inside.durable + length c.staged-blocks.result.now) c.advance.new.calls
settles_ended g c = record {
  heads_are = ap (λ (h : ArenaHead). set c.self.inside.heads.items c.self.inside.committing (record c.index_mut-in-Ok-Done.result.now { head = h })) c.head.ensures.head;
  waiting = c.drop_committed.ensures.waiting;
  places = c.drop_committed.ensures.places ∙ ap (λ (ps : List Packed). drop (length ps) c.self.inside.queue.places) c.staged-blocks.ensures.staged;
  durable_is = ap (λ (ps : List Packed). c.self.inside.durable + length ps) c.staged-blocks.ensures.staged;
  count_is = (c.in-Ok-Done.ensures.makes (rw (← c.self.view_is) at c.requires.runs)).counts;
}

done : (g : _) (c : goal.Then-not-sealed g)
    → MakesOneCall g.S.Scorer.score_of g.D.Disk c.args.self.now
    (with_disk c.self.inside.parts.items (region_at c.as_slice.result.now c.self.inside.committing).part c.index_mut.result.now c.advance.new.disk (record (state_of c.self.inside) {
      heads = set c.self.inside.heads.items c.self.inside.committing (record c.index_mut-in-Ok-Done.result.now { head = c.head.result });
      arena = c.advance.new.self;
      queue = c.drop_committed.new.self;
      durable = c.self.inside.durable + length c.staged-blocks.result.now;
      calls = c.advance.new.calls.made;
      stopped = c.advance.new.calls.stopped;
    }))
    (Ok (Durable (c.self.inside.durable + length c.staged-blocks.result.now)))
done g c =
    ended_in_parts (called_ended g c) c.in-Ok-Done.field-0-is (last_ended g c) (settles_ended g c) (cc)

pub invariant_of-self-then-not-sealed : goal.invariant_of-self-then-not-sealed
invariant_of-self-then-not-sealed g c = (done g c).whole

pub returns-then-not-sealed : goal.returns-then-not-sealed
returns-then-not-sealed g c = done g c

-- where it does, the next arena is there
pub bounds-as_slice-at-in-Ok-Done : goal.bounds-as_slice-at-in-Ok-Done
bounds-as_slice-at-in-Ok-Done g c =
    let sealed = seals_too CallError c.self.inside.arena c.advance.new.self _ (c.in-Ok-Done.ensures.steps (rw (← c.self.view_is) at c.requires.runs)) c.in-Ok-Done.field-0-is (cc) in
    omega (arith, next_there g.D.Disk (state_of c.self.inside) c.self.invariant sealed, ap (λ (rs : List ArenaRegion). length rs) c.as_slice-in-Ok-Done.ensures)

pub index-requires : goal.index-requires
index-requires g c =
    let sealed = seals_too CallError c.self.inside.arena c.advance.new.self _ (c.in-Ok-Done.ensures.steps (rw (← c.self.view_is) at c.requires.runs)) c.in-Ok-Done.field-0-is (cc) in
    omega (arith, next_there g.D.Disk (state_of c.self.inside) c.self.invariant sealed, c.self.invariant.many, c.self.inside.heads.ok.0)

next_before : (g : _) (c : goal.After-move_to-arg-in-Ok-Done-1 g) → IsNextArena (state_of c.self.inside) (region_at c.as_slice-in-Ok-Done.result.now (c.self.inside.committing + 1)) c.index.result.now
next_before g c =
    let sealed = seals_too CallError c.self.inside.arena c.advance.new.self _ (c.in-Ok-Done.ensures.steps (rw (← c.self.view_is) at c.requires.runs)) c.in-Ok-Done.field-0-is (cc) in
    next_arena_there g.D.Disk (state_of c.self.inside) c.as_slice-in-Ok-Done.result.now (region_at c.as_slice-in-Ok-Done.result.now (c.self.inside.committing + 1))
    (record c.index_mut-in-Ok-Done.result.now { head = c.head.result }) c.index.result.now c.self.invariant sealed c.as_slice-in-Ok-Done.ensures refl c.index.ensures

pub move_to-requires-clause-len : goal.move_to-requires-clause-len
move_to-requires-clause-len g c = (next_before g c).len

pub move_to-requires-clause-fit : goal.move_to-requires-clause-fit
move_to-requires-clause-fit g c = (next_before g c).fit

-- the last one, and the next arena is turned to
called_turned : (g : _) (c : goal.After-move_to g)
    → IsCalledIn g.S.Scorer.score_of g.D.Disk
    c.self.inside.parts.items c.index_mut.result.now (state_of c.self.inside) c.args.self.now (region_at c.as_slice.result.now c.self.inside.committing)
    c.advance.new.disk c.advance.new.self (Ok c.in-Ok-Done.field-0)
called_turned g c = record {
  made = record {
    sound = c.in-Ok-Done.ensures.sound g.S.Scorer.score_of;
    crash = c.in-Ok-Done.ensures.crash g.S.Scorer.score_of;
    last = c.in-Ok-Done.ensures.last g.S.Scorer.score_of;
    settled = c.in-Ok-Done.ensures.settled;
    steps = c.in-Ok-Done.ensures.steps (rw (← c.self.view_is) at c.requires.runs);
    left = c.in-Ok-Done.ensures.left;
    done = λ is. (c.in-Ok-Done.ensures.done).0 (cc);
    n = c.self.inside.calls;
    m = c.advance.new.calls;
    makes = c.in-Ok-Done.ensures.makes (rw (← c.self.view_is) at c.requires.runs);
    writes = c.in-Ok-Done.ensures.writes;
  };
  there = arena_there g.D.Disk c.self.inside.parts.items c.index_mut.result.now (state_of c.self.inside) c.args.self.now c.as_slice.result.now
      (region_at c.as_slice.result.now c.self.inside.committing) c.self.view_is c.self.invariant refl refl c.requires.runs c.requires.some c.requires.ready
      c.as_slice.ensures refl c.index_mut.ensures.value;
}

last_turned : (g : _) (c : goal.After-move_to g) → IsLast (state_of c.self.inside) (region_at c.as_slice.result.now c.self.inside.committing) c.index_mut-in-Ok-Done.result.now c.advance.new.self
last_turned g c = last_call (called_turned g c).there c.index_mut-in-Ok-Done.ensures.value c.head.ensures.head c.in-Ok-Done.ensures.len c.head.ensures.fit

settles_turned : (g : _) (c : goal.After-move_to g)
    → Settles (state_of c.self.inside) c.index_mut-in-Ok-Done.result.now c.advance.new.self
    (set c.self.inside.heads.items c.self.inside.committing (record c.index_mut-in-Ok-Done.result.now { head = c.head.result }))
    c.drop_committed.new.self (c.self.inside.durable + length c.staged-blocks.result.now) c.advance.new.calls
settles_turned g c = record {
  heads_are = ap (λ (h : ArenaHead). set c.self.inside.heads.items c.self.inside.committing (record c.index_mut-in-Ok-Done.result.now { head = h })) c.head.ensures.head;
  waiting = c.drop_committed.ensures.waiting;
  places = c.drop_committed.ensures.places ∙ ap (λ (ps : List Packed). drop (length ps) c.self.inside.queue.places) c.staged-blocks.ensures.staged;
  durable_is = ap (λ (ps : List Packed). c.self.inside.durable + length ps) c.staged-blocks.ensures.staged;
  count_is = (c.in-Ok-Done.ensures.makes (rw (← c.self.view_is) at c.requires.runs)).counts;
}

next_turned : (g : _) (c : goal.After-move_to g) → IsNextArena (state_of c.self.inside) (region_at c.as_slice-in-Ok-Done.result.now (c.self.inside.committing + 1)) c.index.result.now
next_turned g c =
    let sealed = seals_too CallError c.self.inside.arena c.advance.new.self _ (c.in-Ok-Done.ensures.steps (rw (← c.self.view_is) at c.requires.runs)) c.in-Ok-Done.field-0-is (cc) in
    next_arena_there g.D.Disk (state_of c.self.inside) c.as_slice-in-Ok-Done.result.now (region_at c.as_slice-in-Ok-Done.result.now (c.self.inside.committing + 1))
    (record c.index_mut-in-Ok-Done.result.now { head = c.head.result }) c.index.result.now c.self.invariant sealed c.as_slice-in-Ok-Done.ensures refl c.index.ensures

turns : (g : _) (c : goal.After-move_to g)
    → MakesOneCall g.S.Scorer.score_of g.D.Disk c.args.self.now
    (with_disk c.self.inside.parts.items (region_at c.as_slice.result.now c.self.inside.committing).part c.index_mut.result.now c.advance.new.disk (record (state_of c.self.inside) {
      heads = set c.self.inside.heads.items c.self.inside.committing (record c.index_mut-in-Ok-Done.result.now { head = c.head.result });
      committing = c.self.inside.committing + 1;
      arena = c.move_to.new.self;
      queue = c.drop_committed.new.self;
      durable = c.self.inside.durable + length c.staged-blocks.result.now;
      calls = c.advance.new.calls.made;
      stopped = c.advance.new.calls.stopped;
    }))
    (Ok (Durable (c.self.inside.durable + length c.staged-blocks.result.now)))
turns g c =
    turned_in_parts g.met.D.Disk.read_is_image (called_turned g c) c.in-Ok-Done.field-0-is (last_turned g c) (settles_turned g c) (cc) (next_turned g c) c.move_to.ensures

pub invariant_of-self-in-Ok-Done : goal.invariant_of-self-in-Ok-Done
invariant_of-self-in-Ok-Done g c = (turns g c).whole

pub returns-else-not-sealed : goal.returns-else-not-sealed
returns-else-not-sealed g c = turns g c

-- one that failed
called_fault : (g : _) (c : goal.In-Err g)
    → IsCalledIn g.S.Scorer.score_of g.D.Disk
    c.self.inside.parts.items c.index_mut.result.now (state_of c.self.inside) c.args.self.now (region_at c.as_slice.result.now c.self.inside.committing)
    c.advance.new.disk c.advance.new.self (Err c.in-Err.field-0)
called_fault g c = record {
  made = record {
    sound = c.in-Err.ensures.sound g.S.Scorer.score_of;
    crash = c.in-Err.ensures.crash g.S.Scorer.score_of;
    last = c.in-Err.ensures.last g.S.Scorer.score_of;
    settled = c.in-Err.ensures.settled;
    steps = c.in-Err.ensures.steps (rw (← c.self.view_is) at c.requires.runs);
    left = c.in-Err.ensures.left;
    done = λ is. absurd (cc);
    n = c.self.inside.calls;
    m = c.advance.new.calls;
    makes = c.in-Err.ensures.makes (rw (← c.self.view_is) at c.requires.runs);
    writes = c.in-Err.ensures.writes;
  };
  there = arena_there g.D.Disk c.self.inside.parts.items c.index_mut.result.now (state_of c.self.inside) c.args.self.now c.as_slice.result.now
      (region_at c.as_slice.result.now c.self.inside.committing) c.self.view_is c.self.invariant refl refl c.requires.runs c.requires.some c.requires.ready
      c.as_slice.ensures refl c.index_mut.ensures.value;
}

failed : (g : _) (c : goal.In-Err g)
    → MakesOneCall g.S.Scorer.score_of g.D.Disk c.args.self.now
    (with_disk c.self.inside.parts.items (region_at c.as_slice.result.now c.self.inside.committing).part c.index_mut.result.now c.advance.new.disk (record (state_of c.self.inside) {
      arena = c.advance.new.self;
      calls = c.advance.new.calls.made;
      stopped = c.advance.new.calls.stopped;
    }))
    (Err Fault)
failed g c = fault_in_parts (called_fault g c) (c.in-Err.ensures.makes (rw (← c.self.view_is) at c.requires.runs)).counts

pub invariant_of-self-in-Err : goal.invariant_of-self-in-Err
invariant_of-self-in-Err g c = (failed g c).whole

pub returns-in-Err : goal.returns-in-Err
returns-in-Err g c = failed g c
