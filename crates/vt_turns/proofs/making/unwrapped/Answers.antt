use Rattle.std.proofs.Common.{◌∙◌, ◌∷◌, ◌++◌, ap, arith}
use Rattle.std.specs.Vec.Iter.{into_iter_items}
use Rattle.vt_turns.proofs.Slots.{full_step, none_first}
use Rattle.vt_turns.proofs.making.unwrapped.Goals as goal

pub unreachable-requires : goal.unreachable-requires
unreachable-requires g c =
    let left = c.loop-slot.invariant.left c.requires.full.0 c.requires.full.1 in
    let tail = into_iter_items c.next.new.self in
    none_first (into_iter_items c.loop-slot.slot-iterator) tail left.0
    (c.in-Some.ensures.steps.0 ∙ ap (λ slot. slot ∷ tail) c.in_default.is) left.2

pub loop-slot-preserved : goal.loop-slot-preserved
loop-slot-preserved g c =
    let inv = c.loop-slot.invariant in
    let steps = c.in-Some.ensures.steps in
    let push = c.push_reserved.ensures in
    let tail = into_iter_items c.next.new.self in
    let is = steps.0 ∙ ap (λ slot. slot ∷ tail) c.in-Some-slot.is in record {
      room = let room = inv.room in let shorter = steps.1 in let len = push.len in let same = push.capacity in omega arith;
      left = λ all full.
          let old = inv.left all full in
          let next = full_step (into_iter_items c.loop-slot.slot-iterator) tail c.in-Some-slot.part c.loop-slot.parts.items old.0 all is old.1 old.2 in
          (next.0, ap (λ parts. parts ++ next.0) push.items ∙ next.1, next.2);
    }
