use Rattle.std.proofs.Common.{◌∙◌, ap, arith, sym, suc, length}
use lib.ListN.{get_elem?}
use Rattle.std.specs.Vec.Iter.{into_iter_len}
use Rattle.vt_turns_example.specs.declared.workers.End.{End}
use Rattle.vt_turns_example.proofs.Joins.{works_in, joining_none, joining_more}
use Rattle.vt_turns_example.proofs.workers.join_all.Goals as goal

pub loop-started-init : goal.loop-started-init
loop-started-init g c = let h = c.into_iter-started-iterator.ensures.into_iter_gives in let none = ap length c.requires.room.0 in let room = c.requires.room.1 in record {
  free = c.requires.free;
  room = let many = h.1 in omega arith;
  joining = joining_none g.L.Link.told c.args.store.now c.args.before.now.value.me.0 c.args.pass.me.0 c.args.all.items c.args.ends.items (into_iter_len c.into_iter-started-iterator.result) c.requires.room.0 (let m = h.1 in omega arith) c.requires.begun;
  begun = λ k s e. c.requires.begun.2 k s (ap (λ l. get_elem? l k) (sym h.0) ∙ e);
}

pub join_pass-requires-clause-other : goal.join_pass-requires-clause-other
join_pass-requires-clause-other g c =
    let h = c.in-Some.ensures.steps in
    let b = c.loop-started.invariant.begun 0 c.in-Some.started (ap (λ l. get_elem? l 0) h.0) in
    let w = c.finish-other.ensures b.0 b.3 in
    let free = works_in c.args.store.now b.0 c.finish-other.result.pass (g.L.Link.told c.finish-other.result.link) b.2 w in
    (free.0.0, free.1)

pub loop-started-preserved : goal.loop-started-preserved
loop-started-preserved g c =
    let h = c.in-Some.ensures.steps in
    let inv = c.loop-started.invariant in
    let b = inv.begun 0 c.in-Some.started (ap (λ l. get_elem? l 0) h.0) in
    let w = c.finish-other.ensures b.0 b.3 in
    let push = c.push_reserved.ensures in
    let e : End g.row.L.Denot = record { link = c.finish-other.result.link; pass = c.of-was.result } in record {
      free = c.join_pass.ensures.free;
      room = let l = push.len in let k = push.capacity in let r = inv.room in let m = h.1 in omega arith;
      joining = joining_more g.L.Link.told c.args.before.now.value.me.0 c.loop-started.pass.me.0 c.join_pass.new.pass.me.0 b.0 c.finish-other.result.pass c.loop-started.ends.items c.push_reserved.new.self.items e
          (into_iter_len c.next.new.self) (into_iter_len c.loop-started.started-iterator) inv.joining (sym h.1) b.1 w c.of-was.ensures c.join_pass.ensures.joins push.items;
      begun = λ k s at. inv.begun (suc k) s (ap (λ l. get_elem? l (suc k)) h.0 ∙ at);
    }
