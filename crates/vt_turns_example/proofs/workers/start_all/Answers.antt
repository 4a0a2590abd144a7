use Rattle.std.proofs.Common.{rules, ◌∙◌, ap, arith}
use Rattle.vt_turns.specs.Views.{turn_of}
use Rattle.vt_turns_example.specs.Stores.{TheView}
use Rattle.vt_turns_example.proofs.Joins.{less_more, split_same, begun_more}
use Rattle.vt_turns_example.proofs.workers.start_all.Goals as goal

pub loop-i-preserved : goal.loop-i-preserved
loop-i-preserved g c =
    let inv = c.loop-i.invariant in
    let sp = c.split-other.ensures in
    let v = c.args.pass.me.0 in
    let u = c.loop-i.pass.me.0 in
    let left = ap (λ (z : TheView). z.share) inv.seen in
    let fewer = ap (λ (z : TheView). z.share) sp.view in
    let one = ap (λ (z : TheView). z.share) sp.new.1 in
    let some_left = c.requires.share in
    let near = c.loop-i-test.true in
    let push = c.push_reserved.ensures in record {
      free = ((sp.own, ap (λ (z : TheView). z.opening) sp.view ∙ inv.free.0.1, omega arith), λ k. ap (λ (z : TheView). turn_of z k) sp.view ∙ inv.free.1 k);
      seen = sp.view ∙ less_more v u c.loop-i.i inv.seen;
      many = search rules;
      room = search rules;
      begun = begun_more g.D.Link.Link.told c.args.store.now v c.loop-i.all.items c.push_reserved.new.self.items c.start.result c.split-other.result push.items inv.begun (sp.new.1 ∙ split_same v u c.loop-i.i inv.seen)
          (sp.new.0, ap (λ (z : TheView). z.opening) sp.new.1 ∙ inv.free.0.1, omega arith) c.start.ensures;
    }
