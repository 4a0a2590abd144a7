use Rattle.std.proofs.Common.{ℕ, ◌-◌, ◌≤◌, List, ◌++◌, length, take, ◌∙◌, arith, length-append}
use Rattle.std.proofs.lemmas.List.{length-take-le}
use borrow.Rule.Slice.PartMut.{post_of}
use Rattle.vt_tree.proofs.Filling.{taken_behind}
use Rattle.vt_tree.proofs.writing.fill.Goals as goal

pub loop-n-preserved : goal.loop-n-preserved
loop-n-preserved g c =
    let so = c.loop-n.invariant in
    let n : ℕ = c.loop-n.n in
    let buf : List ℕ = c.loop-n.buf in
    let part : List ℕ = c.take.new.buf in
    let behind : List ℕ = post_of n (length buf - n) buf in
    let few : c.in-Ok.more ≤ length part = omega (arith, c.in-Ok.ensures.fits, c.take.auto.buf) in
    record {
      within = omega (
        arith,
        length-append (take n buf) (part ++ behind),
        length-append part behind,
        length-take-le n buf so.within,
        few,
      );
      taken = taken_behind g.R.Source.tells (g.R.Source.left c.args.source.now)
          (g.R.Source.left c.loop-n.source) (g.R.Source.left c.take.new.self) n c.in-Ok.more buf
          part behind so.within few so.taken (λ i. omega (arith, c.type_inv.buf i))
          c.in-Ok.ensures.moved;
      faults = c.in-Ok.ensures.cause ∙ so.faults;
      kept = c.in-Ok.ensures.keeps ∙ so.kept;
    }
