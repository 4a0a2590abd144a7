use Rattle.std.proofs.Common.{◌≡◌, ℕ, ◌+◌, ◌-◌, ◌≤◌, List, [], ◌++◌, length, take, sym, subst, ◌∙◌, arith, length-append}
use Rattle.std.proofs.lemmas.List.{length-take-le}
use Rattle.vt_client.specs.Exchanges.{MovesBytes, traffic_of}
use borrow.Rule.Slice.PartMut.{post_of}
use Rattle.vt_client.proofs.Moving.{Moves-in, Moves-append, taken_behind}
use Rattle.vt_client.proofs.exchange.take_all.Goals as goal

pub loop-n-preserved : goal.loop-n-preserved
loop-n-preserved g c =
    let so = c.loop-n.invariant in
    let n : ℕ = c.loop-n.n in
    let more : ℕ = c.in-Ok.more in
    let buf : List ℕ = c.loop-n.buf in
    let part : List ℕ = c.take.new.buf in
    let behind : List ℕ = post_of n (length buf - n) buf in
    let few : more ≤ length part = omega (arith, c.in-Ok.ensures.fits, c.take.auto.buf) in
    let front = traffic_of g.L.Link c.args.link.now in
    let here = traffic_of g.L.Link c.loop-n.link in
    let after = traffic_of g.L.Link c.take.new.self in
    record {
      within = omega (
        arith,
        length-append (take n buf) (part ++ behind),
        length-append part behind,
        length-take-le n buf so.within,
        few,
      );
      moves = λ told. subst (λ (l : List ℕ). MovesBytes front after [] l)
          (sym (taken_behind n more buf part behind so.within few))
          (Moves-append front here after [] [] (take n buf) (take more part) (so.moves told)
          (Moves-in g.L.Link c.loop-n.link c.take.new.self (take more part)
          (c.in-Ok.ensures.moved told) (c.in-Ok.ensures.came told)
          (c.in-Ok.ensures.written told)));
      reads = c.in-Ok.ensures.cause ∙ so.reads;
      writes = c.in-Ok.ensures.write_faults ∙ so.writes;
    }
