use Rattle.std.proofs.Common.{◌≡◌, ◌+◌, ◌-◌, ◌≤◌, ◌++◌, ℕ, Ok, Err, List, length, take, sym, ◌∙◌, ap, subst, inr, arith, append-nil, append_assoc}
use Rattle.std.specs.Prelude.{IsTrue}
use borrow.Rule.Slice.PartMut.{mid_len, post_of, put_mid, same_len_mid, take_put}
use Rattle.nine_view.specs.declared.serving.Ended.TheVariants.{Cut, ReadFault, Spent}
use Rattle.nine_view.proofs.Filling.{fills_so, taken_behind}
use Rattle.nine_view.proofs.serving.fill.Goals as goal

pub returns-then-most-eq0-clause-fills : goal.returns-then-most-eq0-clause-fills
returns-then-most-eq0-clause-fills g c =
    let inv = c.loop-have.invariant in
    let more = c.loop-have-test.true in
    let none = c.if-most-eq0.true in
    let least = c.min-most.ensures in
    let left = c.left_to_take.ensures in
    fills_so (IsTrue g.L.Link.tells) (g.L.Link.given c.args.link.now)
    (g.L.Link.given c.loop-have.link) (g.L.Link.left c.loop-have.link) c.args.taken.now
    c.loop-have.taken c.loop-have.have c.args.inside c.loop-have.buf (Err Spent) inv.within inv.given
    inv.taken (more, omega (arith, inv.most)) (λ told. tt)

pub returns-in-Err-clause-fills : goal.returns-in-Err-clause-fills
returns-in-Err-clause-fills g c =
    let inv = c.loop-have.invariant in
    let have : ℕ = c.loop-have.have in
    let most : ℕ = c.min-most.result in
    let buf : List ℕ = c.loop-have.buf in
    let part : List ℕ = c.take.new.buf in
    let k : ℕ = have + most - have in
    let len : length (put_mid have k buf part) ≡ length buf =
    same_len_mid have k buf part c.take.auto.buf in
    let front : take have (put_mid have k buf part) ≡ take have buf =
    take_put have k buf part inv.within in
    let more = c.loop-have-test.true in
    let some = c.if-most-eq0.false in
    let least = c.min-most.ensures in
    let left = c.left_to_take.ensures in
    fills_so (IsTrue g.L.Link.tells) (g.L.Link.given c.args.link.now)
    (g.L.Link.given c.take.new.self) (g.L.Link.left c.take.new.self) c.args.taken.now
    c.loop-have.taken have c.args.inside (put_mid have k buf part) (Err ReadFault)
    (omega (arith, inv.within, len))
    (λ told. c.in-Err.ensures.none told ∙ inv.given told
    ∙ ap (λ (l : List ℕ). g.L.Link.given c.args.link.now ++ l) (sym front))
    inv.taken (omega (arith, len, more), omega (arith, inv.most)) (λ told. tt)

pub returns-in-Ok-eq0-2-2-clause-fills : goal.returns-in-Ok-eq0-2-2-clause-fills
returns-in-Ok-eq0-2-2-clause-fills g c =
    let inv = c.loop-have.invariant in
    let have : ℕ = c.loop-have.have in
    let most : ℕ = c.min-most.result in
    let buf : List ℕ = c.loop-have.buf in
    let part : List ℕ = c.take.new.buf in
    let k : ℕ = have + most - have in
    let len : length (put_mid have k buf part) ≡ length buf =
    same_len_mid have k buf part c.take.auto.buf in
    let front : take have (put_mid have k buf part) ≡ take have buf =
    take_put have k buf part inv.within in
    let more = c.loop-have-test.true in
    let some = c.if-most-eq0.false in
    let least = c.min-most.ensures in
    let left = c.left_to_take.ensures in
    let within : have + most ≤ length buf = omega (arith, inv.within, least, more) in
    let lent = mid_len have (have + most) buf within in
    let long : length part ≡ have + most - have = c.take.auto.buf ∙ lent in
    let given : List ℕ = g.L.Link.given c.loop-have.link in
    let none : c.in-Ok-eq0.field-0 ≡ 0 = omega arith in
    fills_so (IsTrue g.L.Link.tells) (g.L.Link.given c.args.link.now)
    (g.L.Link.given c.take.new.self) (g.L.Link.left c.take.new.self) c.args.taken.now
    c.loop-have.taken have c.args.inside (put_mid have k buf part) (Err Cut)
    (omega (arith, inv.within, len))
    (λ told. c.in-Ok-eq0.ensures.came told ∙ ap (λ (n : ℕ). given ++ take n part) none
    ∙ append-nil given ∙ inv.given told
    ∙ ap (λ (l : List ℕ). g.L.Link.given c.args.link.now ++ l) (sym front))
    inv.taken (
      inr (omega (arith, c.if-have-eq0.false)),
      omega (arith, len, more),
      omega (arith, inv.most),
    )
    (λ told. sym (c.in-Ok-eq0.ensures.moved told
    ∙ ap (λ (n : ℕ). take n part ++ g.L.Link.left c.take.new.self) none)
    ∙ c.in-Ok-eq0.ensures.end told none (omega (arith, lent, some)))

pub loop-have-preserved : goal.loop-have-preserved
loop-have-preserved g c =
    let inv = c.loop-have.invariant in
    let have : ℕ = c.loop-have.have in
    let most : ℕ = c.min-most.result in
    let buf : List ℕ = c.loop-have.buf in
    let part : List ℕ = c.take.new.buf in
    let k : ℕ = have + most - have in
    let len : length (put_mid have k buf part) ≡ length buf =
    same_len_mid have k buf part c.take.auto.buf in
    let front : take have (put_mid have k buf part) ≡ take have buf =
    take_put have k buf part inv.within in
    let more = c.loop-have-test.true in
    let some = c.if-most-eq0.false in
    let least = c.min-most.ensures in
    let left = c.left_to_take.ensures in
    let within : have + most ≤ length buf = omega (arith, inv.within, least, more) in
    let lent = mid_len have (have + most) buf within in
    let long : length part ≡ have + most - have = c.take.auto.buf ∙ lent in
    let n : ℕ = c.in-Ok.n in
    let few : n ≤ length part =
    subst (λ (m : ℕ). n ≤ m) (sym c.take.auto.buf) c.in-Ok.ensures.fits in
    let given : List ℕ = g.L.Link.given c.args.link.now in
    record {
      within = omega (arith, inv.within, len, few, long, within);
      given = λ told. c.in-Ok.ensures.came told
          ∙ ap (λ (l : List ℕ). l ++ take n part) (inv.given told)
          ∙ append_assoc given (take have buf) (take n part)
          ∙ ap (λ (l : List ℕ). given ++ l)
          (sym (taken_behind have n buf part (post_of have k buf) inv.within few));
      taken = omega (arith, inv.taken);
      most = omega (arith, inv.most, few, long);
      written = λ told. c.in-Ok.ensures.written told ∙ inv.written told;
      reads = c.in-Ok.ensures.cause ∙ inv.reads;
      writes = c.in-Ok.ensures.write_faults ∙ inv.writes;
    }

pub returns-clause-fills : goal.returns-clause-fills
returns-clause-fills g c =
    let inv = c.loop-have.invariant in
    let over = c.loop-have-test.false in
    fills_so (IsTrue g.L.Link.tells) (g.L.Link.given c.args.link.now)
    (g.L.Link.given c.loop-have.link) (g.L.Link.left c.loop-have.link) c.args.taken.now
    c.loop-have.taken c.loop-have.have c.args.inside c.loop-have.buf (Ok tt) inv.within inv.given
    inv.taken (omega (arith, inv.within)) (λ told. tt)
