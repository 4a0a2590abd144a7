use Rattle.std.proofs.Common.{◌≡◌, ◌+◌, ◌-◌, length, ap, arith}
use Rattle.std.specs.Prelude.{sum_by}
use Rattle.vt_model.specs.Places.{clump_len_in, lengths_in}
use Rattle.vt_model.specs.Stored.{history_of}
use Rattle.vt_model.proofs.Room.{taken_this, taken_other, taken-le, taken_all, many_is}
use Rattle.vt_model.proofs.stored.room_left.Goals as goal
use Rattle.vt_model.proofs.stored.room_left.Goals.{then-b-arena+in_ok-left, else-b-arena}

pub returns-in_err-left : goal.returns-in_err-left
returns-in_err-left c =
    let f = clump_len_in c.args.version in
    let next =
    taken_this f c.args.arena c.args.blocks.now c.loop-b.b-index c.b-item.result c.loop-b-test.true c.b-item.is c.if-b-arena.true in
    let part = taken-le f c.args.arena c.args.blocks.now (c.loop-b.b-index + 1) in
    rw c.from_residual.ensures (record {
      left = λ within. c.in_err-left.ensures (omega (arith, next, part, within, c.loop-b.invariant.room, c.clump_len_in.ensures.len, ap f c.len.ensures));
      few = tt;
    })

pub loop-b-preserved : goal.loop-b-preserved
loop-b-preserved c =
    let f = clump_len_in c.args.version in
    let next =
    taken_this f c.args.arena c.args.blocks.now c.loop-b.b-index c.b-item.result c.loop-b-test.true c.b-item.is in
    let one =
    taken_this (λ n. 1) c.args.arena c.args.blocks.now c.loop-b.b-index c.b-item.result c.loop-b-test.true c.b-item.is in
    let same =
    taken_other f c.args.arena c.args.blocks.now c.loop-b.b-index c.b-item.result c.loop-b-test.true c.b-item.is in
    let none =
    taken_other (λ n. 1) c.args.arena c.args.blocks.now c.loop-b.b-index c.b-item.result c.loop-b-test.true c.b-item.is in
    elim c.if-b-arena.branch [
      | then-b-arena+in_ok-left w ↦ record {
        room = omega (arith, next w.if-b-arena.true, w.in_ok-left.ensures, c.loop-b.invariant.room, w.clump_len_in.ensures.len, ap f w.len.ensures);
        many = omega (arith, one w.if-b-arena.true, c.loop-b.invariant.many);
        few = omega (arith, c.loop-b.invariant.few);
      }
      | else-b-arena w ↦ record {
        room = omega (arith, same w.if-b-arena.false, c.loop-b.invariant.room);
        many = omega (arith, none w.if-b-arena.false, c.loop-b.invariant.many);
        few = omega (arith, c.loop-b.invariant.few);
      }
    ]

pub returns : goal.returns
returns c =
    let f = clump_len_in c.args.version in
    let lengths = lengths_in c.args.arena (history_of c.args.blocks.now) in
    let used =
    taken_all f c.args.arena c.args.blocks.now c.loop-b.b-index c.loop-b-test.false in
    let many =
    taken_all (λ n. 1) c.args.arena c.args.blocks.now c.loop-b.b-index c.loop-b-test.false in
    let left : c.loop-b.left ≡ c.args.room - sum_by f lengths =
    omega (arith, used, c.loop-b.invariant.room) in
    let clumps : c.loop-b.clumps ≡ length lengths =
    omega (arith, many, many_is lengths, c.loop-b.invariant.many) in
    record {
      left = (
        omega (arith, used, c.loop-b.invariant.room),
        λ i. record { room = left i; clumps = clumps i },
      );
      few = omega (arith, c.loop-b.invariant.few);
    }
