use Rattle.std.proofs.Common.{◌≡◌, ℕ, ◌+◌, ◌-◌, List, [], ◌++◌, take, drop, sym, subst, arith}
use borrow.Rule.Slice.PartMut.{post_of}
use Rattle.vt_wire.specs.Frames.{frame_len}
use Rattle.vt_client.specs.Exchanges.{MovesBytes, traffic_of}
use Rattle.vt_client.proofs.Frames.{lengths, taken_bytes, taken_frame}
use Rattle.vt_client.proofs.Moving.{Moves-append}
use Rattle.vt_client.proofs.exchange.take_frame.Goals as goal

pub returns-clause-frame : goal.returns-clause-frame
returns-clause-frame g c =
    let buf = c.args.buf.now in
    let size = c.take_all.new.buf in
    let rest = drop 2 buf in
    let bytes = c.take_all-2.new.buf in
    let n : ℕ = c.from-end.result in
    let lens = lengths buf size bytes n c.requires c.take_all.auto.buf c.take_all-2.auto.buf
    (omega (arith, c.u16_at.type_inv, c.from-end.ensures)) in
    let number : 2 + n ≡ frame_len (size ++ rest) =
    omega (arith, c.from-end.ensures, c.u16_at.ensures) in
    taken_frame size rest bytes (post_of 2 (2 + n - 2) (size ++ rest)) n lens.0 number lens.1
    (λ i. omega (arith, c.type_inv.buf i))

pub returns-clause-taken : goal.returns-clause-taken
returns-clause-taken g c = λ told.
    let buf = c.args.buf.now in
    let size = c.take_all.new.buf in
    let rest = drop 2 buf in
    let bytes = c.take_all-2.new.buf in
    let n : ℕ = c.from-end.result in
    let lens = lengths buf size bytes n c.requires c.take_all.auto.buf c.take_all-2.auto.buf
    (omega (arith, c.u16_at.type_inv, c.from-end.ensures)) in
    let before = traffic_of g.L.Link c.args.link.now in
    let between = traffic_of g.L.Link c.take_all.new.link in
    let after = traffic_of g.L.Link c.take_all-2.new.link in
    subst (λ (l : List ℕ). MovesBytes before after [] l)
    (sym (taken_bytes size rest bytes (post_of 2 (2 + n - 2) (size ++ rest)) n lens.0 lens.1))
    (Moves-append before between after [] [] size bytes
    (c.in_ok-take_all.ensures.taken told) (c.in_ok-take_all-2.ensures.taken told))
