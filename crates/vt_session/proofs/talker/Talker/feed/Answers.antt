use Rattle.std.proofs.Common.{◌≡◌, ◌+◌, ◌≤◌, ℕ, List, ◌++◌, length, take, sym, ◌∙◌, ap, subst, arith, length-append, length-take}
use Rattle.std.specs.Prelude.{min}
use Rattle.vt_base.specs.Bytes.{AreBytes, AreBytes-append}
use Rattle.vt_wire.proofs.Frames.{bytes-drop}
use Rattle.vt_session.specs.Talk.{spent_len}
use Rattle.vt_session.specs.Talking.{room, fed}
use Rattle.vt_session.proofs.Talking.{stage_heard, room_fits, room_left, talking_at, fed_on, bytes_take}
use Rattle.vt_session.proofs.talker.Talker.feed.Goals as goal

pub push-requires : goal.push-requires
push-requires c =
    let s = c.self.inside in
    let fits : c.room.result + length s.waiting ≤ 65537 =
    subst (λ r. r + length s.waiting ≤ 65537)
    (sym (c.room.ensures.is ∙ ap room (sym c.self.view_is)))
    (room_fits s.phase s.place s.waiting c.self.invariant.fits) in
    omega (arith, fits, c.min-n.ensures, length-take c.min-n.result c.args.piece.now)

-- what waits behind a push
after_push : (waiting piece now : List ℕ) (n : ℕ) → AreBytes waiting → AreBytes piece
    → now ≡ waiting ++ take n piece → AreBytes now
after_push waiting piece now n waits are is =
    subst AreBytes (sym is) (AreBytes-append waiting (take n piece) waits (bytes_take n piece are))

pub invariant_of-self : goal.invariant_of-self
invariant_of-self c =
    let s = c.self.inside in
    let h = c.hear_line-phase in
    let piece = c.args.piece.now in
    let n = c.min-n.result in
    let is = c.room.ensures.is ∙ ap room (sym c.self.view_is) in
    let fits : c.room.result + length s.waiting ≤ 65537 =
    subst (λ r. r + length s.waiting ≤ 65537) (sym is)
    (room_fits s.phase s.place s.waiting c.self.invariant.fits) in
    let left : c.room.result + (s.place + length s.waiting) ≤ spent_len =
    subst (λ r. r + (s.place + length s.waiting) ≤ spent_len) (sym is)
    (room_left s.phase s.place s.waiting c.self.invariant.counted) in
    let more : length c.push.new.self ≡ length s.waiting + length (take n piece) =
    ap length c.push.ensures ∙ length-append s.waiting (take n piece) in
    let are : AreBytes piece = λ i. omega (arith, c.type_inv.piece i) in record {
      counted = omega (arith, h.ensures.same, more, length-take n piece, c.min-n.ensures, left);
      fits = omega (arith, h.ensures.same, more, length-take n piece, c.min-n.ensures, fits);
      bytes = subst AreBytes (sym h.ensures.rest) (bytes-drop h.result.1 c.push.new.self
          (after_push s.waiting piece c.push.new.self n c.self.invariant.bytes are c.push.ensures));
      holds = h.ensures.holds;
    }

pub returns-in-AtLine-clause-goes_on : goal.returns-in-AtLine-clause-goes_on
returns-in-AtLine-clause-goes_on c =
    let h = c.hear_line-phase in
    let are : AreBytes c.args.piece.now = λ i. omega (arith, c.type_inv.piece i) in
    stage_heard h.result.0 h.result.1 h.new.waiting
    (subst AreBytes (sym h.ensures.rest) (bytes-drop h.result.1 c.push.new.self
    (after_push c.self.inside.waiting c.args.piece.now c.push.new.self c.min-n.result
    c.self.invariant.bytes are c.push.ensures)))

pub returns-in_default : goal.returns-in_default
returns-in_default c =
    let s = c.self.inside in
    let piece = c.args.piece.now in
    let n = c.min-n.result in
    let are : AreBytes piece = λ i. omega (arith, c.type_inv.piece i) in record {
      takes = c.min-n.ensures ∙ ap (min (length piece)) c.room.ensures.is;
      holds = ap (talking_at s.phase s.place) c.push.ensures
          ∙ fed_on s.phase s.place s.waiting (take n piece) c.in_default.not-AtLine
          ∙ ap (λ t. fed t (take n piece)) c.self.view_is;
      goes_on = stage_heard s.phase s.place c.push.new.self
          (after_push s.waiting piece c.push.new.self n c.self.invariant.bytes are c.push.ensures);
    }
