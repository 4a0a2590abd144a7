use Rattle.std.proofs.Common.{length, ap, subst, sym, arith, IsTrue}
use Rattle.vt_session.specs.Talking.{Talking, needs_more}
use Rattle.vt_session.proofs.Talking.{some_room}
use Rattle.vt_session.proofs.talker.Talker.room.Goals as goal

pub returns-clause-spent : goal.returns-clause-spent
returns-clause-spent c = λ needs none.
    let s = c.self.inside in
    let some = some_room s.phase s.place s.waiting c.self.invariant.bytes c.self.invariant.holds
    (subst (λ (t : Talking). IsTrue (needs_more t.stage)) (sym c.self.view_is) needs) in
    omega (
      arith,
      some,
      none,
      c.min.ensures,
      c.taken.ensures.is,
      c.taken.ensures.most,
      ap length c.as_slice.ensures.value,
    )
