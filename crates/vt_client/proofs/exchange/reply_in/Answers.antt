use Rattle.std.proofs.Common.{inl, inr, get_or, refl, arith}
use Rattle.vt_wire.specs.Awaited.{IsWanted}
use Rattle.vt_client.proofs.Replies.{wrong_parameters}
use Rattle.vt_client.proofs.exchange.reply_in.Goals as goal
use Rattle.vt_client.proofs.exchange.reply_in.Goals.{else-frame-wanted-via-then-frame-wanted+else-frame-ne-ERROR, else-frame-wanted-via-else-frame-wanted}

pub returns-in-Err-clause-bad : goal.returns-in-Err-clause-bad
returns-in-Err-clause-bad c =
    let frame = c.args.frame.now in
    let wanted : IsWanted c.args.wanted (get_or frame 2 0) =
    elim c.else-frame-wanted.branch [
      | else-frame-wanted-via-then-frame-wanted+else-frame-ne-ERROR w ↦ inr w.if-frame-ne-ERROR.false
      | else-frame-wanted-via-else-frame-wanted w ↦ inl w.if-frame-wanted.false
    ] in (
      4,
      refl,
      wrong_parameters frame c.args.tag c.args.wanted (omega arith) wanted c.if-frame-tag.false
          c.in-Err.ensures.only,
    )
