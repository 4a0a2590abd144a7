use Rattle.std.proofs.Common.{◌≡◌}
use Rattle.vt_session.specs.declared.parsed.Next.TheVariants.{End}
use Rattle.vt_session.proofs.Talking.{front_ends}
use Rattle.vt_session.proofs.talker.Talker.next.Goals as goal

pub returns-in_ok-next-in-BehindLine-clause-end : goal.returns-in_ok-next-in-BehindLine-clause-end
returns-in_ok-next-in-BehindLine-clause-end c ended is =
    let next = c.in_ok-next-in-BehindLine.next in
    let same : next ≡ End ended = cc in
    front_ends _ next c.in_ok-next-in-BehindLine.field-0-1 ended
    c.in_ok-next-in-BehindLine.ensures.front same
