use Rattle.std.proofs.Common.{refl}
use Rattle.vt_session.specs.Parsed.{unheard}
use Rattle.vt_session.proofs.Parsing.{front_at}
use Rattle.vt_session.proofs.parsed.Left.front.Goals as goal

pub returns-clause-front : goal.returns-clause-front
returns-clause-front c =
    front_at (unheard c.args.self.now) c.in_ok-len.len _ c.next_of-next.result
    c.in_ok-len.ensures.size.1 c.in_ok-len.ensures.frame refl c.next_of-next.ensures
