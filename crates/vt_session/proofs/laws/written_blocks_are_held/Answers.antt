use Rattle.vt_session.proofs.Written.{written_held}
use Rattle.vt_session.proofs.laws.written_blocks_are_held.Goals as goal

pub returns : goal.returns
returns c = λ score setup h low high front between behind t kind bytes m stored u.
    written_held score setup (c.added_is_held.ensures score setup)
    (c.refusals_add_nothing.ensures.operation score setup)
    h low high front between behind t u kind bytes m stored
