use Rattle.vt_session.proofs.Turns.{turns_legal}
use Rattle.vt_session.proofs.laws.alone_keeps_legal.Goals as goal

pub returns : goal.returns
returns c = λ score setup faults before input output turns ended after legal x.
    turns_legal score setup
    (c.adding_keeps_legal.ensures score setup) before turns after legal x.answered
