use Rattle.vt_session.proofs.Turns.{turns_add}
use Rattle.vt_session.proofs.laws.alone_adds.Goals as goal

pub returns : goal.returns
returns c = λ score setup faults before input output turns ended after x. turns_add score setup
    before turns after x.answered
