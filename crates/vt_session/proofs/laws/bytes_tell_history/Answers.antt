use Rattle.vt_session.proofs.Replies.{history_told}
use Rattle.vt_session.proofs.laws.bytes_tell_history.Goals as goal

pub returns : goal.returns
returns c = λ score setup faults faults' before input output turns ended after turns' ended' after'
    scores.
    history_told score setup scores
    (c.adding_keeps_legal.ensures score setup)
    faults faults' before input output turns ended after turns' ended' after'
