use Rattle.vt_client.proofs.client.Client.greet.Goals as goal

pub returns-in-Ok-say_hello-clause-greets : goal.returns-in-Ok-say_hello-clause-greets
returns-in-Ok-say_hello-clause-greets g c =
    c.in-Ok-say_hello.ensures.greets g.S.Scorer.score_of

pub returns-in-Err-clause-greets : goal.returns-in-Err-clause-greets
returns-in-Err-clause-greets g c = c.in-Err.ensures.greets g.S.Scorer.score_of
