use Rattle.std.proofs.lemmas.List.Elements.{All-from_recursion}
use Rattle.vt_requests.specs.Requests.{IsForRequest}
use Rattle.vt_requests.proofs.RequestRuns.{request_events}
use Rattle.vt_requests.proofs.laws.requests_are_runs.Goals as goal

pub returns : goal.returns
returns g c = λ score session request now a old new it.
    let run = request_events score g.D.Disk session request now a old new it in
    (run.0, run.1, All-from_recursion (IsForRequest session request now) run.0 run.2, run.3)
