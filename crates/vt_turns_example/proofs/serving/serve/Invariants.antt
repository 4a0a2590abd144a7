use Rattle.vt_turns_example.specs.Stores.{IsFree}
use Rattle.vt_turns_example.specs.Work.{Works}
use Rattle.vt_turns_example.proofs.serving.serve.Given as goal

abbrev pub invariant-loop : goal.invariant-loop
invariant-loop g l =
    (goal.iterator-loop g).can_next l.iterator' × (goal.iterator-loop g).is_finite l.iterator'
    × IsFree l.store l.pass × Works l.initial.pass l.pass (g.L.Link.told l.link)
