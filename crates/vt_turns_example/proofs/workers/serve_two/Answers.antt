use Rattle.vt_turns_example.proofs.Joins.{two_served}
use Rattle.vt_turns_example.proofs.workers.serve_two.Goals as goal

pub returns-clause-served : goal.returns-clause-served
returns-clause-served g c =
    let told = g.L.Link.told in
    let sp = c.split-other in
    let r = c.scoped-back.result in
    let works = c.scoped-back.ensures.1 in
    two_served c.args.pass.me.0 c.join_pass.new.pass.me.0 sp.new.pass sp.result r.0.pass r.1.pass (told r.0.link) (told r.1.link) sp.ensures.new.1 sp.ensures.view c.requires.two works.0 works.1 c.join_pass.ensures.joins
