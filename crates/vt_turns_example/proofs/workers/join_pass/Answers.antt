use Rattle.std.proofs.Common.{subst}
use Rattle.vt_turns.specs.Steps.{Loads}
use Rattle.vt_turns_example.specs.Parts.{part_means}
use Rattle.vt_turns_example.specs.Stores.{TheView}
use Rattle.vt_turns_example.proofs.Joins.{joins_of}
use Rattle.vt_turns_example.proofs.workers.join_pass.Goals as goal

pub returns-clause-joins : goal.returns-clause-joins
returns-clause-joins c = let u = c.front.new.pass.me.0 in
    joins_of c.args.pass.now.me.0 c.args.other.me.0 u c.front.result c.requires.free.1 (subst (λ (z : TheView). Loads part_means z c.front.result u) c.join.ensures.view c.front.ensures.loads)
