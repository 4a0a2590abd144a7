use Rattle.std.proofs.Common.{List, sym, ap, ◌∙◌}
use Rattle.vac_read.specs.declared.node.Node.{Node}
use Rattle.nine_view.specs.declared.place.Place.{Place}
use Rattle.nine_view.specs.Walks.{parent}
use Rattle.nine_view.proofs.place.Place.parent.Goals as goal

pub returns-in-None : goal.returns-in-None
returns-in-None c =
    let node : Node = c.args.self.node in
    let same : Place = record { node = node; above = c.pop.new.self } in
    ap (λ (l : List Node). record { node = node; above = l }) c.in-None.ensures.1
    ∙ sym (ap (λ (l : List Node). parent node l) c.in-None.ensures.0)
