-- turn by turn, what the store holds
use Rattle.vac_view.proofs.Shown.{view_shown}
use Rattle.vac_view.proofs.laws.archives_are_shown.Goals as goal

pub returns : goal.returns
returns g c score p result s s' m it hold =
    view_shown g.B.Blocks.does g.B.Blocks.holds g.B.Scorer.score_of m score p result s s' it hold
