use Rattle.vac_model.specs.Kept.{archived}
use Rattle.vac_model.proofs.Archivable.{fit_is_good}
use Rattle.vac_model.proofs.ReadsBack.{good_tree}
use Rattle.vac_model.proofs.laws.archives_read_back.Goals as goal

pub returns : goal.returns
returns c score_of map bsize items len once may has =
    let good = fit_is_good items may.fit may.times may.few in
    good_tree score_of map bsize len may.least may.most c.depth_is_least.ensures.reaches
    (λ shape bytes fits short held. c.streams_read_back.ensures score_of map shape bytes len once
    fits short held)
    (archived items) good.0 good.1 good.2 has
