-- one call
use Rattle.std.proofs.Common.{[], ◌∷◌, refl}
use Rattle.vt_tree.specs.Calls.{get}
use Rattle.vt_use.proofs.one_block.ReadBlockBlockJobUnit.run.Goals as goal

pub returns : goal.returns
returns g c =
    let it = c.args.self.now in (
      get it.kind it.score.0 c.get.result ∷ [],
      (c.get.new.self, c.get.ensures.done, refl),
      λ is. (tt, tt),
      (refl, c.get.ensures.most),
    )
