use Rattle.std.proofs.Common.{sym, subst}
use Rattle.vt_shard.specs.Sound.{IsSoundFrom}
use Rattle.vt_shard.proofs.IsLumpOf.{right_found}
use Rattle.vt_shard.proofs.shard.Shard.lump.Goals as goal

pub returns-clause-right : goal.returns-clause-right
returns-clause-right g c = λ score setup h durable from sound.
    let was = subst (λ t. IsSoundFrom score setup g.D.Disk t h durable from) (sym c.self.view_is) sound in
    right_found score h c.args.key.now c.self.inside.lumps c.get.result was.lumps c.get.ensures
