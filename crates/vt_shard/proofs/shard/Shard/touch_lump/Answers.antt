use Rattle.std.proofs.Common.{sym, subst}
use Rattle.vt_shard.specs.Sound.{IsSoundFrom}
use Rattle.vt_shard.proofs.IsLumpOf.{right_used}
use Rattle.vt_shard.proofs.IsSoundFrom.{with_lumps}
use Rattle.vt_shard.proofs.shard.Shard.touch_lump.Goals as goal

pub returns-clause-sound : goal.returns-clause-sound
returns-clause-sound g c = λ score setup h durable from sound.
    let was = subst (λ t. IsSoundFrom score setup g.D.Disk t h durable from) (sym c.self.view_is) sound in
    rw c.touch.ensures.used
    (with_lumps score setup _ _ h durable from was _ (right_used score h c.args.key.now c.self.inside.lumps was.lumps))
