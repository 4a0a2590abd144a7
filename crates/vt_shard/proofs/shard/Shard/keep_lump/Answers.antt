use Rattle.std.proofs.Common.{sym, subst}
use Rattle.vt_shard.specs.Sound.{IsSoundFrom}
use Rattle.vt_shard.proofs.IsLumpOf.{right_after}
use Rattle.vt_shard.proofs.IsSoundFrom.{with_lumps}
use Rattle.vt_shard.proofs.shard.Shard.keep_lump.Goals as goal

pub returns-clause-sound : goal.returns-clause-sound
returns-clause-sound g c = λ score setup h durable from sound is.
    let was = subst (λ t. IsSoundFrom score setup g.D.Disk t h durable from) (sym c.self.view_is) sound in
    with_lumps score setup _ _ h durable from was _
    (right_after score h c.args.key c.args.bytes c.self.inside.lumps c.keep.new.self c.keep.result was.lumps is c.keep.ensures.kept c.keep.ensures.dropped)
