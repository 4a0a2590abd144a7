use Rattle.std.proofs.Common.{nat_le, ◌∙◌, ap}
use Rattle.vt_model.specs.declared.TheConstants.{BUCKET_ROOM}
use Rattle.vt_model.proofs.Blocks.{crowd-history_of}
use Rattle.vt_model.proofs.plain.PlainStore.is_full.Goals as goal

pub returns : goal.returns
returns g c =
    rw (← c.self.view_is, ← c.bucket_count-buckets.ensures.count, ← c.bucket_of.ensures.bucket)
    (ap (nat_le BUCKET_ROOM)
    ((rw c.deref.ensures.value at c.crowd.ensures)
    ∙ crowd-history_of g.S.Scorer.score_of c.self.inside.blocks.items c.self.invariant _ _))
