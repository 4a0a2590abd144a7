use Rattle.vt_core.proofs.Answering.{sync_steps}
use Rattle.vt_core.proofs.store.Core.answer_sync.Goals as goal

pub returns : goal.returns
returns g c = sync_steps g.S.Scorer.score_of g.D.Disk c.args.self.now c.end_sync.new.self c.args.session c.end_sync.result c.crash_gives_a_prefix.ensures.prefix c.end_sync.ensures.whole c.end_sync.ensures.answers
