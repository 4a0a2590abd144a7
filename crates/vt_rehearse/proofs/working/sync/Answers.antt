-- the session waits, and is told of all blocks
use Rattle.std.proofs.Common.{refl, arith}
use Rattle.vt_base.specs.declared.operation.Operation.TheVariants.{Sync}
use Rattle.vt_core.specs.declared.event.Out.TheVariants.{Said as SaidOut}
use Rattle.vt_rehearse.proofs.Synced.{alike_synced, noted_is, owes_asked, said_is, steady_asked, syncs_all}
use Rattle.vt_rehearse.proofs.working.sync.Goals as goal

pub commit_all-requires-clause-steady : goal.commit_all-requires-clause-steady
commit_all-requires-clause-steady g c =
    let score = g.S.Scorer.score_of in
    let disk = g.D.Disk in
    let old = c.args.stage.now in
    let asked = c.step.new.self in
    (c.requires.alike.history, steady_asked score disk c.requires.memory c.args.session c.requires.session Sync refl old asked c.requires.alike c.step.result c.step.ensures.steps c.step.ensures.same)

pub commit_all-requires-clause-few : goal.commit_all-requires-clause-few
commit_all-requires-clause-few g c =
    let score = g.S.Scorer.score_of in
    let disk = g.D.Disk in
    let old = c.args.stage.now in
    let asked = c.step.new.self in
    let few = owes_asked score disk c.requires.memory c.args.session c.requires.session Sync refl old asked c.requires.alike c.step.result c.step.ensures.steps c.step.ensures.same in
    omega (arith, few)

pub unreachable-requires : goal.unreachable-requires
unreachable-requires g c =
    let score = g.S.Scorer.score_of in
    let disk = g.D.Disk in
    let old = c.args.stage.now in
    let asked = c.step.new.self in
    let commits = c.commit_all.ensures.commits in
    c.in_default.not-Said _ (said_is score disk c.requires.memory c.args.session c.requires.session Sync refl old asked c.requires.alike c.step.result c.step.ensures.steps c.step.ensures.same
    commits.0 c.commit_all.new.stage c.step-2.new.self commits.2 commits.3
    c.commit_all.ensures.steady c.commit_all.ensures.waiting c.commit_all.ensures.durable (c.step-2.result) c.step-2.ensures.steps c.step-2.ensures.same)

pub returns-clause-syncs : goal.returns-clause-syncs
returns-clause-syncs g c =
    let score = g.S.Scorer.score_of in
    let disk = g.D.Disk in
    let old = c.args.stage.now in
    let asked = c.step.new.self in
    let commits = c.commit_all.ensures.commits in
    let new = c.note_synced.new.self in
    syncs_all score disk c.requires.memory c.args.session c.requires.session Sync refl old asked c.requires.alike c.step.result c.step.ensures.steps c.step.ensures.same
    commits.0 c.commit_all.new.stage c.step-2.new.self commits.2 commits.3
    c.commit_all.ensures.steady c.commit_all.ensures.waiting c.commit_all.ensures.durable (SaidOut c.in-Said.answer) c.in-Said.ensures.steps c.in-Said.ensures.same new
    (noted_is score disk c.requires.memory c.args.session c.requires.session Sync refl old asked c.requires.alike c.step.result c.step.ensures.steps c.step.ensures.same
    commits.0 c.commit_all.new.stage c.step-2.new.self commits.2 commits.3
    c.commit_all.ensures.steady c.commit_all.ensures.waiting c.commit_all.ensures.durable (SaidOut c.in-Said.answer) c.in-Said.ensures.steps c.in-Said.ensures.same
    c.in-Said.answer c.judge_sync.new.self new refl c.judge_sync.ensures c.note_synced.ensures)

pub returns-clause-alike : goal.returns-clause-alike
returns-clause-alike g c =
    let score = g.S.Scorer.score_of in
    let disk = g.D.Disk in
    let old = c.args.stage.now in
    let asked = c.step.new.self in
    let commits = c.commit_all.ensures.commits in
    let new = c.note_synced.new.self in
    alike_synced score disk c.requires.memory c.args.session c.requires.session Sync refl old asked c.requires.alike c.step.result c.step.ensures.steps c.step.ensures.same
    commits.0 c.commit_all.new.stage c.step-2.new.self commits.2 commits.3
    c.commit_all.ensures.steady c.commit_all.ensures.waiting c.commit_all.ensures.durable (SaidOut c.in-Said.answer) c.in-Said.ensures.steps c.in-Said.ensures.same new
    (noted_is score disk c.requires.memory c.args.session c.requires.session Sync refl old asked c.requires.alike c.step.result c.step.ensures.steps c.step.ensures.same
    commits.0 c.commit_all.new.stage c.step-2.new.self commits.2 commits.3
    c.commit_all.ensures.steady c.commit_all.ensures.waiting c.commit_all.ensures.durable (SaidOut c.in-Said.answer) c.in-Said.ensures.steps c.in-Said.ensures.same
    c.in-Said.answer c.judge_sync.new.self new refl c.judge_sync.ensures c.note_synced.ensures)
