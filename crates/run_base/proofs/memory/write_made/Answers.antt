-- the store that was made has no blocks, and no call of its disks fails
use Rattle.std.proofs.Common.{[], inr, refl}
use Rattle.vt_base.specs.Protocol.{write, r_write}
use Rattle.vt_base.specs.declared.score.Score.{Score}
use Rattle.run_base.proofs.InMemory.{answers_so, caused_so}
use Rattle.run_base.proofs.memory.write_made.Goals as goal

pub returns-in_default-clause-answers : goal.returns-in_default-clause-answers
returns-in_default-clause-answers g c = inr refl

pub returns-clause-answers : goal.returns-clause-answers
returns-clause-answers g c =
    let score = g.S.Scorer.score_of in
    let bytes = c.args.bytes.now in
    let made = c.in-Ok.ensures in
    let core = c.in-Ok.core in
    let given = c.write_block-score.result.0 in
    let left = c.write_block-score.result.1 in
    let writes = c.write_block-score.ensures.writes in
    answers_so score _ c.memory_never_fails.ensures core left made (λ (s : Score). r_write s.0)
    (write c.args.kind bytes) given
    (c.blocks_are_kept.ensures score c.args.now c.args.kind bytes given [] core left refl made.sound
    writes).answers
    (c.blocks_have_causes.ensures.written score c.args.now c.args.kind bytes given core left writes
    made.stops)

pub returns-clause-fails : goal.returns-clause-fails
returns-clause-fails g c =
    let score = g.S.Scorer.score_of in
    let core = c.in-Ok.core in
    let given = c.write_block-score.result.0 in
    let left = c.write_block-score.result.1 in
    caused_so score _ c.memory_never_fails.ensures core left c.in-Ok.ensures given
    (c.blocks_have_causes.ensures.written score c.args.now c.args.kind c.args.bytes.now given core
    left c.write_block-score.ensures.writes c.in-Ok.ensures.stops)
