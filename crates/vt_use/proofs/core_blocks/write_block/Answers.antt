-- one use of the store, by a job that writes
use Rattle.std.proofs.Common.{◌≡◌, refl}
use Rattle.vt_base.specs.declared.score.Score.{Score}
use Rattle.vt_use.proofs.BlockAsks.{answer_holds, closed_holds, write_used}
use Rattle.vt_use.proofs.core_blocks.write_block.Goals as goal

pub returns-clause-writes : goal.returns-clause-writes
returns-clause-writes g c =
    let used = c.use_core-used in
    let output = used.result.0.output in
    write_used g.S.Scorer.score_of g.D.Disk output.1 used.result.0.added used.result.0.closed
    c.args.core used.result.1 c.args.now (record { kind = c.args.kind; bytes = c.args.bytes.now })
    output.0 c.closed_behind.result used.ensures.uses
    (rw (c.closed_behind.ensures, c.own_answer.ensures) refl)

pub returns-clause-scored : goal.returns-clause-scored
returns-clause-scored g c =
    let used = c.use_core-used in
    let output = used.result.0.output in
    rw (c.closed_behind.ensures, c.own_answer.ensures) (closed_holds
    (λ (given : Score). given.0 ≡ g.S.Scorer.score_of c.args.bytes.now) _ _
    (answer_holds (λ (given : Score). given.0 ≡ g.S.Scorer.score_of c.args.bytes.now) output.0
    output.1 used.ensures.uses.does.does.1))
