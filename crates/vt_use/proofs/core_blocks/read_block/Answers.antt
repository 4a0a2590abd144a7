-- one use of the store, by a job that reads
use Rattle.std.proofs.Common.{◌≤◌, List, ℕ, length}
use Rattle.vt_base.specs.declared.TheConstants.{MAX_BLOCK}
use Rattle.vt_use.proofs.BlockAsks.{answer_holds, read_used}
use Rattle.vt_use.proofs.core_blocks.read_block.Goals as goal

pub returns-clause-reads : goal.returns-clause-reads
returns-clause-reads g c =
    let used = c.use_core-used in
    let output = used.result.0.output in
    rw c.own_answer.ensures (read_used g.S.Scorer.score_of g.D.Disk output.1 used.result.0.added
    used.result.0.closed c.args.core used.result.1 c.args.kind c.args.score.now.0 output.0
    used.ensures.uses)

pub returns-clause-most : goal.returns-clause-most
returns-clause-most g c =
    let used = c.use_core-used in
    let output = used.result.0.output in
    rw c.own_answer.ensures (answer_holds (λ (bytes : List ℕ). length bytes ≤ MAX_BLOCK)
    output.0 output.1 used.ensures.uses.does.does.1)
