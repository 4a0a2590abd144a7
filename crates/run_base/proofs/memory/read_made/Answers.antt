-- the store that was made has no blocks, and no call of its disks fails
use Rattle.std.proofs.Common.{ℕ, List, [], inr, refl}
use Rattle.vt_base.specs.Protocol.{read, r_read}
use Rattle.vt_base.specs.declared.TheConstants.{MAX_BLOCK}
use Rattle.run_base.proofs.InMemory.{answers_so, caused_so}
use Rattle.run_base.proofs.memory.read_made.Goals as goal

pub returns-in_default-clause-answers : goal.returns-in_default-clause-answers
returns-in_default-clause-answers g c = inr refl

pub returns-clause-answers : goal.returns-clause-answers
returns-clause-answers g c =
    let score = g.S.Scorer.score_of in
    let s = c.args.score.now.0 in
    let made = c.in-Ok.ensures in
    let core = c.in-Ok.core in
    let block = c.read_block-block.result.0 in
    let left = c.read_block-block.result.1 in
    let reads = c.read_block-block.ensures.reads in
    answers_so score _ c.memory_never_fails.ensures core left made (λ (bytes : List ℕ). r_read bytes)
    (read s c.args.kind MAX_BLOCK) block
    (c.blocks_are_read.ensures score c.args.kind s block [] core left refl made.sound reads).answers
    (c.blocks_have_causes.ensures.read score c.args.kind s block core left reads made.stops)

pub returns-clause-fails : goal.returns-clause-fails
returns-clause-fails g c =
    let score = g.S.Scorer.score_of in
    let core = c.in-Ok.core in
    let block = c.read_block-block.result.0 in
    let left = c.read_block-block.result.1 in
    caused_so score _ c.memory_never_fails.ensures core left c.in-Ok.ensures block
    (c.blocks_have_causes.ensures.read score c.args.kind c.args.score.now.0 block core left
    c.read_block-block.ensures.reads c.in-Ok.ensures.stops)
