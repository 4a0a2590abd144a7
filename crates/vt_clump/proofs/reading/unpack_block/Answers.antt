use Rattle.std.proofs.Common.{◌∙◌}
use Rattle.std.proofs.lemmas.Result.{err_from_is_err_and}
use Rattle.vt_clump.proofs.ReadBack.{header_fault}
use Rattle.vt_clump.proofs.UnpackBlock.{bad_header-joined, joined, joined_read, score_is_left-joined}
use Rattle.vt_clump.proofs.reading.unpack_block.Goals as goal

pub returns-in_err-header-clause-refused : goal.returns-in_err-header-clause-refused
returns-in_err-header-clause-refused g c =
    let p = err_from_is_err_and c.from_residual.result c.from_residual.ensures.1 in
    let fault = rw c.len.ensures at c.in_err-header.ensures.refused in
    let whole = c.told-header in
    rw (p.1, p.2) (header_fault g.S.Scorer.score_of (joined c.args.header.now c.args.block whole) _
    (bad_header-joined c.args.header.now c.args.block whole ∙ fault))

pub returns-clause-refused : goal.returns-clause-refused
returns-clause-refused g c =
    let h = c.in_ok-header.ensures in
    let good = rw c.len.ensures at h.refused in
    let found = rw c.as_slice.ensures at c.in_ok-check_score.ensures in
    score_is_left-joined c.args.header.now c.args.block c.told-header good c.requires
    g.S.Scorer.score_of c.in_ok-header.header.score.0 h.score ∙ found

pub returns-in_err-check_score-clause-refused : goal.returns-in_err-check_score-clause-refused
returns-in_err-check_score-clause-refused g c =
    let p = err_from_is_err_and c.from_residual-in_err-check_score.result
    c.from_residual-in_err-check_score.ensures.1 in
    let h = c.in_ok-header.ensures in
    let good = rw c.len.ensures at h.refused in
    let found = rw c.as_slice.ensures at c.in_err-check_score.ensures in
    rw (p.1, p.2) (score_is_left-joined c.args.header.now c.args.block c.told-header good c.requires
    g.S.Scorer.score_of c.in_ok-header.header.score.0 h.score ∙ found)

pub returns-clause-read : goal.returns-clause-read
returns-clause-read g c =
    let h = c.in_ok-header.ensures in
    let good = rw c.len.ensures at h.refused in
    joined_read c.args.header.now c.args.block c.told-header good c.requires c.clump_of.result
    (c.clump_of.ensures.kind ∙ h.kind) (c.clump_of.ensures.score ∙ h.score)
    (c.clump_of.ensures.time ∙ h.time) c.clump_of.ensures.bytes
