use Rattle.std.proofs.Common.{refl, ◌∙◌, inl, inr, arith}
use Rattle.std.proofs.lemmas.Result.{err_from_is_err_and}
use Rattle.vt_clump.specs.Spelling.{stored_in}
use Rattle.vt_clump.proofs.ReadBack.{begins_refused, one_stored, header_fault, score_is_left, good_begins, read_as, block_is}
use Rattle.vt_clump.proofs.reading.unpack.Goals as goal

pub returns-in_err-header-clause-all_are_read : goal.returns-in_err-header-clause-all_are_read
returns-in_err-header-clause-all_are_read g c s begins =
    let p = err_from_is_err_and c.from_residual.result c.from_residual.ensures.1 in
    rw (p.1, p.2) (begins_refused g.S.Scorer.score_of s c.args.bytes.now begins _
    (inl (header_fault g.S.Scorer.score_of c.args.bytes.now _ c.in_err-header.ensures.refused)))

pub returns-in_err-check_score-clause-refused : goal.returns-in_err-check_score-clause-refused
returns-in_err-check_score-clause-refused g c =
    let p = err_from_is_err_and c.from_residual-in_err-check_score.result
    c.from_residual-in_err-check_score.ensures.1 in
    let h = c.in_ok-header.ensures in
    rw (p.1, p.2) (inl (score_is_left g.S.Scorer.score_of c.args.bytes.now c.in_ok-header.header.size
    c.in_ok-header.header.score.0 h.refused h.size h.score ∙ c.in_err-check_score.ensures))

pub returns-in_err-check_score-clause-all_are_read :
    goal.returns-in_err-check_score-clause-all_are_read
returns-in_err-check_score-clause-all_are_read g c s begins =
    let p = err_from_is_err_and c.from_residual-in_err-check_score.result
    c.from_residual-in_err-check_score.ensures.1 in
    let h = c.in_ok-header.ensures in
    rw (p.1, p.2) (begins_refused g.S.Scorer.score_of s c.args.bytes.now begins _
    (inl (score_is_left g.S.Scorer.score_of c.args.bytes.now c.in_ok-header.header.size
    c.in_ok-header.header.score.0 h.refused h.size h.score ∙ c.in_err-check_score.ensures)))

pub returns-in_default-clause-refused : goal.returns-in_default-clause-refused
returns-in_default-clause-refused g c =
    let h = c.in_ok-header.ensures in
    inr (
      score_is_left g.S.Scorer.score_of c.args.bytes.now c.in_ok-header.header.size
          c.in_ok-header.header.score.0 h.refused h.size h.score ∙ c.in_ok-check_score.ensures,
      refl,
    )

pub returns-clause-refused : goal.returns-clause-refused
returns-clause-refused g c =
    let h = c.in_ok-header.ensures in
    score_is_left g.S.Scorer.score_of c.args.bytes.now c.in_ok-header.header.size
    c.in_ok-header.header.score.0 h.refused h.size h.score ∙ c.in_ok-check_score.ensures

pub returns-clause-read : goal.returns-clause-read
returns-clause-read g c =
    let h = c.in_ok-header.ensures in (
      stored_in c.args.bytes.now,
      good_begins g.S.Scorer.score_of c.args.bytes.now (λ i. omega (arith, c.type_inv.bytes i))
          (returns-clause-refused g c),
      record {
        kind = c.clump_of.ensures.kind ∙ h.kind;
        score = c.clump_of.ensures.score ∙ h.score;
        time = c.clump_of.ensures.time ∙ h.time;
        bytes = c.clump_of.ensures.bytes ∙ c.in-Ok.ensures
            ∙ block_is g.S.Scorer.score_of c.args.bytes.now c.in_ok-header.header.size
            c.in_ok-header.header.score.0 h.refused h.size h.score;
      },
    )

pub returns-clause-all_are_read : goal.returns-clause-all_are_read
returns-clause-all_are_read g c s begins =
    let r = returns-clause-read g c in
    read_as r.0 s _ (one_stored g.S.Scorer.score_of r.0 s c.args.bytes.now r.1 begins) r.2
