use Rattle.std.proofs.lemmas.Result.{err_from_is_err_and}
use Rattle.vt_lookup.proofs.Seeks.{own_is}
use Rattle.vt_lookup.proofs.finding.compare_block.Goals as goal

pub returns-in_err-there-clause-right : goal.returns-in_err-there-clause-right
returns-in_err-there-clause-right g c = λ setup h durable tells sound. let p = err_from_is_err_and c.from_residual.result c.from_residual.ensures.1 in
    rw (p.1, p.2) (c.in_err-there.ensures.right setup h durable tells sound)

pub returns-then-not-there-clause-right : goal.returns-then-not-there-clause-right
returns-then-not-there-clause-right g c = λ setup h durable tells sound. c.in_ok-there.ensures.right setup h durable tells sound c.if-not-there.true

pub returns-clause-right : goal.returns-clause-right
returns-clause-right g c = λ setup h durable tells sound.
    own_is g.S.Scorer.score_of h c.args.key.now c.args.block.now c.is_lump.result
    (c.is_lump.ensures.right g.S.Scorer.score_of setup h durable (c.seek.ensures.sound setup h durable tells sound).shard)
