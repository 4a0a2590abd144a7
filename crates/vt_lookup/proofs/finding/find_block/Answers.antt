use Rattle.std.proofs.Common.{ℕ, List, Bool, true, Option, sym, ap, subst}
use Rattle.std.specs.Prelude.{Ok}
use Rattle.vt_lumps.specs.Lumps.{cached_bytes}
use Rattle.vt_lookup.specs.Finding.{SeeksBlock, parts_of}
use Rattle.vt_lookup.specs.Seeking.{sought}
use Rattle.std.proofs.lemmas.Result.{err_from_is_err_and}
use Rattle.vt_lookup.proofs.Seeks.{key_has_score, lump_held, seeks_short, some_there}
use Rattle.vt_lookup.proofs.finding.find_block.Goals as goal

pub returns-then-not-may_have-clause-found : goal.returns-then-not-may_have-clause-found
returns-then-not-may_have-clause-found g c = λ setup h durable tells sound right other.
    let key = c.args.key.now in
    sym (c.held_by_number.ensures.none g.S.Scorer.score_of h key.score.0 key.kind other (λ i it. right c.if-not-may_have.true i (key_has_score g.S.Scorer.score_of h i key it)))

pub returns-in_err-there-clause-found : goal.returns-in_err-there-clause-found
returns-in_err-there-clause-found g c = λ setup h durable tells sound right other. let p = err_from_is_err_and c.from_residual.result c.from_residual.ensures.1 in
    rw (p.1, p.2) (c.in_err-there.ensures.right setup h durable tells sound)

pub returns-then-not-there-clause-found : goal.returns-then-not-there-clause-found
returns-then-not-there-clause-found g c = λ setup h durable tells sound right other.
    let key = c.args.key.now in
    sym (c.held_by_number.ensures.none g.S.Scorer.score_of h key.score.0 key.kind other (c.in_ok-there.ensures.right setup h durable tells sound c.if-not-there.true))

pub returns-in_err-copy-clause-seeks : goal.returns-in_err-copy-clause-seeks
returns-in_err-copy-clause-seeks g c =
    let key = c.args.key.now in
    let old = parts_of c.args.log.now c.args.shard.now in
    let new = parts_of c.seek.new.log c.seek.new.shard in
    let it = some_there (cached_bytes key c.seek.new.shard.lumps) (c.in_ok-there.ensures.there (ap (λ (b : Bool). Ok b) c.if-not-there.false)) in
    let p = err_from_is_err_and c.from_residual-in_err-copy.result c.from_residual-in_err-copy.ensures.1 in
    rw (p.1, p.2) (seeks_short g.S.Scorer.score_of g.D.Disk c.args.may_have key it.0 _ old new c.if-not-may_have.false c.in_err-copy.ensures.copy
    (subst (λ (o : Option (List ℕ)). SeeksBlock g.S.Scorer.score_of g.D.Disk true key (Ok o) old new) it.1
    (subst (λ (b : Bool). SeeksBlock g.S.Scorer.score_of g.D.Disk true key (sought key (Ok b) c.seek.new.shard) old new) c.if-not-there.false c.in_ok-there.ensures.seeks)))

pub returns-clause-found : goal.returns-clause-found
returns-clause-found g c = λ setup h durable tells sound right other.
    let key = c.args.key.now in
    lump_held g.S.Scorer.score_of h key c.in_ok-copy.copy (λ i it. c.held_by_number.ensures.block g.S.Scorer.score_of h i key.score.0 key.kind sound.legal.keys other it)
    (c.in_ok-copy.ensures.right g.S.Scorer.score_of setup h durable (c.seek.ensures.sound setup h durable tells sound).shard)
