use Rattle.std.proofs.Common.{◌≡◌, Some, refl, sym, ◌∙◌, arith}
use Rattle.std.specs.Prelude.{slice_get, slice_index_or}
use Rattle.std.proofs.lemmas.Result.{err_from_is_err_and}
use Rattle.vt_shard.specs.Shard.{ShardState}
use Rattle.vt_recover.proofs.TakingAllBack.{all_taken, at_index, ends_at, one_taken}
use Rattle.vt_recover.proofs.recalling.recall.Goals as goal

pub loop-i-init : goal.loop-i-init
loop-i-init g c = record { many = refl; before = λ j s t below. absurd (omega (arith, below)); behind = λ j from. refl; faults = refl }

pub bounds-shards-i : goal.bounds-shards-i
bounds-shards-i g c = omega (arith, c.loop-i-test.true, c.loop-i.auto.shards)

pub overflow_cast-i : goal.overflow_cast-i
overflow_cast-i g c = omega (arith, c.loop-i-test.true, c.requires.many)

pub overflow_add-part : goal.overflow_add-part
overflow_add-part g c = omega (arith, c.loop-i-test.true, c.requires.many)

pub take_back-requires-clause-number : goal.take_back-requires-clause-number
take_back-requires-clause-number g c = c.requires.number

pub take_back-requires-clause-quiet : goal.take_back-requires-clause-quiet
take_back-requires-clause-quiet g c =
    let v : ShardState g.row.D.Denot = slice_index_or c.loop-i.shards c.loop-i.i c.index-shards-i.result in
    let there : slice_get c.loop-i.shards c.loop-i.i ≡ Some v = at_index c.loop-i.shards c.loop-i.i c.index-shards-i.result (omega (arith, c.loop-i-test.true, c.loop-i.auto.shards)) in
    c.requires.quiet c.loop-i.i v (sym (c.loop-i.invariant.behind c.loop-i.i (omega arith)) ∙ there)

pub returns-in_err-take_back-clause-takes : goal.returns-in_err-take_back-clause-takes
returns-in_err-take_back-clause-takes g c =
    let v : ShardState g.row.D.Denot = slice_index_or c.loop-i.shards c.loop-i.i c.index-shards-i.result in
    let there : slice_get c.loop-i.shards c.loop-i.i ≡ Some v = at_index c.loop-i.shards c.loop-i.i c.index-shards-i.result (omega (arith, c.loop-i-test.true, c.loop-i.auto.shards)) in
    let p = err_from_is_err_and c.from_residual.result c.from_residual.ensures.1 in
    rw (p.1, p.2) (ends_at g.D.Disk c.args.part c.args.info c.loop-i.i c.args.shards.now c.loop-i.shards c.loop-i.invariant v there c.take_back.new.shard _ c.no_block_lacks.ensures.more c.in_err-take_back.ensures)

pub returns-in_err-take_back-clause-marks : goal.returns-in_err-take_back-clause-marks
returns-in_err-take_back-clause-marks g c = c.mark_bits.ensures

pub loop-i-preserved : goal.loop-i-preserved
loop-i-preserved g c =
    let v : ShardState g.row.D.Denot = slice_index_or c.loop-i.shards c.loop-i.i c.index-shards-i.result in
    let there : slice_get c.loop-i.shards c.loop-i.i ≡ Some v = at_index c.loop-i.shards c.loop-i.i c.index-shards-i.result (omega (arith, c.loop-i-test.true, c.loop-i.auto.shards)) in
    one_taken g.D.Disk c.args.part c.args.info c.loop-i.i c.args.shards.now c.loop-i.shards c.loop-i.invariant v there c.take_back.new.shard c.in_ok-take_back.ensures

pub returns-clause-takes : goal.returns-clause-takes
returns-clause-takes g c =
    all_taken g.D.Disk c.args.part c.args.info c.loop-i.i c.args.shards.now c.loop-i.shards tt c.loop-i.invariant (omega (arith, c.loop-i-test.false))

pub returns-clause-marks : goal.returns-clause-marks
returns-clause-marks g c = c.mark_bits.ensures
