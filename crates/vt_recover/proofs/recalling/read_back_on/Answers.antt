use Rattle.std.proofs.Common.{arith}
use Rattle.std.proofs.lemmas.Result.{err_from_is_err_and}
use Rattle.vt_recover.specs.Recalling.{Opened, opened}
use Rattle.vt_recover.proofs.ReadingBack.{begin_reading, below_most, ends_at_least, ends_in_log, ends_in_shard, reads_on, stands_whole, begin_once, once_more}
use Rattle.vt_recover.proofs.recalling.read_back_on.Goals as goal

pub new-steps-requires-clause-name : goal.new-steps-requires-clause-name
new-steps-requires-clause-name g c = c.requires.name

pub new-steps-requires-clause-parts : goal.new-steps-requires-clause-parts
new-steps-requires-clause-parts g c = c.requires.parts

pub new-steps-requires-clause-some : goal.new-steps-requires-clause-some
new-steps-requires-clause-some g c = c.requires.some

pub loop-tail-init : goal.loop-tail-init
loop-tail-init g c =
    let old : Opened g.row.D.Denot = opened c.args.log.now c.args.shards.now c.args.bits.now in
    let e = c.tail-tail.ensures in (
      begin_reading g.S.Scorer.score_of g.D.Disk old c.tail-tail.result c.requires.mounted (stands_whole g.D.Disk c.args.log.now e.whole) c.requires.unused e.tail e.all e.past e.behind,
      begin_once g.D.Disk c.args.least old c.tail-tail.result c.requires.mounted e.all,
    )

pub next_back-requires-clause-tail : goal.next_back-requires-clause-tail
next_back-requires-clause-tail g c = c.loop-tail.invariant.0.tail

pub next_back-requires-clause-some : goal.next_back-requires-clause-some
next_back-requires-clause-some g c = omega (arith, c.loop-tail-test.true, c.left.ensures)

pub next_back-requires-clause-rest : goal.next_back-requires-clause-rest
next_back-requires-clause-rest g c = c.loop-tail.invariant.0.queue

pub next_back-requires-clause-stands : goal.next_back-requires-clause-stands
next_back-requires-clause-stands g c = c.loop-tail.invariant.0.stands

pub next_back-requires-clause-come : goal.next_back-requires-clause-come
next_back-requires-clause-come g c = c.loop-tail.invariant.0.come

pub returns-in_err-info : goal.returns-in_err-info
returns-in_err-info g c =
    let old : Opened g.row.D.Denot = opened c.args.log.now c.args.shards.now c.args.bits.now in
    let now : Opened g.row.D.Denot = opened c.loop-tail.log c.loop-tail.shards c.loop-tail.bits in
    let e = c.in_err-info.ensures in
    let p = err_from_is_err_and c.from_residual.result c.from_residual.ensures.1 in
    rw (p.1, p.2) (ends_in_log g.S.Scorer.score_of g.D.Disk old now c.loop-tail.tail c.loop-tail.invariant.0 c.next_back.new.log _ c.args.least c.args.part e.reads e.counts e.ends_early e.blocks c.no_block_lacks.ensures.more)

pub recall-requires-clause-many : goal.recall-requires-clause-many
recall-requires-clause-many g c = omega (arith, c.requires.many, c.loop-tail.auto.shards)

pub recall-requires-clause-number : goal.recall-requires-clause-number
recall-requires-clause-number g c = below_most _ _ _ c.in_ok-info.ensures.number.1 c.left.ensures c.left.type_inv

pub recall-requires-clause-quiet : goal.recall-requires-clause-quiet
recall-requires-clause-quiet g c = λ i s at. (c.loop-tail.invariant.0.rest i s at).quiet

pub loop-tail-smaller : goal.loop-tail-smaller
loop-tail-smaller g c = omega (arith, c.in_ok-info.ensures.number)

pub loop-tail-preserved : goal.loop-tail-preserved
loop-tail-preserved g c =
    let old : Opened g.row.D.Denot = opened c.args.log.now c.args.shards.now c.args.bits.now in
    let now : Opened g.row.D.Denot = opened c.loop-tail.log c.loop-tail.shards c.loop-tail.bits in (
      reads_on g.S.Scorer.score_of g.D.Disk old now c.loop-tail.tail c.next_back.new.tail c.loop-tail.invariant.0 c.next_back.new.log c.in_ok-info.info c.in_ok-info.ensures tt c.args.part
          c.recall.new.shards c.recall.new.bits c.in_ok-recall.ensures.takes c.recall.ensures.marks c.marked_scores_stay.ensures.stay c.marked_scores_stay.ensures.marked
          c.sections_have_ranges.ensures c.sections_are_told_apart.ensures.head c.frames_are_told_apart.ensures.one c.no_block_lacks.ensures.more,
      once_more g.S.Scorer.score_of g.D.Disk c.args.least old now c.loop-tail.tail c.next_back.new.tail c.loop-tail.invariant.1 c.next_back.new.log c.in_ok-info.info c.in_ok-info.ensures
          (omega (arith, c.loop-tail-test.true, c.left.ensures)) c.recall.new.shards c.recall.new.bits,
    )

pub returns-in_err-recall : goal.returns-in_err-recall
returns-in_err-recall g c =
    let old : Opened g.row.D.Denot = opened c.args.log.now c.args.shards.now c.args.bits.now in
    let now : Opened g.row.D.Denot = opened c.loop-tail.log c.loop-tail.shards c.loop-tail.bits in
    let p = err_from_is_err_and c.from_residual-in_err-recall.result c.from_residual-in_err-recall.ensures.1 in
    rw (p.1, p.2) (ends_in_shard g.S.Scorer.score_of g.D.Disk old now c.loop-tail.tail c.next_back.new.tail c.loop-tail.invariant.0 c.next_back.new.log c.in_ok-info.info c.in_ok-info.ensures _ c.args.least c.args.part
    c.recall.new.shards c.recall.new.bits c.in_err-recall.ensures.takes c.recall.ensures.marks c.marked_scores_stay.ensures.stay c.marked_scores_stay.ensures.marked
    c.sections_have_ranges.ensures c.sections_are_told_apart.ensures.head c.frames_are_told_apart.ensures.one c.no_block_lacks.ensures.more)

pub returns : goal.returns
returns g c =
    let old : Opened g.row.D.Denot = opened c.args.log.now c.args.shards.now c.args.bits.now in
    let now : Opened g.row.D.Denot = opened c.loop-tail.log c.loop-tail.shards c.loop-tail.bits in
    ends_at_least g.S.Scorer.score_of g.D.Disk old now c.loop-tail.tail c.loop-tail.invariant.0 tt c.args.least c.args.part (omega (arith, c.loop-tail-test.false, c.left.ensures)) c.loop-tail.invariant.1 c.no_block_lacks.ensures.more
