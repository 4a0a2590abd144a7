use Rattle.std.proofs.Common.{refl, sym}
use Rattle.vt_shard.proofs.Counts.{at, counted_off, waits, within}
use Rattle.vt_shard.proofs.writeback.count_off.Goals as goal

pub overflow_sub-waiting : goal.overflow_sub-waiting
overflow_sub-waiting c =
    (at c.args.head c.args.entries.now c.loop-entry.entry-index c.entry-item.result c.loop-entry-test.true (sym c.entry-item.is) c.args.waiting.now
    c.loop-entry.waiting c.loop-entry.auto.waiting c.requires.in_range c.requires.some c.loop-entry.invariant
    c.bucket_number-bucket.result c.bucket_number-bucket.ensures.bucket).0

pub bounds-waiting-bucket : goal.bounds-waiting-bucket
bounds-waiting-bucket c =
    within c.args.head c.args.entries.now c.loop-entry.entry-index c.entry-item.result c.loop-entry-test.true (sym c.entry-item.is) c.args.waiting.now
    c.loop-entry.waiting c.loop-entry.auto.waiting c.requires.in_range c.requires.some c.loop-entry.invariant
    c.bucket_number-bucket.result c.bucket_number-bucket.ensures.bucket

pub overflow_sub-waiting-in-loop-entry : goal.overflow_sub-waiting-in-loop-entry
overflow_sub-waiting-in-loop-entry c =
    waits c.args.head c.args.entries.now c.loop-entry.entry-index c.entry-item.result c.loop-entry-test.true (sym c.entry-item.is) c.args.waiting.now
    c.loop-entry.waiting c.loop-entry.auto.waiting c.requires.in_range c.requires.some c.loop-entry.invariant
    c.bucket_number-bucket.result c.bucket_number-bucket.ensures.bucket

pub bounds-waiting-bucket-in-loop-entry : goal.bounds-waiting-bucket-in-loop-entry
bounds-waiting-bucket-in-loop-entry c =
    within c.args.head c.args.entries.now c.loop-entry.entry-index c.entry-item.result c.loop-entry-test.true (sym c.entry-item.is) c.args.waiting.now
    c.loop-entry.waiting c.loop-entry.auto.waiting c.requires.in_range c.requires.some c.loop-entry.invariant
    c.bucket_number-bucket.result c.bucket_number-bucket.ensures.bucket

pub loop-entry-preserved : goal.loop-entry-preserved
loop-entry-preserved c =
    counted_off c.args.head c.args.entries.now c.loop-entry.entry-index c.entry-item.result c.loop-entry-test.true (sym c.entry-item.is) c.args.waiting.now
    c.loop-entry.waiting c.loop-entry.auto.waiting c.requires.in_range c.requires.some c.loop-entry.invariant
    c.bucket_number-bucket.result c.bucket_number-bucket.ensures.bucket _ refl
