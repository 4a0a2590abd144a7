use Rattle.std.proofs.Common.{Ok, Err, Result}
use Rattle.std.specs.Prelude.{IsTrue, OnErr}
use Rattle.vt_disk.proofs.Calls.{on_err}
use Rattle.vt_isect.specs.declared.error.ShardErr.{ShardErr}
use Rattle.vt_isect.specs.Sound.{DiskHolds, nothing_known}
use Rattle.vt_format.specs.Usage.{IsMidway, StopsHead}
use Rattle.vt_format.proofs.Uses.{clearing_midway, first_midway, in_use, last_midway}
use Rattle.vt_format.proofs.usage.put_to_use.Goals as goal

pub returns-clause-in_use : goal.returns-clause-in_use
returns-clause-in_use g c =
    in_use g.D.Disk c.images_agree.ensures.crash c.args.first c.args.total c.args.section.now c.change_head.new.section c.clear_buckets.new.section
    c.change_head-2.new.section c.change_head-2.result c.in_ok-change_head.ensures.changed c.clear_buckets.ensures.same c.in_ok-clear_buckets.ensures.holds
    c.change_head-2.ensures.changed

pub returns-in_err-change_head-clause-midway : goal.returns-in_err-change_head-clause-midway
returns-in_err-change_head-clause-midway g c =
    on_err c.from_residual.result (λ told sound.
    first_midway g.D.Disk c.images_agree.ensures.head c.args.first c.args.total c.args.section.now c.change_head.new.section
    c.in_err-change_head.ensures.stops told sound)

pub returns-in_err-clear_buckets-clause-midway : goal.returns-in_err-clear_buckets-clause-midway
returns-in_err-clear_buckets-clause-midway g c =
    let one = c.in_ok-change_head.ensures.changed in
    on_err c.from_residual-in_err-clear_buckets.result (λ told sound.
    clearing_midway g.D.Disk c.args.first c.args.total c.args.section.now c.change_head.new.section c.clear_buckets.new.section one
    c.clear_buckets.ensures.same c.images_agree.ensures.head (c.clear_buckets.ensures.sound told (one.holds told sound)))

pub returns-clause-midway : goal.returns-clause-midway
returns-clause-midway g c = midway c.change_head-2.result c.change_head-2.ensures.stops
  where
    midway : (r : Result (Unit {0}) ShardErr) → OnErr r (StopsHead g.D.Disk 1 c.args.first c.args.total c.clear_buckets.new.section c.change_head-2.new.section)
        → OnErr r (IsTrue g.D.Disk.tells → DiskHolds g.D.Disk c.args.section.now nothing_known
        → IsMidway g.D.Disk c.args.first c.args.total c.args.section.now c.change_head-2.new.section)
    midway (Ok done) stops = tt
    midway (Err bad) stops = λ told sound.
        let one = c.in_ok-change_head.ensures.changed in
        last_midway g.D.Disk c.args.first c.args.total c.args.section.now c.change_head.new.section c.clear_buckets.new.section one
        c.clear_buckets.ensures.same c.images_agree.ensures.crash c.change_head-2.new.section stops told
        (c.in_ok-clear_buckets.ensures.holds told (one.holds told sound))
