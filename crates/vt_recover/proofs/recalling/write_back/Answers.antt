use Rattle.std.proofs.Common.{length, sym, subst, arith}
use Rattle.std.specs.Prelude.{IsSome, ⊤, Err}
use Rattle.vt_base.specs.declared.mount.MountBad.{MountBad}
use Rattle.vt_shard.specs.Shard.{ShardState}
use Rattle.vt_recover.specs.TakingBack.{WritesAllBack}
use Rattle.vt_recover.proofs.WritingBack.{begun_writing, dirty_below, ends_early, one_step, writes_all}
use Rattle.vt_recover.proofs.Owed.{under_way}
use Rattle.vt_recover.proofs.recalling.write_back.Goals as goal

pub loop-shard-init : goal.loop-shard-init
loop-shard-init g c =
    let old : ShardState g.row.D.Denot = c.args.shard.now in
    let new : ShardState g.row.D.Denot = c.begin_bare.new.self in
    let it = c.begin_bare.ensures.begun c.if-not-begin_bare.false in
    begun_writing g.D.Disk old new it.0 c.requires it.1 it.2
    (λ tells score setup h from was. c.begin_bare.ensures.sound score setup h (length h) from tells was (dirty_below score setup g.D.Disk old h from was))

pub returns-in-Err : goal.returns-in-Err
returns-in-Err g c =
    let old : ShardState g.row.D.Denot = c.args.shard.now in
    let now : ShardState g.row.D.Denot = c.loop-shard.shard in
    let new : ShardState g.row.D.Denot = c.advance.new.self in
    let under : IsSome now.writeback = under_way now.writeback c.owed.result c.owed.ensures.none c.loop-shard-test.true in
    let e = c.in-Err.ensures in
    subst (λ (b : MountBad). WritesAllBack {U = ⊤} g.D.Disk (Err b) old new) (sym c.of_shard.ensures)
    (ends_early g.D.Disk old now new c.loop-shard.invariant under c.in-Err.bad e.takes e.calls e.reads e.sound
    (λ tells score setup h from was fits. e.undamaged score setup h (length h) from tells was fits))

pub loop-shard-preserved : goal.loop-shard-preserved
loop-shard-preserved g c =
    let now : ShardState g.row.D.Denot = c.loop-shard.shard in
    let under : IsSome now.writeback = under_way now.writeback c.owed.result c.owed.ensures.none c.loop-shard-test.true in
    let e = c.in_default.ensures in
    one_step g.D.Disk c.args.shard.now now c.advance.new.self c.loop-shard.invariant under c.in_default.field-0 e.takes e.calls e.sound

pub returns : goal.returns
returns g c = writes_all g.D.Disk c.args.shard.now c.loop-shard.shard tt c.loop-shard.invariant (c.owed.ensures.none.0 (omega (arith, c.loop-shard-test.false)))
