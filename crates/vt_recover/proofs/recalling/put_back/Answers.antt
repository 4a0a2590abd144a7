use Rattle.std.proofs.Common.{ℕ, sym, subst}
use Rattle.std.specs.Prelude.{⊤, Err}
use Rattle.vt_base.specs.declared.mount.MountBad.{MountBad}
use Rattle.vt_base.specs.declared.mount.MountBad.TheVariants.{Disagree}
use Rattle.vt_base.specs.declared.mount.MountField.TheVariants.{Crowd}
use Rattle.vt_model.specs.declared.TheConstants.{BUCKET_ROOM}
use Rattle.vt_shard.specs.Shard.{ShardState}
use Rattle.vt_recover.specs.TakingBack.{PutsBack}
use Rattle.vt_recover.proofs.PuttingBack.{puts_crowd, puts_err, puts_ok}
use Rattle.vt_recover.proofs.recalling.put_back.Goals as goal

pub returns-in-Ok : goal.returns-in-Ok
returns-in-Ok g c =
    let old : ShardState g.row.D.Denot = c.args.shard.now in
    let mid : ShardState g.row.D.Denot = c.put.new.self in
    let new : ShardState g.row.D.Denot = c.crowd.new.self in
    let e = c.crowd.ensures in
    subst (λ (n : ℕ). PutsBack {U = ⊤} g.D.Disk c.args.part c.args.info (Err (Disagree c.args.part Crowd n BUCKET_ROOM)) old new) (sym c.from.ensures)
    (puts_crowd g.D.Disk c.frames_are_told_apart.ensures.one c.args.part c.args.info old mid new c.bucket_of-bucket.result c.crowd.result c.requires.quiet c.put.ensures.put c.bucket_of-bucket.ensures c.requires.range
    e.counts c.put.ensures.recalls e.most e.sound c.in-Ok.crowd c.in-Ok.is c.if-crowd-gt-BUCKET_ROOM.true)

pub returns-in-Ok-2 : goal.returns-in-Ok-2
returns-in-Ok-2 g c =
    let old : ShardState g.row.D.Denot = c.args.shard.now in
    let mid : ShardState g.row.D.Denot = c.put.new.self in
    let new : ShardState g.row.D.Denot = c.crowd.new.self in
    let e = c.crowd.ensures in
    puts_ok g.D.Disk c.frames_are_told_apart.ensures.one c.args.part c.args.info old mid new c.bucket_of-bucket.result c.crowd.result c.requires.quiet c.put.ensures.put c.bucket_of-bucket.ensures c.requires.range
    e.counts c.put.ensures.recalls e.most e.sound c.in-Ok.crowd tt c.in-Ok.is

pub returns-in-Err : goal.returns-in-Err
returns-in-Err g c =
    let old : ShardState g.row.D.Denot = c.args.shard.now in
    let mid : ShardState g.row.D.Denot = c.put.new.self in
    let new : ShardState g.row.D.Denot = c.crowd.new.self in
    let e = c.crowd.ensures in
    subst (λ (b : MountBad). PutsBack {U = ⊤} g.D.Disk c.args.part c.args.info (Err b) old new) (sym c.of_shard.ensures)
    (puts_err g.D.Disk c.frames_are_told_apart.ensures.one c.args.part c.args.info old mid new c.bucket_of-bucket.result c.crowd.result c.requires.quiet c.put.ensures.put c.bucket_of-bucket.ensures c.requires.range
    e.counts c.put.ensures.recalls e.most e.sound c.in-Err.bad c.in-Err.is)
