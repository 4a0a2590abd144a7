use Rattle.std.proofs.Common.{Bool, length, sym, subst}
use Rattle.std.specs.Prelude.{Ok, Err}
use Rattle.vt_base.specs.declared.mount.MountBad.{MountBad}
use Rattle.vt_shard.specs.Shard.{ShardState}
use Rattle.vt_recover.specs.TakingBack.{LooksForEntry}
use Rattle.vt_recover.proofs.TakingBack.{looks_for}
use Rattle.vt_recover.proofs.recalling.has_entry.Goals as goal

pub returns-in-Ok : goal.returns-in-Ok
returns-in-Ok g c =
    let it = c.in-Ok.ensures in
    let old : ShardState g.row.D.Denot = c.args.shard.now in
    let new : ShardState g.row.D.Denot = c.lookup.new.self in
    subst (λ (b : Bool). LooksForEntry g.D.Disk c.args.info.now.key (Ok b) old new) (sym c.is_some.ensures)
    (looks_for g.D.Disk c.frames_are_told_apart.ensures.one c.args.info.now.key (Ok c.in-Ok.found) old new c.requires it.looks_up it.sound
    (λ tells score setup h i was here. it.recalls score setup h (length h) i tells was here) it.absent)

pub returns-in-Err : goal.returns-in-Err
returns-in-Err g c =
    let it = c.in-Err.ensures in
    let old : ShardState g.row.D.Denot = c.args.shard.now in
    let new : ShardState g.row.D.Denot = c.lookup.new.self in
    subst (λ (b : MountBad). LooksForEntry g.D.Disk c.args.info.now.key (Err b) old new) (sym c.of_shard.ensures)
    (looks_for g.D.Disk c.frames_are_told_apart.ensures.one c.args.info.now.key (Err c.in-Err.bad) old new c.requires it.looks_up it.sound
    (λ tells score setup h i was here. it.recalls score setup h (length h) i tells was here) it.absent)
