use Rattle.std.proofs.Common.{◌≡◌, Bool, true, false, length, sym, ◌∙◌, subst, arith}
use Rattle.std.specs.Prelude.{Ok}
use Rattle.std.proofs.lemmas.Result.{err_from_is_err_and}
use Rattle.vt_shard.specs.declared.TheConstants.{ROOM}
use Rattle.vt_shard.specs.Shard.{ShardState}
use Rattle.vt_recover.specs.TakingBack.{LooksForEntry}
use Rattle.vt_recover.proofs.PuttingBack.{back_below_mark, back_found, back_look_err, back_other, back_put, back_write_err, back_written}
use Rattle.vt_recover.proofs.TakingBack.{looks_quiet}
use Rattle.vt_recover.proofs.recalling.take_back.Goals as goal

pub returns-then-not-has_key : goal.returns-then-not-has_key
returns-then-not-has_key g c = back_other g.D.Disk c.args.part c.args.info c.args.shard.now tt c.others_lack_nothing.ensures
    (λ has. let e : false ≡ true = sym c.if-not-has_key.true ∙ c.has_key.ensures.1 has in absurd (cc))

pub returns-then-info-mark : goal.returns-then-info-mark
returns-then-info-mark g c = back_below_mark g.D.Disk c.args.part c.args.info c.args.shard.now tt c.no_block_lacks.ensures.more c.no_block_lacks.ensures.none
    (omega (arith, c.if-info-mark.true, c.mark.ensures))

pub returns-in_err-there : goal.returns-in_err-there
returns-in_err-there g c = let p = err_from_is_err_and c.from_residual.result c.from_residual.ensures.1 in
    rw (p.1, p.2) (back_look_err g.D.Disk c.args.part c.args.info c.args.shard.now c.has_entry.new.shard _ c.in_err-there.ensures)

pub returns-then-there : goal.returns-then-there
returns-then-there g c = back_found g.D.Disk c.args.part c.args.info c.args.shard.now c.has_entry.new.shard tt
    (subst (λ (b : Bool). LooksForEntry g.D.Disk c.args.info.key (Ok b) c.args.shard.now c.has_entry.new.shard) c.if-there.true c.in_ok-there.ensures)

pub returns-then-spare-gt0 : goal.returns-then-spare-gt0
returns-then-spare-gt0 g c =
    let old : ShardState g.row.D.Denot = c.args.shard.now in
    let mid : ShardState g.row.D.Denot = c.has_entry.new.shard in
    back_put g.D.Disk c.args.part c.args.info old mid (subst (λ (b : Bool). LooksForEntry g.D.Disk c.args.info.key (Ok b) old mid) c.if-there.false c.in_ok-there.ensures)
    c.put_back.result c.put_back.new.shard c.no_block_lacks.ensures.more c.put_back.ensures

pub returns-in_err-write_back : goal.returns-in_err-write_back
returns-in_err-write_back g c =
    let old : ShardState g.row.D.Denot = c.args.shard.now in
    let mid : ShardState g.row.D.Denot = c.has_entry.new.shard in
    let full : length mid.index.dirty ≡ ROOM = omega (arith, c.spare.ensures.count, c.spare.ensures.fits, c.if-spare-gt0.false) in
    let p = err_from_is_err_and c.from_residual-in_err-write_back.result c.from_residual-in_err-write_back.ensures.1 in
    rw (p.1, p.2) (back_write_err g.D.Disk c.args.part c.args.info old mid
    (subst (λ (b : Bool). LooksForEntry g.D.Disk c.args.info.key (Ok b) old mid) c.if-there.false c.in_ok-there.ensures) c.write_back.new.shard full (c.has_key.ensures.0 c.if-not-has_key.false)
    _ c.in_err-write_back.ensures)

pub returns-in_err-there-2 : goal.returns-in_err-there-2
returns-in_err-there-2 g c =
    let old : ShardState g.row.D.Denot = c.args.shard.now in
    let mid : ShardState g.row.D.Denot = c.has_entry.new.shard in
    let after : ShardState g.row.D.Denot = c.write_back.new.shard in
    let full : length mid.index.dirty ≡ ROOM = omega (arith, c.spare.ensures.count, c.spare.ensures.fits, c.if-spare-gt0.false) in
    let p = err_from_is_err_and c.from_residual-in_err-there-2.result c.from_residual-in_err-there-2.ensures.1 in
    rw (p.1, p.2) (back_written g.D.Disk c.args.part c.args.info old mid
    (subst (λ (b : Bool). LooksForEntry g.D.Disk c.args.info.key (Ok b) old mid) c.if-there.false c.in_ok-there.ensures) after full (c.has_key.ensures.0 c.if-not-has_key.false)
    _ c.has_entry-2.new.shard _ c.in_ok-write_back.ensures
    (back_look_err g.D.Disk c.args.part c.args.info after c.has_entry-2.new.shard _ c.in_err-there-2.ensures))

pub returns-then-there-2 : goal.returns-then-there-2
returns-then-there-2 g c =
    let old : ShardState g.row.D.Denot = c.args.shard.now in
    let mid : ShardState g.row.D.Denot = c.has_entry.new.shard in
    let after : ShardState g.row.D.Denot = c.write_back.new.shard in
    let new : ShardState g.row.D.Denot = c.has_entry-2.new.shard in
    let full : length mid.index.dirty ≡ ROOM = omega (arith, c.spare.ensures.count, c.spare.ensures.fits, c.if-spare-gt0.false) in
    back_written g.D.Disk c.args.part c.args.info old mid
    (subst (λ (b : Bool). LooksForEntry g.D.Disk c.args.info.key (Ok b) old mid) c.if-there.false c.in_ok-there.ensures) after full (c.has_key.ensures.0 c.if-not-has_key.false)
    (Ok tt) new _ c.in_ok-write_back.ensures
    (back_found g.D.Disk c.args.part c.args.info after new tt (subst (λ (b : Bool). LooksForEntry g.D.Disk c.args.info.key (Ok b) after new) c.if-there-2.true c.in_ok-there-2.ensures))

pub put_back-requires-2-clause-quiet : goal.put_back-requires-2-clause-quiet
put_back-requires-2-clause-quiet g c = looks_quiet g.D.Disk c.write_back.new.shard c.has_entry-2.new.shard c.in_ok-there-2.ensures.looks c.in_ok-write_back.ensures.quiet

pub returns : goal.returns
returns g c =
    let old : ShardState g.row.D.Denot = c.args.shard.now in
    let mid : ShardState g.row.D.Denot = c.has_entry.new.shard in
    let after : ShardState g.row.D.Denot = c.write_back.new.shard in
    let found : ShardState g.row.D.Denot = c.has_entry-2.new.shard in
    let full : length mid.index.dirty ≡ ROOM = omega (arith, c.spare.ensures.count, c.spare.ensures.fits, c.if-spare-gt0.false) in
    back_written g.D.Disk c.args.part c.args.info old mid
    (subst (λ (b : Bool). LooksForEntry g.D.Disk c.args.info.key (Ok b) old mid) c.if-there.false c.in_ok-there.ensures) after full (c.has_key.ensures.0 c.if-not-has_key.false)
    c.put_back-2.result c.put_back-2.new.shard _ c.in_ok-write_back.ensures
    (back_put g.D.Disk c.args.part c.args.info after found (subst (λ (b : Bool). LooksForEntry g.D.Disk c.args.info.key (Ok b) after found) c.if-there-2.false c.in_ok-there-2.ensures)
    c.put_back-2.result c.put_back-2.new.shard c.no_block_lacks.ensures.more c.put_back-2.ensures)
