use Rattle.std.proofs.Common.{◌≡◌, ℕ, List, length, sym, ◌∙◌, ap, subst, arith}
use Rattle.vac_read.specs.declared.node.Node.{Node}
use Rattle.nine_wire.specs.Messages.{FitsStat, Stat, stat_bytes}
use Rattle.nine_wire.specs.Views.{wire_stat}
use Rattle.nine_wire.specs.Writing.{WritesField}
use Rattle.nine_view.specs.Files.{FitsMessage, stat_in}
use Rattle.nine_view.proofs.Fitting.{puts_more, puts_none}
use Rattle.nine_view.proofs.stats.put_files.Goals as goal

pub loop-node-init : goal.loop-node-init
loop-node-init c = puts_none c.args.room c.args.files.now c.args.buf.now

pub stat_of-stat-requires : goal.stat_of-stat-requires
stat_of-stat-requires c =
    subst FitsMessage (sym c.node-item.is)
    (c.requires.told c.loop-node.node-index c.node-item.result c.loop-node-test.true)

pub stat_len-requires : goal.stat_len-requires
stat_len-requires c =
    subst (λ (s : Stat). FitsStat s) (sym c.stat_of-stat.ensures.stat) c.stat_of-stat.ensures.fits

pub loop-node-preserved : goal.loop-node-preserved
loop-node-preserved c =
    let files : List Node = c.args.files.now in
    let node : Node = c.node-item.result in
    let stat : stat_bytes (wire_stat c.stat_of-stat.result) ≡ stat_in node =
    ap (λ (s : Stat). stat_bytes s) c.stat_of-stat.ensures.stat in
    let len : c.stat_len.result ≡ length (stat_in node) =
    c.stat_len.ensures ∙ ap (λ (l : List ℕ). length l) stat in
    let room = c.if-stat_len-room.false in
    puts_more c.args.room files c.loop-node.node-index c.loop-node.count c.loop-node.end
    c.put_stat-end.result c.loop-node.buf c.put_stat-end.new.buf node c.loop-node-test.true
    c.node-item.is c.loop-node.invariant (omega (arith, len, room))
    (subst (λ (l : List ℕ). WritesField c.loop-node.end c.put_stat-end.result c.loop-node.buf
    c.put_stat-end.new.buf l) stat c.put_stat-end.ensures)
