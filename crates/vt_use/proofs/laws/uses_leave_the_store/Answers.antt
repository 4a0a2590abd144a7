-- the store that was opened has the log of its partitions
use Rattle.std.proofs.Common.{List, arith, length, subst}
use Rattle.vt_model.specs.Places.{Setup}
use Rattle.vt_part.specs.Table.{Table}
use Rattle.vt_core.specs.Core.{devices_of}
use Rattle.vt_core.specs.Mounting.{AllStandFor, EachStands}
use Rattle.vt_use.proofs.laws.uses_leave_the_store.Goals as goal

pub returns : goal.returns
returns g c score told conf now writes exchanges closed last old during new opened kept left tables devices
    setup h log base is_told tells opens it shape given under is_log sound =
    let disk = g.D.Disk in
    let recalls = c.opened_stores_recall.ensures.recalls score told conf 1 old during opened
    tables devices setup h log base is_told tells opens under is_log in
    let tables_are = c.opened_stores_recall.ensures.tables score told conf 1 old during opened
    tables devices setup h log base is_told tells opens under is_log in
    let leaves = c.uses_leave.ensures score now writes exchanges closed last opened kept left it tells
    sound in
    record {
      back = devices_of left;
      under = c.shapes_are_kept.ensures.closed score told conf 1 old during new opened left is_told
          opens shape given;
      least = left.log.durable;
      all = omega (arith, recalls.durable, leaves.keeps.store.durable);
      durable = leaves.durable;
      stands = subst (λ (t : List Table). EachStands score disk (record setup { base = base }) t
          left.log.durable (devices_of left) last) tables_are
          (subst (λ (e : Setup). EachStands score disk e opened.log.tables left.log.durable
          (devices_of left) last) recalls.setup leaves.stands);
      done = λ is well. (
        (leaves.done is well).0,
        subst (λ (t : List Table). AllStandFor score disk
            (record setup { base = base }) t (devices_of left) last (length last)) tables_are
            (subst (λ (e : Setup). AllStandFor score disk e opened.log.tables (devices_of left)
            last (length last)) recalls.setup (leaves.done is well).1),
      );
    }
