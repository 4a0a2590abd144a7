-- the store that was opened has the log of its partitions
use Rattle.std.proofs.Common.{◌≡◌, List, [], ◌+◌, arith, length, subst}
use Rattle.std.specs.Prelude.{IfErr, IfOk}
use Rattle.vt_model.specs.Places.{Setup}
use Rattle.vt_part.specs.Table.{Table}
use Rattle.vt_core.specs.Core.{devices_of}
use Rattle.vt_core.specs.Mounting.{AllStandFor, EachStands}
use Rattle.vt_use.specs.Places.{as_ended, as_refused}
use Rattle.vac_write.specs.Tried.{found}
use Rattle.vac_store.specs.Storing.{IsBecause, StandsIn, all_written, came_to}
use Rattle.vac_store.proofs.laws.stores_keep_archives.Goals as goal

pub returns : goal.returns
returns g c score told conf now bsize folder answer said added closed old new tables devices setup h
    log base is_told disk_tells x under is_log =
    let disk = g.D.Disk in
    let result = came_to answer (as_refused said) added (as_ended closed) in
    let recalls = c.opened_stores_recall.ensures.recalls score told conf 1 old x.during x.opened
    tables devices setup h log base is_told disk_tells x.opens under is_log in
    let tables_are = c.opened_stores_recall.ensures.tables score told conf 1 old x.during x.opened
    tables devices setup h log base is_told disk_tells x.opens under is_log in
    let kept = c.archives_are_kept.ensures score now bsize folder answer said added closed log
    x.opened x.left disk_tells recalls.sound x.does in
    record {
      tried = kept.tried;
      is = kept.is;
      all_blocks = kept.all;
      puts = kept.puts;
      put = kept.put;
      rest = kept.rest;
      blocks = kept.blocks;
      last = kept.last;
      last_is = subst (λ (e : Setup). kept.last ≡ all_written score e log kept.put) recalls.setup
          kept.last_is;
      back = devices_of x.left;
      under = c.shapes_are_kept.ensures.closed score told conf 1 old x.during new x.opened x.left
          is_told x.opens x.shape x.given;
      least = x.left.log.durable;
      all = omega (arith, recalls.durable, kept.keeps.store.durable);
      stands = subst (λ (t : List Table). EachStands score disk (record setup { base = base }) t
          x.left.log.durable (devices_of x.left) kept.last) tables_are
          (subst (λ (e : Setup). EachStands score disk e x.opened.log.tables x.left.log.durable
          (devices_of x.left) kept.last) recalls.setup kept.stands);
      because = subst (λ (e : Setup). IfErr result (IsBecause score e kept.last kept.rest folder (found kept.tried)))
          recalls.setup kept.because;
      done = subst (λ (t : List Table). IfOk result (λ s. (kept.rest ≡ [])
          × StandsIn score bsize kept.tried kept.last s.archived
          × (length kept.last ≡ length log + s.blocks)
          × AllStandFor score disk (record setup { base = base }) t (devices_of x.left) kept.last
          (length kept.last))) tables_are
          (subst (λ (e : Setup). IfOk result (λ s. (kept.rest ≡ [])
          × StandsIn score bsize kept.tried kept.last s.archived
          × (length kept.last ≡ length log + s.blocks)
          × AllStandFor score disk e x.opened.log.tables (devices_of x.left) kept.last
          (length kept.last))) recalls.setup kept.done);
    }
