-- a use of the store by a block and a sync
use Rattle.std.proofs.Common.{refl, true}
use Rattle.vt_use.specs.OneBlock.{own_answer}
use Rattle.vt_use.specs.Stores.{at_time, store_on}
use Rattle.vt_use.proofs.OneBlocks.{written_asked}
use Rattle.vt_use.proofs.BlockKept.{answers_so, done_so, puts_so}
use Rattle.vt_use.proofs.block_laws.stores_are_written.Goals as goal

pub returns : goal.returns
returns g c score tells conf now b output said added closed old new tables devices setup h log base
    told disk_tells x under is_log =
    let disk = g.D.Disk in
    let place = record setup { base = base } in
    let it = x.does in
    let put = own_answer output said in
    let used = c.stores_are_used.ensures score tells conf now true it.exchanges closed old x.during new
    x.opened it.kept x.left tables devices setup h log base told disk_tells x.opens it.asks x.shape
    x.given under is_log in
    let last = used.0 in
    let ends = it.asks.ends in
    let so = puts_so score place log b.kind b.bytes put it.exchanges last it.kept.log.durable
    (written_asked (store_on score disk) b score output said it.exchanges (at_time now x.opened)
    (at_time now it.kept) it.does) used.2 in
    record {
      answers = answers_so score place log b.kind b.bytes disk it.kept x.left put closed so.answers
          ends.cause (ends.undamaged last disk_tells used.1);
      last = last;
      last_is = so.last_is;
      kept = it.kept;
      closed = closed;
      left = used.3;
      done = done_so score place log b.kind b.bytes _ put closed last so.done
          (λ well. used.3.done refl well);
    }
