-- each block is held, and what is held is write-once
use Rattle.vt_model.specs.History.{held}
use Rattle.vt_tree.specs.Maps.{Has}
use Rattle.vac_model.specs.Archives.{archive_of}
use Rattle.vac_write.specs.Tried.{begun_in, found}
use Rattle.vac_write.proofs.Tried.{woven_hold}
use Rattle.vac_store.proofs.Leaving.{all_held, write_once}
use Rattle.vac_store.proofs.laws.truthful_servers_keep_archives.Goals as goal

pub returns : goal.returns
returns c score_of bsize folder sent back setup before after least most twenty legal it truly =
    let blocks =
    woven_hold (Has score_of (held score_of after)) (begun_in it.tried)
    (archive_of score_of bsize (found it.tried)).blocks it.all it.puts.woven
    (all_held score_of setup it.all before after truly) in
    record {
      blocks = blocks;
      tree = c.archives_read_back.ensures score_of (held score_of after) bsize (found it.tried)
          twenty (write_once score_of setup after legal)
          (record { least = least; most = most; fit = it.fit; times = it.times; few = it.few })
          blocks;
    }
