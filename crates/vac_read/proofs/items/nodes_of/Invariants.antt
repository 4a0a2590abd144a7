use Rattle.std.proofs.Common.{◌≡◌, ◌*◌, ◌≤◌, ◌++◌, Ok, length}
use Rattle.std.specs.List.{All}
use Rattle.std.specs.Vec.Iter.{into_iter_items, into_iter_len}
use Rattle.vac_meta.specs.Records.{all_spelled}
use Rattle.vac_read.specs.declared.node.Node.{Node}
use Rattle.vac_read.specs.Asking.{ReadsFew, leaf_blocks}
use Rattle.vac_read.specs.Folders.{KeepsLeaf}
use Rattle.vac_read.specs.Nodes.{AreNodeEntries, AreNodes, FitsToldItem}
use Rattle.vac_read.proofs.items.nodes_of.Given as goal

abbrev pub invariant-loop-record : goal.invariant-loop-record
invariant-loop-record g l = record {
  stream : l.directory.stream ≡ l.fn.entries;
  place_is : l.place ≡ length (all_spelled l.yielded);
  among : l.fn.records ≡ l.yielded ++ into_iter_items l.record-iterator;
  len : into_iter_len l.record-iterator ≡ length (into_iter_items l.record-iterator);
  entries : All (λ (n : Node). AreNodeEntries n.stored) l.nodes.items;
  items : All (λ (n : Node). FitsToldItem n.item) l.nodes.items;
  reads : ReadsFew g.B.Blocks.does g.B.Blocks.holds g.B.Scorer.score_of l.fn.blocks l.blocks
      (Ok (tt {0}))
      (λ map. KeepsLeaf map l.directory × AreNodes map l.fn.entries l.yielded l.nodes.items)
      (λ map n. n ≤ length l.yielded * (2 * leaf_blocks l.fn.entries));
}
