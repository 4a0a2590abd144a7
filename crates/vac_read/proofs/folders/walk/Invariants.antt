use Rattle.std.proofs.Common.{Ok, Some, take}
use Rattle.vac_read.specs.Kept.{IsRightKept}
use Rattle.vac_read.specs.Nodes.{AreNodeEntries, Leads}
use Rattle.vac_read.specs.Reading.{ReadsArchive}
use Rattle.vac_read.proofs.folders.walk.Given as goal

abbrev pub invariant-loop-name : goal.invariant-loop-name
invariant-loop-name g l = record {
  entries : AreNodeEntries l.found.stored;
  reads : ReadsArchive g.B.Blocks.does g.B.Blocks.holds g.B.Scorer.score_of l.fn.blocks l.blocks
      (Ok (tt {0})) (λ map. IsRightKept map l.kept
      × Leads map (Some l.node) (take l.name-index l.names) (Some l.found));
}
