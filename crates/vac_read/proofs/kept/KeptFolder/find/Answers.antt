use Rattle.std.proofs.Common.{List, refl, subst}
use Rattle.vac_meta.specs.declared.record.Record.{Record}
use Rattle.vac_read.specs.Folders.{TellsNamed}
use Rattle.vac_read.proofs.Few.{few_as}
use Rattle.vac_read.proofs.kept.KeptFolder.find.Goals as goal

pub returns-clause-reads : goal.returns-clause-reads
returns-clause-reads g c =
    let result = c.item_named.result in
    few_as g.B.Blocks.does g.B.Blocks.holds g.B.Scorer.score_of
    c.args.blocks.now c.item_named.new.blocks result result _ _ _ _ refl c.item_named.ensures.reads
    (λ map told keeps.
    let t = told keeps in (
      t.0,
      subst (λ (l : List Record).
          TellsNamed c.args.self.now.directory.stream l c.args.name.now result map)
          c.as_slice.ensures t.1,
    ))
    (λ map n told few. few)
