use Rattle.std.proofs.Common.{Ok, Err, refl, inl, inr}
use Rattle.std.proofs.lemmas.Result.{err_from_is_err_and}
use Rattle.vt_tree.specs.declared.error.TreeErr.TheVariants as trees
use Rattle.vac_read.specs.declared.error.VacBad.TheVariants.{Tree, NoMemory}
use Rattle.vac_read.proofs.Opening.{archive_is, no_archive, no_entries_refuse, no_root_refuses, top_is, two_blocks}
use Rattle.vac_read.proofs.Readings.{block_told, reads_as, reads_then}
use Rattle.vac_read.proofs.archive.Archive.at.Goals as goal

pub returns-in_err-block-clause-opens : goal.returns-in_err-block-clause-opens
returns-in_err-block-clause-opens g c =
    let p = err_from_is_err_and c.from_residual.result c.from_residual.ensures.1 in
    let err = c.in_err-block.field-0.0 in
    rw (p.1, p.2) (reads_as g.B.Blocks.does g.B.Blocks.holds g.B.Scorer.score_of
    c.args.blocks.now c.get.new.self (Err (Tree (trees.Block err))) (Err (Tree (trees.Block err)))
    _ _ refl
    (block_told g.B.Blocks.does g.B.Blocks.holds g.B.Scorer.score_of g.met.B.Blocks.tells
    c.args.blocks.now c.get.new.self c.args.score.now.0 1 (Err err) c.in_err-block.ensures.done)
    (λ map told some. inl (told some)))

pub returns-in_err-root-clause-opens : goal.returns-in_err-root-clause-opens
returns-in_err-root-clause-opens g c =
    let p = err_from_is_err_and c.from_residual-in_err-root.result
    c.from_residual-in_err-root.ensures.1 in
    let bad = c.in_err-root.field-0.0 in
    let bytes = c.as_slice.result.now in
    rw (p.1, p.2) (reads_as g.B.Blocks.does g.B.Blocks.holds g.B.Scorer.score_of
    c.args.blocks.now c.get.new.self (Ok c.in_ok-block.block) (Err bad) _ _
    (no_root_refuses bytes bad c.in_err-root.ensures)
    (block_told g.B.Blocks.does g.B.Blocks.holds g.B.Scorer.score_of g.met.B.Blocks.tells
    c.args.blocks.now c.get.new.self c.args.score.now.0 1 (Ok c.in_ok-block.block)
    c.in_ok-block.ensures.done)
    (λ map told some. no_archive map c.args.score.now.0 c.in_ok-block.block bytes told
    c.as_slice.ensures bad c.in_err-root.ensures))

pub returns-in_err-block-2-clause-opens : goal.returns-in_err-block-2-clause-opens
returns-in_err-block-2-clause-opens g c =
    let p = err_from_is_err_and c.from_residual-in_err-block-2.result
    c.from_residual-in_err-block-2.ensures.1 in
    let err = c.in_err-block-2.field-0.0 in
    let root = c.in_ok-root.root in
    rw (p.1, p.2) (reads_then g.B.Blocks.does g.B.Blocks.holds g.B.Scorer.score_of
    c.args.blocks.now c.get.new.self c.get-2.new.self c.in_ok-block.block
    (Err (Tree (trees.Block err))) (Err (Tree (trees.Block err))) _ _ _ refl
    (block_told g.B.Blocks.does g.B.Blocks.holds g.B.Scorer.score_of g.met.B.Blocks.tells
    c.args.blocks.now c.get.new.self c.args.score.now.0 1 (Ok c.in_ok-block.block)
    c.in_ok-block.ensures.done)
    (block_told g.B.Blocks.does g.B.Blocks.holds g.B.Scorer.score_of g.met.B.Blocks.tells
    c.get.new.self c.get-2.new.self root.score.0 2 (Err err) c.in_err-block-2.ensures.done)
    (λ map one two some. inr (inr (
      root.score.0,
      archive_is map c.args.score.now.0 c.in_ok-block.block c.as_slice.result.now one
          c.as_slice.ensures root c.in_ok-root.ensures,
      inl (two some),
    ))))

pub returns-in_err-stored-clause-opens : goal.returns-in_err-stored-clause-opens
returns-in_err-stored-clause-opens g c =
    let p = err_from_is_err_and c.from_residual-in_err-stored.result
    c.from_residual-in_err-stored.ensures.1 in
    let bad = c.in_err-stored.field-0.0 in
    let root = c.in_ok-root.root in
    let bytes = c.as_slice-2.result.now in
    rw (p.1, p.2) (reads_as g.B.Blocks.does g.B.Blocks.holds g.B.Scorer.score_of
    c.args.blocks.now c.get-2.new.self (Ok c.in_ok-block-2.block) (Err bad) _ _
    (no_entries_refuse bytes bad c.in_err-stored.ensures)
    (two_blocks g.B.Blocks.does g.B.Blocks.holds g.B.Scorer.score_of g.met.B.Blocks.tells
    c.args.blocks.now c.get.new.self c.get-2.new.self c.args.score.now.0 root.score.0
    c.in_ok-block.block c.in_ok-block-2.block c.in_ok-block.ensures.done
    c.in_ok-block-2.ensures.done)
    (λ map told some. inr (inr (
      root.score.0,
      archive_is map c.args.score.now.0 c.in_ok-block.block c.as_slice.result.now told.0
          c.as_slice.ensures root c.in_ok-root.ensures,
      inr (
        bytes,
        rw c.as_slice-2.ensures told.1,
        c.in_err-stored.ensures,
      ),
    ))))

pub returns-in_err-top_item-clause-opens : goal.returns-in_err-top_item-clause-opens
returns-in_err-top_item-clause-opens g c =
    let p = err_from_is_err_and c.from_residual-in_err-top_item.result
    c.from_residual-in_err-top_item.ensures.1 in
    let root = c.in_ok-root.root in
    rw (p.1, p.2) (reads_as g.B.Blocks.does g.B.Blocks.holds g.B.Scorer.score_of
    c.args.blocks.now c.get-2.new.self (Ok c.in_ok-block-2.block) (Err NoMemory) _ _ refl
    (two_blocks g.B.Blocks.does g.B.Blocks.holds g.B.Scorer.score_of g.met.B.Blocks.tells
    c.args.blocks.now c.get.new.self c.get-2.new.self c.args.score.now.0 root.score.0
    c.in_ok-block.block c.in_ok-block-2.block c.in_ok-block.ensures.done
    c.in_ok-block-2.ensures.done)
    (λ map told some. absurd (some refl)))

pub returns-clause-opens : goal.returns-clause-opens
returns-clause-opens g c =
    let root = c.in_ok-root.root in
    reads_as g.B.Blocks.does g.B.Blocks.holds g.B.Scorer.score_of
    c.args.blocks.now c.get-2.new.self (Ok c.in_ok-block-2.block) _ _ _ refl
    (two_blocks g.B.Blocks.does g.B.Blocks.holds g.B.Scorer.score_of g.met.B.Blocks.tells
    c.args.blocks.now c.get.new.self c.get-2.new.self c.args.score.now.0 root.score.0
    c.in_ok-block.block c.in_ok-block-2.block c.in_ok-block.ensures.done
    c.in_ok-block-2.ensures.done)
    (λ map told. record {
      item = c.in_ok-top_item.ensures;
      qid = refl;
      size = refl;
      top = root.score.0;
      archive =
          archive_is map c.args.score.now.0 c.in_ok-block.block c.as_slice.result.now told.0
          c.as_slice.ensures root c.in_ok-root.ensures;
      is_stored =
          top_is map root.score.0 c.in_ok-block-2.block c.as_slice-2.result.now
          c.in_ok-stored.stored told.1 c.as_slice-2.ensures c.in_ok-stored.ensures;
    })
