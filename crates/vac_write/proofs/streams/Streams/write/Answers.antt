use Rattle.std.proofs.Common.{ℕ, List, ap, subst, ◌∙◌}
use Rattle.std.proofs.lemmas.Result.{err_from_is_err_and}
use Rattle.vt_tree.specs.Streams.{stream_of, entry_of_stream}
use Rattle.vac_model.specs.Archives.{file_shape, directory_shape}
use Rattle.vac_write.specs.Puts.{PutsBlocks, GivesUpBlocks}
use Rattle.vac_write.proofs.Puts.{puts_join, gives_front, gives_later}
use Rattle.vac_write.proofs.streams.Streams.write.Goals as goal

pub returns-in_err-entries-clause-refused : goal.returns-in_err-entries-clause-refused
returns-in_err-entries-clause-refused g c =
    let score_of = g.B.Scorer.score_of in
    let bsize = c.args.bsize in
    let e = c.in_err-entries.field-0.0 in
    let gave = subst (λ (l : List ℕ). GivesUpBlocks g.B.Blocks.does c.args.blocks.now
    c.write_bytes.new.blocks (stream_of score_of (directory_shape bsize) l).blocks e)
    c.deref.ensures.value c.in_err-entries.ensures.refused in
    let p = err_from_is_err_and c.from_residual.result c.from_residual.ensures.1 in
    rw (p.1, p.2) (gives_front g.B.Blocks.does c.args.blocks.now c.write_bytes.new.blocks
    (stream_of score_of (directory_shape bsize) c.args.self.now.entries.items).blocks
    (stream_of score_of (file_shape bsize) c.args.self.now.metadata.items).blocks e gave)

pub returns-in_err-metadata-clause-refused : goal.returns-in_err-metadata-clause-refused
returns-in_err-metadata-clause-refused g c =
    let score_of = g.B.Scorer.score_of in
    let bsize = c.args.bsize in
    let e = c.in_err-metadata.field-0.0 in
    let put = subst (λ (l : List ℕ). PutsBlocks g.B.Blocks.does c.args.blocks.now
    c.write_bytes.new.blocks (stream_of score_of (directory_shape bsize) l).blocks)
    c.deref.ensures.value c.in_ok-entries.ensures.written in
    let gave = subst (λ (l : List ℕ). GivesUpBlocks g.B.Blocks.does c.write_bytes.new.blocks
    c.write_bytes-2.new.blocks (stream_of score_of (file_shape bsize) l).blocks e)
    c.deref-2.ensures.value c.in_err-metadata.ensures.refused in
    let p = err_from_is_err_and c.from_residual-in_err-metadata.result
    c.from_residual-in_err-metadata.ensures.1 in
    rw (p.1, p.2) (gives_later g.B.Blocks.does c.args.blocks.now c.write_bytes.new.blocks
    c.write_bytes-2.new.blocks
    (stream_of score_of (directory_shape bsize) c.args.self.now.entries.items).blocks
    (stream_of score_of (file_shape bsize) c.args.self.now.metadata.items).blocks e put gave)

pub returns-clause-written : goal.returns-clause-written
returns-clause-written g c =
    let score_of = g.B.Scorer.score_of in
    let bsize = c.args.bsize in
    let first = subst (λ (l : List ℕ). PutsBlocks g.B.Blocks.does c.args.blocks.now
    c.write_bytes.new.blocks (stream_of score_of (directory_shape bsize) l).blocks)
    c.deref.ensures.value c.in_ok-entries.ensures.written in
    let second = subst (λ (l : List ℕ). PutsBlocks g.B.Blocks.does c.write_bytes.new.blocks
    c.write_bytes-2.new.blocks (stream_of score_of (file_shape bsize) l).blocks)
    c.deref-2.ensures.value c.in_ok-metadata.ensures.written in
    record {
      entries = c.in_ok-entries.ensures.entry.0
          ∙ ap (λ (l : List ℕ). entry_of_stream score_of (directory_shape bsize) l)
          c.deref.ensures.value;
      metadata = c.in_ok-metadata.ensures.entry.0
          ∙ ap (λ (l : List ℕ). entry_of_stream score_of (file_shape bsize) l) c.deref-2.ensures.value;
      put = puts_join g.B.Blocks.does c.args.blocks.now c.write_bytes.new.blocks
          c.write_bytes-2.new.blocks
          (stream_of score_of (directory_shape bsize) c.args.self.now.entries.items).blocks
          (stream_of score_of (file_shape bsize) c.args.self.now.metadata.items).blocks first
          second;
    }
