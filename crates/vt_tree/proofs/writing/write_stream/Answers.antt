use Rattle.std.proofs.Common.{◌≡◌, true, length, refl, ap, rules}
use Rattle.std.proofs.lemmas.Result.{err_from_is_err_and}
use Rattle.vt_tree.specs.Growing.{Next, next_of}
use Rattle.vt_tree.specs.Streams.{Shape, FitsShape}
use Rattle.vt_tree.proofs.Kept.{depth_small, entry_stands, first_taken, stream_given_up, stream_no_memory, stream_not_begun, stream_written}
use Rattle.vt_tree.proofs.writing.write_stream.Goals as goal

pub returns-in_err-ahead-clause-refused : goal.returns-in_err-ahead-clause-refused
returns-in_err-ahead-clause-refused g c =
    let shape : Shape =
    record { psize = c.args.psize; dsize = c.args.dsize; is_dir = c.args.is_dir } in
    let p = err_from_is_err_and c.from_residual.result c.from_residual.ensures.1 in
    rw (p.1, p.2) (stream_no_memory g.B.Blocks.does g.B.Blocks.holds g.B.Scorer.score_of shape
    g.R.Source.tells g.met.B.Blocks.tells c.args.blocks.now (g.R.Source.left c.args.source.now)
    (g.met.R.Source.left_bytes c.args.source.now))

pub returns-in_err-advance-clause-refused : goal.returns-in_err-advance-clause-refused
returns-in_err-advance-clause-refused g c =
    let shape : Shape =
    record { psize = c.args.psize; dsize = c.args.dsize; is_dir = c.args.is_dir } in
    let p = err_from_is_err_and c.from_residual-in_err-advance.result
    c.from_residual-in_err-advance.ensures.1 in
    rw (p.1, p.2) (stream_not_begun g.B.Blocks.does g.B.Blocks.holds g.B.Scorer.score_of shape
    g.R.Source.tells g.met.B.Blocks.tells c.args.blocks.now (next_of c.in_ok-ahead.ahead)
    (g.R.Source.left c.args.source.now) c.in_err-advance.field-0.0 (ap (λ (n : Next). n.size) c.in_ok-ahead.ensures.1)
    c.in_err-advance.ensures.err)

pub returns-in_err-depth-clause-refused : goal.returns-in_err-depth-clause-refused
returns-in_err-depth-clause-refused g c =
    let shape : Shape =
    record { psize = c.args.psize; dsize = c.args.dsize; is_dir = c.args.is_dir } in
    let first = first_taken g.R.Source.tells (length c.in_ok-ahead.ahead.leaf.items)
    (next_of c.in_ok-ahead.ahead) (next_of c.advance.new.self)
    (g.R.Source.left c.args.source.now) (g.R.Source.left c.advance.new.source)
    c.in_ok-ahead.ensures.1 c.in_ok-advance.ensures.ok in
    let p = err_from_is_err_and c.from_residual-in_err-depth.result
    c.from_residual-in_err-depth.ensures.1 in
    rw (p.1, p.2) (stream_given_up g.B.Blocks.does g.B.Blocks.holds g.B.Scorer.score_of shape
    g.R.Source.tells g.met.B.Blocks.tells c.args.blocks.now c.tree.new.blocks
    (next_of c.advance.new.self) (g.R.Source.left c.args.source.now)
    (g.R.Source.left c.advance.new.source) c.in_err-depth.field-0.0 first.0 first.1 c.in_err-depth.ensures.stopped)

pub returns-clause-written : goal.returns-clause-written
returns-clause-written g c =
    let shape : Shape =
    record { psize = c.args.psize; dsize = c.args.dsize; is_dir = c.args.is_dir } in
    let fits : FitsShape shape = record {
      psize_least = c.requires.psize_least;
      psize_most = c.requires.psize_most;
      dsize_least = c.requires.dsize_least;
      dsize_most = c.requires.dsize_most;
    } in
    let first = first_taken g.R.Source.tells (length c.in_ok-ahead.ahead.leaf.items)
    (next_of c.in_ok-ahead.ahead) (next_of c.advance.new.self)
    (g.R.Source.left c.args.source.now) (g.R.Source.left c.advance.new.source)
    c.in_ok-ahead.ensures.1 c.in_ok-advance.ensures.ok in
    stream_written g.B.Blocks.does g.B.Blocks.holds g.B.Scorer.score_of shape g.R.Source.tells
    g.met.B.Blocks.tells g.met.B.Blocks.write_once g.met.B.Scorer.score_len fits
    c.args.blocks.now c.tree.new.blocks (next_of c.advance.new.self) (next_of c.tree.new.ahead)
    (g.R.Source.left c.args.source.now) (g.R.Source.left c.advance.new.source)
    (g.R.Source.left c.tree.new.source) c.in_ok-depth.depth c.in_ok-depth.score first.0 first.1
    c.in_ok-depth.ensures.end c.in_ok-depth.ensures.grown

pub returns-clause-entry : goal.returns-clause-entry
returns-clause-entry g c =
    let shape : Shape =
    record { psize = c.args.psize; dsize = c.args.dsize; is_dir = c.args.is_dir } in
    let fits : FitsShape shape = record {
      psize_least = c.requires.psize_least;
      psize_most = c.requires.psize_most;
      dsize_least = c.requires.dsize_least;
      dsize_most = c.requires.dsize_most;
    } in
    let first = first_taken g.R.Source.tells (length c.in_ok-ahead.ahead.leaf.items)
    (next_of c.in_ok-ahead.ahead) (next_of c.advance.new.self)
    (g.R.Source.left c.args.source.now) (g.R.Source.left c.advance.new.source)
    c.in_ok-ahead.ensures.1 c.in_ok-advance.ensures.ok in
    let shallow = depth_small g.B.Blocks.does g.B.Blocks.holds g.B.Scorer.score_of shape
    g.R.Source.tells g.met.B.Blocks.tells g.met.B.Blocks.write_once g.met.B.Scorer.score_len fits
    c.args.blocks.now c.tree.new.blocks (next_of c.advance.new.self) (next_of c.tree.new.ahead)
    (g.R.Source.left c.advance.new.source) (g.R.Source.left c.tree.new.source)
    c.in_ok-depth.depth c.in_ok-depth.score first.0 c.in_ok-depth.ensures.grown in
    let score : length c.in_ok-depth.score.0 ≡ 20 = search rules in
    entry_stands (record {
      generation = 0;
      psize = c.args.psize;
      dsize = c.args.dsize;
      active = true;
      is_dir = c.args.is_dir;
      depth = c.in_ok-depth.depth;
      size = c.tree.new.ahead.size;
      score = c.in_ok-depth.score;
    }) refl shallow c.in_ok-depth.ensures.grown.most c.requires.psize_least c.requires.psize_most
    c.requires.dsize_least c.requires.dsize_most score
