use Rattle.std.proofs.Common.{◌≡◌, ℕ, Bool, true, false, List, drop, refl, subst, arith}
use Rattle.std.specs.Prelude.{MatchBool}
use Rattle.std.proofs.lemmas.Result.{err_from_is_err_and}
use Rattle.vt_base.specs.Faults.{HasRisen}
use Rattle.vt_tree.specs.Streams.{Shape}
use Rattle.vt_tree.specs.Writing.{IsAll, IsTakenWhole, WritesStream, GivesUpStream, is_source_fault}
use Rattle.vac_write.specs.Walking.{item_shape}
use Rattle.vac_write.proofs.Filed.{bytes_written, bytes_given_up}
use Rattle.vac_write.proofs.Shapes.{shape_is}
use Rattle.vac_write.proofs.streams.write_bytes.Goals as goal

-- a source that never fails tells no fault
no_rise : (t : Bool) → MatchBool t (HasRisen 0 0) (◌≡◌ {A = ℕ} 0 0) → t ≡ false
no_rise true rose = absurd (omega (arith, rose))
no_rise false rose = refl

pub returns-in_err-write_stream-clause-refused : goal.returns-in_err-write_stream-clause-refused
returns-in_err-write_stream-clause-refused g c =
    let bytes = c.args.bytes.now in
    let e = c.in_err-write_stream.field-0.0 in
    let source = c.new-source.result in
    let left : drop source.at source.bytes.now ≡ drop 0 bytes =
    λ i. drop (c.new-source.ensures.at i) ((c.new-source.ensures.bytes i).now) in
    let shape : Shape = record {
      psize = c.pointer_len-psize.result;
      dsize = c.leaf_len-dsize.result;
      is_dir = c.args.is_dir;
    } in
    let same = shape_is c.args.bsize c.pointer_len-psize.result c.leaf_len-dsize.result
    c.args.is_dir c.pointer_len-psize.ensures c.leaf_len-dsize.ensures in
    let gave = subst (λ (sh : Shape). GivesUpStream g.B.Blocks.does g.B.Blocks.holds
    g.B.Scorer.score_of c.args.blocks.now c.write_stream.new.blocks sh (IsAll true (drop 0 bytes))
    e) same (subst (λ (l : List ℕ). GivesUpStream g.B.Blocks.does g.B.Blocks.holds
    g.B.Scorer.score_of c.args.blocks.now c.write_stream.new.blocks shape (IsAll true l) e) left
    c.in_err-write_stream.ensures.refused) in
    let p = err_from_is_err_and c.from_residual.result c.from_residual.ensures.1 in
    rw (p.1, p.2) (bytes_given_up g.B.Blocks.does g.B.Blocks.holds g.B.Scorer.score_of
    c.args.blocks.now c.write_stream.new.blocks (item_shape c.args.bsize c.args.is_dir) bytes e
    c.requires.short (no_rise (is_source_fault e) c.in_err-write_stream.ensures.cause) gave).0

pub returns-in_err-write_stream-clause-plain : goal.returns-in_err-write_stream-clause-plain
returns-in_err-write_stream-clause-plain g c =
    let bytes = c.args.bytes.now in
    let e = c.in_err-write_stream.field-0.0 in
    let source = c.new-source.result in
    let left : drop source.at source.bytes.now ≡ drop 0 bytes =
    λ i. drop (c.new-source.ensures.at i) ((c.new-source.ensures.bytes i).now) in
    let shape : Shape = record {
      psize = c.pointer_len-psize.result;
      dsize = c.leaf_len-dsize.result;
      is_dir = c.args.is_dir;
    } in
    let gave = subst (λ (l : List ℕ). GivesUpStream g.B.Blocks.does g.B.Blocks.holds
    g.B.Scorer.score_of c.args.blocks.now c.write_stream.new.blocks shape (IsAll true l) e) left
    c.in_err-write_stream.ensures.refused in
    let p = err_from_is_err_and c.from_residual.result c.from_residual.ensures.1 in
    rw (p.1, p.2) (bytes_given_up g.B.Blocks.does g.B.Blocks.holds g.B.Scorer.score_of
    c.args.blocks.now c.write_stream.new.blocks shape bytes e c.requires.short
    (no_rise (is_source_fault e) c.in_err-write_stream.ensures.cause) gave).1

pub returns-clause-written : goal.returns-clause-written
returns-clause-written g c =
    let bytes = c.args.bytes.now in
    let e = c.in_ok-write_stream.field-0 in
    let source = c.new-source.result in
    let behind = c.write_stream.new.source in
    let new : List ℕ = drop behind.at behind.bytes.now in
    let left : drop source.at source.bytes.now ≡ drop 0 bytes =
    λ i. drop (c.new-source.ensures.at i) ((c.new-source.ensures.bytes i).now) in
    let shape : Shape = record {
      psize = c.pointer_len-psize.result;
      dsize = c.leaf_len-dsize.result;
      is_dir = c.args.is_dir;
    } in
    let same = shape_is c.args.bsize c.pointer_len-psize.result c.leaf_len-dsize.result
    c.args.is_dir c.pointer_len-psize.ensures c.leaf_len-dsize.ensures in
    let wrote = subst (λ (sh : Shape). WritesStream g.B.Blocks.does g.B.Blocks.holds
    g.B.Scorer.score_of c.args.blocks.now c.write_stream.new.blocks sh
    (IsTakenWhole true (drop 0 bytes) new) e) same (subst (λ (l : List ℕ).
    WritesStream g.B.Blocks.does g.B.Blocks.holds g.B.Scorer.score_of c.args.blocks.now
    c.write_stream.new.blocks shape (IsTakenWhole true l new) e) left
    c.in_ok-write_stream.ensures.written) in
    let both = bytes_written g.B.Blocks.does g.B.Blocks.holds g.B.Scorer.score_of
    c.args.blocks.now c.write_stream.new.blocks (item_shape c.args.bsize c.args.is_dir) bytes new e
    wrote in
    both.0

pub returns-clause-entry : goal.returns-clause-entry
returns-clause-entry g c =
    let bytes = c.args.bytes.now in
    let e = c.in_ok-write_stream.field-0 in
    let source = c.new-source.result in
    let behind = c.write_stream.new.source in
    let new : List ℕ = drop behind.at behind.bytes.now in
    let left : drop source.at source.bytes.now ≡ drop 0 bytes =
    λ i. drop (c.new-source.ensures.at i) ((c.new-source.ensures.bytes i).now) in
    let shape : Shape = record {
      psize = c.pointer_len-psize.result;
      dsize = c.leaf_len-dsize.result;
      is_dir = c.args.is_dir;
    } in
    let same = shape_is c.args.bsize c.pointer_len-psize.result c.leaf_len-dsize.result
    c.args.is_dir c.pointer_len-psize.ensures c.leaf_len-dsize.ensures in
    let wrote = subst (λ (sh : Shape). WritesStream g.B.Blocks.does g.B.Blocks.holds
    g.B.Scorer.score_of c.args.blocks.now c.write_stream.new.blocks sh
    (IsTakenWhole true (drop 0 bytes) new) e) same (subst (λ (l : List ℕ).
    WritesStream g.B.Blocks.does g.B.Blocks.holds g.B.Scorer.score_of c.args.blocks.now
    c.write_stream.new.blocks shape (IsTakenWhole true l new) e) left
    c.in_ok-write_stream.ensures.written) in
    let both = bytes_written g.B.Blocks.does g.B.Blocks.holds g.B.Scorer.score_of
    c.args.blocks.now c.write_stream.new.blocks (item_shape c.args.bsize c.args.is_dir) bytes new e
    wrote in
    (both.1, c.in_ok-write_stream.ensures.entry)
