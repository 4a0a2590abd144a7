use Rattle.std.proofs.Common.{◌≡◌, length, false, sym, ◌∙◌}
use Rattle.std.specs.Prelude.{◌==◌}
use Rattle.vt_model.specs.History.{Block}
use Rattle.vt_tree.proofs.Puts.{was_put, was_refused}
use Rattle.vt_tree.proofs.writing.Cut.put.Goals as goal

pub returns-in-Ok : goal.returns-in-Ok
returns-in-Ok g c =
    let b : Block = record { kind = c.args.kind; bytes = c.args.bytes.now } in
    let some : (length c.args.bytes.now == 0) ≡ false = sym c.is_empty.ensures
    ∙ c.if-is_empty.false in
    was_put g.B.Blocks.does g.B.Scorer.score_of c.args.blocks.now b c.put.new.self some
    c.in-Ok.score c.in-Ok.ensures.done c.in-Ok.ensures.scored

pub returns-in-Err : goal.returns-in-Err
returns-in-Err g c =
    let b : Block = record { kind = c.args.kind; bytes = c.args.bytes.now } in
    let some : (length c.args.bytes.now == 0) ≡ false = sym c.is_empty.ensures
    ∙ c.if-is_empty.false in
    was_refused g.B.Blocks.does g.B.Scorer.score_of c.args.blocks.now b c.put.new.self some
    c.in-Err.err c.in-Err.ensures.done
