use Rattle.std.proofs.Common.{◌+◌, ◌∙◌, arith, length}
use Rattle.vt_wire.proofs.Buffers.{drop_further}
use Rattle.vt_wire.proofs.encoder.put_string.Goals as goal

pub returns-clause-behind : goal.returns-clause-behind
returns-clause-behind c =
    let size = c.put_u16-at.new.buf in
    drop_further (c.put_u16-at.result + length c.args.text.now) c.put.result c.put.new.buf size c.put.ensures.behind (omega arith)
    ∙ drop_further (c.args.at + 2) c.put.result size c.args.buf.now c.put_u16-at.ensures.behind (omega arith)
