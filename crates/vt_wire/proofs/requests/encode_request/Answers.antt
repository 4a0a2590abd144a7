use Rattle.std.proofs.Common.{◌+◌, ◌∙◌, arith}
use Rattle.vt_wire.proofs.Buffers.{drop_further}
use Rattle.vt_wire.proofs.requests.encode_request.Goals as goal

pub returns-clause-behind : goal.returns-clause-behind
returns-clause-behind c =
    let end = c.put_parameters.result in
    let size = c.put_u16-at.new.buf in
    let type = c.put_u8-at.new.buf in
    let tag = c.put_u8-at-2.new.buf in
    c.put_parameters.ensures.behind
    ∙ drop_further (c.put_u8-at.result + 1) end tag type c.put_u8-at-2.ensures.behind (omega arith)
    ∙ drop_further (c.put_u16-at.result + 1) end type size c.put_u8-at.ensures.behind (omega arith)
    ∙ drop_further 2 end size c.args.buf.now c.put_u16-at.ensures.behind (omega arith)
