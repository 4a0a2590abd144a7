use Rattle.std.proofs.Common.{refl, length}
use Rattle.nine_wire.proofs.Writes.{and_then, one_field}
use Rattle.nine_wire.proofs.fields.put_string.Goals as goal

pub returns : goal.returns
returns c =
    and_then c.put_u16-at.ensures
    (one_field c.put_u16-at.result c.put.result (length c.args.text.now) c.put_u16-at.new.buf
    c.put.new.buf c.args.text.now c.put.ensures.end refl c.put.ensures.written
    c.put.ensures.behind)
