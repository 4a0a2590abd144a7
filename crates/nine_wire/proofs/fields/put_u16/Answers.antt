use Rattle.std.proofs.Common.{refl}
use Rattle.byteorder.specs.Endian.{little_bytes}
use Rattle.nine_wire.proofs.Writes.{in_part}
use Rattle.nine_wire.proofs.fields.put_u16.Goals as goal

pub returns : goal.returns
returns c =
    in_part c.args.at 2 c.args.buf.now (little_bytes 2 c.args.value) c.write_u16.new.buf c.requires
    refl c.write_u16.ensures
