use Rattle.std.proofs.Common.{refl}
use Rattle.byteorder.specs.Endian.{little_bytes}
use Rattle.nine_wire.proofs.Writes.{in_part}
use Rattle.nine_wire.proofs.fields.put_u64.Goals as goal

pub returns : goal.returns
returns c =
    in_part c.args.at 8 c.args.buf.now (little_bytes 8 c.args.value) c.write_u64.new.buf c.requires
    refl c.write_u64.ensures
