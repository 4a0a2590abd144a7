use Rattle.std.proofs.Common.{refl}
use Rattle.byteorder.specs.Endian.{big_bytes}
use Rattle.vt_base.proofs.FieldWriting.{field-take, field-drop}
use Rattle.vt_base.proofs.fields.put_u32.Goals as goal

pub returns-clause-written : goal.returns-clause-written
returns-clause-written c = field-take c.args.at 4 c.args.buf.now (big_bytes 4 c.args.value) c.write_u32.new.buf c.requires refl c.write_u32.ensures

pub returns-clause-behind : goal.returns-clause-behind
returns-clause-behind c = field-drop c.args.at 4 c.args.buf.now (big_bytes 4 c.args.value) c.write_u32.new.buf c.requires refl c.write_u32.ensures
