use Rattle.std.proofs.Common.{sym, ap}
use Rattle.byteorder.specs.Endian.{little_bytes}
use Rattle.nine_wire.specs.Views.{wire_stat}
use Rattle.nine_wire.proofs.RepliesBack.{stat_len}
use Rattle.nine_wire.proofs.Writes.{and_then, so_spelled}
use Rattle.nine_wire.proofs.encoder.put_stat.Goals as goal

pub returns : goal.returns
returns c =
    and_then
    (so_spelled c.put_u16-at.ensures
    (ap (little_bytes 2) (sym (stat_len (wire_stat c.args.stat.now)))))
    (and_then c.put_numbers-at.ensures
    (and_then c.put_string-at.ensures (and_then c.put_string-at-2.ensures
    (and_then c.put_string-at-3.ensures c.put_string.ensures))))
