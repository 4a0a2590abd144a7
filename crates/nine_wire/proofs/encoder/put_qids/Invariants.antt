use Rattle.std.proofs.Common.{◌≡◌, ◌+◌, ◌*◌, ◌++◌, length, take}
use Rattle.std.specs.Prelude.{map}
use Rattle.std.specs.List.{flat_map}
use Rattle.byteorder.specs.Endian.{little_bytes}
use Rattle.nine_wire.specs.Messages.{qid_bytes}
use Rattle.nine_wire.specs.Views.{wire_qid}
use Rattle.nine_wire.specs.Writing.{WritesField}
use Rattle.nine_wire.proofs.encoder.put_qids.Given as goal

abbrev pub invariant-loop-qid : goal.invariant-loop-qid
invariant-loop-qid l = record {
  place : l.at ≡ l.at-2 + 2 + 13 * l.qid-index;
  room : length l.buf ≡ length l.fn.buf;
  writes : WritesField l.at-2 l.at l.fn.buf l.buf
      (little_bytes 2 (length l.qids) ++ flat_map qid_bytes (map wire_qid (take l.qid-index l.qids)));
}
