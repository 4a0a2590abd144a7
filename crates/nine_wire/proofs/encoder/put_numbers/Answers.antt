use Rattle.nine_wire.proofs.Writes.{and_then}
use Rattle.nine_wire.proofs.encoder.put_numbers.Goals as goal

pub returns : goal.returns
returns c =
    and_then c.put_u16-at.ensures (and_then c.put_u32-at.ensures (and_then c.put_qid-at.ensures
    (and_then c.put_u32-at-2.ensures (and_then c.put_u32-at-3.ensures
    (and_then c.put_u32-at-4.ensures c.put_u64.ensures)))))
