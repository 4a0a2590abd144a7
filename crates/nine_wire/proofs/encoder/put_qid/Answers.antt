use Rattle.std.proofs.Common.{[], ◌∷◌, ap, refl, ℕ}
use Rattle.nine_wire.proofs.Writes.{and_then, one_field, so_spelled}
use Rattle.nine_wire.proofs.encoder.put_qid.Goals as goal

pub returns : goal.returns
returns c =
    and_then
    (so_spelled (one_field c.args.at c.put_u8-at.result 1 c.args.buf.now c.put_u8-at.new.buf
    (c.qid_type.result ∷ []) c.put_u8-at.ensures.end refl c.put_u8-at.ensures.written
    c.put_u8-at.ensures.behind) (ap (λ (t : ℕ). t ∷ []) c.qid_type.ensures))
    (and_then c.put_u32-at.ensures c.put_u64.ensures)
