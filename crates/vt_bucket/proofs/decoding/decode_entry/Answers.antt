use Rattle.std.proofs.Common.{arith, sym}
use Rattle.vt_bucket.proofs.Cells.{cell_read}
use Rattle.vt_bucket.proofs.decoding.decode_entry.Goals as goal

pub returns-clause-found : goal.returns-clause-found
returns-clause-found c =
    cell_read c.args.bytes.now _ c.requires (λ i. omega (arith, c.type_inv.bytes i)) c.copy_from_slice.ensures.after (sym c.in_ok-kind.ensures.variant) c.in_ok-kind.ensures.found
    c.u16_at.ensures c.u32_at.ensures c.u32_at-2.ensures
