use Rattle.std.proofs.Common.{◌∷◌, [], ◌++◌, ℕ, take, ap, ◌∙◌, rules}
use Rattle.vt_bucket.proofs.Cells.{fields_written}
use Rattle.vt_bucket.proofs.encoding.put_entry.Goals as goal

pub returns-clause-written : goal.returns-clause-written
returns-clause-written c =
    fields_written c.args.entry.now c.args.at c.put-at.result c.put_u8-at.result c.put_u16-at.result c.put_u32-at.result
    c.args.frame.now c.put-at.new.buf c.put_u8-at.new.buf c.put_u16-at.new.buf c.put_u32-at.new.buf c.put_u32.new.buf
    (search rules) c.put-at.ensures.end c.put_u8-at.ensures.end c.put_u16-at.ensures.end c.put_u32-at.ensures.end
    c.put-at.ensures.written
    (c.put_u8-at.ensures.written ∙ ap (λ (kind : ℕ). take c.put-at.result c.put-at.new.buf ++ kind ∷ []) c.wire.ensures.number)
    c.put_u16-at.ensures.written c.put_u32-at.ensures.written c.put_u32.ensures.written
