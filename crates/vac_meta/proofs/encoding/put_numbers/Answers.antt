use Rattle.std.proofs.Common.{ℕ, List, [], ◌∷◌, ◌++◌, take, refl, ◌∙◌, ap}
use Rattle.byteorder.specs.Endian.{big_bytes}
use Rattle.vac_meta.specs.Records.{kind_byte}
use Rattle.vac_meta.proofs.Written.{and_then, six}
use Rattle.vac_meta.proofs.encoding.put_numbers.Goals as goal

pub returns-clause-written : goal.returns-clause-written
returns-clause-written c =
    let r = c.args.item.now in
    let front : List ℕ = take c.args.at c.args.buf.now in
    let kind = and_then _ 1 _ _ _ front (kind_byte r.kind ∷ []) c.put_u8-at.ensures.end
    (c.put_u8-at.ensures.written
    ∙ ap (λ (k : ℕ). front ++ k ∷ []) c.kind_byte.ensures) refl in
    let entry = and_then _ 4 _ _ _ _ (big_bytes 4 r.entry) c.put_u32-at.ensures.end
    c.put_u32-at.ensures.written kind in
    let mode = and_then _ 4 _ _ _ _ (big_bytes 4 r.mode) c.put_u32-at-2.ensures.end
    c.put_u32-at-2.ensures.written entry in
    let mtime = and_then _ 4 _ _ _ _ (big_bytes 4 r.mtime) c.put_u32-at-3.ensures.end
    c.put_u32-at-3.ensures.written mode in
    and_then _ 8 _ _ _ _ (big_bytes 8 r.qid) c.put_u64.ensures.end c.put_u64.ensures.written mtime
    ∙ six front (kind_byte r.kind ∷ []) (big_bytes 4 r.entry) (big_bytes 4 r.mode)
    (big_bytes 4 r.mtime) (big_bytes 8 r.qid)
