use Rattle.std.proofs.Common.{◌≡◌, ◌+◌, ◌*◌, ℕ, false, List, [], ◌∷◌, ◌++◌, take, length, refl, sym, ◌∙◌, ap, arith}
use Rattle.std.proofs.lemmas.List.{take_all}
use Rattle.byteorder.specs.Endian.{big_bytes}
use Rattle.vt_tree.specs.Entries.{tree_entry_bytes, spelled_with, flags_of}
use Rattle.vt_tree.proofs.Written.{and_then, seven}
use Rattle.vt_tree.proofs.entry.Entry.encode.Goals as goal

abbrev zeros : List ℕ
zeros = 0 ∷ 0 ∷ 0 ∷ 0 ∷ 0 ∷ []

no_flags : (n : ℕ) → n ≡ n + 32 * 0 + 128 * 0
no_flags n = omega arith

pub returns-clause-spells : goal.returns-clause-spells
returns-clause-spells c =
    let e = c.args.self.now in
    let generation : take c.put_u32-at.result c.put_u32-at.new.buf ≡ big_bytes 4 e.generation =
    ap (λ (k : ℕ). take k c.put_u32-at.new.buf) c.put_u32-at.ensures.end
    ∙ c.put_u32-at.ensures.written in
    let psize : take c.put_u16-at.result c.put_u16-at.new.buf
    ≡ big_bytes 4 e.generation ++ big_bytes 2 e.psize =
    and_then _ 2 _ _ _ _ _ c.put_u16-at.ensures.end c.put_u16-at.ensures.written generation in
    let dsize = and_then _ 2 _ _ _ _ (big_bytes 2 e.dsize) c.put_u16-at-2.ensures.end
    c.put_u16-at-2.ensures.written psize in
    let flags = and_then _ 1 _ _ _ _ (flags_of e ∷ []) c.put_u8-at.ensures.end
    (c.put_u8-at.ensures.written
    ∙ ap (λ (f : ℕ). take c.put_u16-at-2.result c.put_u16-at-2.new.buf ++ f ∷ []) c.flags.ensures)
    dsize in
    let between = and_then _ 5 _ _ _ _ zeros c.put-at.ensures.end c.put-at.ensures.written flags in
    let size = and_then _ 6 _ _ _ _ (big_bytes 6 e.size) c.put_u48-at.ensures.end
    c.put_u48-at.ensures.written between in
    let is : c.put.new.buf ≡ tree_entry_bytes e =
    sym (take_all c.put.result c.put.new.buf (omega arith))
    ∙ and_then _ (length e.score.0) _ _ _ _ e.score.0 c.put.ensures.end c.put.ensures.written size
    ∙ seven (big_bytes 4 e.generation) (big_bytes 2 e.psize) (big_bytes 2 e.dsize)
    (flags_of e ∷ []) zeros (big_bytes 6 e.size) e.score.0 in
    record {
      flag_20 = false;
      flag_80 = false;
      between = zeros;
      five = refl;
      is = is ∙ ap (λ (f : ℕ). spelled_with e f zeros) (no_flags (flags_of e));
    }
