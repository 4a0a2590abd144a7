use Rattle.std.proofs.Common.{◌≡◌, ◌+◌, ℕ, List, ◌++◌, length, take, sym, ◌∙◌, ap, arith, append_assoc}
use Rattle.std.proofs.lemmas.List.{take_all}
use Rattle.std.specs.Prelude.{codes}
use Rattle.byteorder.specs.Endian.{big_bytes}
use Rattle.vt_part.proofs.formatting.encode_head.Goals as goal

-- what stands before a field, and then the field
and_then : (at n end : ℕ) (old new front field : List ℕ) → end ≡ at + n
    → take (at + n) new ≡ take at old ++ field → take at old ≡ front → take end new ≡ front ++ field
and_then at n end old new front field ends written before =
    ap (λ (k : ℕ). take k new) ends ∙ written ∙ ap (λ (l : List ℕ). l ++ field) before

pub returns : goal.returns
returns c =
    let name : List ℕ = c.args.name.now in
    let versioned : List ℕ = codes "VPRT" ++ big_bytes 2 1 in
    let size : List ℕ = big_bytes 8 c.args.arena_size in
    let count : List ℕ = big_bytes 4 c.args.count in
    let magic : take c.put-at.result c.put-at.new.buf ≡ codes "VPRT" =
    ap (λ (k : ℕ). take k c.put-at.new.buf) c.put-at.ensures.end ∙ c.put-at.ensures.written in
    let version : take c.put_u16-at.result c.put_u16-at.new.buf ≡ versioned =
    and_then _ 2 _ _ _ _ _ c.put_u16-at.ensures.end c.put_u16-at.ensures.written magic in
    let named : take c.put-at-2.result c.put-at-2.new.buf ≡ versioned ++ name =
    and_then _ (length name) _ _ _ _ _ c.put-at-2.ensures.end c.put-at-2.ensures.written version in
    let sized : take c.put_u64-at.result c.put_u64-at.new.buf ≡ (versioned ++ name) ++ size =
    and_then _ 8 _ _ _ _ _ c.put_u64-at.ensures.end c.put_u64-at.ensures.written named in
    sym (take_all c.put_u32.result c.put_u32.new.buf (omega arith))
    ∙ and_then _ 4 _ _ _ _ count c.put_u32.ensures.end c.put_u32.ensures.written sized
    ∙ append_assoc (versioned ++ name) size count
    ∙ append_assoc versioned name (size ++ count)
