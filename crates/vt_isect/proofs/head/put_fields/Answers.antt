use Rattle.std.proofs.Common.{◌≡◌, ℕ, List, [], ◌∷◌, ◌++◌, length, take, ◌∙◌, ap, arith, append_assoc}
use Rattle.std.specs.Prelude.{codes}
use Rattle.byteorder.specs.Endian.{big_bytes}
use Rattle.vt_isect.proofs.Heads.{and_then}
use Rattle.vt_isect.proofs.head.put_fields.Goals as goal

pub returns-clause-written : goal.returns-clause-written
returns-clause-written c =
    let name : List ℕ = c.args.name.now in
    let head = c.args.head.now in
    let versioned : List ℕ = codes "VSEC" ++ big_bytes 2 1 in
    let magic : take c.put-at.result c.put-at.new.buf ≡ codes "VSEC" =
    ap (λ (k : ℕ). take k c.put-at.new.buf) c.put-at.ensures.end ∙ c.put-at.ensures.written in
    let version : take c.put_u16-at.result c.put_u16-at.new.buf ≡ versioned =
    and_then _ 2 _ _ _ _ _ c.put_u16-at.ensures.end c.put_u16-at.ensures.written magic in
    let stated : take c.put_u8-at.result c.put_u8-at.new.buf ≡ versioned ++ head.state ∷ [] =
    and_then _ 1 _ _ _ _ _ c.put_u8-at.ensures.end c.put_u8-at.ensures.written version in
    let named : take c.put-at-2.result c.put-at-2.new.buf ≡ (versioned ++ head.state ∷ []) ++ name =
    and_then _ (length name) _ _ _ _ _ c.put-at-2.ensures.end c.put-at-2.ensures.written stated in
    let firsts : take c.put_u32-at.result c.put_u32-at.new.buf ≡ ((versioned ++ head.state ∷ []) ++ name) ++ big_bytes 4 head.first =
    and_then _ 4 _ _ _ _ _ c.put_u32-at.ensures.end c.put_u32-at.ensures.written named in
    let counted : take c.put_u32-at-2.result c.put_u32-at-2.new.buf ≡ (((versioned ++ head.state ∷ []) ++ name) ++ big_bytes 4 head.first) ++ big_bytes 4 head.count =
    and_then _ 4 _ _ _ _ _ c.put_u32-at-2.ensures.end c.put_u32-at-2.ensures.written firsts in
    let totalled : take c.put_u32-at-3.result c.put_u32-at-3.new.buf ≡ ((((versioned ++ head.state ∷ []) ++ name) ++ big_bytes 4 head.first) ++ big_bytes 4 head.count) ++ big_bytes 4 head.total =
    and_then _ 4 _ _ _ _ _ c.put_u32-at-3.ensures.end c.put_u32-at-3.ensures.written counted in
    and_then _ 8 91 _ _ _ _ (omega arith) c.put_u64.ensures.written totalled
    ∙ simp append_assoc
