use Rattle.std.proofs.Common.{◌≡◌, ◌+◌, ◌-◌, ℕ, List, [], ◌∷◌, ◌++◌, length, take, drop, replicate, refl, ◌∙◌, ap, arith, length-take, length-drop}
use Rattle.std.proofs.lemmas.List.{append-nil, drop_all}
use Rattle.std.specs.Prelude.{codes}
use Rattle.byteorder.specs.Endian.{big_bytes}
use Rattle.vt_bloom.specs.Frame.{head_bytes}
use Rattle.vt_bloom.proofs.frame.encode_head.Goals as goal

-- what stands before a field, and then the field
and_then : (at n end : ℕ) (old new front field : List ℕ) → end ≡ at + n
    → take (at + n) new ≡ take at old ++ field → take at old ≡ front → take end new ≡ front ++ field
and_then at n end old new front field ends written before =
    ap (λ (k : ℕ). take k new) ends ∙ written ∙ ap (λ (l : List ℕ). l ++ field) before

-- and zeros in what is left
zeros_behind : (at k : ℕ) (buf zeros front : List ℕ) (n : ℕ) → take at buf ≡ front
    → zeros ≡ replicate (length (take k (drop at buf))) 0 → k ≡ length buf - at
    → length buf ≡ at + n
    → take at buf ++ (zeros ++ drop k (drop at buf)) ≡ front ++ replicate n 0
zeros_behind at k buf zeros front n before are rest whole =
    let some : length (take k (drop at buf)) ≡ n =
    simp (length-take, length-drop) (omega (arith, rest, whole)) in
    let none : drop k (drop at buf) ≡ [] =
    drop_all k (drop at buf) (omega (arith, length-drop at buf, rest)) in
    (λ i. before i ++ ((are ∙ ap (λ (j : ℕ). replicate j 0) some) i ++ none i))
    ∙ ap (λ (l : List ℕ). front ++ l) (append-nil (replicate n 0))

pub returns : goal.returns
returns c =
    let versioned : List ℕ = codes "VBLM" ++ big_bytes 2 1 in
    let magic : take c.put-at.result c.put-at.new.buf ≡ codes "VBLM" =
    ap (λ (k : ℕ). take k c.put-at.new.buf) c.put-at.ensures.end ∙ c.put-at.ensures.written in
    let version : take c.put_u16-at.result c.put_u16-at.new.buf ≡ versioned =
    and_then _ 2 _ _ _ _ _ c.put_u16-at.ensures.end c.put_u16-at.ensures.written magic in
    let counted : take c.put_u8-at.result c.put_u8-at.new.buf ≡ versioned ++ c.args.m ∷ [] =
    and_then _ 1 _ _ _ _ _ c.put_u8-at.ensures.end c.put_u8-at.ensures.written version in
    let both : take c.put_u8-at-2.result c.put_u8-at-2.new.buf
    ≡ (versioned ++ c.args.m ∷ []) ++ c.args.k ∷ [] =
    and_then _ 1 _ _ _ _ _ c.put_u8-at-2.ensures.end c.put_u8-at-2.ensures.written counted in
    let all : take c.put_u64-at.result c.put_u64-at.new.buf ≡ head_bytes c.args.m c.args.k
    c.args.mark =
    and_then _ 8 _ _ _ _ (big_bytes 8 c.args.mark) c.put_u64-at.ensures.end
    c.put_u64-at.ensures.written both in
    zeros_behind c.put_u64-at.result _ c.put_u64-at.new.buf c.fill.new.self _ 8176
    all (c.fill.ensures.after (λ y is. is)) refl (omega arith)
