use Rattle.std.proofs.Common.{◌≡◌, ℕ, ◌+◌, ◌-◌, ◌≤◌, List, drop, length, sym, ◌∙◌, ap, arith, rules}
use Rattle.std.proofs.lemmas.List.{drop-drop}
use Rattle.vt_arena.proofs.head.ArenaHead.encode.Goals as goal

-- what stands behind an earlier field stands behind the last
behind : (m : ℕ) (new old : List ℕ) → drop m new ≡ drop m old → m ≤ 47 → drop 47 new ≡ drop 47 old
behind m new old same below =
    let split : 47 ≡ m + (47 - m) = omega (arith, below) in
    ap (λ (n : ℕ). drop n new) split ∙ sym (drop-drop (47 - m) m new) ∙ ap (λ (l : List ℕ). drop (47 - m) l) same
    ∙ drop-drop (47 - m) m old ∙ ap (λ (n : ℕ). drop n old) (sym split)

pub returns-clause-behind : goal.returns-clause-behind
returns-clause-behind c =
    let chain : length c.args.self.now.chain.0 ≡ 20 = search rules in
    behind (c.put-at-2.result + 4) c.put_u32.new.buf c.put-at-2.new.buf c.put_u32.ensures.behind (omega (arith, chain))
    ∙ behind (c.put_u64-at.result + length c.args.self.now.chain.0) c.put-at-2.new.buf c.put_u64-at.new.buf c.put-at-2.ensures.behind (omega (arith, chain))
    ∙ behind (c.put_u32-at-2.result + 8) c.put_u64-at.new.buf c.put_u32-at-2.new.buf c.put_u64-at.ensures.behind (omega arith)
    ∙ behind (c.put_u8-at.result + 4) c.put_u32-at-2.new.buf c.put_u8-at.new.buf c.put_u32-at-2.ensures.behind (omega arith)
    ∙ behind (c.put_u32-at.result + 1) c.put_u8-at.new.buf c.put_u32-at.new.buf c.put_u8-at.ensures.behind (omega arith)
    ∙ behind (c.put_u16-at.result + 4) c.put_u32-at.new.buf c.put_u16-at.new.buf c.put_u32-at.ensures.behind (omega arith)
    ∙ behind (c.put-at.result + 2) c.put_u16-at.new.buf c.put-at.new.buf c.put_u16-at.ensures.behind (omega arith)
    ∙ behind 4 c.put-at.new.buf c.args.frame.now c.put-at.ensures.behind (omega arith)
