use Rattle.std.proofs.Common.{◌≡◌, ◌+◌, ◌<◌, ℕ, suc, add-one, sym, ap, ◌∙◌, subst, arith, false, get_or, take, get_or-set_other, set}
use Rattle.std.specs.Prelude.{Some, None}
use Rattle.std.specs.Mem.Slots.{slots_items, slots_filled, slots_counts}
use mathlib.Core.Option.{some}
use native.Mathlib.Decide.{ℕ_discrete}
use lib.ListN.{get_elem?}
use Rattle.std.proofs.lemmas.List.{take_all}
use Rattle.vt_turns.specs.Lists.{FullOf}
use Rattle.vt_turns.proofs.Slots.{unset, full_at, full_more, full_once}
use Rattle.vt_turns.proofs.making.gather.Goals as goal

pub unreachable-requires : goal.unreachable-requires
unreachable-requires g c = let full = c.requires.full.1 in
    full_at (slots_items c.args.closed.slots) full.0 full.1 c.loop-i.i (subst (λ l. get_elem? l c.loop-i.i ≡ some None) c.loop-i.invariant.items (c.take.ensures.value ∙ ap some c.in_default.is))

pub loop-i-preserved : goal.loop-i-preserved
loop-i-preserved g c =
    let inv = c.loop-i.invariant in
    let others = c.take.ensures.others in
    let xs = slots_items c.args.closed.slots in
    let at = subst (λ l. get_elem? l c.loop-i.i ≡ some (Some c.in-Some.part)) inv.items (c.take.ensures.value ∙ ap some c.in-Some.is) in record {
      filled = λ k low high. ap (λ fs. get_or fs k false) others.1 ∙ get_or-set_other (slots_filled c.loop-i.closed.slots) c.loop-i.i k false false (λ e. omega arith) ∙ inv.filled k (omega arith) (let len = others.2 in omega arith);
      emptied = λ k below. ap (λ fs. get_or fs k false) others.1 ∙ go k below (ℕ_discrete k c.loop-i.i);
      items = others.0 ∙ inv.items;
      len = others.2 ∙ inv.len;
      count = c.push_reserved.ensures.len ∙ ap (λ (n : ℕ). n + 1) inv.count;
      room = c.push_reserved.ensures.capacity ∙ inv.room;
      parts = rw add-one (subst (λ l. FullOf (take (suc c.loop-i.i) xs) l) (sym c.push_reserved.ensures.items) (full_more xs c.loop-i.parts.items c.loop-i.i c.in-Some.part inv.parts at));
    }
  where
    go : (k : ℕ) → k < c.loop-i.i + 1 → Dec (k ≡ c.loop-i.i) → get_or (set (slots_filled c.loop-i.closed.slots) c.loop-i.i false) k false ≡ false
    go k below (yes e) = ap (λ (n : ℕ). get_or (set (slots_filled c.loop-i.closed.slots) c.loop-i.i false) n false) e ∙ unset (slots_filled c.loop-i.closed.slots) c.loop-i.i
    go k below (no n) = get_or-set_other (slots_filled c.loop-i.closed.slots) c.loop-i.i k false false n ∙ c.loop-i.invariant.emptied k (omega arith)

pub returns : goal.returns
returns g c = λ all full. let inv = c.loop-i.invariant in let counts = slots_counts c.args.closed.slots in
    full_once c.loop-i.parts.items all (sym inv.parts ∙ take_all c.loop-i.i (slots_items c.args.closed.slots) (omega arith) ∙ full)
