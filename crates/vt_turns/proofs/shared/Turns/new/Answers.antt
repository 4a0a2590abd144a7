use Rattle.std.proofs.Common.{◌≡◌, ◌+◌, ℕ, List, suc, length, get_or, sym, ap, ◌∙◌, subst, arith}
use Rattle.atomic_table.specs.Table.{opening}
use Rattle.vt_turns.specs.Lists.{first_list, FullOf}
use Rattle.vt_turns.specs.declared.view.Opening.{Opening}
use Rattle.std.specs.Prelude.{Some}
use Rattle.vt_turns.specs.declared.shared.Fixed.{Fixed}
use Rattle.vt_turns.specs.Rule.{Rule}
use Rattle.vt_turns.specs.Views.{first_view}
use Rattle.vt_turns.proofs.OpensAndCloses.{opens, first_are, same_length}
use Rattle.vt_turns.proofs.shared.Turns.new.Goals as goal

pub new-requires : goal.new-requires
new-requires g c =
    let M = g.P.Held.means in
    let o = g.J.Opened.opening in
    let parts_are = c.requires.parts in
    let count_is : c.len-count.result ≡ length o.parts = omega (arith, ap length parts_are) in
    let ws = first_list (length o.parts) c.args.front c.args.bits.now in
    let are = first_are (length o.parts) c.args.front c.args.bits.now in
    let a = are.0 in
    let long : length ws ≡ suc (length o.parts) + length c.args.bits.now = omega arith in
    let words_are = c.in-Ok.ensures.words ∙ ap (λ n. first_list n c.args.front c.args.bits.now) count_is in
    let slots_are = subst (λ ps. FullOf c.wrapped.result.items ps) (sym parts_are) c.wrapped.ensures in
    subst (λ (z : Opening g.row.P.Denot g.row.B.Denot × List ℕ). Rule M (length c.args.bits.now) z.0 (opening z.1 c.wrapped.result.items (first_view M z.0)))
    (λ i. (sym c.in-Ok.ensures.opening i, sym (c.as_slice.ensures.value ∙ words_are) i))
    (opens M (length c.args.bits.now) o ws c.wrapped.result.items c.requires.opens long (are.1 ∙ c.requires.front) are.2 (λ q. are.3 q ∙ ap (λ (l : List ℕ). get_or l q 0) (sym c.requires.bits)) slots_are)

pub invariant_of-result : goal.invariant_of-result
invariant_of-result g c =
    let made = c.in-Ok-new.ensures.ok in
    let slots : length c.wrapped.result.items ≡ length c.args.parts.items = ap length c.wrapped.ensures ∙ same_length (λ (x : g.row.P.Denot). Some x) c.args.parts.items in
    let count = c.len-count.ensures in
    let words = ap length c.in-Ok.ensures.words in
    let first = (first_are c.len-count.result c.args.front c.args.bits.now).0 in
    let long = c.as_slice.ensures.len in
    let small = c.in-Ok.prepared.words.small in
    let fixed = ap (λ (z : Fixed g.row.P.Denot g.row.B.Denot). z.bit_words) made.5 in record {
      counted = omega arith;
      sized = omega arith;
      fits = omega arith;
    }
