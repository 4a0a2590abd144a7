use Rattle.std.proofs.Common.{rules, ◌∙◌, get_or, subst, take}
use Rattle.vt_turns.specs.declared.view.View.{View}
use Rattle.vt_turns.specs.Views.{with_bits}
use Rattle.vt_turns.specs.Steps.{LacksBit}
use Rattle.vt_turns.proofs.Lists.{at_index}
use Rattle.vt_turns.proofs.shared.Turns.load_bits.Goals as goal

pub returns-then-not-load_bit-clause-bits : goal.returns-then-not-load_bit-clause-bits
returns-then-not-load_bit-clause-bits g c =
    let M = g.P.Held.means in
    let places = c.args.places.now in
    let number = c.loop-place.place-index in
    let place = get_or places number 0 in
    let unset = c.if-not-load_bit.ensures.view in
    let loaded = c.loop-place.invariant.loaded in
    let lacks : LacksBit M place (with_bits (take number places) c.args.pass.now.me.0) = subst (λ (v : View g.row.P.Denot g.row.B.Denot). LacksBit M place v) loaded unset.1 in record {
      number = number;
      place = place;
      is = at_index places number (search rules);
      view = unset.0 ∙ loaded;
      lacks = record { none = lacks.none };
    }
