use Rattle.std.proofs.Common.{◌∙◌, ap, sym, subst, arith}
use Rattle.std.specs.Prelude.{Some, None}
use mathlib.Core.List.{IsPrefix}
use Rattle.vt_turns.specs.Views.{turn_of}
use Rattle.vt_turns.proofs.Lists.{at_put_here}
use Rattle.vt_turns_example.specs.Stores.{TheView}
use Rattle.vt_turns_example.proofs.Holding.{turned_none}
use Rattle.vt_turns_example.proofs.store.Store.turn.Goals as goal

pub give-requires-clause-held : goal.give-requires-clause-held
give-requires-clause-held g c = ap (λ (v : TheView). turn_of v c.args.number) c.take-part.ensures.takes.is ∙ at_put_here None c.args.pass.now.me.0.turns c.args.number (Some c.take-part.result)

pub returns-clause-free : goal.returns-clause-free
returns-clause-free g c =
    let t = c.take-part.ensures.takes in
    let free = c.requires.free in
    let share = ap (λ (v : TheView). v.share) c.give.ensures.view ∙ ap (λ (v : TheView). v.share) t.is in (
      (c.give.ensures.own, ap (λ (v : TheView). v.opening) c.give.ensures.view ∙ ap (λ (v : TheView). v.opening) t.is ∙ free.0.1, (let some_share = free.0.2 in omega arith)),
      turned_none c.args.pass.now.me.0 c.take-part.new.pass.me.0 c.give.new.pass.me.0 c.args.number t.history c.take-part.result t.is c.give.ensures.view free.1,
    )

pub returns-clause-seen : goal.returns-clause-seen
returns-clause-seen g c = subst (λ h. IsPrefix c.args.pass.now.me.0.seen h) (sym (ap (λ (v : TheView). v.seen) c.give.ensures.view)) c.take-part.ensures.knows.seen
