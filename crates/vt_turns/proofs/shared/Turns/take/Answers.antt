use Rattle.std.proofs.Common.{rules, add-one, arith, ◌∙◌, ◌∷◌, ◌≤◌, sym, refl, ap, subst}
use Rattle.std.specs.Prelude.{Some, None}
use Rattle.atomic_table.specs.Table.{rest}
use Rattle.vt_turns.specs.Views.{taking}
use Rattle.vt_turns.proofs.Lists.{at_put_here}
use Rattle.vt_turns.proofs.Moves.{goes_home, takes_home, same_head}
use Rattle.vt_turns.proofs.KnowsAll.{knows_taken}
use Rattle.vt_turns.proofs.Sole.{sole_takes}
use Rattle.vt_turns.proofs.shared.Turns.take.Goals as goal

pub exchange-held-requires : goal.exchange-held-requires
exchange-held-requires g c = let cl = c.claim.ensures.claimed in (search rules, (Some cl.0, cl.2 ∙ ap (λ l. (c.args.part, Some cl.0) ∷ l) (sym (ap rest cl.2))))

pub store-requires : goal.store-requires
store-requires g c =
    let cl = c.claim.ensures.claimed in
    let ex = c.exchange-held.ensures in
    let sized = c.args.self.now.sized in
    let near = c.requires.part in
    let w = taking g.P.Held.means c.args.part cl.1 cl.0 c.args.pass.now.me.0 in
    let me_is = ex.3 ∙ (λ i. (cl.3 i, (c.args.part, None) ∷ rest (cl.2 i))) ∙ (λ i. (w, (c.args.part, None) ∷ c.requires.own.1 i)) in (
      search rules,
      omega arith,
      rw add-one (goes_home g.P.Held.means c.args.self.now.table.shared.key.bit_words c.args.self.now.table.shared.key.opening.value.me.0 c.args.self.now.table.shared.table_id.slots c.exchange-held.new.seat.id c.args.part c.exchange-held.new.seat.me w cl.0 me_is refl (at_put_here None c.args.pass.now.me.0.turns c.args.part (Some cl.0))),
    )

pub returns-clause-takes : goal.returns-clause-takes
returns-clause-takes g c =
    let cl = c.claim.ensures.claimed in
    let ex = c.exchange-held.ensures in
    let v = c.args.pass.now.me.0 in
    let w = c.claim.new.pass.me.0 in
    let u = c.store.new.seat.me.0 in
    let x_is = same_head c.args.part cl.0 c.in-Some.held c.claim.new.pass.me.1 c.args.pass.now.me.1 (rest c.claim.new.pass.me.1) c.exchange-held.result cl.2 ex.2 c.in-Some.is in
    let u_is = (λ i. (c.store.ensures.2 i).0) ∙ (λ i. record (ex.3 i).0 { away = 0 }) in
    let t = takes_home g.P.Held.means c.args.part cl.1 v w u cl.0 c.in-Some.held cl.4 x_is cl.3 c.requires.own.2 u_is in
    t

pub returns-clause-knows : goal.returns-clause-knows
returns-clause-knows g c =
    let cl = c.claim.ensures.claimed in
    let ex = c.exchange-held.ensures in
    let v = c.args.pass.now.me.0 in
    let w = c.claim.new.pass.me.0 in
    let u = c.store.new.seat.me.0 in
    let x_is = same_head c.args.part cl.0 c.in-Some.held c.claim.new.pass.me.1 c.args.pass.now.me.1 (rest c.claim.new.pass.me.1) c.exchange-held.result cl.2 ex.2 c.in-Some.is in
    let u_is = (λ i. (c.store.ensures.2 i).0) ∙ (λ i. record (ex.3 i).0 { away = 0 }) in
    let t = takes_home g.P.Held.means c.args.part cl.1 v w u cl.0 c.in-Some.held cl.4 x_is cl.3 c.requires.own.2 u_is in
    knows_taken g.P.Held.means c.args.part t.history c.in-Some.held v u t.is t.goes_on (λ e. subst (λ (z : g.row.P.Denot). v.stable ≤ g.P.Held.means.durable z) x_is (cl.4.stable e))

pub returns-clause-sole : goal.returns-clause-sole
returns-clause-sole g c =
    let cl = c.claim.ensures.claimed in
    let ex = c.exchange-held.ensures in
    let v = c.args.pass.now.me.0 in
    let w = c.claim.new.pass.me.0 in
    let u = c.store.new.seat.me.0 in
    let x_is = same_head c.args.part cl.0 c.in-Some.held c.claim.new.pass.me.1 c.args.pass.now.me.1 (rest c.claim.new.pass.me.1) c.exchange-held.result cl.2 ex.2 c.in-Some.is in
    let u_is = (λ i. (c.store.ensures.2 i).0) ∙ (λ i. record (ex.3 i).0 { away = 0 }) in
    let t = takes_home g.P.Held.means c.args.part cl.1 v w u cl.0 c.in-Some.held cl.4 x_is cl.3 c.requires.own.2 u_is in
    sole_takes g.P.Held.means c.args.part v u c.in-Some.held t
