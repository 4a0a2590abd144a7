use Rattle.std.proofs.Common.{rules, add-one, arith, suc, ◌≡◌, ◌∙◌, ◌∷◌, refl}
use Rattle.std.specs.Prelude.{Some}
use Rattle.atomic_table.specs.Table.{rest}
use Rattle.vt_turns.proofs.Moves.{fetches, goes_back}
use Rattle.vt_turns.proofs.shared.Turns.give.Goals as goal

pub store-requires : goal.store-requires
store-requires g c = let sized = c.args.self.now.sized in let near = c.requires.number in (
  c.requires.own.0,
  omega arith,
  rw add-one (fetches g.P.Held.means c.args.self.now.table.shared.key.bit_words c.args.self.now.table.shared.key.opening.value.me.0 c.args.self.now.table.shared.table_id.slots c.args.pass.now.id c.args.number c.args.pass.now.me.0 c.args.pass.now.me.1 c.args.part c.requires.own.2 c.requires.held),
)

pub store-requires-2 : goal.store-requires-2
store-requires-2 g c =
    let sized = c.args.self.now.sized in
    let near = c.requires.number in
    let st = c.store.ensures.2 in
    let ex = c.exchange.ensures in
    let v = c.args.pass.now.me.0 in
    let k_is : st.0 ≡ c.args.number = omega (arith, st.1) in
    let w = record v { away = suc c.args.number } in
    let me_is = ex.3 ∙ (λ i. ((st.2 i).0, (c.args.number, Some c.args.part) ∷ rest (st.2 i).1)) ∙ (λ i. (record v { away = suc (k_is i) }, (c.args.number, Some c.args.part) ∷ c.requires.own.1 i)) in (
      search rules,
      omega arith,
      rw add-one (goes_back g.P.Held.means c.args.self.now.table.shared.key.bit_words c.args.self.now.table.shared.key.opening.value.me.0 c.args.self.now.table.shared.table_id.slots c.exchange.new.seat.id c.args.number c.exchange.new.seat.me w c.args.part me_is refl c.requires.held),
    )
