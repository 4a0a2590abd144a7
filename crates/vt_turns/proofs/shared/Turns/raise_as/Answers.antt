use Rattle.std.proofs.Common.{arith, ◌+◌, ◌∙◌, ◌%◌, ◌^◌, sym, subst}
use Rattle.atomic_table.specs.Table.{Allows, step}
use mathlib.Core.Option.{none}
use Rattle.vt_turns.specs.Rule.{Rule}
use Rattle.vt_turns.specs.Steps.{TellsRaised}
use Rattle.vt_turns.proofs.Front.{raises}
use Rattle.vt_turns.proofs.shared.Turns.raise_as.Goals as goal

pub fetch_add-requires : goal.fetch_add-requires
fetch_add-requires g c = let sized = c.args.self.now.sized in let b = c.requires.raises in (
  c.requires.own.0,
  omega arith,
  subst (λ o. Allows (Rule g.P.Held.means c.args.self.now.table.shared.key.bit_words c.args.self.now.table.shared.key.opening.value.me.0) c.args.self.now.table.shared.table_id.slots c.args.pass.now.id c.args.pass.now.me 0 (λ n. (n + 1) % 2 ^ 64) (TellsRaised g.P.Held.means o (step c.args.self.now.table.shared.table_id.slots 0 1 0 none) c.args.pass.now.me)) (sym c.requires.named)
      (raises g.P.Held.means g.P.Held.lawful c.args.self.now.table.shared.key.bit_words c.args.self.now.table.shared.key.opening.value.me.0 c.args.self.now.table.shared.table_id.slots c.args.pass.now.id c.args.pass.now.me.0 c.args.pass.now.me.1 b.0 c.args.log.now c.args.number b.1 c.args.shard.now c.args.block.now b.2 c.requires.room),
)

pub returns-clause-own : goal.returns-clause-own
returns-clause-own g c = let st = c.fetch_add.ensures in let m_is = st.2 c.args.log.now c.args.number c.args.shard.now c.args.block.now c.requires.named in
    (st.0 ∙ c.requires.own.0, (λ i. (m_is i).1) ∙ c.requires.own.1, (λ i. (m_is i).0.away) ∙ c.requires.own.2)
