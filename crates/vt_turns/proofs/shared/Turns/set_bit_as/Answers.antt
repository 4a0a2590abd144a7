use Rattle.std.proofs.Common.{◌≡◌, ℕ, suc, ◌+◌, ◌*◌, sym, subst, arith}
use Rattle.std.specs.Prelude.{◌/◌, ◌%◌, ◌^◌, bit_or}
use mathlib.Core.Option.{none}
use Rattle.atomic_table.specs.Table.{Allows, step}
use Rattle.vt_turns.specs.Rule.{Rule}
use Rattle.vt_turns.specs.Steps.{TellsBitSet}
use Rattle.vt_turns.proofs.BitWords.{sets}
use Rattle.vt_turns.proofs.shared.Turns.set_bit_as.Goals as goal

pub fetch_or-requires : goal.fetch_or-requires
fetch_or-requires g c =
    let M = g.P.Held.means in
    let sized = c.args.self.now.sized in
    let near = c.requires.place in
    let slots = c.args.self.now.table.shared.table_id.slots in
    let counted = c.args.self.now.counted in
    let word : suc slots + c.args.place / 64 ≡ c.args.self.now.parts + 1 + c.args.place / 64 = omega arith in
    let mask : ℕ = 1 * 2 ^ (c.args.place % 64) % 2 ^ 64 in (
      c.requires.own.0,
      omega arith,
      subst (λ (z : ℕ × ℕ). Allows (Rule M c.args.self.now.table.shared.key.bit_words c.args.self.now.table.shared.key.opening.value.me.0) slots c.args.pass.now.id c.args.pass.now.me z.0 (λ n. bit_or n mask) (TellsBitSet M z.1 (step slots z.0 mask 0 none) c.args.pass.now.me))
          (λ i. (word i, sym c.requires.named i))
          (sets M c.args.self.now.table.shared.key.bit_words c.args.self.now.table.shared.key.opening.value.me.0 slots c.args.pass.now.id c.args.place c.args.pass.now.me.0 c.args.pass.now.me.1 c.requires.place),
    )
