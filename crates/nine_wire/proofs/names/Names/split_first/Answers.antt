use Rattle.std.proofs.Common.{◌≡◌, ◌+◌, ◌-◌, ◌∙◌, ℕ, sym, ap, subst, arith}
use Rattle.nine_wire.specs.Names.{SpellNames, names_in}
use Rattle.nine_wire.proofs.NamesIn.{first_and_others}
use Rattle.nine_wire.proofs.names.Names.split_first.Goals as goal

pub invariant_of-others : goal.invariant_of-others
invariant_of-others c =
    let n : ℕ = c.self.inside.count - 1 in
    let one : c.self.inside.count ≡ n + 1 = omega arith in
    (first_and_others n c.self.inside.bytes.now c.in_ok-name.name.now c.in_ok-name.rest.now
    (subst (λ (k : ℕ). SpellNames (names_in k c.self.inside.bytes.now) c.self.inside.bytes.now) one
    c.self.invariant)
    c.in_ok-name.ensures.short c.in_ok-name.ensures.found).1

pub returns-clause-some : goal.returns-clause-some
returns-clause-some c =
    let n : ℕ = c.self.inside.count - 1 in
    let one : c.self.inside.count ≡ n + 1 = omega arith in
    sym c.self.view_is
    ∙ ap (λ (k : ℕ). names_in k c.self.inside.bytes.now) one
    ∙ (first_and_others n c.self.inside.bytes.now c.in_ok-name.name.now c.in_ok-name.rest.now
    (subst (λ (k : ℕ). SpellNames (names_in k c.self.inside.bytes.now) c.self.inside.bytes.now) one
    c.self.invariant)
    c.in_ok-name.ensures.short c.in_ok-name.ensures.found).0
