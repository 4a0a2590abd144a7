use Rattle.std.proofs.Common.{◌≡◌, ◌≢◌, ◌==◌, ◌∙◌, ℕ, List, [], ◌∷◌, ◌++◌, false, length, sym, ap, refl, arith}
use Rattle.std.proofs.lemmas.Bool.{eqb-true, eqb-false}
use Rattle.std.proofs.lemmas.List.{length_push}
use Rattle.nine_wire.specs.Names.{SpellNames}
use Rattle.nine_wire.proofs.NamesIn.{all_more, read_more, filled, no_more, not_all}
use Rattle.nine_wire.proofs.Strings.{if_none}
use Rattle.nine_wire.proofs.names.names_of.Goals as goal

pub loop-init : goal.loop-init
loop-init c = record { names = []; len = refl; each = tt; read = refl }

pub loop-preserved : goal.loop-preserved
loop-preserved c =
    let inv = c.loop.invariant in
    let text : List ℕ = c.in_ok-_name._name.now in
    record {
      names = inv.names ++ text ∷ [];
      len = omega (arith, length_push inv.names text, inv.len);
      each = all_more inv.names text inv.each c.in_ok-_name.ensures.short;
      read = read_more c.args.bytes.now inv.names text c.loop.rest.now c.in_ok-_name.behind.now
          inv.read c.in_ok-_name.ensures.found;
    }

pub returns-in_err-_name-clause-none : goal.returns-in_err-_name-clause-none
returns-in_err-_name-clause-none c =
    let inv = c.loop.invariant in
    if_none c.from_residual.result
    ((names : List (List ℕ)) → length names ≡ c.args.count → ¬ SpellNames names c.args.bytes.now)
    (λ names len fill. no_more inv.names names c.args.bytes.now c.loop.rest.now inv.each
    (omega (arith, len, inv.len, c.loop-test.true)) inv.read c.in_err-_name.ensures.none fill)

pub invariant_of-result : goal.invariant_of-result
invariant_of-result c =
    let inv = c.loop.invariant in
    (filled c.args.bytes.now c.loop.rest.now inv.names c.args.count inv.each
    (omega (arith, inv.len, c.loop-test.false, c.loop.auto.counter-end)) inv.read
    (eqb-true _ 0 (sym c.is_empty.ensures ∙ c.if-is_empty.true))).1

pub returns-then-is_empty-clause-found : goal.returns-then-is_empty-clause-found
returns-then-is_empty-clause-found c =
    let inv = c.loop.invariant in
    let len : length inv.names ≡ c.args.count =
    omega (arith, inv.len, c.loop-test.false, c.loop.auto.counter-end) in
    let all = filled c.args.bytes.now c.loop.rest.now inv.names c.args.count inv.each len inv.read
    (eqb-true _ 0 (sym c.is_empty.ensures ∙ c.if-is_empty.true)) in
    (rw all.0 len, all.1)

left : (xs : List ℕ) → (length xs == 0) ≡ false → xs ≢ []
left [] e h = eqb-false 0 0 e refl
left (x ∷ xs) e h = omega (arith, ap length h)

pub returns-else-is_empty-clause-none : goal.returns-else-is_empty-clause-none
returns-else-is_empty-clause-none c =
    λ names len fill.
    let inv = c.loop.invariant in
    not_all inv.names names c.args.bytes.now c.loop.rest.now inv.each
    (omega (arith, len, inv.len, c.loop-test.false, c.loop.auto.counter-end)) inv.read
    (left c.loop.rest.now (sym c.is_empty.ensures ∙ c.if-is_empty.false)) fill
