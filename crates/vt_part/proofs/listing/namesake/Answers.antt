use Rattle.std.proofs.Common.{◌≡◌, ⊎_elim, ◌<◌, ◌≤◌, true, sym, ◌∙◌, subst, arith}
use Rattle.std.specs.Str.{bytes_eq}
use Rattle.std.proofs.lemmas.Bool.{cases_lt}
use Rattle.std.proofs.lemmas.Slice.Eq.{bytes_eq-Decides}
use Rattle.vt_part.specs.Layout.{AreNamesakes}
use Rattle.vt_part.specs.Parts.{names_of}
use Rattle.vt_part.proofs.Namesakes.{namesakes, one_name}
use Rattle.vt_part.proofs.listing.namesake.Goals as goal

pub returns-then-eq-clause-found : goal.returns-then-eq-clause-found
returns-then-eq-clause-found g c =
    namesakes c.args.parts.now c.args.first c.loop-second.second c.index-parts-first.result
    c.index-parts-second.result (omega arith) (omega arith)
    c.index-parts-first.is c.index-parts-second.is
    (sym c.name-in-loop-second.ensures
    ∙ sym ((bytes_eq-Decides c.name.result.now c.name-in-loop-second.result.now).0
    (sym c.eq.ensures ∙ c.if-eq.true))
    ∙ c.name.ensures)

pub loop-second-preserved : goal.loop-second-preserved
loop-second-preserved g c k are = ⊎_elim
    (λ (behind : c.loop-second.second < k). omega arith)
    (λ (not_behind : k ≤ c.loop-second.second).
    let here : k ≡ c.loop-second.second = omega (arith, c.loop-second.invariant k are) in
    let equal : bytes_eq c.name.result.now c.name-in-loop-second.result.now ≡ true =
    (bytes_eq-Decides c.name.result.now c.name-in-loop-second.result.now).1
    (c.name.ensures
    ∙ sym (one_name c.args.parts.now c.args.first c.loop-second.second c.index-parts-first.result
    c.index-parts-second.result (omega arith)
    (omega arith) c.index-parts-first.is c.index-parts-second.is
    (subst (λ j. AreNamesakes (names_of c.args.parts.now) c.args.first j) here are))
    ∙ sym c.name-in-loop-second.ensures) in
    absurd (cc (c.eq.ensures, c.if-eq.false, equal)))
    (cases_lt c.loop-second.second k)
