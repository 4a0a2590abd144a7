use Rattle.std.proofs.Common.{◌≡◌, ◌≢◌, ◌+◌, suc, Some, take, ◌++◌, ap, sym, ◌∙◌, arith}
use Rattle.std.proofs.lemmas.List.Elements.{recursion_from_All}
use Rattle.vt_wire.specs.Lines.{first_wrong_place}
use Rattle.vt_wire.proofs.Lines.{no_none, line_accepted, line_wrong}
use Rattle.vt_wire.proofs.laws.first_wrong_byte.Goals as goal

pub returns-clause-begins : goal.returns-clause-begins
returns-clause-begins c = λ line place plain wrong.
    let w = line_wrong line place (recursion_from_All (λ b. b ≢ 10) line plain) wrong in
    (w.1.0, w.1.1, w.1.2, w.0, w.1.3)

pub returns-clause-ends : goal.returns-clause-ends
returns-clause-ends c = λ line more comment offered place plain wrong lt good.
    let w = line_wrong line place (recursion_from_All (λ b. b ≢ 10) line plain) wrong in
    let one : suc place ≡ place + 1 = omega arith in
    let still : first_wrong_place (take (place + 1) line ++ more) ≡ Some place = ap (λ n. first_wrong_place (take n line ++ more)) (sym one) ∙ w.2 lt more in
    no_none place (sym still ∙ (line_accepted (take (place + 1) line ++ more) offered comment good).0)

pub returns-clause-none : goal.returns-clause-none
returns-clause-none c = λ line comment offered place wrong good. no_none place (sym wrong ∙ (line_accepted line offered comment good).0)
