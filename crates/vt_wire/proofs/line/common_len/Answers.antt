use Rattle.std.proofs.Common.{◌≡◌, [], nat_eq, drop, ap, arith, ◌∙◌}
use Rattle.std.specs.Prelude.{codes}
use Rattle.std.specs.List.{common_prefix_len}
use Rattle.std.proofs.lemmas.List.{drop_all}
use Rattle.vt_wire.proofs.Lines.{no_more}
use Rattle.vt_wire.proofs.line.common_len.Goals as goal

pub returns-after-loop-same-clause-value : goal.returns-after-loop-same-clause-value
returns-after-loop-same-clause-value c =
    let line = drop c.loop-same.same c.args.line.now in
    let over : drop c.loop-same.same (codes "venti-") ≡ [] = drop_all c.loop-same.same (codes "venti-") (omega arith) in
    let none : common_prefix_len nat_eq line (drop c.loop-same.same (codes "venti-")) ≡ 0 = ap (common_prefix_len nat_eq line) over ∙ no_more line in
    omega (arith, none, c.loop-same.invariant.so_far)
