use Rattle.std.proofs.Common.{◌≢◌}
use Rattle.std.proofs.lemmas.List.Elements.{recursion_from_All}
use Rattle.vt_wire.proofs.Lines.{line_accepted, line_spelled}
use Rattle.vt_wire.proofs.laws.good_lines.Goals as goal

pub returns-clause-accepted : goal.returns-clause-accepted
returns-clause-accepted c = λ line comment offered. line_accepted line offered comment

pub returns-clause-spelled : goal.returns-clause-spelled
returns-clause-spelled c = λ line plain. line_spelled line (recursion_from_All (λ b. b ≢ 10) line plain)
