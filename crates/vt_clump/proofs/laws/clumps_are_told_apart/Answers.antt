use Rattle.std.proofs.Common.{List, [], ap, append-nil, arith, length, ℕ}
use Rattle.vt_clump.specs.Spelling.{clump_bytes}
use Rattle.vt_clump.proofs.ReadBack.{one_stored, begins_good, good_begins, length-spelled}
use Rattle.vt_clump.proofs.laws.clumps_are_told_apart.Goals as goal

pub returns-clause-one : goal.returns-clause-one
returns-clause-one c = one_stored

pub returns-clause-passes : goal.returns-clause-passes
returns-clause-passes c = begins_good

pub returns-clause-only : goal.returns-clause-only
returns-clause-only c = good_begins

pub returns-clause-len : goal.returns-clause-len
returns-clause-len c score_of s is = omega (arith, length-spelled score_of s [] is, ap (λ (l : List ℕ). length l) (append-nil (clump_bytes s)))
