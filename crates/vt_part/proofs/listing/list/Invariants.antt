use Rattle.std.proofs.Common.{◌≡◌, ◌++◌, drop}
use Rattle.std.specs.Prelude.{flat_map}
use Rattle.std.specs.List.{enumerate_from}
use Rattle.vt_part.specs.Layout.{arenas_of_table, layout_of}
use Rattle.vt_part.specs.Parts.{tables_of}
use Rattle.vt_part.proofs.listing.list.Given as goal

-- the arenas of the partitions so far, and those that are left
abbrev pub invariant-loop-number : goal.invariant-loop-number
invariant-loop-number g l =
    l.arenas.items ++ flat_map (λ it. arenas_of_table it.0 it.1) (enumerate_from l.number (tables_of
    (drop l.number l.parts)))
    ≡ layout_of (tables_of l.parts)
