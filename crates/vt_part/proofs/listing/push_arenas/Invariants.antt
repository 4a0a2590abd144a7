use Rattle.std.proofs.Common.{◌≡◌, ◌++◌}
use Rattle.std.specs.Prelude.{map}
use Rattle.std.specs.List.{range_with_len}
use Rattle.vt_part.specs.Layout.{arena_of}
use Rattle.vt_part.specs.Parts.{table_of}
use Rattle.vt_part.proofs.listing.push_arenas.Given as goal

abbrev pub invariant-loop-arena : goal.invariant-loop-arena
invariant-loop-arena g l =
    l.arenas.items ≡ l.initial.arenas.items
    ++ map (arena_of l.number (table_of l.part)) (range_with_len 0 l.arena)
