-- The order of a bucket's entries.
use Rattle.std.specs.Prelude.{◌≡◌, List}
use Rattle.std.specs.List.{AllPairs}
use Rattle.std.specs.declared.cmp.Ordering.TheVariants.{Less}
use Rattle.vt_base.specs.declared.place.Entry.{Entry}
use Rattle.vt_base.specs.Key.{key_cmp}

-- the entry's key is below the other's
abbrev pub IsBelow : Entry → Entry → Type 0
IsBelow a b = key_cmp a.key b.key ≡ Less

-- each entry is below those after it
abbrev pub IsAscending : List Entry → Type 0
IsAscending entries = AllPairs IsBelow entries
