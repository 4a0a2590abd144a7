-- The order of keys, and which keys are one.
use Rattle.std.specs.Prelude.{◌==◌, ◌&&◌, Bool, bytes_eq}
use Rattle.std.specs.Ordering.{ordering_then, nat_cmp}
use Rattle.std.specs.Cmp.Lexicographic.{slice_cmp}
use Rattle.std.specs.declared.cmp.Ordering.{Ordering}
use Rattle.vt_base.specs.declared.key.Key.{Key}

-- keys are in the order of their scores, byte by byte, and then of their types
abbrev pub key_cmp : Key → Key → Ordering
key_cmp a b = ordering_then (slice_cmp nat_cmp a.score.0 b.score.0) (nat_cmp a.kind b.kind)

-- two keys are one where score and type are the same, as a map tests it
abbrev pub same_key : Key → Key → Bool
same_key a b = bytes_eq a.score.0 b.score.0 && a.kind == b.kind
