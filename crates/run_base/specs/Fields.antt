-- What a field of a partition is called in a line, and how a value is written there.
use Rattle.std.specs.Prelude.{ℕ, ◌==◌, if◌then◌else◌, List, [], codes, decimal}
use Rattle.hex.specs.Hex.{encode_lower}
use Rattle.vt_base.specs.declared.mount.MountField.{MountField}
use Rattle.vt_base.specs.declared.mount.MountField.TheVariants.{Version, Number, Sealed, Used, Last, Clumps, ArenaSize, Count, State, First, Total, Mark, M, K, Crowd, Arenas, Buckets}
use Rattle.vt_base.specs.declared.why.FieldValue.{FieldValue}
use Rattle.vt_base.specs.declared.why.FieldValue.TheVariants as value

-- the name of a field in a line on the fault sink
abbrev pub field_name : MountField → List ℕ
field_name Version = codes "version"
field_name Number = codes "number"
field_name Sealed = codes "sealed"
field_name Used = codes "used"
field_name Last = codes "last"
field_name Clumps = codes "clumps"
field_name ArenaSize = codes "arenasize"
field_name Count = codes "count"
field_name State = codes "state"
field_name First = codes "first"
field_name Total = codes "total"
field_name Mark = codes "mark"
field_name M = codes "m"
field_name K = codes "k"
field_name Crowd = codes "crowd"
field_name Arenas = codes "arenas"
field_name Buckets = codes "buckets"

-- what is to be done where a field says this: a section in state 2 is half filled
abbrev pub advice_on : MountField → (found : ℕ) → List ℕ
advice_on State found = if found == 2 then codes ": run buildindex" else []
advice_on field found = []

-- a number in decimal digits, and a score or a magic number in hexadecimal ones
abbrev pub value_text : FieldValue → List ℕ
value_text (value.Number n) = decimal n
value_text (value.Score score) = encode_lower score.0
value_text (value.Magic bytes) = encode_lower bytes
