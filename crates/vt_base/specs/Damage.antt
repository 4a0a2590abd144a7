-- The two values of a damage: what was wanted, and what was found.
use Rattle.std.specs.Prelude.{◌≢◌, ⊤}
use Rattle.vt_base.specs.declared.why.FieldValue.{FieldValue}
use Rattle.vt_base.specs.declared.why.FieldValue.TheVariants.{Number, Score, Magic}

-- Both values are numbers, both are scores, or both are magic numbers.
abbrev pub SameForm : FieldValue → FieldValue → Type 0
SameForm (Number a) (Number b) = ⊤
SameForm (Score a) (Score b) = ⊤
SameForm (Magic a) (Magic b) = ⊤
SameForm a b = ⊥

-- What was wanted and what was found are of one form, and differ.
pub record Differ (want found : FieldValue) : Type 0 where
  pub form : SameForm want found
  pub values : want ≢ found
