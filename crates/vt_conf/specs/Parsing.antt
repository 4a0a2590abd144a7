-- What the steps of reading a configuration leave.
use Rattle.std.specs.Prelude.{ℕ, ◌≡◌, ◌<◌, ◌⊎◌, ⊤, nat_le, if◌then◌else◌, All, List, [], ◌∷◌, ◌++◌, length, drop}
use Rattle.vt_conf.specs.declared.setting.Setting.{Setting}
use Rattle.vt_conf.specs.declared.error.ConfErr.{ConfErr}
use Rattle.vt_conf.specs.declared.error.ConfErr.TheVariants.{Bad, NoMemory}
use Rattle.vt_conf.specs.declared.error.ConfCause.{ConfCause}
use Rattle.vt_conf.specs.Configuration.{Entry, SetsSetting, RefusesLine, said}
use Rattle.vt_conf.specs.Keywords.{most_lines}
use Rattle.vt_conf.specs.Lines.{lines_of, words_of_line}
use Rattle.vt_conf.specs.Settings.{IsValue}

-- the configuration is refused for this, or memory ran out
abbrev pub IsBad : (IsCause : (line : ℕ) → ConfCause → Type 0) → ConfErr → Type 0
IsBad IsCause (Bad bad) = IsCause bad.line bad.why
IsBad IsCause NoMemory = ⊤

-- the lines from this place of the text on, at which one begins, or which is behind the text
abbrev pub lines_left : (text : List ℕ) → (start : ℕ) → List (List ℕ)
lines_left text start = if nat_le start (length text) then lines_of (drop start text) else []

-- the line of this number, as far as it has words
abbrev pub line_entry : (number : ℕ) → (line : List ℕ) → Entry
line_entry number line = record { line = number; words = words_of_line line }

-- the line has no words, or sets one thing more, for which there was room
abbrev pub AddsLine : (number : ℕ) → (line : List ℕ) → (old new : List Setting) → Type 0
AddsLine number line old new =
    ((words_of_line line ≡ []) × (new ≡ old))
    ⊎ ((setting : Setting) × (new ≡ old ++ setting ∷ [])
    × SetsSetting (line_entry number line) setting
    × (length (said setting.keyword old) < most_lines setting.keyword))

-- the line of this number is refused
pub record IsBadLine (before : List Setting) (number : ℕ) (text : List ℕ) (line : ℕ)
    (why : ConfCause)
    : Type 0 where
  pub line_is : line ≡ number
  pub refused : RefusesLine before (line_entry number text) why

-- each value is one that its keyword may have
abbrev pub HaveValues : List Setting → Type 0
HaveValues settings = All (λ setting. IsValue setting.keyword setting.value) settings
