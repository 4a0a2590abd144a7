-- What is left out of an archive, and how its path is told.
use Rattle.std.specs.Prelude.{ℕ, ◌+◌, ◌/◌, ◌%◌, ◌==◌, ◌||◌, nat_lt, is_some, position, Bool, false, if◌then◌else◌, List, [], ◌∷◌, ◌++◌, codes, map}
use Rattle.std.specs.List.{concat}
use Rattle.vac_write.specs.declared.archived.Archived.{Archived}

-- ---- paths

-- a control character of ASCII
abbrev pub is_control : ℕ → Bool
is_control b = nat_lt b 32 || b == 127

-- a quote or a backslash
abbrev pub is_quote : ℕ → Bool
is_quote b = b == 34 || b == 92

-- a byte between quotes: a control character by three octal digits, and a quote or a backslash, each
-- behind a backslash
abbrev pub escaped : ℕ → List ℕ
escaped b = if is_control b
    then (92 ∷ ((48 + b / 64) ∷ ((48 + (b / 8) % 8) ∷ ((48 + b % 8) ∷ []))))
    else (if is_quote b then (92 ∷ (b ∷ [])) else (b ∷ []))

-- a path between quotes
abbrev pub in_quotes : (path : List ℕ) → List ℕ
in_quotes path = 34 ∷ (concat (map escaped path) ++ 34 ∷ [])

-- whether a path begins with a quote
abbrev pub begins_with_quote : (path : List ℕ) → Bool
begins_with_quote [] = false
begins_with_quote (b ∷ path) = b == 34

-- whether it has to be told in quotes: else it wouldn't stay in its line, or were told as one in quotes
abbrev pub wants_quotes : (path : List ℕ) → Bool
wants_quotes path = begins_with_quote path || is_some (position is_control path)

-- a path as it is told: in quotes, where it begins with a quote or holds a control character
abbrev pub quoted : (path : List ℕ) → List ℕ
quoted path = if wants_quotes path then in_quotes path else path

-- ---- lines

-- a line for a path, behind these words
abbrev pub path_line : (words : List ℕ) → (path : List ℕ) → List ℕ
path_line words path = codes "venti: " ++ (words ++ (quoted path ++ 10 ∷ []))

-- a line for each path
abbrev pub path_lines : (words : List ℕ) → (paths : List (List ℕ)) → List ℕ
path_lines words paths = concat (map (path_line words) paths)

-- what is told of an archive: each item that is neither a file nor a folder, and then each file and
-- folder of which a call has failed
abbrev pub left_out_lines : Archived → List ℕ
left_out_lines archived =
    path_lines (codes "skipped ") archived.skipped ++ path_lines (codes "can't read ") archived.failed
