-- The lines of a configuration and their words (venti.conf(6)).
use Rattle.std.specs.Prelude.{ℕ, ◌==◌, ◌-◌, ◌||◌, ◌&&◌, not, Bool, List, slice_index, length, nat_lt, filter, take_while}
use Rattle.std.specs.List.{slice_split}

-- a line ends with a newline or with the text
abbrev pub lines_of : List ℕ → List (List ℕ)
lines_of text = slice_split (λ b. b == 10) text

-- a byte 13 is the last of the line, as it is where lines end as those of DOS do
abbrev pub ends_in_return : List ℕ → Bool
ends_in_return line = nat_lt 0 (length line) && (slice_index line (length line - 1) == 13)

-- a space or a tab
abbrev pub is_blank : ℕ → Bool
is_blank b = b == 32 || b == 9

-- Whether a piece of a line is no word.
abbrev pub is_empty : List ℕ → Bool
is_empty word = length word == 0

-- a word that begins with `#`
abbrev pub is_comment : List ℕ → Bool
is_comment word = slice_index word 0 == 35

-- what stands between blanks, up to a comment
abbrev pub words_of_line : List ℕ → List (List ℕ)
words_of_line line = take_while (λ word. not (is_comment word))
    (filter (λ word. not (is_empty word)) (slice_split is_blank line))
