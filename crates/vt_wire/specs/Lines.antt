-- The line with which a client begins: `venti-`, versions with colons between them, `-`, a comment
-- and a newline, as in `venti-04:02-libventi` (venti(6)). It has at most 1,024 bytes with its
-- newline.
use Rattle.std.specs.Prelude.{ℕ, ◌≡◌, ◌≢◌, ◌<◌, ◌++◌, ◌+◌, ◌==◌, nat_lt, nat_eq, Bool, true, false, if◌then◌else◌, Option, Some, None, List, [], ◌∷◌, length, take, drop, codes}
use Rattle.std.specs.List.{list_any, position, common_prefix_len, join_with_byte, AllByRecursion}
use Rattle.std.specs.Str.{bytes_eq}
use Rattle.vt_wire.specs.declared.line.TheConstants.{MAX_LINE}
use Rattle.vt_wire.specs.declared.line.Line.{Line}
use Rattle.vt_wire.specs.declared.line.Line.TheVariants.{Whole, More, Bad}

-- a version: one or more bytes other than a colon, a dash and a newline
pub record IsVersion (version : List ℕ) : Type 0 where
  pub some : 0 < length version
  pub plain : AllByRecursion (λ b. (b ≢ 58) × (b ≢ 45) × (b ≢ 10)) version

-- a line of these versions, in order, and this comment, without its newline
pub record IsLine (offered : List (List ℕ)) (comment line : List ℕ) : Type 0 where
  pub some : 0 < length offered
  pub each : AllByRecursion IsVersion offered
  pub plain : AllByRecursion (λ b. b ≢ 10) comment
  pub spelled : line ≡ codes "venti-" ++ (join_with_byte 58 offered ++ (45 ∷ comment))

-- the bytes up to the first dash, cut at colons
abbrev pub with_first : ℕ → List (List ℕ) → List (List ℕ)
with_first b [] = (b ∷ []) ∷ []
with_first b (version ∷ later) = (b ∷ version) ∷ later

-- the bytes cut at colons, up to the first hyphen
abbrev pub cut_at_colons : List ℕ → List (List ℕ)
cut_at_colons [] = [] ∷ []
cut_at_colons (b ∷ bytes) =
    if b == 58 then [] ∷ cut_at_colons bytes
    else if b == 45 then [] ∷ []
    else with_first b (cut_at_colons bytes)

-- the versions that a line offers, behind `venti-`
abbrev pub versions : List ℕ → List (List ℕ)
versions line = cut_at_colons (drop 6 line)

-- whether a version is 02
abbrev pub is_02 : List ℕ → Bool
is_02 version = bytes_eq version (codes "02")

-- whether a line of versions has 02 among them
abbrev pub offers_02 : List ℕ → Bool
offers_02 line = list_any is_02 (versions line)

-- the place of the first byte that can't stand in the versions, of which `fresh` says that one
-- begins here: a colon, a dash or the line's end where a version has no bytes yet, or the end
-- before the dash
abbrev pub wrong_version : Bool → ℕ → List ℕ → Option ℕ
wrong_version fresh place [] = Some place
wrong_version fresh place (b ∷ bytes) =
    if b == 58 then if fresh then Some place else wrong_version true (place + 1) bytes
    else if b == 45 then if fresh then Some place else None
    else wrong_version false (place + 1) bytes

-- The place of the first byte that can't stand in a whole line, which is given without its newline.
abbrev pub first_wrong_place : List ℕ → Option ℕ
first_wrong_place line =
    let same = common_prefix_len nat_eq line (codes "venti-") in
    if nat_lt same 6 then Some same else wrong_version true 6 (drop 6 line)

-- a whole line, given without its newline, and the place of its first wrong byte
abbrev pub judged : List ℕ → Option ℕ → Line
judged line None = Whole (length line + 1) (offers_02 line)
judged line (Some place) = Bad place

-- the line of an input, where the first newline among its first 1,024 bytes stands at this place,
-- if there is one
abbrev pub line_at : List ℕ → Option ℕ → Line
line_at input (Some len) = judged (take len input) (first_wrong_place (take len input))
line_at input None = if nat_lt MAX_LINE (length input) then Bad MAX_LINE else More

-- The line at the front of what a client sent. It is whole with its newline, which is among the
-- first 1,024 bytes. Where 1,025 bytes came and no newline is among the first 1,024, the line is
-- too long, whatever they are.
abbrev pub line_of : List ℕ → Line
line_of input = line_at input (position (λ b. b == 10) (take MAX_LINE input))
