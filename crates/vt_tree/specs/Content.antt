-- The bytes of a file that an entry stands for (venti(6)): its leaves, each of which is found
-- through as many pointer blocks as the entry's depth says.
use Rattle.std.specs.Prelude.{ℕ, zero, suc, ◌≡◌, ◌+◌, ◌-◌, ◌*◌, ◌/◌, ◌%◌, ◌<◌, ◌^◌, ◌==◌, ◌&&◌, ◌||◌, min, nat_lt, nat_le, Bool, if◌then◌else◌, Option, Some, None, Result, Ok, Err, List, [], ◌∷◌, length, take, drop, slice_index}
use Rattle.std.specs.List.{range_with_len, flat_map}
use Rattle.std.specs.Str.{bytes_eq}
use Rattle.vt_base.specs.Protocol.{Operation, read}
use Rattle.vt_base.specs.declared.TheConstants.{MAX_BLOCK}
use Rattle.vt_tree.specs.declared.entry.Entry.{Entry}
use Rattle.vt_tree.specs.declared.plain.ContentError.{ContentError}
use Rattle.vt_tree.specs.declared.plain.ContentError.TheVariants.{Absent, BadBlock}
use Rattle.vt_tree.specs.Maps.{BlockMap}

-- how many bytes the file has; an entry that isn't active is an empty file
abbrev pub size_of : Entry → ℕ
size_of e = if e.active then e.size else 0

-- how many scores a pointer block of this size has room for
abbrev pub scores_in : (psize : ℕ) → ℕ
scores_in psize = psize / 20

-- the type of the leaves of a stream, and that of a pointer block of this depth
abbrev pub leaf_kind : (is_dir : Bool) → ℕ
leaf_kind is_dir = if is_dir then 2 else 13

-- the type of a pointer block at this depth: 3 above the leaves, one more at each step up
abbrev pub pointer_kind : (depth : ℕ) → ℕ
pointer_kind depth = 2 + depth

-- ---- one byte

-- a leaf isn't longer than dsize; a pointer block isn't longer than psize, and has whole scores
abbrev pub fits_at : Entry → (depth : ℕ) → List ℕ → Bool
fits_at e zero block = nat_le (length block) e.dsize
fits_at e (suc d) block = nat_le (length block) e.psize && length block % 20 == 0

-- a byte of a leaf, which is zero where the leaf was cut at its end
abbrev pub byte_of_leaf : Entry → (byte : ℕ) → Option (List ℕ) → Result ℕ ContentError
byte_of_leaf e byte None = Err Absent
byte_of_leaf e byte (Some block) =
    if fits_at e 0 block then Ok (slice_index block byte) else Err (BadBlock 0 (length block))

-- the score at a place of a pointer block, and none where the block was cut at its end
abbrev pub score_in : List ℕ → (place : ℕ) → Option (List ℕ)
score_in block place =
    if nat_lt (20 * place) (length block) then Some (take 20 (drop (20 * place) block)) else None

-- the score at this place of a pointer block, or why there is none
abbrev pub score_of_pointers : Entry → (depth place : ℕ) → Option (List ℕ)
    → Result (Option (List ℕ)) ContentError
score_of_pointers e depth place None = Err Absent
score_of_pointers e depth place (Some block) =
    if fits_at e depth block then Ok (score_in block place)
    else Err (BadBlock depth (length block))

-- what a score leads to, and a zero byte where none is
abbrev pub through : Result (Option (List ℕ)) ContentError → (List ℕ → Result ℕ ContentError)
    → Result ℕ ContentError
through (Err trouble) below = Err trouble
through (Ok None) below = Ok 0
through (Ok (Some score)) below = below score

-- the byte of a leaf, both by number, below as many pointer blocks as the depth says
abbrev pub byte_below : BlockMap → Entry → (depth : ℕ) → (score : List ℕ) → (leaf byte : ℕ)
    → Result ℕ ContentError
byte_below map e zero score leaf byte = byte_of_leaf e byte (map score (leaf_kind e.is_dir))
byte_below map e (suc d) score leaf byte =
    let leaves = scores_in e.psize ^ d in
    through (score_of_pointers e (suc d) (leaf / leaves) (map score (pointer_kind (suc d))))
    (λ s. byte_below map e d s (leaf % leaves) byte)

-- Byte p of the file: byte p mod dsize of leaf p / dsize, and zero where that leaf lies past what
-- the depth reaches.
abbrev pub byte_of : BlockMap → Entry → (p : ℕ) → Result ℕ ContentError
byte_of map e p =
    if nat_lt (p / e.dsize) (scores_in e.psize ^ e.depth)
    then byte_below map e e.depth e.score.0 (p / e.dsize) (p % e.dsize)
    else Ok 0

-- ---- many bytes

-- the bytes are those that this gives from a place on
abbrev pub AreGiven : (ℕ → Result ℕ ContentError) → (at : ℕ) → List ℕ → Type 0
AreGiven byte at bytes =
    (i : ℕ) → i < length bytes → byte (at + i) ≡ Ok (slice_index bytes i)

-- a byte among these has this trouble, and none before it has any
pub record FirstTrouble (byte : ℕ → Result ℕ ContentError) (at len : ℕ) (trouble : ContentError)
    : Type 0 where
  pub place : ℕ
  pub within : place < len
  pub has : byte (at + place) ≡ Err trouble
  pub before : (k : ℕ) → k < place → (b : ℕ) × (byte (at + k) ≡ Ok b)

-- the bytes are the whole file
pub record IsFileContent (map : BlockMap) (e : Entry) (bytes : List ℕ) : Type 0 where
  pub all : length bytes ≡ size_of e
  pub each : AreGiven (byte_of map e) 0 bytes

-- ---- the blocks on the way to bytes

-- what a score leads to, if one is there
abbrev pub led : Result (Option (List ℕ)) ContentError → (List ℕ → List Operation) → List Operation
led (Err trouble) below = []
led (Ok None) below = []
led (Ok (Some score)) below = below score

-- The blocks on the way to the leaves from `first` up to `end`, below the scores at the places of a
-- pointer block that has so many leaves below each; `way` gives those below a score.
abbrev pub way_through : (leaves : ℕ) → (score_at : ℕ → Result (Option (List ℕ)) ContentError)
    → (way : List ℕ → (first end : ℕ) → List Operation) → (first end : ℕ) → List Operation
way_through leaves score_at way first end = flat_map
    (λ place. led (score_at place)
    (λ s. way s (first - place * leaves) (min (end - place * leaves) leaves)))
    (range_with_len (first / leaves) ((end - 1) / leaves + 1 - first / leaves))

-- The blocks on the way to the leaves from `first` up to `end`, below a score, that one's block
-- first; there is no block below the zero score.
abbrev pub way_below : (zero_score : List ℕ) → BlockMap → Entry → (depth : ℕ) → (score : List ℕ)
    → (first end : ℕ) → List Operation
way_below zero_score map e zero score first end =
    if bytes_eq score zero_score then [] else read score (leaf_kind e.is_dir) MAX_BLOCK ∷ []
way_below zero_score map e (suc d) score first end =
    let kind = pointer_kind (suc d) in
    if bytes_eq score zero_score then []
    else read score kind MAX_BLOCK ∷ way_through (scores_in e.psize ^ d)
    (λ place. score_of_pointers e (suc d) place (map score kind))
    (way_below zero_score map e d) first end

-- the blocks on the way to so many bytes of a file from a place on, as far as the depth reaches
abbrev pub way_to : (zero_score : List ℕ) → BlockMap → Entry → (at len : ℕ) → List Operation
way_to zero_score map e at len =
    let leaves = scores_in e.psize ^ e.depth in
    if len == 0 || nat_le leaves (at / e.dsize) then []
    else way_below zero_score map e e.depth e.score.0 (at / e.dsize)
    (min ((at + len - 1) / e.dsize + 1) leaves)
