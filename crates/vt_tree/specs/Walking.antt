-- The parts of a reading: what is asked for below one score, and below those of a pointer block.
use Rattle.std.specs.Prelude.{ℕ, ◌≡◌, ◌+◌, ◌-◌, ◌*◌, ◌/◌, ◌%◌, ◌^◌, true, false, OnOk, Result, Ok, Err, List, [], ◌++◌, length, map, take, drop, replicate, IfErr, MatchResult}
use Rattle.std.specs.List.{AllByRecursion}
use Rattle.vt_base.specs.Protocol.{Operation}
use Rattle.vt_tree.specs.declared.entry.Entry.{Entry}
use Rattle.vt_tree.specs.declared.error.TreeErr.{TreeErr}
use Rattle.vt_tree.specs.declared.error.TreeErr.TheVariants as errs
use Rattle.vt_tree.specs.declared.plain.ContentError.{ContentError}
use Rattle.vt_tree.specs.Calls.{Call, get, asked_of, IsGet, TellsOfMap}
use Rattle.vt_tree.specs.Content.{scores_in, fits_at, score_in, through, byte_below, byte_of}
use Rattle.vt_tree.specs.Content.{led, way_below, way_through, way_to}
use Rattle.vt_tree.specs.Making.{Makes, EndsBy}
use Rattle.vt_tree.specs.Maps.{BlockMap, IsWriteOnce}
use Rattle.vt_tree.specs.Reading.{IsOfEntry, GivesBytes, EndsBadly, refused_by, AsksFor}

-- a block that was asked for, and whether it fits
abbrev pub ReadsBlock : {S : Type 0} → (does : S → Call → S → Type 0) → (s s' : S) → Entry
    → (depth kind : ℕ) → (score : List ℕ) → Result (List ℕ) TreeErr → Type 0
ReadsBlock does s s' e depth kind score (Ok block) =
    does s (get kind score (Ok block)) s' × (fits_at e depth block ≡ true)
ReadsBlock does s s' e depth kind score (Err (errs.Block err)) =
    does s (get kind score (Err err)) s'
ReadsBlock does s s' e depth kind score (Err errs.SourceFault) = ⊥
ReadsBlock does s s' e depth kind score (Err (errs.BadEntry bad)) = ⊥
ReadsBlock does s s' e depth kind score (Err (errs.BadBlock at len)) =
    (block : List ℕ) × does s (get kind score (Ok block)) s' × (fits_at e depth block ≡ false)
    × (at ≡ depth) × (len ≡ length block)
ReadsBlock does s s' e depth kind score (Err errs.TooLong) = ⊥
ReadsBlock does s s' e depth kind score (Err errs.NoMemory) = ⊥

-- bytes of a leaf from a place on, with the zeros that were cut from its end
abbrev pub cut_out : (leaf : List ℕ) → (from len : ℕ) → List ℕ
cut_out leaf from len =
    let bytes = take len (drop from leaf) in bytes ++ replicate (len - length bytes) 0

-- these bytes were appended to a buffer, unless memory was short
abbrev pub AppendsBytes : (bytes old new : List ℕ) → Result (Unit {0}) TreeErr → Type 0
AppendsBytes bytes old new result =
    MatchResult result (λ _. new ≡ old ++ bytes) (λ err. err ≡ errs.NoMemory)

-- bytes where a reading went well, and else its refusal
abbrev pub answered_bytes : Result (Unit {0}) TreeErr → List ℕ → Result (List ℕ) TreeErr
answered_bytes (Ok done) bytes = Ok bytes
answered_bytes (Err err) bytes = Err err

-- So many bytes from a place on were appended to a buffer: those that `byte` gives, and the blocks
-- asked for are those on `way`. Both are taken from a write-once map of which the answers are true.
pub record AppendsRange {S : Type 0} (does : S → Call → S → Type 0) (score_of : List ℕ → List ℕ)
    (e : Entry) (s s' : S) (byte : BlockMap → ℕ → Result ℕ ContentError)
    (way : BlockMap → List Operation)
    (from len : ℕ) (old new : List ℕ) (result : Result (Unit {0}) TreeErr) : Type 0 where
  pub calls : List Call
  pub made : Makes does s calls s'
  pub gets : AllByRecursion IsGet calls
  pub refused : EndsBy (refused_by result) calls
  pub about : IfErr result (λ err. ¬ IsOfEntry err)
  pub bad : EndsBadly e result calls
  pub bytes : List ℕ
  pub appended : OnOk result ((new ≡ old ++ bytes) × (length bytes ≡ len))
  pub asked : (blocks : BlockMap) → IsWriteOnce score_of blocks
      → AllByRecursion (TellsOfMap score_of blocks) calls
      → AsksFor result (map asked_of calls) (way blocks)
  pub gives : (blocks : BlockMap) → IsWriteOnce score_of blocks
      → AllByRecursion (TellsOfMap score_of blocks) calls
      → GivesBytes (byte blocks) from len (answered_bytes result bytes)

-- What lies below a score in the range was appended to a buffer, and the blocks on the way there
-- were asked for.
abbrev pub ReadsBelow : {S : Type 0} → (does : S → Call → S → Type 0)
    → (score_of : List ℕ → List ℕ) → (s s' : S) → Entry → (depth : ℕ) → (score : List ℕ)
    → (from len : ℕ) → (old new : List ℕ) → Result (Unit {0}) TreeErr → Type 0
ReadsBelow does score_of s s' e depth score from len old new result =
    AppendsRange does score_of e s s'
    (λ blocks p. byte_below blocks e depth score (p / e.dsize) (p % e.dsize))
    (λ blocks. way_below (score_of []) blocks e depth score (from / e.dsize)
    ((from + len - 1) / e.dsize + 1))
    from len old new result

-- What `byte` gives below the scores of a pointer block, each of which leads d blocks further down.
abbrev pub byte_under : BlockMap → Entry → (d : ℕ) → (pointers : List ℕ) → (p : ℕ)
    → Result ℕ ContentError
byte_under blocks e d pointers p =
    let leaves = scores_in e.psize ^ d in
    through (Ok (score_in pointers (p / e.dsize / leaves)))
    (λ s. byte_below blocks e d s (p / e.dsize % leaves) (p % e.dsize))

-- what lies below these pointers in the range is put behind what was read
abbrev pub ReadsEach : {S : Type 0} → (does : S → Call → S → Type 0)
    → (score_of : List ℕ → List ℕ) → (s s' : S) → Entry → (d : ℕ) → (pointers : List ℕ)
    → (from len : ℕ) → (old new : List ℕ) → Result (Unit {0}) TreeErr → Type 0
ReadsEach does score_of s s' e d pointers from len old new result =
    AppendsRange does score_of e s s'
    (λ blocks p. byte_under blocks e d pointers p)
    (λ blocks. way_through (scores_in e.psize ^ d) (λ place. Ok (score_in pointers place))
    (way_below (score_of []) blocks e d) (from / e.dsize) ((from + len - 1) / e.dsize + 1))
    from len old new result

-- What lies below one of these pointers in the range is put behind what was read.
abbrev pub ReadsAt : {S : Type 0} → (does : S → Call → S → Type 0)
    → (score_of : List ℕ → List ℕ) → (s s' : S) → Entry → (d : ℕ) → (pointers : List ℕ)
    → (from len : ℕ) → (old new : List ℕ) → Result (Unit {0}) TreeErr → Type 0
ReadsAt does score_of s s' e d pointers from len old new result =
    let span = scores_in e.psize ^ d * e.dsize in
    let inside = from % span in
    AppendsRange does score_of e s s'
    (λ blocks p. byte_under blocks e d pointers p)
    (λ blocks. led (Ok (score_in pointers (from / span)))
    (λ s. way_below (score_of []) blocks e d s (inside / e.dsize)
    ((inside + len - 1) / e.dsize + 1)))
    from len old new result

-- What lies in the range of the whole file is put behind what was read.
abbrev pub ReadsFile : {S : Type 0} → (does : S → Call → S → Type 0)
    → (score_of : List ℕ → List ℕ) → (s s' : S) → Entry
    → (from len : ℕ) → (old new : List ℕ) → Result (Unit {0}) TreeErr → Type 0
ReadsFile does score_of s s' e from len old new result =
    AppendsRange does score_of e s s' (λ blocks p. byte_of blocks e p)
    (λ blocks. way_to (score_of []) blocks e from len) from len old new result
