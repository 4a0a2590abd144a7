-- What is kept of the way of the last reading, and what a reading by it asks for.
use Rattle.std.specs.Prelude.{ℕ, zero, suc, ◌≡◌, ◌≢◌, ◌-◌, ◌==◌, ◌≤◌, ◌⊎◌, Bool, true, false, is_some, min, if◌then◌else◌, IfErr, Option, Some, None, Result, Ok, Err, List, [], ◌∷◌, length, map}
use Rattle.std.specs.List.{AllByRecursion}
use Rattle.std.specs.Str.{bytes_eq}
use Rattle.vt_base.specs.declared.TheConstants.{MAX_BLOCK}
use Rattle.vac_read.specs.declared.TheConstants.{MAX_WAY}
use Rattle.vt_tree.specs.declared.entry.Entry.{Entry}
use Rattle.vt_tree.specs.declared.error.BlockErr.TheVariants as block_errs
use Rattle.vt_tree.specs.declared.error.TreeErr.{TreeErr}
use Rattle.vt_tree.specs.declared.error.TreeErr.TheVariants as errs
use Rattle.vac_read.specs.declared.last_way.WayBlock.{WayBlock}
use Rattle.vt_tree.specs.Calls.{Call, get, put, sync, asked_of, refusal_of, IsGet, TellsOfMap}
use Rattle.vt_tree.specs.Content.{byte_of, size_of, way_to}
use Rattle.vt_tree.specs.Making.{Makes, EndsBy}
use Rattle.vt_tree.specs.Maps.{BlockMap, Maps, IsWriteOnce}
use Rattle.vt_tree.specs.Reading.{AsksFor, EndsBadly, GivesBytes, IsOfEntry, refused_by, unfit}
use Rattle.vac_read.specs.declared.error.VacBad.{VacBad}
use Rattle.vac_read.specs.declared.node.Stored.{Stored}
use Rattle.vac_read.specs.declared.node.Stored.TheVariants as stored
use Rattle.vac_read.specs.Reading.{of_tree}

-- ---- what is kept

-- The bytes of the block of this type and score, if they are kept: at most one block of a type is.
abbrev pub kept_of : (kind : ℕ) → (score : List ℕ) → List WayBlock → Option (List ℕ)
kept_of kind score [] = None
kept_of kind score (b ∷ way) =
    if b.kind == kind then (if bytes_eq b.score.0 score then Some b.bytes else None)
    else kept_of kind score way

-- With this block in place of that of its type; it isn't kept where so many others are.
abbrev pub keeping : (most : ℕ) → WayBlock → List WayBlock → List WayBlock
keeping zero b way = way
keeping (suc most) b [] = b ∷ []
keeping (suc most) b (a ∷ way) = if a.kind == b.kind then b ∷ way else a ∷ keeping most b way

-- blocks of at most so many bytes, and not more of them than may be
pub record IsBoundedWay (way : List WayBlock) : Type 0 where
  pub few : length way ≤ MAX_WAY
  pub each : AllByRecursion (λ b. length b.bytes ≤ MAX_BLOCK) way

-- all that is kept is what the map has
abbrev pub IsRightWay : BlockMap → List WayBlock → Type 0
IsRightWay map way = AllByRecursion (λ b. map b.score.0 b.kind ≡ Some b.bytes) way

-- ---- what is asked for

-- whether what is asked for is kept
abbrev pub is_kept : List WayBlock → Call → Bool
is_kept way (get kind s answer) = is_some (kept_of kind s way)
is_kept way (put b answer) = false
is_kept way (sync answer) = false

-- what is kept behind a call of the store
abbrev pub behind_call : Call → List WayBlock → List WayBlock
behind_call (get kind s (Ok bytes)) way =
    keeping MAX_WAY (record { kind = kind; score = record { 0 = s }; bytes = bytes }) way
behind_call (get kind s (Err err)) way = way
behind_call (put b answer) way = way
behind_call (sync answer) way = way

-- of what is wanted, one block after another, what the store is asked for
abbrev pub unkept : List WayBlock → (wanted : List Call) → List Call
unkept way [] = []
unkept way (call ∷ wanted) =
    if is_kept way call then unkept way wanted else call ∷ unkept (behind_call call way) wanted

-- what is kept behind that
abbrev pub way_behind : List WayBlock → (wanted : List Call) → List WayBlock
way_behind way [] = way
way_behind way (call ∷ wanted) =
    if is_kept way call then way_behind way wanted else way_behind (behind_call call way) wanted

-- of what is wanted a part was called for, each once, in its order
abbrev pub ArePart : (calls wanted : List Call) → Type 0
ArePart calls [] = calls ≡ []
ArePart calls (call ∷ wanted) =
    ArePart calls wanted
    ⊎ ((rest : List Call) × (calls ≡ call ∷ rest) × ArePart rest wanted)

-- ---- a reading

-- So many bytes of a file from a place on were read, where this was kept of the way of the last reading, and this is
-- behind it: at most the blocks on the way to these bytes were asked for, each once, and nothing else; none was refused
-- but the last, where that is told, and a bad block is the last that was wanted. By each write-once map of which the
-- answers are true, and by which what was kept is right, what was wanted came as the map has it, the bytes are the
-- file's, and what is kept now is right. But for want of memory, just what was not kept was asked for, and what came is
-- kept.
pub record ReadsOnWay {S : Type 0} (does : S → Call → S → Type 0)
    (score_of : List ℕ → List ℕ) (s s' : S) (old new : List WayBlock) (e : Entry) (at len : ℕ)
    (result : Result (List ℕ) TreeErr) : Type 0 where
  pub wanted : List Call
  pub calls : List Call
  pub made : Makes does s calls s'
  pub gets : AllByRecursion IsGet calls
  pub part : ArePart calls wanted
  pub exact : result ≢ Err errs.NoMemory
      → (calls ≡ unkept old wanted) × (new ≡ way_behind old wanted)
  pub refused : EndsBy (refused_by result) calls
  pub bad : EndsBadly e result wanted
  pub asked : (blocks : BlockMap) → IsWriteOnce score_of blocks
      → AllByRecursion (TellsOfMap score_of blocks) calls → IsRightWay blocks old
      → AsksFor result (map asked_of wanted) (way_to (score_of []) blocks e at len)
  pub gives : (blocks : BlockMap) → IsWriteOnce score_of blocks
      → AllByRecursion (TellsOfMap score_of blocks) calls → IsRightWay blocks old
      → GivesBytes (byte_of blocks e) at len result
  pub came : (blocks : BlockMap) → AllByRecursion (TellsOfMap score_of blocks) calls
      → IsRightWay blocks old → AllByRecursion (TellsOfMap score_of blocks) wanted
  pub right : (blocks : BlockMap) → AllByRecursion (TellsOfMap score_of blocks) calls
      → IsRightWay blocks old → IsRightWay blocks new

-- So many bytes of a file from a place on were read, as a reader of an archive tells it: at most the blocks on the way
-- to them were asked for, or none where its entry says that nothing is read. A store that tells what it holds holds the
-- same afterwards; and where what was kept is right by that, the bytes are, and what is kept now.
pub record ReadsFileOnWay {S : Type 0} (does : S → Call → S → Type 0) (holds : S → Maps → Type 0)
    (score_of : List ℕ → List ℕ) (s s' : S) (old new : List WayBlock) (e : Entry) (at len : ℕ)
    (result : Result (List ℕ) VacBad) : Type 0 where
  pub answer : Result (List ℕ) TreeErr
  pub is : result ≡ of_tree answer
  pub reads : ReadsOnWay does score_of s s' old new e at len answer
  pub held : (m : Maps) → holds s m → holds s' m
      × (IsRightWay m.held old
      → IsRightWay m.held new × GivesBytes (byte_of m.held e) at len answer)
  pub unread : (err : TreeErr) → unfit e ≡ Some err
      → (answer ≡ Err err) × (s' ≡ s) × (new ≡ old)
  pub fit : IfErr answer (λ err. IsOfEntry err → unfit e ≡ Some err)

-- A folder has no bytes, and nothing is asked for.
abbrev pub ReadsNodeOnWay : {S : Type 0} → (does : S → Call → S → Type 0)
    → (holds : S → Maps → Type 0) → (score_of : List ℕ → List ℕ) → (s s' : S)
    → (old new : List WayBlock) → Stored → (at n : ℕ) → Result (List ℕ) VacBad → Type 0
ReadsNodeOnWay does holds score_of s s' old new (stored.File e) at n result =
    ReadsFileOnWay does holds score_of s s' old new e at (min n (size_of e - at)) result
ReadsNodeOnWay does holds score_of s s' old new (stored.Folder entries metadata) at n result =
    (result ≡ Ok []) × (s' ≡ s) × (new ≡ old)

-- ---- one call

-- what is asked for is kept, and answered so
abbrev pub IsKeptCall : List WayBlock → Call → Type 0
IsKeptCall way (get kind s answer) =
    (bytes : List ℕ) × (kept_of kind s way ≡ Some bytes) × (answer ≡ Ok bytes)
IsKeptCall way (put b answer) = ⊥
IsKeptCall way (sync answer) = ⊥

-- what is asked for isn't there, since memory is short
abbrev pub IsShortCall : Call → Type 0
IsShortCall (get kind s answer) = answer ≡ Err block_errs.NoMemory
IsShortCall (put b answer) = ⊥
IsShortCall (sync answer) = ⊥

-- A call was answered by what is kept; or the store was called, where that wasn't kept, and what came is kept. Where
-- memory was short for a copy, that is noted, nothing is said of what was kept or is, and no more blocks are asked for.
abbrev pub DoesOnWay : {S : Type 0} → (does : S → Call → S → Type 0) → (s s' : S)
    → (old new : List WayBlock) → (short short' : Bool) → Call → Type 0
DoesOnWay does s s' old new short short' call =
    (IsKeptCall old call × (s' ≡ s) × (new ≡ old) × (short' ≡ short))
    ⊎ (does s call s' × ((new ≡ old) ⊎ (new ≡ behind_call call old))
    × (short' ≡ false → (short ≡ false) × (is_kept old call ≡ false) × (new ≡ behind_call call old))
    × (IsGet call → short' ≡ true → refusal_of call ≡ None))
    ⊎ (IsShortCall call × (s' ≡ s) × (new ≡ old) × (short' ≡ true))
