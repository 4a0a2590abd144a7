-- What reading a part of a file gives.
use Rattle.std.specs.Prelude.{ℕ, ◌≡◌, ◌^◌, ⊤, false, nat_lt, if◌then◌else◌, Option, Some, None, Result, Ok, Err, List, [], ◌∷◌, ◌++◌, length, map}
use Rattle.std.specs.List.{AllByRecursion}
use Rattle.vt_base.specs.Protocol.{Operation}
use Rattle.vt_tree.specs.declared.entry.Entry.{Entry}
use Rattle.vt_tree.specs.declared.entry.EntryError.{EntryError}
use Rattle.vt_tree.specs.declared.error.BlockErr.{BlockErr}
use Rattle.vt_tree.specs.declared.error.TreeErr.{TreeErr}
use Rattle.vt_tree.specs.declared.error.TreeErr.TheVariants as errs
use Rattle.vt_tree.specs.declared.plain.ContentError.{ContentError}
use Rattle.vt_tree.specs.declared.plain.ContentError.TheVariants.{Absent, BadBlock}
use Rattle.vt_tree.specs.Calls.{Call, get, asked_of, IsGet, IsBlockRefusal, TellsOfMap}
use Rattle.vt_tree.specs.Content.{size_of, fits_at, byte_of}
use Rattle.vt_tree.specs.Content.{AreGiven, FirstTrouble, way_to}
use Rattle.vt_tree.specs.Entries.{entry_fault}
use Rattle.vt_tree.specs.Making.{Makes, EndsBy}
use Rattle.vt_tree.specs.Maps.{BlockMap, IsWriteOnce}

-- Why nothing of an entry's file is read, whatever its blocks are: a field that can't stand there,
-- or more than 2^40 bytes.
abbrev pub unfit_by : Option EntryError → (size : ℕ) → Option TreeErr
unfit_by (Some bad) size = Some (errs.BadEntry bad)
unfit_by None size = if nat_lt (2 ^ 40) size then Some errs.TooLong else None

-- why nothing is read by this entry, if that is so
abbrev pub unfit : Entry → Option TreeErr
unfit e = unfit_by (entry_fault e) (size_of e)

-- The refusal is neither about a block nor want of memory, but about the entry.
abbrev pub IsOfEntry : TreeErr → Type 0
IsOfEntry (errs.Block err) = ⊥
IsOfEntry errs.SourceFault = ⊤
IsOfEntry (errs.BadEntry bad) = ⊤
IsOfEntry (errs.BadBlock depth len) = ⊥
IsOfEntry errs.TooLong = ⊤
IsOfEntry errs.NoMemory = ⊥

-- What a reading gives of the bytes from a place on: these, or the first trouble that one of them
-- has.
abbrev pub GivesBytes : (ℕ → Result ℕ ContentError) → (at len : ℕ) → Result (List ℕ) TreeErr
    → Type 0
GivesBytes byte at len (Ok bytes) = (length bytes ≡ len) × AreGiven byte at bytes
GivesBytes byte at len (Err (errs.Block err)) = IsBlockRefusal err → FirstTrouble byte at len Absent
GivesBytes byte at len (Err errs.SourceFault) = ⊤
GivesBytes byte at len (Err (errs.BadEntry bad)) = ⊤
GivesBytes byte at len (Err (errs.BadBlock depth size)) =
    FirstTrouble byte at len (BadBlock depth size)
GivesBytes byte at len (Err errs.TooLong) = ⊤
GivesBytes byte at len (Err errs.NoMemory) = ⊤

-- the refusal of a call that is handed on, if one is
abbrev pub refusal_in : TreeErr → Option BlockErr
refusal_in (errs.Block err) = Some err
refusal_in errs.SourceFault = None
refusal_in (errs.BadEntry bad) = None
refusal_in (errs.BadBlock depth len) = None
refusal_in errs.TooLong = None
refusal_in errs.NoMemory = None

-- why the store of blocks refused a block, if that is what failed
abbrev pub refused_by : {X : Type 0} → Result X TreeErr → Option BlockErr
refused_by (Ok x) = None
refused_by (Err err) = refusal_in err

-- the block that came last doesn't fit the entry at this depth, and has so many bytes
pub record IsBadLast (e : Entry) (depth len : ℕ) (calls : List Call) : Type 0 where
  pub before : List Call
  pub kind : ℕ
  pub score : List ℕ
  pub block : List ℕ
  pub are : calls ≡ before ++ get kind score (Ok block) ∷ []
  pub unfit : fits_at e depth block ≡ false
  pub len_is : len ≡ length block

-- where a bad block is told, it is the one that came last
abbrev pub EndsBadlyBy : Entry → TreeErr → List Call → Type 0
EndsBadlyBy e (errs.Block err) calls = ⊤
EndsBadlyBy e errs.SourceFault calls = ⊤
EndsBadlyBy e (errs.BadEntry bad) calls = ⊤
EndsBadlyBy e (errs.BadBlock depth len) calls = IsBadLast e depth len calls
EndsBadlyBy e errs.TooLong calls = ⊤
EndsBadlyBy e errs.NoMemory calls = ⊤

-- Where a read fails, the calls that were made show why.
abbrev pub EndsBadly : {X : Type 0} → Entry → Result X TreeErr → List Call → Type 0
EndsBadly e (Ok x) calls = ⊤
EndsBadly e (Err err) calls = EndsBadlyBy e err calls

-- just these were asked for; or, where it ended before, the first of them
abbrev pub AsksFor : {X E : Type 0} → Result X E → (asked wanted : List Operation) → Type 0
AsksFor (Ok x) asked wanted = asked ≡ wanted
AsksFor (Err err) asked wanted = (rest : List Operation) × (asked ++ rest ≡ wanted)

-- So many bytes of a file from a place on were read: blocks were asked for, and nothing else; none
-- was refused but the last, where that is told, and a bad block is the last that came; and by each
-- write-once map of which the answers are true, just the blocks on the way to these bytes were
-- asked for, each once, and the bytes are the file's.
pub record ReadsRange {S : Type 0} (does : S → Call → S → Type 0)
    (score_of : List ℕ → List ℕ) (s s' : S) (e : Entry) (at len : ℕ)
    (result : Result (List ℕ) TreeErr) : Type 0 where
  pub calls : List Call
  pub made : Makes does s calls s'
  pub gets : AllByRecursion IsGet calls
  pub refused : EndsBy (refused_by result) calls
  pub bad : EndsBadly e result calls
  pub asked : (blocks : BlockMap) → IsWriteOnce score_of blocks
      → AllByRecursion (TellsOfMap score_of blocks) calls
      → AsksFor result (map asked_of calls) (way_to (score_of []) blocks e at len)
  pub gives : (blocks : BlockMap) → IsWriteOnce score_of blocks
      → AllByRecursion (TellsOfMap score_of blocks) calls
      → GivesBytes (byte_of blocks e) at len result
