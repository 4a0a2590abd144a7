-- What writing a stream leaves.
use Rattle.std.specs.Prelude.{ℕ, ◌≡◌, ◌≤◌, ◌<◌, ◌^◌, ⊤, Bool, true, false, IsTrue, List, [], ◌++◌, length, map}
use Rattle.vt_base.specs.Bytes.{AreBytes}
use Rattle.vt_model.specs.History.{Block}
use Rattle.vt_tree.specs.declared.entry.Entry.{Entry}
use Rattle.vt_tree.specs.declared.error.TreeErr.{TreeErr}
use Rattle.vt_tree.specs.declared.error.TreeErr.TheVariants.{Block as BlockRefused, SourceFault, BadEntry, BadBlock, TooLong, NoMemory}
use Rattle.vt_tree.specs.Calls.{Call, asked_of, write_of_block, refusals_of}
use Rattle.vt_tree.specs.Content.{IsFileContent}
use Rattle.vt_tree.specs.Making.{Makes, EndsBy, after_all}
use Rattle.vt_tree.specs.Maps.{Maps, with_blocks}
use Rattle.vt_tree.specs.Reading.{refusal_in}
use Rattle.vt_tree.specs.Streams.{Shape, stream_of, entry_of_stream}

-- bytes that were taken from the front of a source, which are those that it tells, if it does
pub record IsTaken (tells : Bool) (old new taken : List ℕ) : Type 0 where
  pub bytes : AreBytes taken
  pub front : IsTrue tells → old ≡ taken ++ new

-- all that a source has left, which are the bytes that it tells, if it does
abbrev pub IsAll : (tells : Bool) → (left bytes : List ℕ) → Type 0
IsAll tells left bytes = IsTaken tells left [] bytes

-- all was taken
pub record IsTakenWhole (tells : Bool) (old new taken : List ℕ) : Type 0 where
  pub front : IsTaken tells old new taken
  pub end : IsTrue tells → new ≡ []

-- A store that held these maps holds the blocks of a stream too, and the entry's content is the
-- stream.
pub record KeepsStream {S : Type 0} (holds : S → Maps → Type 0) (score_of : List ℕ → List ℕ)
    (s' : S) (m : Maps) (blocks : List Block) (e : Entry) (bytes : List ℕ) : Type 0 where
  pub held : holds s' (record m { held = with_blocks score_of blocks m.held })
  pub content : IsFileContent (with_blocks score_of blocks m.held) e bytes

-- A stream was written whole: the blocks of its tree were put, each once, each behind those that it
-- names, and nothing else was asked for; and the entry stands for it.
pub record WritesStream {S : Type 0} (does : S → Call → S → Type 0) (holds : S → Maps → Type 0)
    (score_of : List ℕ → List ℕ) (s s' : S) (shape : Shape) (taken : List ℕ → Type 0) (e : Entry)
    : Type 0 where
  pub bytes : List ℕ
  pub is_taken : taken bytes
  pub most : length bytes ≤ 2 ^ 40
  pub entry_is : e ≡ entry_of_stream score_of shape bytes
  pub calls : List Call
  pub made : Makes does s calls s'
  pub accepted : refusals_of calls ≡ []
  pub puts : map asked_of calls ≡ map write_of_block (stream_of score_of shape bytes).blocks
  pub keeps : (m : Maps) → holds s m
      → KeepsStream holds score_of s' m (stream_of score_of shape bytes).blocks e bytes

-- when a stream of so many bytes is given up; a failed source has its count
abbrev pub IsGivenUpFor : TreeErr → (len : ℕ) → Type 0
IsGivenUpFor (BlockRefused err) len = ⊤
IsGivenUpFor SourceFault len = ⊤
IsGivenUpFor (BadEntry bad) len = ⊥
IsGivenUpFor (BadBlock depth bytes) len = ⊥
IsGivenUpFor TooLong len = 2 ^ 40 < len
IsGivenUpFor NoMemory len = ⊤

-- Whether an error tells of a failed read of what is written.
abbrev pub is_source_fault : TreeErr → Bool
is_source_fault (BlockRefused err) = false
is_source_fault SourceFault = true
is_source_fault (BadEntry bad) = false
is_source_fault (BadBlock depth len) = false
is_source_fault TooLong = false
is_source_fault NoMemory = false

-- A stream was given up: of its tree the first blocks were put, and nothing else was asked for. No
-- call was refused but the last, where that is told.
pub record GivesUpStream {S : Type 0} (does : S → Call → S → Type 0) (holds : S → Maps → Type 0)
    (score_of : List ℕ → List ℕ) (s s' : S) (shape : Shape) (stream : List ℕ → Type 0)
    (err : TreeErr) : Type 0 where
  pub bytes : List ℕ
  pub is : stream bytes
  pub cause : IsGivenUpFor err (length bytes)
  pub calls : List Call
  pub made : Makes does s calls s'
  pub refused : EndsBy (refusal_in err) calls
  pub rest : List Block
  pub puts : map asked_of calls ++ map write_of_block rest
      ≡ map write_of_block (stream_of score_of shape bytes).blocks
  pub keeps : (m : Maps) → holds s m → holds s' (after_all score_of calls m)
