-- A file that was written as a stream, and bytes in memory.
use Rattle.std.proofs.Common.{◌≡◌, ℕ, ◌≤◌, ◌^◌, Bool, true, false, List, [], ◌∷◌, ◌++◌, length, map, drop, refl, sym, ◌∙◌, ap, subst, arith, append-nil}
use Rattle.vt_base.specs.Protocol.{Operation}
use Rattle.vt_out.specs.declared.folder_item.Facts.{Facts}
use Rattle.vt_out.specs.FolderItems.{Items}
use Rattle.vt_model.specs.History.{Block}
use Rattle.vt_tree.specs.declared.entry.Entry.{Entry}
use Rattle.vt_tree.specs.declared.error.TreeErr.{TreeErr}
use Rattle.vt_tree.specs.declared.error.TreeErr.TheVariants as trees
use Rattle.vt_tree.specs.Calls.{Call, write_of_block}
use Rattle.vt_tree.specs.Making.{EndsBy}
use Rattle.vt_tree.specs.Maps.{Maps}
use Rattle.vt_tree.specs.Reading.{refusal_in}
use Rattle.vt_tree.specs.Streams.{Shape, stream_of, entry_of_stream}
use Rattle.vt_tree.specs.Writing.{IsTakenWhole, IsAll, IsGivenUpFor, WritesStream, GivesUpStream, is_source_fault}
use Rattle.vac_write.specs.Archiving.{of_stream, refusal_of, is_folder_fault}
use Rattle.vac_write.specs.Files.{IsWholeFile, IsStreamGivenUpFor, GivesUpTree}
use Rattle.vac_write.specs.Puts.{PutsBlocks, GivesUpBlocks, IsOfStore}
use Rattle.vac_write.specs.Sources.{or_none, bytes_at_path}

-- ---- the first blocks of a file's tree

-- what was asked for is a write of each of the first blocks
pub record Front (asked : List Operation) (rest blocks : List Block) : Type 0 where
  pub put : List Block
  pub behind : List Block
  pub is : asked ≡ map write_of_block put
  pub are : put ++ behind ≡ blocks

pub front_of : (asked : List Operation) (rest blocks : List Block)
    → asked ++ map write_of_block rest ≡ map write_of_block blocks → Front asked rest blocks
front_of [] rest blocks is = record {
  put = [];
  behind = blocks;
  is = refl;
  are = refl;
}
front_of (m ∷ asked) rest [] is =
    let e : m ∷ (asked ++ map write_of_block rest) ≡ [] = is in
    let never : ⊥ = cc in absurd never
front_of (m ∷ asked) rest (b ∷ blocks) is =
    let e : m ∷ (asked ++ map write_of_block rest)
    ≡ write_of_block b ∷ map write_of_block blocks = is in
    let first : m ≡ write_of_block b = cc in
    let others : asked ++ map write_of_block rest ≡ map write_of_block blocks = cc in
    let more = front_of asked rest blocks others in
    record {
      put = b ∷ more.put;
      behind = more.behind;
      is = λ i. first i ∷ more.is i;
      are = ap (λ (l : List Block). b ∷ l) more.are;
    }

-- ---- a file

-- what was taken whole of a file is the file
pub whole_file : (tells : Bool) (held : Items Facts) (path : List (List ℕ)) (new bytes : List ℕ)
    → IsTakenWhole tells (drop 0 (bytes_at_path path held)) new bytes
    → IsWholeFile tells held path bytes
whole_file tells held path new bytes taken = record {
  are = taken.front.bytes;
  is = λ telling whole there.
      sym (ap or_none there) ∙ taken.front.front telling
      ∙ ap (λ (l : List ℕ). bytes ++ l) (taken.end telling) ∙ append-nil bytes;
}

pub all_file : (tells : Bool) (held : Items Facts) (path : List (List ℕ)) (bytes : List ℕ)
    → IsAll tells (drop 0 (bytes_at_path path held)) bytes → IsWholeFile tells held path bytes
all_file tells held path bytes all = record {
  are = all.bytes;
  is = λ telling whole there.
      sym (ap or_none there) ∙ all.front telling ∙ append-nil bytes;
}

cause_of : (failed : Type 0) (err : TreeErr) (n : ℕ) → (is_source_fault err ≡ true → failed)
    → IsGivenUpFor err n → IsStreamGivenUpFor failed (of_stream err) n
cause_of failed (trees.Block err) n fault cause = tt
cause_of failed trees.SourceFault n fault cause = fault refl
cause_of failed (trees.BadEntry bad) n fault cause = cause
cause_of failed (trees.BadBlock depth len) n fault cause = cause
cause_of failed trees.TooLong n fault cause = cause
cause_of failed trees.NoMemory n fault cause = tt

ends_of : (err : TreeErr) (calls : List Call) → EndsBy (refusal_in err) calls
    → EndsBy (refusal_of (of_stream err)) calls
ends_of (trees.Block err) calls ends = ends
ends_of trees.SourceFault calls ends = ends
ends_of (trees.BadEntry bad) calls ends = ends
ends_of (trees.BadBlock depth len) calls ends = ends
ends_of trees.TooLong calls ends = ends
ends_of trees.NoMemory calls ends = ends

-- a stream's fault is the folder's
pub fault_of : (err : TreeErr) → is_folder_fault (of_stream err) ≡ is_source_fault err
fault_of (trees.Block err) = refl
fault_of trees.SourceFault = refl
fault_of (trees.BadEntry bad) = refl
fault_of (trees.BadBlock depth len) = refl
fault_of trees.TooLong = refl
fault_of trees.NoMemory = refl

-- where no fault is told, and not too many bytes came, it is of the store
pub of_store : (err : TreeErr) (n : ℕ) → IsGivenUpFor err n → is_source_fault err ≡ false
    → n ≤ 2 ^ 40 → IsOfStore (of_stream err)
of_store (trees.Block err) n cause no_fault few = tt
of_store trees.SourceFault n cause no_fault few = let never : ⊥ = cc in absurd never
of_store (trees.BadEntry bad) n cause no_fault few = cause
of_store (trees.BadBlock depth len) n cause no_fault few = cause
of_store trees.TooLong n cause no_fault few = absurd (omega arith)
of_store trees.NoMemory n cause no_fault few = tt

module _ {S : Type 0} (does : S → Call → S → Type 0) (holds : S → Maps → Type 0)
    (score_of : List ℕ → List ℕ) (s s' : S) (shape : Shape) where
  pub wrote_blocks : (taken : List ℕ → Type 0) (e : Entry)
      → (w : WritesStream does holds score_of s s' shape taken e)
      → PutsBlocks does s s' (stream_of score_of shape w.bytes).blocks
  wrote_blocks taken e w = record {
    calls = w.calls;
    made = w.made;
    accepted = w.accepted;
    puts = w.puts;
  }

  pub gave_up_blocks : (stream : List ℕ → Type 0) (err : TreeErr)
      → (t : GivesUpStream does holds score_of s s' shape stream err)
      → GivesUpBlocks does s s' (stream_of score_of shape t.bytes).blocks (of_stream err)
  gave_up_blocks stream err t = record {
    calls = t.calls;
    made = t.made;
    refused = ends_of err t.calls t.refused;
    rest = t.rest;
    puts = t.puts;
  }

  module _ (tells : Bool) (held : Items Facts) (path : List (List ℕ)) where
    -- a file that was written
    pub file_written : (new : List ℕ) (e : Entry)
        → WritesStream does holds score_of s s' shape
        (IsTakenWhole tells (drop 0 (bytes_at_path path held)) new) e
        → WritesStream does holds score_of s s' shape (IsWholeFile tells held path) e
    file_written new e wrote = record {
      bytes = wrote.bytes;
      is_taken = whole_file tells held path new wrote.bytes wrote.is_taken;
      most = wrote.most;
      entry_is = wrote.entry_is;
      calls = wrote.calls;
      made = wrote.made;
      accepted = wrote.accepted;
      puts = wrote.puts;
      keeps = wrote.keeps;
    }

    -- a file that was given up
    pub file_given_up : (failed : Type 0) (err : TreeErr) → (is_source_fault err ≡ true → failed)
        → GivesUpStream does holds score_of s s' shape
        (IsAll tells (drop 0 (bytes_at_path path held))) err
        → GivesUpTree does score_of s s' shape (IsWholeFile tells held path) failed (of_stream err)
    file_given_up failed err fault gave = record {
      bytes = gave.bytes;
      is = all_file tells held path gave.bytes gave.is;
      cause = cause_of failed err (length gave.bytes) fault gave.cause;
      given_up = gave_up_blocks (IsAll tells (drop 0 (bytes_at_path path held))) err gave;
    }

  -- bytes in memory that were written, or given up
  pub bytes_written : (bytes new : List ℕ) (e : Entry)
      → WritesStream does holds score_of s s' shape (IsTakenWhole true (drop 0 bytes) new) e
      → PutsBlocks does s s' (stream_of score_of shape bytes).blocks
      × (e ≡ entry_of_stream score_of shape bytes)
  bytes_written bytes new e w =
      let is : w.bytes ≡ bytes =
      sym (w.is_taken.front.front refl
      ∙ ap (λ (l : List ℕ). w.bytes ++ l) (w.is_taken.end refl) ∙ append-nil w.bytes) in (
        subst (λ (l : List ℕ). PutsBlocks does s s' (stream_of score_of shape l).blocks) is
            (wrote_blocks (IsTakenWhole true (drop 0 bytes) new) e w),
        w.entry_is ∙ ap (λ (l : List ℕ). entry_of_stream score_of shape l) is,
      )

  pub bytes_given_up : (bytes : List ℕ) (err : TreeErr) → length bytes ≤ 2 ^ 40
      → is_source_fault err ≡ false
      → GivesUpStream does holds score_of s s' shape (IsAll true (drop 0 bytes)) err
      → GivesUpBlocks does s s' (stream_of score_of shape bytes).blocks (of_stream err)
      × IsOfStore (of_stream err)
  bytes_given_up bytes err few no_fault t =
      let is : t.bytes ≡ bytes = sym (t.is.front refl ∙ append-nil t.bytes) in (
        subst (λ (l : List ℕ). GivesUpBlocks does s s' (stream_of score_of shape l).blocks
            (of_stream err)) is (gave_up_blocks (IsAll true (drop 0 bytes)) err t),
        of_store err (length t.bytes) t.cause no_fault (omega (arith, ap length is)),
      )
