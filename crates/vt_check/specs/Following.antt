-- Following the clumps of an arena, some at a time.
use Rattle.std.specs.Prelude.{All, ◌≡◌, ⊤, ℕ, zero, suc, ◌+◌, ◌-◌, ◌*◌, ◌<◌, ◌≤◌, Bool, true, false, IsTrue, Option, Some, None, Result, List, [], ◌∷◌, ◌++◌, length, map, sum_by, take, drop}
use Rattle.vt_arena.specs.Directory.{entry_in_header, sectors_before}
use Rattle.vt_base.specs.Bytes.{AreBytes}
use Rattle.vt_clump.specs.declared.header.TheConstants.{HEADER_LEN}
use Rattle.vt_clump.specs.Spelling.{stored_in}
use Rattle.vt_disk.specs.Disk.{part}
use Rattle.vt_model.specs.declared.TheConstants.{DIRECTORY_ENTRY_LEN}
use Rattle.vt_check.specs.declared.checking.Damage.{Damage}
use Rattle.vt_check.specs.declared.clumps.Cut.{Cut}
use Rattle.vt_check.specs.declared.clumps.Followed.{Followed}
use Rattle.vt_check.specs.declared.clumps.TheConstants.{MOST_CLUMP}
use Rattle.vt_check.specs.declared.clumps.Tested.{Tested}
use Rattle.vt_check.specs.declared.clumps.Tested.TheVariants.{Sound, BadEntry, BadClump, NoMemory}
use Rattle.vt_check.specs.Checking.{bad_clump, bad_entry, bad_link, chain_of_entries, clump_damage, clumps_in, entry_damage, last_taken, taken}

-- ---- cutting

-- the bytes of a cut
abbrev pub cut_bytes : (window : List ℕ) → Cut → List ℕ
cut_bytes window cut = part cut.start (cut.end - cut.start) window

-- an entry as it is read
pub record IsEntryRead (entry : List ℕ) : Type 0 where
  pub len : length entry ≡ DIRECTORY_ENTRY_LEN
  pub bytes : AreBytes entry

-- a cut that a clump may be: it doesn't end before it begins, has no more bytes than a clump, and its
-- entry is one as it is read
pub record IsCut (cut : Cut) : Type 0 where
  pub order : cut.start ≤ cut.end
  pub most : cut.end - cut.start ≤ MOST_CLUMP
  pub entry : IsEntryRead cut.entry

-- a cut that lies among the bytes that were read together, the window; where these have its header,
-- it has what that names of the clump before
pub record IsWithinWindow (window : List ℕ) (cut : Cut) : Type 0 where
  pub is_cut : IsCut cut
  pub end : cut.end ≤ length window
  pub creator : HEADER_LEN ≤ cut.end - cut.start
      → cut.creator ≡ sectors_before (cut_bytes window cut)

-- its entry is the one in its header, where that is there
abbrev pub HasOwnEntry : (window : List ℕ) → Cut → Type 0
HasOwnEntry window cut =
    HEADER_LEN ≤ cut.end - cut.start → cut.entry ≡ entry_in_header (cut_bytes window cut)

-- how many bytes these cuts take together of an arena of this version
abbrev pub taken_by_cuts : (version : ℕ) → List Cut → ℕ
taken_by_cuts version cuts = sum_by (λ cut. taken version (cut.end - cut.start)) cuts

-- the entries that these bytes are, so many, of which the last stands first
abbrev pub entries_in : (n : ℕ) → (bytes : List ℕ) → List (List ℕ)
entries_in zero bytes = []
entries_in (suc n) bytes = part (DIRECTORY_ENTRY_LEN * n) DIRECTORY_ENTRY_LEN bytes ∷ entries_in n bytes

-- the bytes are the first of these, or all, where no more follow
pub record IsFrontOf (more : Bool) (bytes all : List ℕ) : Type 0 where
  pub front : take (length bytes) all ≡ bytes
  pub whole : more ≡ false → length all ≡ length bytes

-- the cuts are the first of the clumps that these bytes of an arena of this version begin with
abbrev pub CutsFirst : (version : ℕ) → (window all : List ℕ) → List Cut → Type 0
CutsFirst version window all cuts = (n : ℕ) → length cuts ≤ n
    → clumps_in version n all ≡ map (cut_bytes window) cuts
    ++ clumps_in version (n - length cuts) (drop (taken_by_cuts version cuts) all)

-- ---- testing

-- no test of a clump fails
pub record IsSoundClump (score : List ℕ → List ℕ) (clump : List ℕ) : Type 0 where
  pub bytes : AreBytes clump
  pub none : clump_damage score clump ≡ None

-- what testing a clump with its entry has found
abbrev pub TestsAs : (List ℕ → List ℕ) → (clump entry : List ℕ) → Tested → Type 0
TestsAs score clump entry Sound =
    IsSoundClump score clump × (entry_damage (stored_in clump) entry ≡ None)
TestsAs score clump entry (BadEntry damage) =
    IsSoundClump score clump × (entry_damage (stored_in clump) entry ≡ Some damage)
TestsAs score clump entry (BadClump damage) = clump_damage score clump ≡ Some damage
TestsAs score clump entry NoMemory = ⊤

-- ---- following

-- these clumps of an arena of this version were followed, with these entries, and no clump is damaged
pub record HasFollowed (score : List ℕ → List ℕ) (version : ℕ) (clumps entries : List (List ℕ))
    (f : Followed) : Type 0 where
  pub count : f.clumps ≡ length clumps
  pub entries_count : length entries ≡ length clumps
  pub used : f.used ≡ sum_by (λ clump. taken version (length clump)) clumps
  pub last : f.last ≡ last_taken 0 clumps
  pub link : f.link ≡ bad_link 0 clumps
  pub sound : bad_clump score clumps ≡ None
  pub entry : f.entry ≡ bad_entry clumps entries
  pub bytes : All AreBytes clumps
  pub reads : All IsEntryRead entries
  pub chain : f.chain.0 ≡ chain_of_entries score entries
