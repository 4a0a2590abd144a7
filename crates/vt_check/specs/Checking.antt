-- What checking an arena tells (venti(8), checkarenas): the first of its tests that fails, of all
-- clumps, of what each names in version 2 of the one before it, of how many bytes they take, of the
-- last one's sectors in version 2, of all directory entries, and of the chain.
use Rattle.std.specs.Prelude.{◌≡◌, ◌↔◌, ℕ, zero, suc, ◌+◌, ◌-◌, ◌/◌, ◌==◌, not, if◌then◌else◌, Bool, true, false, Option, Some, None, IfSome, List, [], ◌∷◌, ◌++◌, fold, length, map, replicate, slice_get, sum_by, take, drop}
use Rattle.std.specs.Option.{option_map, option_or}
use Rattle.std.specs.Str.{bytes_eq}
use Rattle.vt_arena.specs.Directory.{entry_in_header, kind_in, last_entry, score_in_entry, sectors_before, size_in_entry, uncsize_in_entry, walks_headers}
use Rattle.vt_arena.specs.Layout.{Content, IsArena}
use Rattle.vt_arena.specs.Reading.{damage_of_clump}
use Rattle.vt_arena.specs.declared.head.ArenaHead.{ArenaHead}
use Rattle.vt_arena.specs.declared.head.Found.{Found}
use Rattle.vt_base.specs.Damage.{Differ}
use Rattle.vt_base.specs.declared.why.FieldValue.TheVariants.{Number, Score as ScoreValue}
use Rattle.vt_clump.specs.declared.reading.ClumpBad.{ClumpBad}
use Rattle.vt_clump.specs.Faults.{first_bad_clump}
use Rattle.vt_clump.specs.Spelling.{Stored, clump_len, size_in, stored_in}
use Rattle.vt_disk.specs.Disk.{part}
use Rattle.vt_disk.specs.Members.{DiskOf}
use Rattle.vt_disk.specs.declared.region.Region.{Region}
use Rattle.vt_log.specs.Faults.{AreReadAt, IsMountedBy}
use Rattle.vt_log.specs.Log.{LogState}
use Rattle.vt_model.specs.declared.TheConstants.{ARENA_HEAD_LEN, CLUMP_UNIT}
use Rattle.vt_model.specs.Places.{whole_units}
use Rattle.vt_part.specs.declared.layout.ArenaRegion.{ArenaRegion}
use Rattle.vt_check.specs.declared.checking.ArenaReport.{ArenaReport}
use Rattle.vt_check.specs.declared.checking.CheckErr.{CheckErr}
use Rattle.vt_check.specs.declared.checking.CheckErr.TheVariants.{Fault, NoMemory}
use Rattle.vt_check.specs.declared.checking.Damage.{Damage}

-- ---- what is tested

-- the clump that these bytes begin with, as long as its header says, or all of them
abbrev pub clump_in : List ℕ → List ℕ
clump_in bytes = take (clump_len (size_in bytes)) bytes

-- what a clump of so many bytes takes of an arena of this version, whole sectors in version 2
abbrev pub taken : (version len : ℕ) → ℕ
taken version len = if version == 2 then whole_units len else len

-- so many clumps, each behind what the one before it takes
abbrev pub clumps_in : (version n : ℕ) → List ℕ → List (List ℕ)
clumps_in version zero bytes = []
clumps_in version (suc n) bytes =
    clump_in bytes ∷ clumps_in version n (drop (taken version (clump_len (size_in bytes))) bytes)

-- the bytes of a region behind the arena's head
abbrev pub area_of : Region → (file : List ℕ) → List ℕ
area_of region file =
    part (region.start + ARENA_HEAD_LEN) (region.len - ARENA_HEAD_LEN) file

-- the clumps of an arena of this version that has so many
abbrev pub clumps_at : (version : ℕ) → Region → (n : ℕ) → (file : List ℕ) → List (List ℕ)
clumps_at version region n file = clumps_in version n (area_of region file)

-- So many entries of an arena's directory, from entry i on.
abbrev pub entries_at : Region → (i n : ℕ) → (file : List ℕ) → List (List ℕ)
entries_at region i zero file = []
entries_at region i (suc n) file = last_entry region (i + 1) file ∷ entries_at region (i + 1) n file

-- the entries of an arena with this head: those of its directory or, where it has none yet, those in
-- the headers of its clumps
abbrev pub entries_of : Region → ArenaHead → (file : List ℕ) → (clumps : List (List ℕ))
    → List (List ℕ)
entries_of region head file clumps =
    if walks_headers head then map entry_in_header clumps
    else entries_at region 0 head.clumps file

-- ---- the tests

-- the damage that one number stands where another should
abbrev pub damage_of_numbers : (want found : ℕ) → Damage
damage_of_numbers want found = record { want = Number want; found = Number found }

-- the damage that one score stands where another should
abbrev pub scores : (want found : List ℕ) → Damage
scores want found =
    record { want = ScoreValue (record { 0 = want }); found = ScoreValue (record { 0 = found }) }

-- the damage of a clump whose first failing test, in the order of reading it, is this one
abbrev pub damage_by : ClumpBad → Damage
damage_by bad = record { want = (damage_of_clump bad).0; found = (damage_of_clump bad).1 }

-- what is wrong with a clump, if anything is
abbrev pub clump_damage : (List ℕ → List ℕ) → (clump : List ℕ) → Option Damage
clump_damage score clump = option_map damage_by (first_bad_clump score clump)

-- the first thing that is wrong with these clumps, in order
abbrev pub bad_clump : (List ℕ → List ℕ) → List (List ℕ) → Option Damage
bad_clump score [] = None
bad_clump score (clump ∷ rest) = option_or (clump_damage score clump) (bad_clump score rest)

-- how many sectors a clump takes in version 2
abbrev pub sectors_in : (clump : List ℕ) → ℕ
sectors_in clump = taken 2 (length clump) / CLUMP_UNIT

-- how many the last of these takes; where there is none, it is what stands before them
abbrev pub last_taken : (before : ℕ) → (clumps : List (List ℕ)) → ℕ
last_taken before [] = before
last_taken before (clump ∷ rest) = last_taken (sectors_in clump) rest

-- behind a clump of so many sectors this one names as many
abbrev pub link_damage : (before : ℕ) → (clump : List ℕ) → Option Damage
link_damage before clump =
    let found = sectors_before clump in
    if found == before then None else Some (damage_of_numbers before found)

-- each of these clumps does, the first of which stands behind one of so many
abbrev pub bad_link : (before : ℕ) → (clumps : List (List ℕ)) → Option Damage
bad_link before [] = None
bad_link before (clump ∷ rest) =
    option_or (link_damage before clump) (bad_link (sectors_in clump) rest)

-- the head counts as many bytes as the clumps take
abbrev pub bad_sum : (version used : ℕ) → List (List ℕ) → Option Damage
bad_sum version used clumps =
    let sum = sum_by (λ clump. taken version (length clump)) clumps in
    if sum == used then None else Some (damage_of_numbers used sum)

-- the last clump takes as many sectors as the head says
abbrev pub bad_end : (last : ℕ) → List (List ℕ) → Option Damage
bad_end last clumps =
    let sectors = last_taken 0 clumps in
    if last == sectors then None else Some (damage_of_numbers sectors last)

-- what is wrong with what version 2 alone says
abbrev pub in_second : (version : ℕ) → Option Damage → Option Damage
in_second version damage = if version == 2 then damage else None

-- the fields of an entry are those of the clump
abbrev pub entry_damage : Stored → (entry : List ℕ) → Option Damage
entry_damage s entry =
    let size = length s.block in
    if not (kind_in entry == s.kind) then Some (damage_of_numbers s.kind (kind_in entry))
    else if not (size_in_entry entry == size) then Some
    (damage_of_numbers size (size_in_entry entry))
    else if not (uncsize_in_entry entry == size) then Some
    (damage_of_numbers size (uncsize_in_entry entry))
    else if not (bytes_eq (score_in_entry entry) s.score) then Some
    (scores s.score (score_in_entry entry))
    else None

-- each entry is that of its clump
abbrev pub bad_entry : (clumps entries : List (List ℕ)) → Option Damage
bad_entry [] entries = None
bad_entry (clump ∷ clumps) [] = None
bad_entry (clump ∷ clumps) (entry ∷ entries) =
    option_or (entry_damage (stored_in clump) entry) (bad_entry clumps entries)

-- the chain of the entries is the head's
abbrev pub chain_of_entries : (List ℕ → List ℕ) → (entries : List (List ℕ)) → List ℕ
chain_of_entries score entries =
    fold (λ chain entry. score (chain ++ entry)) (replicate 20 0) entries

-- the chain that the head has isn't that of the entries
abbrev pub bad_chain : (List ℕ → List ℕ) → (entries : List (List ℕ)) → (found : List ℕ) → Option Damage
bad_chain score entries found =
    if bytes_eq found (chain_of_entries score entries) then None else Some
    (scores (chain_of_entries score entries) found)

-- the first of the tests behind those of each clump alone that fails
abbrev pub end_damage : (List ℕ → List ℕ) → ArenaHead → (clumps entries : List (List ℕ))
    → Option Damage
end_damage score head clumps entries =
    option_or (in_second head.version (bad_link 0 clumps))
    (option_or (bad_sum head.version head.used clumps)
    (option_or (in_second head.version (bad_end head.last clumps))
    (option_or (bad_entry clumps entries) (bad_chain score entries head.chain.0))))

-- the first that fails, in an arena with this head
abbrev pub first_damage : (List ℕ → List ℕ) → Region → ArenaHead → (file : List ℕ) → Option Damage
first_damage score region head file =
    let clumps = clumps_at head.version region head.clumps file in
    option_or (bad_clump score clumps)
    (end_damage score head clumps (entries_of region head file clumps))

-- ---- the report

-- the two values that are told of a damage differ
abbrev pub DamageDiffers : Damage → Type 0
DamageDiffers damage = Differ damage.want damage.found

-- the answer tells of a fault of a disk in this call
abbrev pub is_check_fault : CheckErr → Bool
is_check_fault Fault = true
is_check_fault NoMemory = false

-- The report of arena i says what its head does, and its damage has two values that differ.
pub record IsReportOf (i : ℕ) (head : ArenaHead) (report : ArenaReport) : Type 0 where
  pub number : report.number ≡ i
  pub clumps : report.clumps ≡ head.clumps
  pub used : report.used ≡ head.used
  pub sealed : report.sealed ≡ head.sealed
  pub differs : IfSome report.damage DamageDiffers

-- The damage is the first one there is, and none is told exactly where the region is an arena.
pub record TellsOf (score : List ℕ → List ℕ) (r : ArenaRegion) (head : ArenaHead) (file : List ℕ)
    (damage : Option Damage) : Type 0 where
  pub first : damage ≡ first_damage score r.region head file
  pub sound : (damage ≡ None) ↔ ((a : Content) × IsArena score r.region r.number a file)

-- the heads are those that the disks have, as mounting finds them
pub record HasItsHeads {D : Type 0} (disk : DiskOf D) (l : LogState D) : Type 0 where
  pub names : List (List ℕ)
  pub fields : List (List ℕ)
  pub mounted : IsMountedBy names l.layout fields l
  pub fields_are : AreReadAt l.layout (map disk.bytes l.disks) fields

-- There is a report of each arena, in order.
pub record AreReports {D : Type 0} (l : LogState D) (reports : List ArenaReport) : Type 0 where
  pub many : length reports ≡ length l.layout
  pub each : (i : ℕ) (found : Found) (report : ArenaReport) → slice_get l.heads i ≡ Some found
      → slice_get reports i ≡ Some report → IsReportOf i found.head report

-- Each report tells of what the disk of its arena reads as.
abbrev pub AreTold : {D : Type 0} → (List ℕ → List ℕ) → DiskOf D → LogState D → List ArenaReport
    → Type 0
AreTold score disk l reports = (i : ℕ) (r : ArenaRegion) (found : Found) (file : List ℕ)
    (report : ArenaReport) → slice_get l.layout i ≡ Some r → slice_get l.heads i ≡ Some found
    → slice_get (map disk.bytes l.disks) r.part ≡ Some file
    → slice_get reports i ≡ Some report → TellsOf score r found.head file report.damage
