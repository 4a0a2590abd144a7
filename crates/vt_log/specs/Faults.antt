-- Why a log can't be mounted, and counts of failed calls of several disks.
use Rattle.std.specs.Prelude.{◌≡◌, ◌≢◌, ◌==◌, ◌||◌, ℕ, ◌+◌, ◌<◌, ◌≤◌, All, Bool, true, false, if◌then◌else◌, Option, Some, None, List, [], ◌∷◌, length, slice_get, map, take, slice_index, Result}
use Rattle.vt_base.specs.Faults.{HasRisen, TellsFault}
use Rattle.vt_disk.specs.Members.{DiskOf}
use Rattle.vt_part.specs.declared.layout.ArenaRegion.{ArenaRegion}
use Rattle.vt_part.specs.declared.error.PartBad.TheVariants.{Fault as PartFault, TooSmall, NotFormatted as PartNotFormatted, Torn as PartTorn, DuplicateName, NoMemory as PartNoMemory}
use Rattle.vt_part.specs.Layout.{AreFirstNamesakes, AreDistinct}
use Rattle.vt_arena.specs.declared.error.ArenaBad.{ArenaBad}
use Rattle.vt_arena.specs.declared.error.ArenaBad.TheVariants.{Torn}
use Rattle.vt_arena.specs.declared.head.Found.{Found}
use Rattle.vt_arena.specs.declared.error.Field.TheVariants.{Sealed}
use Rattle.vt_arena.specs.Faults.{first_bad_head, read_at}
use Rattle.vt_arena.specs.Heads.{fields_of, own_fields, sealed_in, clump_count_in}
use Rattle.vt_log.specs.declared.error.LogBad.{LogBad}
use Rattle.vt_log.specs.declared.error.LogBad.TheVariants.{Part, Arena, Order, Fault, NoMemory}
use Rattle.vt_log.specs.declared.error.LogErr.{LogErr}
use Rattle.vt_log.specs.declared.error.LogErr.TheVariants.{Fault as LogFault, Stopped}
use Rattle.vt_log.specs.Log.{LogState}

-- what mounting reads of each arena, as the files have it: the fields of its current head and, where
-- these say where the last clump is, that clump's header
pub record AreReadAt (layout : List ArenaRegion) (files : List (List ℕ)) (fields : List (List ℕ))
    : Type 0 where
  pub many : length fields ≡ length layout
  pub each : (i : ℕ) (r : ArenaRegion) (file : List ℕ) → slice_get layout i ≡ Some r
      → slice_get files r.part ≡ Some file → slice_get fields i ≡ Some (read_at r.region r.number file)

-- why arena i, with these fields, can't stand behind an unsealed one
abbrev pub out_of_order : (i : ℕ) → (fields : List ℕ) → Option LogBad
out_of_order i fields =
    if clump_count_in fields == 0
    then (if sealed_in fields == 0 then None else Some (Arena i (Torn Sealed 1 0)))
    else Some (Order i (clump_count_in fields))

-- Why an arena can't be mounted; `behind` is whether an unsealed one stands before it.
abbrev pub bad_arena : (behind : Bool) (i : ℕ) → Option ArenaBad → (fields : List ℕ)
    → Option LogBad
bad_arena behind i (Some bad) fields = Some (Arena i bad)
bad_arena behind i None fields = if behind then out_of_order i fields else None

-- the first of two that is one
abbrev pub first_of_two : Option LogBad → Option LogBad → Option LogBad
first_of_two (Some bad) other = Some bad
first_of_two None other = other

-- the first cause that arenas from number i on give
abbrev pub first_bad_log : (behind : Bool) (i : ℕ) → List ArenaRegion → (fields : List (List ℕ))
    → Option LogBad
first_bad_log behind i [] fields = None
first_bad_log behind i (r ∷ rest) [] = None
first_bad_log behind i (r ∷ rest) (f ∷ fields) =
    first_of_two (bad_arena behind i (first_bad_head r.number r.region.len f) f)
    (first_bad_log (behind || sealed_in f == 0) (i + 1) rest fields)

-- Mounting is refused for two partitions of one name or, where there are none, by the first arena
-- that can't stand. A fault needs neither, and memory may run out before the arenas are read.
abbrev pub RefusesLogMount : (names : List (List ℕ)) → List ArenaRegion → (fields : List (List ℕ))
    → LogBad → Type 0
RefusesLogMount names layout fields (Part (DuplicateName first second)) =
    AreFirstNamesakes names first second
RefusesLogMount names layout fields (Part PartFault) = ⊥
RefusesLogMount names layout fields (Part (TooSmall len need)) = ⊥
RefusesLogMount names layout fields (Part PartNotFormatted) = ⊥
RefusesLogMount names layout fields (Part (PartTorn field found want)) = ⊥
RefusesLogMount names layout fields (Part PartNoMemory) = ⊥
RefusesLogMount names layout fields (Arena i bad) =
    AreDistinct names × (first_bad_log Bool.false 0 layout fields ≡ Some (Arena i bad))
RefusesLogMount names layout fields (Order i clumps) =
    AreDistinct names × (first_bad_log Bool.false 0 layout fields ≡ Some (Order i clumps))
RefusesLogMount names layout fields Fault = AreDistinct names
RefusesLogMount names layout fields NoMemory = AreDistinct names

-- of several counts of faults one rose, and the others stand where they stood
pub record OneHasRisen (old new : List ℕ) : Type 0 where
  pub many : length new ≡ length old
  pub which : ℕ
  pub within : which < length old
  pub rose : HasRisen (slice_index old which) (slice_index new which)
  pub others : (i : ℕ) → i ≢ which → slice_index new i ≡ slice_index old i

-- a fault is told exactly where one of these disks' counts rose
abbrev pub CountsFaults : {D T E : Type 0} → DiskOf D → (is_fault : E → Bool) → Result T E
    → (old new : List D) → Type 0
CountsFaults disk is_fault result old new =
    TellsFault is_fault result (OneHasRisen (map disk.faults old) (map disk.faults new))
    (map disk.faults new ≡ map disk.faults old)

-- the refusal tells of a fault of a disk in this call
abbrev pub is_log_fault : LogBad → Bool
is_log_fault Fault = true
is_log_fault (Part bad) = false
is_log_fault (Arena i bad) = false
is_log_fault (Order i clumps) = false
is_log_fault NoMemory = false

-- Whether what `advance` answers tells of a fault of a disk in this call; a call that stopped the
-- log before isn't told anew.
abbrev pub is_fault_now : LogErr → Bool
is_fault_now LogFault = true
is_fault_now (Stopped n) = false

-- a log that these fields give: no two partitions have one name, no test of the fields fails, its
-- heads are those that they spell, and its base is the first unsealed arena, or their count
pub record IsMountedBy {D : Type 0} (names : List (List ℕ)) (layout : List ArenaRegion)
    (fields : List (List ℕ)) (l : LogState D) : Type 0 where
  pub distinct : AreDistinct names
  pub passed : first_bad_log Bool.false 0 layout fields ≡ None
  pub heads : map (λ found. fields_of found.head) l.heads ≡ map own_fields fields
  pub before : All (λ found. found.head.sealed ≡ Bool.true) (take l.base l.heads)
  pub base : (found : Found) → slice_get l.heads l.base ≡ Some found
      → found.head.sealed ≡ Bool.false
  pub most : l.base ≤ length layout
