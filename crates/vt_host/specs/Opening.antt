-- How a file is opened: as a disk, or to be read whole.
use Rattle.std.specs.Prelude.{◌≡◌, ◌⊎◌, ℕ, ◌+◌, min, length, ◌<◌, ◌≤◌, Bool, true, false, List, [], ◌∷◌, ◌++◌, codes, Option, Some, None, IsUtf8, is_some, unwrap_or, if◌then◌else◌}
use Rattle.std.specs.Fs.{new_options, with_read, with_write, with_create}
use Rattle.std.specs.Path.{path_parent}
use Rattle.std.specs.declared.fs.OpenOptions.{OpenOptions}
use Rattle.vt_out.specs.declared.files.OutErr.{OutErr}
use Rattle.vt_out.specs.declared.files.OutErr.TheVariants.{Failed, NoMemory}
use Rattle.vt_host.specs.Calls.{Opening, FileCall, measured, resized, read, locked, synced}

-- A file that is opened as a disk is read and written. It is made where it isn't there, if that is
-- asked for, and never emptied.
abbrev pub disk_options : (create : Bool) → OpenOptions
disk_options create = with_create (with_write (with_read new_options true) true) create

-- the opening of the file of this name
abbrev pub opening : (name : List ℕ) (grow_to : Option ℕ) (ok : Bool) → Opening
opening name grow_to ok = record { how = disk_options (is_some grow_to); name = name; ok = ok }

-- the length that the file is to have at least
abbrev pub wanted_length : Option ℕ → ℕ
wanted_length grow_to = unwrap_or grow_to 0

-- A file is measured and, where it is shorter than wanted, filled up: these are the calls, and this
-- is the length that it then has, or none where a call failed.
abbrev pub GrowsFile : (wanted : ℕ) (calls : List FileCall) (len : Option ℕ) → Type 0
GrowsFile wanted calls len =
    ((calls ≡ measured None ∷ []) × (len ≡ None))
    ⊎ ((found : ℕ) × (wanted ≤ found) × (calls ≡ measured (Some found) ∷ []) × (len ≡ Some found))
    ⊎ ((found : ℕ) × (ok : Bool) × (found < wanted)
    × (calls ≡ measured (Some found) ∷ resized wanted ok ∷ [])
    × (len ≡ if ok then Some wanted else None))

-- a folder, and a file that is read whole, is read alone: it is never made, written or emptied
abbrev pub read_options : OpenOptions
read_options = with_read new_options true

-- what is opened is opened in one of these ways
abbrev pub IsWay : OpenOptions → Type 0
IsWay how = (how ≡ read_options) ⊎ ((create : Bool) × (how ≡ disk_options create))

-- the folder of a name without one is the working folder, and that of the top is the top
abbrev pub folder_or_working : Option (List ℕ) → List ℕ
folder_or_working None = codes "."
folder_or_working (Some []) = codes "."
folder_or_working (Some (b ∷ folder)) = b ∷ folder

-- the path of the folder that a file stands in; the working folder is "."
abbrev pub folder_of : (name : List ℕ) → List ℕ
folder_of name = folder_or_working (path_parent name)

-- the opening of that folder, to read, and whether it succeeded
abbrev pub folder_opening : (name : List ℕ) (ok : Bool) → Opening
folder_opening name ok = record { how = read_options; name = folder_of name; ok = ok }

-- all that is opened for a disk
abbrev pub openings : (name : List ℕ) → (grow_to : Option ℕ) → List Opening
openings name None = opening name None true ∷ []
openings name (Some len) = opening name (Some len) true ∷ folder_opening name true ∷ []

-- The calls of a file that became a disk of this length: it is synced last, so that a crash leaves
-- it as it is.
abbrev pub BecomesDisk : (grow_to : Option ℕ) (calls : List FileCall) (len : ℕ) → Type 0
BecomesDisk grow_to calls len = (grown : List FileCall)
    × GrowsFile (wanted_length grow_to) grown (Some len)
    × (calls ≡ locked true ∷ (grown ++ synced true ∷ []))

-- the calls of one of which the last failed
abbrev pub StopsShort : (grow_to : Option ℕ) (calls : List FileCall) → Type 0
StopsShort grow_to calls = (calls ≡ locked false ∷ [])
    ⊎ ((grown : List FileCall) × GrowsFile (wanted_length grow_to) grown None
    × (calls ≡ locked true ∷ grown))
    ⊎ ((grown : List FileCall) × (len : ℕ) × GrowsFile (wanted_length grow_to) grown (Some len)
    × (calls ≡ locked true ∷ (grown ++ synced false ∷ [])))

-- What was opened where no disk came of it: the last opening failed, or a call of what was opened
-- last did.
abbrev pub StopsOpening : {F : Type 0} → (made : F → List FileCall) → (name : List ℕ)
    → (grow_to : Option ℕ) → (old new : List Opening) → Type 0
StopsOpening {F = F} made name grow_to old new =
    (new ≡ old ++ opening name grow_to false ∷ [])
    ⊎ ((new ≡ old ++ opening name grow_to true ∷ [])
    × ((file : F) × StopsShort grow_to (made file)))
    ⊎ (new ≡ old ++ opening name grow_to true ∷ folder_opening name false ∷ [])
    ⊎ ((new ≡ old ++ opening name grow_to true ∷ folder_opening name true ∷ [])
    × ((folder : F) × (made folder ≡ synced false ∷ [])))

-- the opening of the file of this name, which is read whole
abbrev pub file_opening : (name : List ℕ) (ok : Bool) → Opening
file_opening name ok = record { how = read_options; name = name; ok = ok }

-- the calls of a file that was to be read whole, of which the last failed
abbrev pub FailsToRead : (calls : List FileCall) → Type 0
FailsToRead calls = (calls ≡ measured None ∷ [])
    ⊎ ((len : ℕ) × (buf : List ℕ) × (calls ≡ measured (Some len) ∷ read 0 buf false ∷ []))

-- The file of this name can't be read: a name that isn't UTF-8 is none of a file, and else its
-- opening failed, or a call of it.
abbrev pub CantRead : {F : Type 0} → (made : F → List FileCall) → (name : List ℕ)
    → (old new : List Opening) → Type 0
CantRead {F = F} made name old new = ((¬ IsUtf8 name) × (new ≡ old))
    ⊎ (new ≡ old ++ file_opening name false ∷ [])
    ⊎ ((new ≡ old ++ file_opening name true ∷ []) × ((file : F) × FailsToRead (made file)))

-- what was opened where no bytes of the file came, by the cause
abbrev pub StopsReading : {F : Type 0} → (made : F → List FileCall) → (name : List ℕ) → OutErr
    → (old new : List Opening) → Type 0
StopsReading made name Failed old new = CantRead made name old new
StopsReading made name NoMemory old new = new ≡ old ++ file_opening name true ∷ []

-- The calls of a file of which these bytes are the front: all of it, or one byte more than the
-- limit.
abbrev pub ReadsFront : (limit : ℕ) (bytes : List ℕ) (calls : List FileCall) → Type 0
ReadsFront limit bytes calls = (len : ℕ) × (length bytes ≡ min len (limit + 1))
    × (calls ≡ measured (Some len) ∷ read 0 bytes true ∷ [])
