-- The names of users and groups (passwd(5), group(5)).
use Rattle.std.specs.Prelude.{◌≡◌, ◌⊎◌, ℕ, ◌+◌, ◌<◌, ◌^◌, ◌==◌, if◌then◌else◌, true, List, [], ◌∷◌, ◌++◌, Option, decimal}
use Rattle.std.specs.List.{before_first, after_first}
use Rattle.vt_host.specs.Calls.{FileCall, Opening}
use Rattle.vt_host.specs.Cutting.{is_byte, pieces}
use Rattle.vt_host.specs.Opening.{CantRead, ReadsFront, file_opening}
use Rattle.vt_host.specs.ToldFiles.{FrontOf}
use Rattle.vt_host.specs.declared.owners.Owner.{Owner}

-- the name of a number: that of the first owner who has it, or its digits
abbrev pub owner_name : List Owner → (id : ℕ) → List ℕ
owner_name [] id = decimal id
owner_name (owner ∷ owners) id =
    if owner.id == id then owner.name else owner_name owners id

-- what stands before the first colon of a line
abbrev pub first_field : (line : List ℕ) → List ℕ
first_field line = before_first (is_byte 58) line

-- what stands behind it
abbrev pub other_fields : (line : List ℕ) → List ℕ
other_fields line = after_first (is_byte 58) line

-- The line begins with this name, and its third field is this number.
abbrev pub NamesOwner : (line : List ℕ) → Owner → Type 0
NamesOwner line owner = (owner.name ≡ first_field line)
    × (first_field (other_fields (other_fields line)) ≡ decimal owner.id) × (owner.id < 2 ^ 32)

-- What lines say, in order; a line that names nobody is skipped.
abbrev pub AreOwners : (lines : List (List ℕ)) → List Owner → Type 0
AreOwners [] owners = owners ≡ []
AreOwners (line ∷ lines) owners =
    ((owner : Owner) × (others : List Owner) × (owners ≡ owner ∷ others) × NamesOwner line owner
    × AreOwners lines others)
    ⊎ (((owner : Owner) → ¬ NamesOwner line owner) × AreOwners lines owners)

-- what the lines of a text say
abbrev pub OwnersIn : (text : List ℕ) → List Owner → Type 0
OwnersIn text owners = AreOwners (pieces (is_byte 10) text) owners

-- ---- and in which files they are

-- The file of this name was opened, and these bytes of it were read, up to a limit; they are those
-- of what stands there, where that is told.
pub record ReadsLines {F : Type 0} (made : F → List FileCall) (told : Type 0)
    (stood : Option (List ℕ)) (name : List ℕ) (limit : ℕ) (old new : List Opening)
    (lines : List ℕ) : Type 0 where
  pub opened : new ≡ old ++ file_opening name true ∷ []
  pub file : F
  pub read : ReadsFront limit lines (made file)
  pub front : told → FrontOf stood (limit + 1) lines

-- so it was, or it has no lines, and a call of it failed
abbrev pub LinesOf : {F : Type 0} → (made : F → List FileCall) → (told : Type 0)
    → (stood : Option (List ℕ)) → (name : List ℕ) → (limit : ℕ) → (old new : List Opening)
    → (lines : List ℕ) → Type 0
LinesOf made told stood name limit old new lines =
    ReadsLines made told stood name limit old new lines
    ⊎ (CantRead made name old new × (lines ≡ []))

-- What the lines of the file of this name say.
abbrev pub OwnersOf : {F : Type 0} → (made : F → List FileCall) → (told : Type 0)
    → (stood : Option (List ℕ)) → (name : List ℕ) → (limit : ℕ) → (old new : List Opening)
    → List Owner → Type 0
OwnersOf made told stood name limit old new owners = (lines : List ℕ)
    × LinesOf made told stood name limit old new lines × OwnersIn lines owners

-- The users are those of the first file, and the groups those of the second, which was opened behind
-- it, and no other.
pub record NamesOf {F : Type 0} (made : F → List FileCall) (told : Type 0)
    (holds : List ℕ → Option (List ℕ)) (first second : List ℕ) (limit : ℕ)
    (old new : List Opening) (users groups : List Owner) : Type 0 where
  pub between : List Opening
  pub users_are : OwnersOf made told (holds first) first limit old between users
  pub groups_are : OwnersOf made told (holds second) second limit between new groups
