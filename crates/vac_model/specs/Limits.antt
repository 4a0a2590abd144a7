-- What may be archived: the limits of folders, and the first thing that passes one.
use Rattle.std.specs.Prelude.{ℕ, ◌≡◌, ◌≤◌, ◌<◌, ◌^◌, ◌+◌, ◌==◌, ◌||◌, nat_le, nat_lt, is_some, Bool, if◌then◌else◌, Option, Some, None, List, [], ⊤, length, position}
use Rattle.std.specs.Option.{option_or}
use Rattle.std.specs.Str.{bytes_eq}
use Rattle.vt_out.specs.declared.folder_item.Facts.{Facts}
use Rattle.vt_out.specs.FolderItems.{Items, none, file, folder, other}
use Rattle.vac_meta.specs.declared.TheConstants.{MAX_NAME}
use Rattle.vac_meta.specs.Records.{is_barred}
use Rattle.vac_model.specs.declared.TheConstants.{MAX_FILE, MAX_METADATA, MAX_NESTING, MIN_BLOCK_SIZE, MAX_BLOCK_SIZE}
use Rattle.vac_model.specs.Archives.{metadata}
use Rattle.vac_model.specs.Kept.{in_order, kept, archived, count, numbered, path_to}

-- Why a folder isn't archived: an item's name, uid or gid can't stand in a record, or its name
-- stands behind the same one; a file or a folder's metadata is too long; a folder lies too deep.
pub data Unfit : Type 0 where
  bad_name : (path : List ℕ) → Unfit
  too_long : Unfit
  too_deep : (path : List ℕ) → Unfit

-- a name that no item may have
abbrev pub is_bad_name : List ℕ → Bool
is_bad_name name =
    length name == 0 || nat_lt MAX_NAME (length name) || is_some (position is_barred name)

-- a name that can't stand behind this one, if there is one
abbrev pub is_bad_behind : (last : Option (List ℕ)) → (name : List ℕ) → Bool
is_bad_behind None name = is_bad_name name
is_bad_behind (Some last) name = is_bad_name name || bytes_eq last name

-- an item that can't stand there, as a file or a folder
abbrev pub is_bad : (last : Option (List ℕ)) → Facts → Bool
is_bad last about =
    is_bad_behind last about.name || nat_lt MAX_NAME (length about.uid)
    || nat_lt MAX_NAME (length about.gid)

-- the first item of a folder that can't stand there, by its name
abbrev pub first_bad_item : (last : Option (List ℕ)) → Items Facts → Option (List ℕ)
first_bad_item last none = None
first_bad_item last (file about bytes others) =
    if is_bad last about then Some about.name else first_bad_item (Some about.name) others
first_bad_item last (folder about inside others) =
    if is_bad last about then Some about.name else first_bad_item (Some about.name) others
first_bad_item last (other about others) =
    if is_bad_behind last about.name then Some about.name else first_bad_item (Some about.name)
    others

-- why a folder with this bad name, or with so many bytes of metadata, isn't archived
abbrev pub unfit_name : (path : List ℕ) → Option (List ℕ) → (len : ℕ) → Option Unfit
unfit_name path (Some name) len = Some (bad_name (path_to path name))
unfit_name path None len = if nat_lt MAX_METADATA len then Some too_long else None

-- what makes the items of a folder unfit, without what is inside them
abbrev pub unfit_listing : (path : List ℕ) → Items Facts → Option Unfit
unfit_listing path items =
    unfit_name path (first_bad_item None items) (length (metadata (numbered 1 (kept items))))

-- The first thing that makes the files and folders among items, of a folder of this path and depth,
-- unfit: a folder is looked at whole before what is in it.
abbrev pub unfit_inside : (depth : ℕ) → (path : List ℕ) → Items Facts → Option Unfit
unfit_inside depth path none = None
unfit_inside depth path (file about bytes others) =
    if nat_lt MAX_FILE (length bytes) then Some too_long else unfit_inside depth path others
unfit_inside depth path (folder about inside others) =
    let below = path_to path about.name in
    option_or
    (if nat_le MAX_NESTING depth then Some (too_deep below)
    else option_or (unfit_listing below inside) (unfit_inside (depth + 1) below inside))
    (unfit_inside depth path others)
unfit_inside depth path (other about others) = unfit_inside depth path others

-- the first reason, in the order of the walk, why a folder isn't archived
abbrev pub unfit_in_order : Items Facts → Option Unfit
unfit_in_order items = option_or (unfit_listing [] items) (unfit_inside 0 [] items)

-- the first thing that makes a folder unfit to be archived
abbrev pub first_unfit : Items Facts → Option Unfit
first_unfit items = unfit_in_order (in_order items)

-- each time fits 32 bits
abbrev pub HaveTimes : Items Facts → Type 0
HaveTimes none = ⊤
HaveTimes (file about bytes others) = (about.mtime < 2 ^ 32) × HaveTimes others
HaveTimes (folder about inside others) =
    (about.mtime < 2 ^ 32) × HaveTimes inside × HaveTimes others
HaveTimes (other about others) = HaveTimes others

-- The folder can be archived at this block size.
pub record IsArchivable (bsize : ℕ) (items : Items Facts) : Type 0 where
  pub least : MIN_BLOCK_SIZE ≤ bsize
  pub most : bsize ≤ MAX_BLOCK_SIZE
  pub fit : first_unfit items ≡ None
  pub times : HaveTimes items
  -- there is a number for each
  pub few : count (archived items) < 2 ^ 64
