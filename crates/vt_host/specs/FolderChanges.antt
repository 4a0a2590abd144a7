-- What calls do to a folder of the system.
use Rattle.std.specs.Prelude.{◌≡◌, ℕ, List, Option, Some}
use Rattle.vt_out.specs.declared.folder_item.Item.{Item}
use Rattle.vt_out.specs.declared.folder_item.ItemKind.TheVariants.{Folder}
use Rattle.vt_host.specs.Folders.{folder_base, folder_faults, folder_groups, folder_users}
use Rattle.vt_host.specs.Listing.{items_of, names_listed}
use Rattle.vt_host.specs.declared.folder.StdFolder.{StdFolder}
use Rattle.vt_host.specs.declared.owners.Owner.{Owner}
use Rattle.vt_host.specs.declared.paths.Look.{Look}

-- it is the same folder, by the same names of users and groups
pub record SameFolder {C F : Type 0} (old new : StdFolder C F) : Type 0 where
  pub base : folder_base new ≡ folder_base old
  pub users : folder_users new ≡ folder_users old
  pub groups : folder_groups new ≡ folder_groups old

-- and no call of it has failed
pub record StaysFolder {C F : Type 0} (old new : StdFolder C F) : Type 0 where
  pub same : SameFolder old new
  pub faults : folder_faults new ≡ folder_faults old

-- A folder stands at this path.
pub record StandsAt (look_at : List ℕ → Option Look) (path : List ℕ) : Type 0 where
  pub look : Look
  pub found : look_at path ≡ Some look
  pub kind : look.kind ≡ Folder

-- A folder stands at this path, and these are its items: what is at the path of each of its names.
pub record ListsFolder (look_at : List ℕ → Option Look) (names_at : List ℕ → Option (List ℕ))
    (users groups : List Owner) (path : List ℕ) (items : List Item) : Type 0 where
  pub stands : StandsAt look_at path
  pub names : List ℕ
  pub named : names_at path ≡ Some names
  pub are : items ≡ items_of look_at users groups path (names_listed names)
