-- What a folder of the system lists.
use Rattle.std.specs.Prelude.{ℕ, ◌-◌, ◌^◌, min, Bool, not, ◌||◌, if◌then◌else◌, ℤ, pos, negsuc, List, [], Option, Some, None, bytes_eq, codes, filter_map}
use Rattle.std.specs.List.{filter}
use Rattle.std.specs.Str.{is_utf8}
use Rattle.vt_out.specs.declared.folder_item.Item.{Item}
use Rattle.vt_out.specs.declared.folder_item.ItemKind.TheVariants.{Other}
use Rattle.vt_host.specs.Cutting.{is_byte, pieces}
use Rattle.vt_host.specs.Owning.{owner_name}
use Rattle.vt_host.specs.Paths.{path_below}
use Rattle.vt_host.specs.declared.owners.Owner.{Owner}
use Rattle.vt_host.specs.declared.paths.Look.{Look}

-- the name is that of the folder itself, or of the one that it is in
abbrev pub is_dots : (name : List ℕ) → Bool
is_dots name = bytes_eq name (codes ".") || bytes_eq name (codes "..")

-- the names in a folder, of which those two are none, from a buffer that has a zero behind each
abbrev pub names_listed : (buffer : List ℕ) → List (List ℕ)
names_listed buffer = filter (λ name. not (is_dots name)) (pieces (is_byte 0) buffer)

-- the seconds since 1970, as far as 32 bits hold them
abbrev pub seconds_of : (time : ℤ) → ℕ
seconds_of (pos n) = min n (2 ^ 32 - 1)
seconds_of (negsuc n) = 0

-- an item of which the system says this
abbrev pub seen_item : (users groups : List Owner) (name : List ℕ) → Look → Item
seen_item users groups name look = record {
  name = name;
  kind = look.kind;
  mode = look.mode;
  mtime = seconds_of look.mtime;
  uid = owner_name users look.uid;
  gid = owner_name groups look.gid;
}

-- an item of which nothing is known but its name
abbrev pub unknown_item : (name : List ℕ) → Item
unknown_item name = record {
  name = name;
  kind = Other;
  mode = 0;
  mtime = 0;
  uid = [];
  gid = [];
}

-- the item at whose path the system says this; none where nothing stands there any more
abbrev pub found_item : (users groups : List Owner) (name : List ℕ) → Option Look → Option Item
found_item users groups name None = None
found_item users groups name (Some look) = Some (seen_item users groups name look)

-- What is listed of a name: what is at its path, or its name alone where that isn't UTF-8.
abbrev pub item_of : (look_at : List ℕ → Option Look) (users groups : List Owner)
    (folder name : List ℕ) → Option Item
item_of look_at users groups folder name = if is_utf8 name
    then found_item users groups name (look_at (path_below folder name))
    else Some (unknown_item name)

-- the items of the folder at this path
abbrev pub items_of : (look_at : List ℕ → Option Look) (users groups : List Owner)
    (folder : List ℕ) (names : List (List ℕ)) → List Item
items_of look_at users groups folder names =
    filter_map (item_of look_at users groups folder) names
