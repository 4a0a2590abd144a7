-- Items as an archive may hold them: in the order of their names, within the limits.
use Rattle.std.specs.Prelude.{ℕ, ◌≡◌, ◌≤◌, ◌<◌, ◌^◌, ⊤, true, bit_and, Option, Some, None, List, length}
use Rattle.vt_out.specs.FolderItems.{Items, none, file, folder, other}
use Rattle.vac_meta.specs.declared.TheConstants.{MAX_NAME}
use Rattle.vac_meta.specs.Records.{IsItemName, is_next}
use Rattle.vac_model.specs.declared.TheConstants.{MAX_FILE, MAX_METADATA}
use Rattle.vac_model.specs.Archives.{metadata}
use Rattle.vac_model.specs.Kept.{Numbered}

-- what may be told of an item, behind one of this name, if there is one
pub record IsGood (last : Option (List ℕ)) (about : Numbered) : Type 0 where
  pub name : IsItemName about.facts.name
  pub next : is_next last about.facts.name ≡ true
  pub mode : bit_and about.facts.mode 511 ≡ about.facts.mode
  pub mode_fits : about.facts.mode < 2 ^ 32
  pub mtime : about.facts.mtime < 2 ^ 32
  pub qid : about.qid < 2 ^ 64
  pub uid : length about.facts.uid ≤ MAX_NAME
  pub gid : length about.facts.gid ≤ MAX_NAME

-- items of a folder, behind one of this name, and all that is in them
abbrev pub AreGood : (last : Option (List ℕ)) → Items Numbered → Type 0
AreGood last none = ⊤
AreGood last (file about bytes others) =
    IsGood last about × (length bytes ≤ MAX_FILE) × AreGood (Some about.facts.name) others
AreGood last (folder about inside others) =
    IsGood last about × AreGood None inside × (length (metadata inside) ≤ MAX_METADATA)
    × AreGood (Some about.facts.name) others
AreGood last (other about others) = ⊥
