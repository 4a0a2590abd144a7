-- Why the entries of a record aren't told, at another place of the metadata.
use Rattle.std.proofs.Common.{◌≡◌, ◌+◌, ℕ, Bool, Result, Err, refl, inl, inr}
use Rattle.vt_tree.specs.declared.entry.Entry.{Entry}
use Rattle.vt_tree.specs.Maps.{BlockMap}
use Rattle.vac_meta.specs.declared.record.RecordKind.{RecordKind}
use Rattle.vac_meta.specs.declared.record.RecordKind.TheVariants.{File, Folder}
use Rattle.vac_read.specs.declared.error.VacBad.{VacBad}
use Rattle.vac_read.specs.declared.error.VacBad.TheVariants.{Tree, Root, Meta, NoMemory}
use Rattle.vac_read.specs.Broken.{LacksDirectoryEntry, LacksEntries}
use Rattle.vac_read.specs.Folders.{moved_to}
use Rattle.vac_read.specs.Reading.{refused_by}

module _ (map : BlockMap) (stream : Entry) (field : ℕ) where
  entry_moved : (i : ℕ) (is_dir : Bool) (bad : VacBad)
      → LacksDirectoryEntry map stream i is_dir 0 bad
      → LacksDirectoryEntry map stream i is_dir field (moved_to field bad)
  entry_moved i is_dir (Tree err) (inl ends) =
      let never : Tree err ≡ Meta 0 = ends.0 in absurd (cc)
  entry_moved i is_dir (Tree err) (inr lacks) = inr lacks
  entry_moved i is_dir (Root root_field) (inl ends) =
      let never : Root root_field ≡ Meta 0 = ends.0 in absurd (cc)
  entry_moved i is_dir (Root root_field) (inr (inl lacks)) = absurd lacks.1
  entry_moved i is_dir (Root root_field) (inr (inr lacks)) = absurd lacks.2
  entry_moved i is_dir (Meta at) (inl ends) = inl (refl, ends.1)
  entry_moved i is_dir (Meta at) (inr (inl lacks)) = absurd lacks.1
  entry_moved i is_dir (Meta at) (inr (inr (bytes, has, other))) =
      inr (inr (bytes, has, (refl, other.1, other.2, other.3, other.4)))
  entry_moved i is_dir NoMemory (inl ends) =
      let never : NoMemory ≡ Meta 0 = ends.0 in absurd (cc)
  entry_moved i is_dir NoMemory (inr (inl lacks)) = absurd lacks.1
  entry_moved i is_dir NoMemory (inr (inr lacks)) = absurd lacks.2

  pub lacks_moved : (kind : RecordKind) (i : ℕ) (bad : VacBad) → LacksEntries map stream kind i 0 bad
      → LacksEntries map stream kind i field (moved_to field bad)
  lacks_moved File i bad lacks = entry_moved i _ bad lacks
  lacks_moved Folder i bad (inl lacks) = inl (entry_moved i _ bad lacks)
  lacks_moved Folder i bad (inr (e, has, is, lacks)) =
      inr (e, has, is, entry_moved (i + 1) _ bad lacks)

-- it is the refusal of a call as before, and no want of memory
pub refused_moved : (X Y : Type 0) (field : ℕ) (bad : VacBad)
    → refused_by {X = X} (Err (moved_to field bad)) ≡ refused_by {X = Y} (Err bad)
refused_moved X Y field (Tree err) = refl
refused_moved X Y field (Root root_field) = refl
refused_moved X Y field (Meta at) = refl
refused_moved X Y field NoMemory = refl

pub some_moved : (field : ℕ) (bad : VacBad) → (moved_to field bad ≡ NoMemory → ⊥)
    → bad ≡ NoMemory → ⊥
some_moved field (Tree err) some is = let never : Tree err ≡ NoMemory = is in cc
some_moved field (Root root_field) some is = let never : Root root_field ≡ NoMemory = is in cc
some_moved field (Meta at) some is = let never : Meta at ≡ NoMemory = is in cc
some_moved field NoMemory some is = some refl
