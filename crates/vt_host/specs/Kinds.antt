-- The kind of what stands at a path, by its file type (stat(2)).
use Rattle.std.specs.Fs.{IsDir, IsFile}
use Rattle.std.specs.declared.fs.attrs.FileType.{FileType}
use Rattle.vt_out.specs.declared.folder_item.ItemKind.{ItemKind}
use Rattle.vt_out.specs.declared.folder_item.ItemKind.TheVariants.{File, Folder, Other}

-- a regular file, a folder, or neither
abbrev pub IsKindOf : FileType → ItemKind → Type 0
IsKindOf found File = IsFile found
IsKindOf found Folder = IsDir found
IsKindOf found Other = (¬ IsFile found) × (¬ IsDir found)
