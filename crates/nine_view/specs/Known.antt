-- What a view of an archive knows between two messages of its client.
use Rattle.std.specs.Prelude.{ℕ, ◌≡◌, ◌==◌, ⊤, if◌then◌else◌, Bool, is_some, Option, Some, None, unwrap_or, List, [], ◌∷◌, find}
use Rattle.std.specs.List.{AllByRecursion}
use Rattle.std.specs.Option.{option_map}
use Rattle.vt_tree.specs.Maps.{BlockMap}
use Rattle.vac_read.specs.declared.kept.KeptFolder.{KeptFolder}
use Rattle.vac_read.specs.declared.last_way.WayBlock.{WayBlock}
use Rattle.vac_read.specs.declared.node.Node.{Node}
use Rattle.vac_read.specs.Kept.{IsRightKept}
use Rattle.vac_read.specs.LastWay.{IsRightWay}
use Rattle.vac_read.specs.Nodes.{FindsNode, Lists}
use Rattle.nine_view.specs.declared.TheConstants.{MAX_MESSAGE}
use Rattle.nine_view.specs.declared.fid.Fid.{Fid}

-- the top folder; the agreed size of messages, where a version is agreed; the fids that the client
-- has set, each with its file; and what is kept of the folders in which names were looked for, and
-- of the way of the last read of a file, on which no reply depends
pub record ViewState : Type 0 where
  pub top : Node
  pub msize : Option ℕ
  pub fids : List (ℕ × Fid)
  pub kept : List KeptFolder
  pub way : List WayBlock

-- the same, where this is kept of folders
abbrev pub keeping : List KeptFolder → ViewState → ViewState
keeping kept known = record known { kept = kept }

-- the same, where this is kept of the way of the last read
abbrev pub along : List WayBlock → ViewState → ViewState
along way known = record known { way = way }

-- the most bytes that a message may have now
abbrev pub limit : ViewState → ℕ
limit known = unwrap_or known.msize MAX_MESSAGE

-- ---- fids

-- where this fid stands, if it is in use
abbrev pub fid_at : (fid : ℕ) → List (ℕ × Fid) → Option Fid
fid_at fid fids = option_map (λ e. e.1) (find (λ e. e.0 == fid) fids)

-- whether the fid is in use
abbrev pub is_known : (fid : ℕ) → List (ℕ × Fid) → Bool
is_known fid fids = is_some (fid_at fid fids)

-- with this fid set, whether it was or not
abbrev pub with_fid : (fid : ℕ) → Fid → List (ℕ × Fid) → List (ℕ × Fid)
with_fid fid f [] = (fid, f) ∷ []
with_fid fid f (e ∷ fids) = if e.0 == fid then (fid, f) ∷ fids else e ∷ with_fid fid f fids

-- the fids without this one
abbrev pub without_fid : (fid : ℕ) → List (ℕ × Fid) → List (ℕ × Fid)
without_fid fid [] = []
without_fid fid (e ∷ fids) = if e.0 == fid then fids else e ∷ without_fid fid fids

-- ---- what is right by an archive

-- a file is found in the folder above it, that one in the next, and the last is the top folder
abbrev pub IsWay : BlockMap → (top node : Node) → (above : List Node) → Type 0
IsWay map top node [] = node ≡ top
IsWay map top node (up ∷ above) =
    ((name : List ℕ) × FindsNode map up.stored name (Some node)) × IsWay map top up above

-- the files that are kept of an open folder are those in it
abbrev pub AreFiles : BlockMap → Node → Option (List Node) → Type 0
AreFiles map node None = ⊤
AreFiles map node (Some files) = Lists map node.stored files

-- the fid stands for an item of the archive, with the folders above it and the files that it lists
pub record IsRightFid (map : BlockMap) (top : Node) (f : Fid) : Type 0 where
  pub way : IsWay map top f.node f.above
  pub files : AreFiles map f.node f.files

-- what a view knows of the files of its fids, and what it keeps of folders and of the last read, is what the archive has
pub record IsRightView (map : BlockMap) (known : ViewState) : Type 0 where
  pub fids : AllByRecursion (λ e. IsRightFid map known.top e.1) known.fids
  pub kept : IsRightKept map known.kept
  pub way : IsRightWay map known.way
