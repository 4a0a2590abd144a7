-- What holds of all that a view keeps, whatever the blocks are.
use Rattle.std.specs.Prelude.{ℕ, ◌≤◌, IfSome}
use Rattle.std.specs.List.{All, AllByRecursion}
use Rattle.nine_view.specs.declared.fid.Fid.{Fid}
use Rattle.nine_view.specs.Files.{FitsMessage}
use Rattle.nine_view.specs.Known.{ViewState}

-- all that can be told of a fid has room in a message
pub record IsKeptFid (f : Fid) : Type 0 where
  pub node : FitsMessage f.node
  pub above : AllByRecursion FitsMessage f.above
  pub files : IfSome f.files (All FitsMessage)

-- a size that may be agreed
pub record IsMessageSize (msize : ℕ) : Type 0 where
  pub least : 256 ≤ msize
  pub most : msize ≤ 65536

-- The invariant of a view: each fid's item and those above it fit a message.
pub record IsKeptView (known : ViewState) : Type 0 where
  pub top : FitsMessage known.top
  pub msize : IfSome known.msize IsMessageSize
  pub fids : AllByRecursion (λ e. IsKeptFid e.1) known.fids
