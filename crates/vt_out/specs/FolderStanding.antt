-- What stands under a name.
use Rattle.vt_out.specs.declared.folder_item.Facts.{Facts}
use Rattle.vt_out.specs.FolderItems.{FailingPaths, Items}

-- nothing, a folder that was handed out, or one that holds these items, of which calls may fail at
-- these paths
pub data Standing : Type 0 where
  nothing : Standing
  lent : Standing
  there : (items : Items Facts) (failing : FailingPaths) → Standing
