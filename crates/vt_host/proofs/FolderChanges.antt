-- Calls of a folder, one after the other.
use Rattle.std.proofs.Common.{◌∙◌}
use Rattle.vt_host.specs.FolderChanges.{SameFolder, StaysFolder}
use Rattle.vt_host.specs.declared.folder.StdFolder.{StdFolder}

module _ {C F : Type 0} (a b c : StdFolder C F) where
  same_then : SameFolder a b → SameFolder b c → SameFolder a c
  same_then first second = record {
    base = SameFolder.base second ∙ SameFolder.base first;
    users = SameFolder.users second ∙ SameFolder.users first;
    groups = SameFolder.groups second ∙ SameFolder.groups first;
  }

  pub stays_then : StaysFolder a b → StaysFolder b c → StaysFolder a c
  stays_then first second = record {
    same = same_then (StaysFolder.same first) (StaysFolder.same second);
    faults = StaysFolder.faults second ∙ StaysFolder.faults first;
  }
