use Rattle.vt_host.specs.Folders.{folders_opener}
use Rattle.vt_host.proofs.folders.StdFolders.open.Goals as goal

pub returns-clause-owners : goal.returns-clause-owners
returns-clause-owners g c tells = record {
  between = g.O.Opener.opened (folders_opener c.owners.new.self);
  users_are = rw c.in_ok-folder.ensures.users (c.in_ok-users.ensures.owners tells);
  groups_are = rw c.in_ok-folder.ensures.groups (c.in_ok-groups.ensures.owners tells);
}
