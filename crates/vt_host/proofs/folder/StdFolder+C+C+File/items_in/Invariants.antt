-- the items so far and those of what is left of the names are those of all names
use Rattle.std.proofs.Common.{◌≡◌, ◌++◌, length}
use Rattle.std.specs.Prelude.{IsTrue}
use Rattle.vt_host.specs.FolderChanges.{StaysFolder}
use Rattle.vt_host.specs.Folders.{folder_groups, folder_users}
use Rattle.vt_host.specs.Listing.{items_of, names_listed}
use Rattle.vt_host.proofs.folder.StdFolder+C+C+File.items_in.Given as goal

abbrev pub invariant-loop-rest : goal.invariant-loop-rest
invariant-loop-rest g l = let calls = g.C.FolderCalls in
    let users = folder_users l.fn.self in
    let groups = folder_groups l.fn.self in
    record {
      told : IsTrue calls.still
          → l.items.items ++ items_of calls.look_at users groups l.path (names_listed l.rest)
          ≡ items_of calls.look_at users groups l.path (names_listed l.names);
      stays : StaysFolder l.fn.self l.self;
    }

abbrev pub decreases-loop-rest : goal.decreases-loop-rest
decreases-loop-rest g l = length l.rest
