use Rattle.std.proofs.Common.{◌≡◌, ◌<◌, [], ◌∷◌, ◌++◌, Some, None, false, length, arith}
use Rattle.std.proofs.lemmas.Grind.{common_steps}
use Rattle.vt_host.specs.FolderChanges.{SameFolder, StaysFolder}
use Rattle.vt_host.specs.Folders.{folder_groups, folder_users}
use Rattle.vt_host.specs.Listing.{is_dots, item_of, items_of, names_listed}
use Rattle.vt_host.proofs.FolderChanges.{stays_then}
use Rattle.vt_host.proofs.Listing.{items_pushed, name_passed}
use Rattle.vt_host.proofs.folder.StdFolder+C+C+File.items_in.Goals as goal

pub loop-rest-preserved-in_ok-map_err : goal.loop-rest-preserved-in_ok-map_err
loop-rest-preserved-in_ok-map_err g c =
    let before = c.loop-rest.self in
    let items = c.loop-rest.items.items in
    let some : 0 < length c.loop-rest.rest.now = grind (arith, common_steps) in
    let dots : is_dots c.cut.result.0.now ≡ false = grind (arith, common_steps) in
    let pushed : c.push.new.self.items ≡ items ++ c.in-Some.item ∷ [] = grind (arith, common_steps) in
    record {
      told = λ still.
          let told = c.in_ok-item.ensures.item still in
          let is : Some c.in-Some.item ≡ item_of g.C.FolderCalls.look_at (folder_users before)
          (folder_groups before) c.args.path.now c.cut.result.0.now = cc in
          items_pushed g.C.FolderCalls.look_at (folder_users c.args.self.now)
          (folder_groups c.args.self.now) c.args.path.now items c.loop-rest.rest.now some
          c.cut.result.0.now c.cut.result.1.now (folder_users before) (folder_groups before)
          c.cut.ensures.front c.cut.ensures.rest dots
          (SameFolder.users (StaysFolder.same c.loop-rest.invariant.stays))
          (SameFolder.groups (StaysFolder.same c.loop-rest.invariant.stays))
          (items_of g.C.FolderCalls.look_at (folder_users c.args.self.now)
          (folder_groups c.args.self.now) c.args.path.now (names_listed c.args.names.now))
          (c.loop-rest.invariant.told still) c.push.new.self.items c.in-Some.item is pushed;
      stays = stays_then c.args.self.now before c.item.new.self c.loop-rest.invariant.stays
          c.item.ensures.stays;
    }

pub loop-rest-preserved-in_default : goal.loop-rest-preserved-in_default
loop-rest-preserved-in_default g c =
    let before = c.loop-rest.self in
    let items = c.loop-rest.items.items in
    let some : 0 < length c.loop-rest.rest.now = grind (arith, common_steps) in
    let dots : is_dots c.cut.result.0.now ≡ false = grind (arith, common_steps) in
    record {
      told = λ still.
          let told = c.in_ok-item.ensures.item still in
          let is : None ≡ item_of g.C.FolderCalls.look_at (folder_users before)
          (folder_groups before) c.args.path.now c.cut.result.0.now = cc in
          name_passed g.C.FolderCalls.look_at (folder_users c.args.self.now)
          (folder_groups c.args.self.now) c.args.path.now items c.loop-rest.rest.now some
          c.cut.result.0.now c.cut.result.1.now (folder_users before) (folder_groups before)
          c.cut.ensures.front c.cut.ensures.rest dots
          (SameFolder.users (StaysFolder.same c.loop-rest.invariant.stays))
          (SameFolder.groups (StaysFolder.same c.loop-rest.invariant.stays))
          (items_of g.C.FolderCalls.look_at (folder_users c.args.self.now)
          (folder_groups c.args.self.now) c.args.path.now (names_listed c.args.names.now))
          (c.loop-rest.invariant.told still) is;
      stays = stays_then c.args.self.now before c.item.new.self c.loop-rest.invariant.stays
          c.item.ensures.stays;
    }
