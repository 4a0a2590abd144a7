use Rattle.std.proofs.Common.{◌≡◌, ◌∙◌, sym, ap, IsUtf8, List, ℕ, Some, arith}
use Rattle.std.proofs.lemmas.Grind.{common_steps}
use Rattle.std.specs.IoError.{error_kind}
use Rattle.std.specs.declared.io.ErrorKind.TheVariants.{NotFound}
use Rattle.vt_host.specs.Folders.{folder_groups, folder_users}
use Rattle.vt_host.specs.Paths.{path_below}
use Rattle.vt_host.proofs.Listing.{item_absent, item_found, item_unknown}
use Rattle.vt_host.proofs.folder.StdFolder+C+C+File.item.Goals as goal

pub returns-in_default-clause-item : goal.returns-in_default-clause-item
returns-in_default-clause-item g c = λ still.
    ap Some c.in_ok-unknown.ensures
    ∙ sym (item_unknown g.C.FolderCalls.look_at (folder_users c.args.self.now)
    (folder_groups c.args.self.now) c.args.folder.now c.args.name.now c.in_default.ensures.cases.0)

pub returns-in-Ok-look-clause-item : goal.returns-in-Ok-look-clause-item
returns-in-Ok-look-clause-item g c = λ still.
    let calls = g.C.FolderCalls in
    let is : IsUtf8 c.args.name.now = grind (arith, common_steps) in
    let at : c.as_str.result.now ≡ path_below c.args.folder.now c.args.name.now = grind (arith, common_steps) in
    ap Some c.in_ok-item_of-in-Ok-look.ensures
    ∙ sym (item_found calls.look_at (folder_users c.args.self.now) (folder_groups c.args.self.now)
    c.args.folder.now c.args.name.now c.in-Ok-look.found is
    (ap (λ (path : List ℕ). calls.look_at path) (sym at) ∙ c.in-Ok-look.ensures.seen still))

pub returns-in-Err-clause-item : goal.returns-in-Err-clause-item
returns-in-Err-clause-item g c = λ still.
    let calls = g.C.FolderCalls in
    let is : IsUtf8 c.args.name.now = grind (arith, common_steps) in
    let at : c.as_str.result.now ≡ path_below c.args.folder.now c.args.name.now = grind (arith, common_steps) in
    let gone : error_kind c.in-Err.why ≡ NotFound = grind (arith, common_steps) in
    sym (item_absent calls.look_at (folder_users c.args.self.now) (folder_groups c.args.self.now)
    c.args.folder.now c.args.name.now is
    (ap (λ (path : List ℕ). calls.look_at path) (sym at) ∙ c.in-Err.ensures.absent still gone))
