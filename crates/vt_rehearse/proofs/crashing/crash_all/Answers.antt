use Rattle.std.proofs.Common.{◌∷◌, ◌++◌, [], List, sym, subst}
use Rattle.std.specs.List.{AllZip}
use Rattle.std.proofs.lemmas.List.Elements.{AllZip-push}
use Rattle.vt_rehearse.specs.Crashed.{IsImageLeft}
use Rattle.vt_rehearse.proofs.crashing.crash_all.Goals as goal

pub loop-disk-preserved : goal.loop-disk-preserved
loop-disk-preserved g c =
    let R = IsImageLeft g.D.Disk g.D.Crashable.leaves c.args.mode in
    let left : R c.in-Some.disk c.crashed.result = record { left = c.crashed.ensures.left; image = c.crashed.ensures.image; only = c.crashed.ensures.only; size = c.crashed.ensures.size } in
    subst (λ (ds : List g.row.D.Denot). AllZip R (c.loop-disk.yielded ++ c.in-Some.disk ∷ []) ds) (sym c.in_ok-push.ensures.items)
    (AllZip-push R c.loop-disk.yielded c.loop-disk.left.items c.in-Some.disk c.crashed.result c.loop-disk.invariant left)
