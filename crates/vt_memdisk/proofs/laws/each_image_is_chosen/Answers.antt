use Rattle.std.proofs.Common.{sym, ◌∙◌}
use Rattle.vt_memdisk.proofs.Chosen.{each_image_chosen}
use Rattle.vt_memdisk.proofs.laws.each_image_is_chosen.Goals as goal

pub returns : goal.returns
returns g c disk file is =
    let s = disk.cells in
    each_image_chosen s.pending.items s.synced.items s.content.items file
    (s.pending_length ∙ sym s.synced_length) (sym s.synced_length) is
