use Rattle.vt_memdisk.proofs.Combinations.{only_synced}
use Rattle.vt_memdisk.proofs.mem_disk.MemDisk.with_plan.Goals as goal

pub returns-clause-settled : goal.returns-clause-settled
returns-clause-settled g c =
    let cells = c.in_ok-new.field-0 in
    only_synced cells.synced.items cells.content.items cells.pending.items
    c.in_ok-new.ensures.pending c.in_ok-new.ensures.synced
