use Rattle.std.proofs.Common.{sym, ◌∙◌, ap}
use Rattle.vt_memdisk.proofs.Combinations.{only_synced}
use Rattle.vt_memdisk.proofs.mem_disk.MemDisk.restarted.Goals as goal

pub returns-clause-settled : goal.returns-clause-settled
returns-clause-settled g c =
    only_synced c.settle.new.self.synced.items c.settle.new.self.content.items
    c.settle.new.self.pending.items c.settle.ensures.pending
    (c.settle.ensures.synced ∙ ap (λ v. v.items) (sym c.settle.ensures.content))
