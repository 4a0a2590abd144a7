-- the name is told by the owners that are left
use Rattle.std.proofs.Common.{◌≡◌, drop}
use Rattle.vt_host.specs.Owning.{owner_name}
use Rattle.vt_host.proofs.owners.Owners.name_of.Given as goal

abbrev pub invariant-loop-owner : goal.invariant-loop-owner
invariant-loop-owner l = owner_name (drop l.owner-index l.self.owners.items) l.id
    ≡ owner_name l.self.owners.items l.id
