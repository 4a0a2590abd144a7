use Rattle.std.specs.Prelude.{IsTrue}
use Rattle.vt_open.proofs.RefusedStores.{refused_found, refused_standing, refused_two}
use Rattle.vt_open.proofs.laws.refused_stores_stand.Goals as goal

pub returns-clause-differs : goal.returns-clause-differs
returns-clause-differs g c = λ score tells conf old new before after bad it.
    refused_two g.D.Disk score (IsTrue tells) conf old new before after c.refusals_name_two.ensures.part c.refusals_name_two-2.ensures bad it

pub returns-clause-found : goal.returns-clause-found
returns-clause-found g c = λ score tells_ conf old new before after bad tables devices setup h more base t tells it under log limits.
    refused_found g.D.Disk score (IsTrue tells_) conf old new before after t tells (λ d. g.met.D.Disk.read_is_image d tells) bad it tables devices under
    c.partitions_are_told_apart.ensures.one c.partitions_are_told_apart.ensures.passes (λ d file image. g.met.D.Disk.images_fit d file image) setup h more base log limits

pub returns-clause-standing : goal.returns-clause-standing
returns-clause-standing g c = λ score tells_ conf old new before after bad tables devices back t tells it under also.
    refused_standing g.D.Disk score (IsTrue tells_) conf old new before after t tells (λ d. g.met.D.Disk.read_is_image d tells) bad it tables devices under
    c.partitions_are_told_apart.ensures.one back also
