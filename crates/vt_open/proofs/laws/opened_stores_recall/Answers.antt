use Rattle.std.proofs.Common.{◌≡◌, sym, ◌∙◌, subst}
use Rattle.vt_core.specs.Files.{PerDevice}
use Rattle.vt_core.specs.Mounting.{IsLogOf}
use Rattle.vt_open.proofs.ReadOn.{log_on}
use Rattle.vt_open.proofs.Shapes.{one_list}
use Rattle.vt_open.proofs.laws.opened_stores_recall.Goals as goal

pub returns-clause-recalls : goal.returns-clause-recalls
returns-clause-recalls g c = λ score tells_ conf sessions old new k tables devices setup h more base told tells opens under log.
    let disk = g.D.Disk in
    let same : devices ≡ opens.handed = one_list old conf devices opens.handed under (record { shape = opens.shape; under = opens.taken.stood told }) in
    let here : IsLogOf score disk tables opens.handed setup h more base = subst (λ (p : PerDevice _). IsLogOf score disk tables p setup h more base) same log in
    let those = log_on disk c.partitions_are_told_apart.ensures.one (λ d. g.met.D.Disk.read_is_image d tells) score opens.handed opens.mounted opens.read opens.tables tables (opens.partitions tells) setup h more base here in
    opens.mounts.recalls setup h more base tells those.0

pub returns-clause-tables : goal.returns-clause-tables
returns-clause-tables g c = λ score tells_ conf sessions old new k tables devices setup h more base told tells opens under log.
    let disk = g.D.Disk in
    let same : devices ≡ opens.handed = one_list old conf devices opens.handed under (record { shape = opens.shape; under = opens.taken.stood told }) in
    let here : IsLogOf score disk tables opens.handed setup h more base = subst (λ (p : PerDevice _). IsLogOf score disk tables p setup h more base) same log in
    let those = log_on disk c.partitions_are_told_apart.ensures.one (λ d. g.met.D.Disk.read_is_image d tells) score opens.handed opens.mounted opens.read opens.tables tables (opens.partitions tells) setup h more base here in
    opens.mounts.fresh.tables_are ∙ sym those.1
