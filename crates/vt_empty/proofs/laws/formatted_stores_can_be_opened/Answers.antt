use Rattle.vt_empty.proofs.Named.{formatted, has_new_index, keeps_limits, limits_kept}
use Rattle.vt_empty.proofs.laws.formatted_stores_can_be_opened.Goals as goal

pub returns-clause-index : goal.returns-clause-index
returns-clause-index g c = λ conf before after old new it these those apart puts. has_new_index g.D.Disk conf before after old new it these those apart puts

pub returns-clause-limits : goal.returns-clause-limits
returns-clause-limits g c = λ conf before after old new it tables setup these those puts are is.
    keeps_limits g.D.Disk c.partitions_are_told_apart.ensures.one conf before after old new it tables setup these those puts are is

pub returns-clause-formatted : goal.returns-clause-formatted
returns-clause-formatted g c = λ conf before after old new it tables these those apart empties unset puts.
    formatted g.D.Disk conf before after old new it tables these those apart empties unset puts

pub returns-clause-opened : goal.returns-clause-opened
returns-clause-opened g c = λ score conf before after old new it tables tells these those apart empties unset puts.
    let disk = g.D.Disk in (
      c.formatted_devices_hold_nothing.ensures.log score tables new tells (formatted disk conf before after old new it tables these those apart empties unset puts),
      limits_kept disk c.partitions_are_told_apart.ensures.one (λ d. g.met.D.Disk.read_is_image d tells) conf before after old new it tables these those empties puts,
    )
