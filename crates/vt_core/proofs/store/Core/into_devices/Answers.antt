use Rattle.std.proofs.Common.{◌≡◌, List, ◌++◌, map, reverse, Option, ◌∙◌, ap, append-nil}
use Rattle.std.specs.Option.{option_to_list}
use Rattle.vt_core.specs.Core.{CoreState, devices_of}
use Rattle.vt_core.specs.View.{state_of}
use Rattle.vt_core.proofs.Room.{same_devices}
use Rattle.vt_core.proofs.store.Core.into_devices.Goals as goal
use Rattle.vt_core.proofs.Returned.{list_map}

pub returns-clause-devices : goal.returns-clause-devices
returns-clause-devices g c =
    let k : CoreState g.row.D.Denot = state_of c.self.inside in
    let sections : c.close_shards.result.items ≡ map (λ s. s.section.disk) k.shards =
    c.close_shards.ensures ∙ ap (λ (ds : List g.row.D.Denot). map (λ s. s.section.disk) k.shards ++ reverse ds) c.self.invariant.1.empty ∙ append-nil _ in
    let filter : option_to_list c.device_of.result ≡ map (λ b. b.disk) (option_to_list k.bloom) =
    ap (λ (o : Option g.row.D.Denot). option_to_list o) c.device_of.ensures ∙ list_map (λ b. b.disk) k.bloom in
    same_devices _ _ c.into_devices.ensures.disks sections filter ∙ ap (λ (m : CoreState g.row.D.Denot). devices_of m) c.self.view_is
