-- What is left of devices whose tables were read is left of the devices as they were handed out.
use Rattle.std.proofs.Common.{◌≡◌, ℕ, List, map, sym, ◌∙◌, ap, subst}
use Rattle.std.specs.Prelude.{slice_get}
use Rattle.vt_core.specs.Files.{PerDevice, DeviceFiles}
use Rattle.vt_core.specs.Mounting.{AllStandFor, EachStands, IsLogOf, IsSetupOf, LeavesStanding}
use Rattle.vt_core.specs.Stands.{ArePartitions}
use Rattle.vt_disk.specs.Members.{DiskOf}
use Rattle.vt_log.specs.Answers.{HoldTheSame}
use Rattle.vt_model.specs.History.{History}
use Rattle.vt_model.specs.Places.{Setup}
use Rattle.vt_part.specs.Laws.{IsUnambiguous}
use Rattle.vt_part.specs.Table.{Table}
use Rattle.vt_open.specs.Opening.{AreTablesRead}
use Rattle.vt_open.proofs.Held.{held_twice}
use Rattle.vt_open.proofs.Recalled.{all_read, all_read_on, log_read, read_holds, same_tables, setup_read, stands_read, tables_are}

abbrev read_files : {D : Type 0} → DiskOf D → PerDevice D → DeviceFiles
read_files disk p = record { partitions = map disk.bytes p.partitions; sections = map disk.bytes p.sections; filter = map disk.bytes p.filter }

module _ {D : Type 0} (disk : DiskOf D) (one : IsUnambiguous) (read : (d : D) → disk.images d (disk.bytes d)) (score : List ℕ → List ℕ)
    (handed mounted : PerDevice D) (was : AreTablesRead disk handed mounted) (own tables : List Table) (are : ArePartitions own (map disk.bytes handed.partitions)) where
  -- the log of the devices as they were handed out is theirs
  pub log_on : (c : Setup) (h g : History) (base : ℕ) → IsLogOf score disk tables handed c h g base → IsLogOf score disk own mounted c h g base × (tables ≡ own)
  log_on c h g base log =
      let same : tables ≡ own = tables_are disk one read score c tables own 0 handed h log.each are in
      let those : IsLogOf score disk own handed c h g base = subst (λ (l : List Table). IsLogOf score disk l handed c h g base) same log in
      (log_read disk handed mounted was score own c h g base those, same)

  pub left_on : (back : PerDevice D) → LeavesStanding score disk own mounted back → LeavesStanding score disk tables handed back
  left_on back left =
      let holds = read_holds disk handed mounted was in
      record {
        prefix = λ c h least legal setup each.
            let same : tables ≡ own = tables_are disk one read score c tables own least handed h each are in
            let those : EachStands score disk c own least handed h = subst (λ (l : List Table). EachStands score disk c l least handed h) same each in
            let setups : IsSetupOf disk own handed c = subst (λ (l : List Table). IsSetupOf disk l handed c) same setup in
            subst (λ (l : List Table). EachStands score disk c l least back h) (sym same)
            (left.prefix c h least legal (setup_read disk handed mounted was own c setups) (stands_read disk handed mounted was score c own least h those));
        same = λ c h n legal setup every.
            let image = all_read disk read handed in
            let same : tables ≡ own = same_tables one tables own (map disk.bytes handed.partitions) (every (read_files disk handed) image).partitions are in
            let those : AllStandFor score disk c own handed h n = subst (λ (l : List Table). AllStandFor score disk c l handed h n) same every in
            let setups : IsSetupOf disk own handed c = subst (λ (l : List Table). IsSetupOf disk l handed c) same setup in
            subst (λ (l : List Table). AllStandFor score disk c l back h n) (sym same)
            (left.same c h n legal (setup_read disk handed mounted was own c setups) (all_read_on disk handed mounted was score c own n h those));
        partitions = held_twice disk handed.partitions mounted.partitions back.partitions holds left.partitions;
        filter = subst (λ (l : List D). HoldTheSame disk l back.filter) was.filter left.filter;
        sizes = left.sizes ∙ ap (map disk.size) was.sections;
        sections = λ c h g base i before after log at_old at_new.
            left.sections c h g base i before after (log_on c h g base log).0
            (ap (λ (l : List D). slice_get l i) was.sections ∙ at_old) at_new;
      }
