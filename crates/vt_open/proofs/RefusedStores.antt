-- What holds where a store wasn't opened.
use Rattle.std.proofs.Common.{◌≡◌, ⊎_elim, ◌+◌, ℕ, List, [], length, map, refl, sym, subst}
use Rattle.std.specs.Prelude.{IsTrue}
use Rattle.vt_base.specs.Bytes.{AreBytes}
use Rattle.vt_base.specs.declared.mount.MountBad.{MountBad}
use Rattle.vt_base.specs.declared.mount.MountBad.TheVariants.{NoMemory}
use Rattle.vt_conf.specs.declared.conf.Conf.{Conf}
use Rattle.vt_core.specs.Files.{PerDevice, all_of}
use Rattle.vt_core.specs.Mounting.{IsLogOf, KeepsLimits, LeavesStanding}
use Rattle.vt_core.specs.Refusals.{IsRefusedMount}
use Rattle.vt_disk.specs.Members.{DiskOf}
use Rattle.vt_isect.specs.Layout.{buckets_in}
use Rattle.vt_model.specs.History.{History}
use Rattle.vt_model.specs.Places.{Setup}
use Rattle.vt_part.specs.Faults.{NamesPartCause}
use Rattle.vt_part.specs.Laws.{IsUnambiguous, PassesPartitions}
use Rattle.vt_part.specs.Layout.{layout_of}
use Rattle.vt_part.specs.Table.{Table}
use Rattle.vt_part.specs.declared.error.PartBad.{PartBad}
use Rattle.vt_mount_errors.specs.MountErrors.{NamesTwo, of_part}
use Rattle.vt_open.specs.declared.error.OpenError.{OpenError}
use Rattle.vt_open.specs.declared.error.OpenError.TheVariants.{Missing, Refused}
use Rattle.vt_open.specs.Names.{AreUnder, files_of}
use Rattle.vt_open.specs.Opening.{FindsNoStore, IsFaultOrMemory, NamesCause, RefusesStore}
use Rattle.vt_open.specs.Taking.{RefusesTaking}
use Rattle.vt_open.proofs.Kept.{all_stay, early_stands, taking_fails}
use Rattle.vt_open.proofs.ReadOn.{left_on, log_on}
use Rattle.vt_open.proofs.Shapes.{one_list}
use Rattle.vt_open.proofs.Taken.{Stands}

-- what the laws say that are called
abbrev pub PartNamesTwo : Type 0
PartNamesTwo = (part size : ℕ) (why : PartBad) → NamesPartCause size why → NamesTwo (of_part part why)

abbrev pub StoreNamesTwo : {D : Type 0} → DiskOf D → Type 0
StoreNamesTwo {D} disk = (score : List ℕ → List ℕ) (tables : List Table) (devices : PerDevice D) (c : Setup) (bad : MountBad) → IsRefusedMount score disk tables devices c bad → NamesTwo bad

module _ {D : Type 0} (disk : DiskOf D) (score : List ℕ → List ℕ) (told : Type 0) (conf : Conf) (old new : Stands D) (f f' : ℕ) where
  -- ---- two values are told

  taking_two : PartNamesTwo → (bad : OpenError) → RefusesTaking disk told 0 (length conf.arenas.items) (all_of (files_of conf)) old new f f' bad → NamesCause bad
  taking_two part (Missing number) it = tt
  taking_two part (Refused bad) it = ⊎_elim
      (λ (none : bad ≡ NoMemory). subst NamesTwo (sym none) tt)
      (λ table. subst NamesTwo (sym table.bad_is) (part (0 + table.i) (disk.size table.device) table.why table.names))
      it.cause.2

  pub refused_two : PartNamesTwo → StoreNamesTwo disk → (bad : OpenError) → RefusesStore score disk told conf old new f f' bad → NamesCause bad
  refused_two part store bad it = ⊎_elim
      (λ taking. taking_two part bad taking)
      (λ finds.
      let none = finds.3 in
      let c : Setup = record {
        arenas = map (λ r. r.region.len) (layout_of none.tables);
        versions = [];
        base = 0;
        sections = map (λ device. buckets_in (disk.size device)) none.mounted.sections;
      } in
      subst NamesCause (sym finds.1) (store score none.tables none.mounted c finds.0 (none.cause c (record { arenas = refl; sections = refl }))))
      it

  -- ---- on partitions that stand for prefixes

  module _ (t : told) (tells : IsTrue disk.tells) (read : (d : D) → disk.images d (disk.bytes d)) (bad : OpenError) (it : RefusesStore score disk told conf old new f f' bad)
      (tables : List Table) (devices : PerDevice D) (under : AreUnder old conf devices) where
    mine : (why : MountBad) (none : FindsNoStore score disk told conf old new why) → devices ≡ none.handed
    mine why none = one_list old conf devices none.handed under (none.stood t)

    pub refused_found : IsUnambiguous → PassesPartitions → ((d : D) (c : List ℕ) → disk.images d c → (length c ≡ disk.size d) × AreBytes c)
        → (c : Setup) (h g : History) (base : ℕ) → IsLogOf score disk tables devices c h g base → KeepsLimits tables c → IsFaultOrMemory bad
    refused_found one passes fit c h g base log limits = ⊎_elim
        (λ taking. taking_fails disk passes read fit tells told t conf old new devices under score c tables h log.each f f' bad taking)
        (λ finds.
        let none = finds.3 in
        let here : IsLogOf score disk tables none.handed c h g base = subst (λ (p : PerDevice D). IsLogOf score disk tables p c h g base) (mine finds.0 none) log in
        let those = log_on disk one read score none.handed none.mounted none.read none.tables tables (none.partitions tells) c h g base here in
        subst IsFaultOrMemory (sym finds.1) (none.found c h g base tells those.0 (subst (λ (l : List Table). KeepsLimits l c) those.1 limits)))
        it

    pub refused_standing : IsUnambiguous → (back : PerDevice D) → AreUnder new conf back → LeavesStanding score disk tables devices back
    refused_standing one back also = ⊎_elim
        (λ taking. early_stands disk score tables old new conf devices back under also
        (all_stay disk told (all_of (files_of conf)) old new taking.handed taking.back taking.are taking.held t))
        (λ finds.
        let none = finds.3 in
        let there : none.back ≡ back = one_list new conf none.back back (none.stand t) also in
        let left = left_on disk one read score none.handed none.mounted none.read none.tables tables (none.partitions tells) none.back (none.standing tells) in
        subst (λ (p : PerDevice D). LeavesStanding score disk tables devices p) there
        (subst (λ (p : PerDevice D). LeavesStanding score disk tables p none.back) (sym (mine finds.0 none)) left))
        it
