-- What is read of devices that stand for a history.
use Rattle.std.proofs.Common.{◌≡◌, ℕ, ◌≤◌, ◌^◌, List, length, take, map, sym, ◌∙◌, ap, subst, arith}
use Rattle.std.specs.Prelude.{All}
use Rattle.std.proofs.lemmas.List.{length-map}
use Rattle.std.proofs.lemmas.Option.{same_Some}
use Rattle.vt_disk.specs.Members.{DiskOf}
use Rattle.vt_isect.specs.Layout.{buckets_in}
use Rattle.vt_model.specs.History.{History}
use Rattle.vt_model.specs.Legal.{IsLegal}
use Rattle.vt_model.specs.Places.{Setup, current_arena}
use Rattle.vt_part.specs.declared.layout.ArenaRegion.{ArenaRegion}
use Rattle.vt_part.specs.Layout.{layout_of}
use Rattle.vt_part.specs.Table.{Table}
use Rattle.vt_log.specs.Logs.{IsLog}
use Rattle.vt_log.proofs.Lists.{slice_get_other}
use Rattle.vt_core.specs.Core.{CoreState, setup_of, devices_of}
use Rattle.vt_core.specs.Files.{PerDevice}
use Rattle.vt_core.specs.Mounting.{EachStands, AllStandFor, IsLogOf, IsReadAs, IsSetupOf}
use Rattle.vt_core.specs.Sound.{IsSound}
use Rattle.vt_recover.specs.Sections.{SectionStandsFor}
use Rattle.vt_core.specs.Stands.{FilterStandsFor, StandsFor}
use Rattle.vt_recover.proofs.Lists.{at_map, same_lists}
use Rattle.vt_core.proofs.Recovered.{GivesPrefix}
use Rattle.vt_core.proofs.Standing.{images_read}

-- files are one log at most
abbrev pub AreToldApart : Type 0
AreToldApart = (score : List ℕ → List ℕ) (layout : List ArenaRegion) (files : List (List ℕ)) (g h : History) (a b : ℕ)
    → All (λ r. r.region.len ≤ 2 ^ 30) layout → IsLog score layout files g a → IsLog score layout files h b → (g ≡ h) × (a ≡ b)

pub read_prefix : {D : Type 0} (disk : DiskOf D) → AreToldApart → ((d : D) → disk.images d (disk.bytes d))
    → (score : List ℕ → List ℕ) (c : Setup) (tables : List Table) (devices : PerDevice D) (h g : History) (base : ℕ)
    → All (λ r. r.region.len ≤ 2 ^ 30) (layout_of tables) → IsLogOf score disk tables devices c h g base → IsReadAs score disk c tables devices h g base
read_prefix disk apart read score c tables devices h g base short log =
    let it = log.each (record { partitions = map disk.bytes devices.partitions; sections = map disk.bytes devices.sections; filter = map disk.bytes devices.filter })
    (record { partitions = images_read disk read devices.partitions; sections = images_read disk read devices.sections; filter = images_read disk read devices.filter }) in
    let same = apart score (layout_of tables) (map disk.bytes devices.partitions) (take it.n h) g it.stands.log.base base short it.stands.log.log log.read in
    record {
      n = it.n;
      within = it.within;
      prefix = sym same.0;
      least = subst (λ (b : ℕ). current_arena c (take it.n h) ≤ b) same.1 it.stands.log.least;
      most = subst (λ (b : ℕ). b ≤ current_arena c h) same.1 it.stands.log.most;
      partitions = it.stands.partitions;
      sections = λ i d at. subst (λ (l : History). SectionStandsFor score c l i (disk.bytes d)) same.0 (it.stands.sections i (disk.bytes d) (at_map disk.bytes devices.sections i d at));
      filter = λ i d at. subst (λ (l : History). FilterStandsFor score l (disk.bytes d)) same.0 (it.stands.filter i (disk.bytes d) (at_map disk.bytes devices.filter i d at));
    }

-- what a store leaves can be mounted
pub sound_stands : {D : Type 0} (disk : DiskOf D) → GivesPrefix disk → (score : List ℕ → List ℕ) (k : CoreState D) (h : History)
    → IsSound score disk k h → EachStands score disk (setup_of k) k.log.tables k.log.durable (devices_of k) h
sound_stands disk gives score k h sound files left =
    gives score k h files sound left

pub durable_stand : {D : Type 0} (disk : DiskOf D) → GivesPrefix disk → (score : List ℕ → List ℕ) (k : CoreState D) (h : History)
    → IsSound score disk k h → k.log.durable ≡ length h → AllStandFor score disk (setup_of k) k.log.tables (devices_of k) h (length h)
durable_stand disk gives score k h sound all files left =
    let it = gives score k h files sound left in
    let n : it.n ≡ length h = omega (arith, it.keeps, it.within, all) in
    subst (λ (m : ℕ). StandsFor score (setup_of k) k.log.tables files h m) n it.stands

-- ---- a log that is read

pub log_is_read : {D : Type 0} (disk : DiskOf D) → ((d : D) → disk.images d (disk.bytes d)) → (score : List ℕ → List ℕ) (c : Setup) (tables : List Table) (devices : PerDevice D) (h : History)
    → IsLegal score c h → IsSetupOf disk tables devices c → EachStands score disk c tables 0 devices h → (g : History) × (base : ℕ) × IsLogOf score disk tables devices c h g base
log_is_read disk read score c tables devices h legal setup each =
    let it = each (record { partitions = map disk.bytes devices.partitions; sections = map disk.bytes devices.sections; filter = map disk.bytes devices.filter })
    (record { partitions = images_read disk read devices.partitions; sections = images_read disk read devices.sections; filter = images_read disk read devices.filter }) in
    (take it.n h, it.stands.log.base, record { legal = legal; setup = setup; each = each; read = it.stands.log.log })

-- what a store was opened with is what its tables and devices say
own_setup : {D : Type 0} (score : List ℕ → List ℕ) (disk : DiskOf D) (k : CoreState D) (h : History) → IsSound score disk k h → IsSetupOf disk k.log.tables (devices_of k) (setup_of k)
own_setup {D} score disk k h sound = record {
  arenas = ap (λ (rs : List ArenaRegion). map (λ r. r.region.len) rs) sound.log.whole.layout;
  sections = same_lists (map (λ s. s.section.buckets) k.shards) (map (λ device. buckets_in (disk.size device)) (map (λ s. s.section.disk) k.shards))
      (length-map k.shards (λ s. s.section.buckets) ∙ sym (length-map k.shards (λ s. s.section.disk)) ∙ sym (length-map (map (λ s. s.section.disk) k.shards) (λ device. buckets_in (disk.size device))))
      (λ i x y here there.
      let s = slice_get_other k.shards (map (λ s. s.section.buckets) k.shards) i x (length-map k.shards (λ s. s.section.buckets)) here in
      let a : x ≡ s.0.section.buckets = same_Some x s.0.section.buckets (sym here ∙ at_map (λ s. s.section.buckets) k.shards i s.0 s.1) in
      let b : y ≡ buckets_in (disk.size s.0.section.disk) = same_Some y (buckets_in (disk.size s.0.section.disk))
      (sym there ∙ at_map (λ device. buckets_in (disk.size device)) (map (λ s. s.section.disk) k.shards) i s.0.section.disk (at_map (λ s. s.section.disk) k.shards i s.0 s.1)) in
      a ∙ (sound.whole.shards i s.0 s.1).buckets ∙ sym b);
}

pub sound_log : {D : Type 0} (disk : DiskOf D) → GivesPrefix disk → ((d : D) → disk.images d (disk.bytes d)) → (score : List ℕ → List ℕ) (k : CoreState D) (h : History)
    → IsSound score disk k h → (g : History) × (base : ℕ) × IsLogOf score disk k.log.tables (devices_of k) (setup_of k) h g base
sound_log disk gives read score k h sound =
    log_is_read disk read score (setup_of k) k.log.tables (devices_of k) h sound.legal (own_setup score disk k h sound)
    (λ files left. let it = gives score k h files sound left in record { n = it.n; keeps = omega arith; within = it.within; stands = it.stands })
