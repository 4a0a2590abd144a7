-- What is found behind a crash.
use Rattle.std.proofs.Common.{◌≡◌, ⊎_elim, ℕ, zero, suc, ◌≤◌, List, [], ◌∷◌, length, take, map, None, refl, sym, ◌∙◌, ap, subst, arith}
use Rattle.std.specs.Prelude.{slice_get, IsTrue}
use Rattle.std.specs.List.{All}
use Rattle.std.proofs.lemmas.List.{length-map, length-take}
use Rattle.std.proofs.lemmas.Option.{same_Some}
use Rattle.vt_disk.specs.Members.{DiskOf}
use Rattle.vt_model.specs.History.{History}
use Rattle.vt_model.specs.Legal.{IsLegal}
use Rattle.vt_model.specs.Places.{Setup, current_arena}
use Rattle.vt_part.specs.Laws.{IsUnambiguous}
use Rattle.vt_part.specs.Table.{Table}
use Rattle.vt_isect.specs.Layout.{buckets_in}
use Rattle.vt_log.specs.Sound.{AreImagesOf}
use Rattle.vt_log.proofs.Lists.{slice_get_other}
use Rattle.vt_core.specs.Core.{CoreState, setup_of, devices_of, machine_of}
use Rattle.vt_core.specs.Crashing.{AreLeftOf, AreLeft, IsRetried, Recovers, MayTurnInto}
use Rattle.vt_core.specs.Files.{PerDevice, DeviceFiles, AreImages, AreWithinCall}
use Rattle.vt_core.specs.Machine.{Crashes}
use Rattle.vt_core.specs.Mounting.{AllStandFor, IsLogOf, IsSetupOf}
use Rattle.vt_core.specs.Sound.{IsSound}
use Rattle.vt_core.specs.Stands.{ArePartitions, StandsFor, StandForPrefix}
use Rattle.vt_core.proofs.Combined.{within_same}
use Rattle.vt_recover.proofs.Lists.{at_map, same_lists, All-replicate}

-- what a crash between two events leaves
abbrev pub GivesPrefix : {D : Type 0} → DiskOf D → Type 0
GivesPrefix {D} disk = (score : List ℕ → List ℕ) (k : CoreState D) (h : History) (files : DeviceFiles)
    → IsSound score disk k h → AreImages disk (devices_of k) files → StandForPrefix score (setup_of k) k.log.tables k.log.durable files h

-- ---- devices that were left by a crash

-- a second crash leaves the same files
left_same : {D : Type 0} (disk : DiskOf D) (files : List (List ℕ)) (devices : List D) (again : List (List ℕ))
    → AreLeftOf disk files devices → AreImagesOf disk devices again → again ≡ files
left_same disk files devices again left images = same_lists again files (images.many ∙ left.many)
    (λ i x y there here. let d = slice_get_other devices files i y (sym left.many) here in (left.each i d.0 y d.1 here).1 x (images.each i d.0 x d.1 there))

-- and they are what is read
left_read : {D : Type 0} (disk : DiskOf D) (files : List (List ℕ)) (devices : List D) → AreLeftOf disk files devices → files ≡ map disk.bytes devices
left_read disk files devices left = same_lists files (map disk.bytes devices) (sym left.many ∙ sym (length-map devices disk.bytes))
    (λ i x y here there. let d = slice_get_other devices files i x (sym left.many) here in
    let e : disk.bytes d.0 ≡ x = (left.each i d.0 x d.1 here).0 in
    let f : y ≡ disk.bytes d.0 = same_Some y (disk.bytes d.0) (sym there ∙ at_map disk.bytes devices i d.0 d.1) in
    sym e ∙ sym f)

-- where nothing changes, what a crash may leave within a call it may leave now
pub images_of : {D : Type 0} (disk : DiskOf D) (devices : PerDevice D) (files : DeviceFiles) → AreWithinCall disk devices devices files → AreImages disk devices files
images_of disk devices files within = record {
  partitions = within_same disk devices.partitions files.partitions within.partitions;
  sections = within_same disk devices.sections files.sections within.sections;
  filter = within_same disk devices.filter files.filter within.filter;
}

module _ {D : Type 0} (disk : DiskOf D) (score : List ℕ → List ℕ) (c : Setup) (tables : List Table) (h : History) (n : ℕ) where
  -- what is left where these files stand for the first n blocks stands for them, whatever a second crash leaves
  all_left : (files : DeviceFiles) (left : PerDevice D) → AreLeft disk files left → StandsFor score c tables files h n → AllStandFor score disk c tables left h n
  all_left files left are stands more images =
      let P : DeviceFiles → Type 0 = λ fs. StandsFor score c tables fs h n in
      let partitions : more.partitions ≡ files.partitions = left_same disk files.partitions left.partitions more.partitions are.partitions images.partitions in
      let sections : more.sections ≡ files.sections = left_same disk files.sections left.sections more.sections are.sections images.sections in
      let filter : more.filter ≡ files.filter = left_same disk files.filter left.filter more.filter are.filter images.filter in
      let one : P (record { partitions = more.partitions; sections = files.sections; filter = files.filter }) =
      subst (λ (l : List (List ℕ)). P (record { partitions = l; sections = files.sections; filter = files.filter })) (sym partitions) stands in
      let two : P (record { partitions = more.partitions; sections = more.sections; filter = files.filter }) =
      subst (λ (l : List (List ℕ)). P (record { partitions = more.partitions; sections = l; filter = files.filter })) (sym sections) one in
      subst (λ (l : List (List ℕ)). P (record { partitions = more.partitions; sections = more.sections; filter = l })) (sym filter) two

  setup_stays : (old new : PerDevice D) → map disk.size new.sections ≡ map disk.size old.sections → IsSetupOf disk tables old c → IsSetupOf disk tables new c
  setup_stays old new sizes setup =
      let f : D → ℕ = disk.size in
      let compose : (ds : List D) → map (λ d. buckets_in (f d)) ds ≡ map buckets_in (map f ds) = λ ds. map_twice f buckets_in ds in
      record { arenas = setup.arenas; sections = setup.sections ∙ compose old.sections ∙ ap (map buckets_in) (sym sizes) ∙ sym (compose new.sections) }
    where
      map_twice : (f : D → ℕ) (g : ℕ → ℕ) (ds : List D) → map (λ d. g (f d)) ds ≡ map g (map f ds)
      map_twice f g [] = refl
      map_twice f g (d ∷ ds) = ap (λ ns. g (f d) ∷ ns) (map_twice f g ds)

  -- however often mounting is tried
  pub all_retried : IsLegal score c h → (tries : ℕ) (old new : PerDevice D) → IsSetupOf disk tables old c → AllStandFor score disk c tables old h n
      → IsRetried score disk tables tries old new → IsSetupOf disk tables new c × AllStandFor score disk c tables new h n
  all_retried legal zero old new setup all same = subst (λ (ds : PerDevice D). IsSetupOf disk tables ds c × AllStandFor score disk c tables ds h n) (sym same) (setup, all)
  all_retried legal (suc tries) old new setup all it =
      let mid : IsSetupOf disk tables it.0 c = setup_stays old it.0 it.2.sizes setup in
      let stands = it.2.same c h n legal setup all it.3.files (images_of disk it.0 it.3.files it.3.images) in
      all_retried legal tries it.1 new (setup_stays it.0 it.1 it.3.sizes mid) (all_left it.3.files it.1 it.3.are stands) it.4

module _ {D : Type 0} (disk : DiskOf D) (gives : GivesPrefix disk) (apart : IsUnambiguous) (read_is_image : (d : D) → disk.images d (disk.bytes d))
    (score : List ℕ → List ℕ) (old during again : CoreState D) (h : History)
    (tells : IsTrue disk.tells) (sound : IsSound score disk old h) (r : Recovers score disk old during again) where
  -- the files that the crash left stand for a prefix
  stands : MayTurnInto score disk old during → StandForPrefix score (setup_of old) old.log.tables old.log.durable r.crash.files h
  stands may = ⊎_elim
      (λ (same : during ≡ old).
      let within : AreWithinCall disk (devices_of old) (devices_of old) r.crash.files = subst (λ (m : CoreState D). AreWithinCall disk (devices_of old) (devices_of m) r.crash.files) same r.crash.images in
      gives score old h r.crash.files sound (images_of disk (devices_of old) r.crash.files within))
      (λ it. it.2.crash tells h r.crash.files sound r.crash.images)
      may

  -- the tables that are found are those that there were
  tables_same : ArePartitions old.log.tables r.crash.files.partitions → r.tables ≡ old.log.tables
  tables_same are =
      let read : r.crash.files.partitions ≡ map disk.bytes r.left.partitions = left_read disk r.crash.files.partitions r.left.partitions r.crash.are.partitions in
      let found : ArePartitions r.tables r.crash.files.partitions = subst (ArePartitions r.tables) (sym read) r.are_tables in
      same_lists r.tables old.log.tables (sym found.many ∙ are.many)
      (λ i s t here there. let file = slice_get_other r.crash.files.partitions r.tables i s (sym found.many) here in
      apart s t file.0 (found.each i s file.0 here file.1) (are.each i t file.0 there file.1))

  -- the sections have the buckets that they had
  setup_left : IsSetupOf disk old.log.tables r.left (setup_of old)
  setup_left =
      let shards = old.shards in
      let sections = r.left.sections in
      let many : length shards ≡ length sections =
      sym (length-map shards (λ s. s.section.disk)) ∙ sym (length-map (map (λ s. s.section.disk) shards) disk.size) ∙ ap length (sym r.crash.sizes) ∙ length-map sections disk.size in
      record {
        arenas = ap (map (λ a. a.region.len)) sound.log.whole.layout;
        sections = same_lists (map (λ s. s.section.buckets) shards) (map (λ device. buckets_in (disk.size device)) sections)
            (length-map shards (λ s. s.section.buckets) ∙ many ∙ sym (length-map sections (λ device. buckets_in (disk.size device))))
            (λ i x y here there.
            let s = slice_get_other shards (map (λ s. s.section.buckets) shards) i x (length-map shards (λ s. s.section.buckets)) here in
            let d = slice_get_other sections (map (λ device. buckets_in (disk.size device)) sections) i y (length-map sections (λ device. buckets_in (disk.size device))) there in
            let ex : x ≡ s.0.section.buckets = same_Some x s.0.section.buckets (sym here ∙ at_map (λ t. t.section.buckets) shards i s.0 s.1) in
            let ey : y ≡ buckets_in (disk.size d.0) = same_Some y (buckets_in (disk.size d.0)) (sym there ∙ at_map (λ device. buckets_in (disk.size device)) sections i d.0 d.1) in
            let size : disk.size d.0 ≡ disk.size s.0.section.disk = same_Some (disk.size d.0) (disk.size s.0.section.disk)
            (sym (at_map disk.size sections i d.0 d.1) ∙ ap (λ (l : List ℕ). slice_get l i) r.crash.sizes
            ∙ at_map disk.size (map (λ s. s.section.disk) shards) i s.0.section.disk (at_map (λ t. t.section.disk) shards i s.0 s.1)) in
            ex ∙ (sound.whole.shards i s.0 s.1).buckets ∙ ap buckets_in (sym size) ∙ sym ey);
      }

  images_read : (devices : List D) → AreImagesOf disk devices (map disk.bytes devices)
  images_read devices = record {
    many = length-map devices disk.bytes;
    each = λ i d file at is. subst (disk.images d) (same_Some (disk.bytes d) file (sym (at_map disk.bytes devices i d at) ∙ is)) (read_is_image d);
  }

  pub recovered : MayTurnInto score disk old during → (g : History) × Crashes (machine_of old h) (machine_of again g) × IsSound score disk again g
  recovered may =
      let it = stands may in
      let tables : r.tables ≡ old.log.tables = tables_same it.stands.partitions in
      let first = all_left disk score (setup_of old) old.log.tables h it.n r.crash.files r.left r.crash.are it.stands in
      let tried = all_retried disk score (setup_of old) old.log.tables h it.n sound.legal r.tries r.left r.devices setup_left first
      (subst (λ (ts : List Table). IsRetried score disk ts r.tries r.left r.devices) tables r.retried) in
      let read = tried.1 (record { partitions = map disk.bytes r.devices.partitions; sections = map disk.bytes r.devices.sections; filter = map disk.bytes r.devices.filter })
      (record { partitions = images_read r.devices.partitions; sections = images_read r.devices.sections; filter = images_read r.devices.filter }) in
      let log : IsLogOf score disk r.tables r.devices (setup_of old) h (take it.n h) read.log.base = subst (λ (ts : List Table). IsLogOf score disk ts r.devices (setup_of old) h (take it.n h) read.log.base) (sym tables)
      (record {
        legal = sound.legal;
        setup = tried.0;
        each = λ files images. record { n = it.n; keeps = omega arith; within = it.within; stands = tried.1 files images };
        read = read.log.log;
      }) in
      let back = r.mounts.recalls (setup_of old) h (take it.n h) read.log.base tells log in
      let base : again.log.base ≡ read.log.base = ap (λ (c : Setup). c.base) back.setup in
      let cut : length (take it.n h) ≡ it.n = omega (arith, length-take it.n h, it.within) in (
        take it.n h,
        record {
          n = it.n;
          keeps = omega (arith, sound.whole.synced, it.keeps);
          within = it.within;
          history = refl;
          base_least = subst (λ (b : ℕ). current_arena (setup_of old) (take it.n h) ≤ b) (sym base) read.log.least;
          base_most = subst (λ (b : ℕ). b ≤ current_arena (setup_of old) h) (sym base) read.log.most;
          setup = back.setup ∙ ap (λ (b : ℕ). record (setup_of old) { base = b }) (sym base);
          synced = r.mounts.fresh.synced ∙ back.durable ∙ cut;
          waiting = subst (All (λ w. w ≡ None)) (sym r.mounts.fresh.waiting) (All-replicate r.sessions);
        },
        back.sound,
      )
