-- What a crash leaves of all devices, taken together.
use Rattle.std.proofs.Common.{◌≡◌, ⊎_elim, ℕ, ◌≤◌, List, ◌++◌, length, take, drop, map, Some, sym, ◌∙◌, ap, subst}
use Rattle.std.specs.Prelude.{slice_get, IsSome}
use Rattle.std.specs.Option.{option_to_list}
use Rattle.std.proofs.lemmas.List.{length-map, map-append}
use Rattle.vt_disk.specs.Members.{DiskOf}
use Rattle.vt_model.specs.History.{History, Accepted}
use Rattle.vt_model.specs.Places.{Setup}
use Rattle.vt_log.specs.Log.{LogState}
use Rattle.vt_log.specs.Sound.{AreImagesOf, AreWithinCallOf, LogStandsForPrefix, IsSoundLog}
use Rattle.vt_log.specs.Logs.{LogStandsFor}
use Rattle.vt_log.proofs.Lists.{slice_get_other}
use Rattle.vt_bloom.specs.Bloom.{BloomState, IsSoundBloom}
use Rattle.vt_bloom.specs.Frame.{Saved, Covers, HasSaved}
use Rattle.vt_bloom.specs.Laws.{CoversMore}
use Rattle.vt_shard.specs.Shard.{ShardState}
use Rattle.vt_shard.specs.Sound.{IsSoundFrom, IsLiveSection, LeavesLive}
use Rattle.vt_core.specs.Files.{DeviceFiles, AreImages}
use Rattle.vt_core.specs.Core.{CoreState, setup_of, devices_of}
use Rattle.vt_core.specs.Sound.{IsSound, IsSoundFilter}
use Rattle.vt_part.specs.Layout.{layout_of}
use Rattle.vt_part.specs.declared.layout.ArenaRegion.{ArenaRegion}
use Rattle.vt_recover.specs.Sections.{IsLive, SectionStandsFor, section_buckets}
use Rattle.vt_core.specs.Stands.{ArePartitions, FilterStandsFor, StandsFor, StandForPrefix, scores_of}
use Rattle.vt_recover.proofs.Lists.{longer_take, at_map, index_map, only_one}

-- ---- what the parts say of their devices

abbrev pub LogStands : {D : Type 0} → DiskOf D → Type 0
LogStands {D} disk = (score : List ℕ → List ℕ) (l : LogState D) (h : History) (files : List (List ℕ))
    → IsSoundLog score disk l h → AreImagesOf disk l.disks files → LogStandsForPrefix score l files h

abbrev pub FilesAgree : {D : Type 0} → DiskOf D → Type 0
FilesAgree {D} disk = (score : List ℕ → List ℕ) (c : Setup) (t : ShardState D) (h : History) (durable from n : ℕ)
    → IsSoundFrom score c disk t h durable from → durable ≤ n → n ≤ length h
    → (file : List ℕ) → disk.images t.section.disk file → LeavesLive score c (take n h) t file

abbrev pub FiltersLeave : {D : Type 0} → DiskOf D → Type 0
FiltersLeave {D} disk = (b : BloomState D) (saved coming : Saved) (scores : List (List ℕ))
    → IsSoundBloom b saved coming (disk.bytes b.disk) (disk.images b.disk)
    → Covers scores saved → (IsSome b.twin.change → Covers scores coming)
    → (file : List ℕ) → disk.images b.disk file → (left : Saved) × HasSaved left file × Covers scores left

-- ---- one device

-- where nothing changes, what a crash may leave within a call it may leave now
pub within_same : {D : Type 0} (disk : DiskOf D) (disks : List D) (files : List (List ℕ)) → AreWithinCallOf disk disks disks files → AreImagesOf disk disks files
within_same disk disks files within = record {
  many = within.many;
  each = λ i device file at is. ⊎_elim (λ left. left) (λ left. left) (within.each i device device file at at is);
}

-- what a section's device leaves
pub section_stands : {D : Type 0} (score : List ℕ → List ℕ) (c : Setup) (g : History) (i : ℕ) (s : ShardState D) (file : List ℕ)
    → s.section.buckets ≡ section_buckets c i → IsLive c i s.section.head → LeavesLive score c g s file → SectionStandsFor score c g i file
section_stands score c g i s file many live it = record {
  name = s.section.name;
  place = s.section.head;
  live = live;
  section = subst (λ (b : ℕ). IsLiveSection score c g s.section.name b s.section.head file) many it;
}

-- a mark that is true of the first d blocks is true of the first n
pub covers_longer : CoversMore → (score : List ℕ → List ℕ) (h : History) (d n : ℕ) (saved : Saved) → d ≤ n → Covers (scores_of score (take d h)) saved → Covers (scores_of score (take n h)) saved
covers_longer more score h d n saved le covers =
    let f : Accepted → List ℕ = λ e. score e.block.bytes in
    let same : map f (take d h) ++ map f (drop d (take n h)) ≡ map f (take n h) = sym (map-append f (take d h) (drop d (take n h))) ∙ ap (map f) (longer_take d n h le) in
    subst (λ (scores : List (List ℕ)). Covers scores saved) same (more saved (scores_of score (take d h)) (map f (drop d (take n h))) covers)

pub filter_stands : {D : Type 0} (disk : DiskOf D) → FiltersLeave disk → CoversMore → (score : List ℕ → List ℕ) (b : BloomState D) (h : History) (d n : ℕ) (file : List ℕ)
    → d ≤ n → IsSoundFilter score disk b (take d h) → disk.images b.disk file → FilterStandsFor score (take n h) file
filter_stands disk leaves more score b h d n file le sound left =
    let it = leaves b sound.saved sound.coming (scores_of score (take d h)) sound.sound sound.covers sound.coming_covers file left in
    record { saved = it.0; has = it.1; covers = covers_longer more score h d n it.0 le it.2 }

-- the layout is that of the tables
pub of_tables : {D : Type 0} {score : List ℕ → List ℕ} (k : CoreState D) (h : History) (files : List (List ℕ)) (n : ℕ) → k.log.layout ≡ layout_of k.log.tables
    → LogStandsFor score (setup_of k) k.log.layout files h n → LogStandsFor score (setup_of k) (layout_of k.log.tables) files h n
of_tables {score = score} k h files n layout stands = subst (λ (rs : List ArenaRegion). LogStandsFor score (setup_of k) rs files h n) layout stands

-- ---- all of them

module _ {D : Type 0} (disk : DiskOf D) (log_stands : LogStands disk) (files_agree : FilesAgree disk) (leaves : FiltersLeave disk) (more : CoversMore)
    (score : List ℕ → List ℕ) (k : CoreState D) (h : History) (sound : IsSound score disk k h) where
  sections_stand : (n : ℕ) → k.log.durable ≤ n → n ≤ length h → (files : List (List ℕ)) → AreImagesOf disk (map (λ s. s.section.disk) k.shards) files
      → (i : ℕ) (file : List ℕ) → slice_get files i ≡ Some file → SectionStandsFor score (setup_of k) (take n h) i file
  sections_stand n le within files left i file at =
      let many : length files ≡ length k.shards = left.many ∙ length-map k.shards (λ s. s.section.disk) in
      let s = slice_get_other k.shards files i file many at in
      section_stands score (setup_of k) (take n h) i s.0 file
      (sym (index_map (λ t. t.section.buckets) k.shards i s.0 s.1))
      ((sound.whole.shards i s.0 s.1).live)
      (files_agree score (setup_of k) s.0 h k.log.durable 0 n (sound.shards i s.0 s.1) le within file
      (left.each i s.0.section.disk file (at_map (λ t. t.section.disk) k.shards i s.0 s.1) at))

  filters_stand : (n : ℕ) → k.log.durable ≤ n → (files : List (List ℕ)) → AreImagesOf disk (map (λ b. b.disk) (option_to_list k.bloom)) files
      → (i : ℕ) (file : List ℕ) → slice_get files i ≡ Some file → FilterStandsFor score (take n h) file
  filters_stand n le files left i file at =
      let many : length files ≡ length (option_to_list k.bloom) = left.many ∙ length-map (option_to_list k.bloom) (λ b. b.disk) in
      let b = slice_get_other (option_to_list k.bloom) files i file many at in
      filter_stands disk leaves more score b.0 h k.log.durable n file le (sound.filter b.0 (only_one k.bloom i b.0 b.1))
      (left.each i b.0.disk file (at_map (λ t. t.disk) (option_to_list k.bloom) i b.0 b.1) at)

  -- For each n from the durable blocks on for which the log stands, all devices do.
  pub combined : (n : ℕ) → k.log.durable ≤ n → n ≤ length h → (files : DeviceFiles)
      → AreImagesOf disk (map (λ s. s.section.disk) k.shards) files.sections
      → AreImagesOf disk (map (λ b. b.disk) (option_to_list k.bloom)) files.filter
      → ArePartitions k.log.tables files.partitions
      → LogStandsFor score (setup_of k) (layout_of k.log.tables) files.partitions h n
      → StandsFor score (setup_of k) k.log.tables files h n
  combined n le within files sections filter tables log = record {
    partitions = tables;
    log = log;
    many = sections.many ∙ length-map k.shards (λ s. s.section.disk) ∙ sym (length-map k.shards (λ s. s.section.buckets));
    sections = sections_stand n le within files.sections sections;
    filter = filters_stand n le files.filter filter;
  }

  -- between two events
  -- the partitions have their tables
  partitions_stand : (files : List (List ℕ)) → AreImagesOf disk k.log.disks files → ArePartitions k.log.tables files
  partitions_stand files left = record {
    many = left.many ∙ sound.log.whole.many_disks;
    each = λ i t file at is.
        let many : length files ≡ length k.log.disks = left.many in
        let device = slice_get_other k.log.disks files i file many is in
        sound.partitions i t device.0 file at device.1 (left.each i device.0 file device.1 is);
  }

  pub moment_stands : (files : DeviceFiles) → AreImages disk (devices_of k) files → StandForPrefix score (setup_of k) k.log.tables k.log.durable files h
  moment_stands files left =
      let log = log_stands score k.log h files.partitions sound.log left.partitions in
      record {
        n = log.0;
        keeps = log.1;
        within = log.2;
        stands = combined log.0 log.1 log.2 files left.sections left.filter (partitions_stand files.partitions left.partitions)
            (of_tables k h files.partitions log.0 sound.log.whole.layout (record { base = log.3.base; log = log.3.log; versions = log.3.versions; least = log.3.least; most = log.3.most }));
      }
