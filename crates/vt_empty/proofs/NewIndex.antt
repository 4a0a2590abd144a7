-- A log goes on to stand for its blocks beside an index without entries.
use Rattle.std.proofs.Common.{◌≡◌, ⊎_elim, ℕ, List, length, map, take, Some, sym, ◌∙◌, ap, subst}
use Rattle.std.specs.Prelude.{All, slice_get}
use Rattle.vt_disk.specs.Members.{DiskOf}
use Rattle.vt_model.specs.History.{History}
use Rattle.vt_model.specs.Legal.{IsLegal}
use Rattle.vt_model.specs.Places.{Setup}
use Rattle.vt_part.specs.Layout.{layout_of}
use Rattle.vt_part.specs.Table.{Table}
use Rattle.vt_log.specs.Answers.{HoldTheSame}
use Rattle.vt_log.specs.Logs.{IsLog}
use Rattle.vt_log.specs.Sound.{AreImagesOf}
use Rattle.vt_log.proofs.Lists.{slice_get_other}
use Rattle.vt_core.specs.Files.{AreImages, DeviceFiles, PerDevice}
use Rattle.vt_core.specs.Mounting.{EachStands, IsLogOf, IsSetupOf}
use Rattle.vt_core.specs.Stands.{FilterStandsFor, StandForPrefix}
use Rattle.vt_open.proofs.Held.{held_many}
use Rattle.vt_empty.specs.Devices.{HasNewIndex}
use Rattle.vt_empty.specs.Formatted.{IsUnset}
use Rattle.vt_empty.proofs.Nothing.{filters_stand, many_files, own_images, sections_stand}

-- the filters of some files stand for what those of others do
abbrev AllowsFilters : (List ℕ → List ℕ) → (these those : List (List ℕ)) → Type 0
AllowsFilters score these those = (g : History) → ((i : ℕ) (file : List ℕ) → slice_get these i ≡ Some file → FilterStandsFor score g file)
    → (i : ℕ) (file : List ℕ) → slice_get those i ≡ Some file → FilterStandsFor score g file

module _ {D : Type 0} (disk : DiskOf D) where
  pub held_images : (old new : List D) (files : List (List ℕ)) → HoldTheSame disk old new → AreImagesOf disk new files → AreImagesOf disk old files
  held_images old new files held images = record {
    many = images.many ∙ held_many disk old new held;
    each = λ i device file at there.
        let e = slice_get_other new old i device (sym (held_many disk old new held)) at in
        held.images_are i device e.0 at e.1 file (images.each i e.0 file e.1 there);
  }

module _ {D : Type 0} (disk : DiskOf D) (own : (device : D) → disk.images device (disk.bytes device))
    (fronts : (score : List ℕ → List ℕ) (c : Setup) (h : History) (n : ℕ) → IsLegal score c h → IsLegal score c (take n h))
    (score : List ℕ → List ℕ) (c : Setup) (sections : List ℕ) (tables : List Table) (old new : PerDevice D) (h : History)
    (index : HasNewIndex disk old new) (setup : IsSetupOf disk tables new c) (legal : IsLegal score c h) where
  with_filter : (least : ℕ) → EachStands score disk (record c { sections = sections }) tables least old h → (files : DeviceFiles) → AreImages disk new files
      → (filters : List (List ℕ)) → AreImagesOf disk old.filter filters → AllowsFilters score filters files.filter → StandForPrefix score c tables least files h
  with_filter least stood files images filters are allows =
      let before : DeviceFiles = record { partitions = files.partitions; sections = map disk.bytes old.sections; filter = filters } in
      let was = stood before (record {
        partitions = held_images disk old.partitions new.partitions files.partitions index.partitions images.partitions;
        sections = own_images disk own old.sections;
        filter = are;
      }) in
      let log = was.stands.log in
      record {
        n = was.n;
        keeps = was.keeps;
        within = was.within;
        stands = record {
          partitions = was.stands.partitions;
          log = record { base = log.base; log = log.log; versions = log.versions; least = log.least; most = log.most };
          many = many_files disk new.sections files.sections images.sections ∙ sym (ap length setup.sections);
          sections = sections_stand disk score c (take was.n h) new.sections index.total files.sections (fronts score c h was.n legal).keys setup.sections index.sections images.sections;
          filter = allows (take was.n h) was.stands.filter;
        };
      }

  pub each_stands : (least : ℕ) → EachStands score disk (record c { sections = sections }) tables least old h → EachStands score disk c tables least new h
  each_stands least stood files images = ⊎_elim
      (λ (held : HoldTheSame disk old.filter new.filter).
      with_filter least stood files images files.filter (held_images disk old.filter new.filter files.filter held images.filter) (λ g these. these))
      (λ (unset : All (IsUnset disk) new.filter).
      with_filter least stood files images (map disk.bytes old.filter) (own_images disk own old.filter) (λ g these. filters_stand disk score g new.filter files.filter unset images.filter))
      index.filter

  pub log_stands : (g : History) (base : ℕ) → IsLogOf score disk tables old (record c { sections = sections }) h g base → IsLogOf score disk tables new c h g base
  log_stands g base was = record {
    legal = legal;
    setup = setup;
    each = each_stands 0 was.each;
    read = subst (λ (files : List (List ℕ)). IsLog score (layout_of tables) files g base) (sym index.partitions.bytes_are) was.read;
  }
