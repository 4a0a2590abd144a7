-- What mounting leaves of devices that stand for a history.
use Rattle.std.proofs.Common.{◌≡◌, ◌⊎◌, ⊎_elim, inl, ◌≤◌, ℕ, List, length, map, take, min, Some, sym, ◌∙◌, ap, subst, arith}
use Rattle.std.specs.Prelude.{slice_get, IsTrue}
use Rattle.std.proofs.lemmas.List.{length-map, take_all}
use Rattle.std.proofs.lemmas.Option.{same_Some}
use Rattle.vt_disk.specs.Calls.{IsSynced}
use Rattle.vt_disk.specs.Members.{DiskOf}
use Rattle.vt_model.specs.History.{History}
use Rattle.vt_model.specs.Legal.{IsLegal}
use Rattle.vt_model.specs.Places.{Setup, current_arena}
use Rattle.vt_part.specs.Layout.{layout_of}
use Rattle.vt_part.specs.Table.{Table}
use Rattle.vt_isect.specs.Layout.{buckets_in}
use Rattle.vt_log.specs.Answers.{HoldTheSame}
use Rattle.vt_log.specs.Logs.{IsLog}
use Rattle.vt_log.specs.Sound.{AreImagesOf}
use Rattle.vt_log.proofs.Lists.{slice_get_other}
use Rattle.vt_core.specs.Files.{PerDevice, DeviceFiles, AreImages}
use Rattle.vt_core.specs.Mounting.{AllStandFor, EachStands, IsLogOf, IsSetupOf, LeavesStanding}
use Rattle.vt_recover.specs.Marks.{LacksMany}
use Rattle.vt_core.specs.Opening.{AreHeld}
use Rattle.vt_core.specs.Stands.{FilterStandsFor, StandsFor}
use Rattle.vt_recover.specs.Sections.{SectionStandsFor}
use Rattle.vt_recover.proofs.Lists.{at_map, same_lists}
use Rattle.vt_recover.proofs.Held.{held_twice, held_many}

-- ---- devices that hold what they held

-- what a crash may leave of them now it might have left before
pub images_among : {D : Type 0} (disk : DiskOf D) (old new : List D) (files : List (List ℕ)) → HoldTheSame disk old new → AreImagesOf disk new files → AreImagesOf disk old files
images_among disk old new files held images = record {
  many = images.many ∙ held_many disk old new held;
  each = λ i device file at is.
      let d = slice_get_other new old i device (sym (held_many disk old new held)) at in
      held.images_are i device d.0 at d.1 file (images.each i d.0 file d.1 is);
}

all_among : {D : Type 0} (disk : DiskOf D) (old new : PerDevice D) (files : DeviceFiles) → AreHeld disk old new → AreImages disk new files → AreImages disk old files
all_among disk old new files held images = record {
  partitions = images_among disk old.partitions new.partitions files.partitions held.partitions images.partitions;
  sections = images_among disk old.sections new.sections files.sections held.sections images.sections;
  filter = images_among disk old.filter new.filter files.filter held.filter images.filter;
}

pub held_bytes : {D : Type 0} (disk : DiskOf D) (old new : List D) (i : ℕ) (before after : D) → HoldTheSame disk old new
    → slice_get old i ≡ Some before → slice_get new i ≡ Some after → disk.bytes after ≡ disk.bytes before
held_bytes disk old new i before after held here there =
    same_Some (disk.bytes after) (disk.bytes before)
    (sym (at_map disk.bytes new i after there) ∙ ap (λ (l : List (List ℕ)). slice_get l i) held.bytes_are ∙ at_map disk.bytes old i before here)

-- nothing is written
pub leaves_held : {D : Type 0} (score : List ℕ → List ℕ) (disk : DiskOf D) (tables : List Table) (old new : PerDevice D) → AreHeld disk old new → LeavesStanding score disk tables old new
leaves_held score disk tables old new held = record {
  prefix = λ c h least legal setup each files images. each files (all_among disk old new files held images);
  same = λ c h n legal setup all files images. all files (all_among disk old new files held images);
  partitions = held.partitions;
  filter = held.filter;
  sizes = held.sections.sizes_are;
  sections = λ c h g base i before after log here there. inl (held_bytes disk old.sections new.sections i before after held.sections here there);
}

-- ---- devices of which sections may have been written

-- what is read is an image of each
pub images_read : {D : Type 0} (disk : DiskOf D) → ((d : D) → disk.images d (disk.bytes d)) → (devices : List D) → AreImagesOf disk devices (map disk.bytes devices)
images_read disk read devices = record {
  many = length-map devices disk.bytes;
  each = λ i d file at is. subst (disk.images d) (same_Some (disk.bytes d) file (sym (at_map disk.bytes devices i d at) ∙ is)) (read d);
}

-- a crash leaves of settled disks what is read
pub settled_files : {D : Type 0} (disk : DiskOf D) (devices : List D) (files : List (List ℕ)) → IsTrue disk.tells
    → ((i : ℕ) (d : D) → slice_get devices i ≡ Some d → IsSynced disk d) → AreImagesOf disk devices files → files ≡ map disk.bytes devices
settled_files disk devices files tells settled images = same_lists files (map disk.bytes devices) (images.many ∙ sym (length-map devices disk.bytes))
    (λ i x y here there.
    let d = slice_get_other devices files i x images.many here in
    let e : x ≡ disk.bytes d.0 = settled i d.0 d.1 tells x (images.each i d.0 x d.1 here) in
    let f : y ≡ disk.bytes d.0 = same_Some y (disk.bytes d.0) (sym there ∙ at_map disk.bytes devices i d.0 d.1) in
    e ∙ sym f)

-- the first blocks are the same
stands_at : (score : List ℕ → List ℕ) (c : Setup) (tables : List Table) (files : DeviceFiles) (h : History) (n m : ℕ) → take n h ≡ take m h
    → StandsFor score c tables files h n → StandsFor score c tables files h m
stands_at score c tables files h n m same it = record {
  partitions = it.partitions;
  log = record {
    base = it.log.base;
    log = record {
      contents = it.log.log.contents;
      arenas = it.log.log.arenas;
      order = it.log.log.order;
      history = sym same ∙ it.log.log.history;
      base_is = it.log.log.base_is;
    };
    versions = it.log.versions;
    least = subst (λ (g : History). current_arena c g ≤ it.log.base) same it.log.least;
    most = it.log.most;
  };
  many = it.many;
  sections = λ i file at. subst (λ (g : History). SectionStandsFor score c g i file) same (it.sections i file at);
  filter = λ i file at. subst (λ (g : History). FilterStandsFor score g file) same (it.filter i file at);
}

take_min : (n : ℕ) (h : History) → take n h ≡ take (min n (length h)) h
take_min n h = ⊎_elim
    (λ (low : n ≤ length h). let e : n ≡ min n (length h) = omega (arith, low) in ap (λ (m : ℕ). take m h) e)
    (λ (high : length h ≤ n).
    let e : min n (length h) ≡ length h = omega (arith, high) in
    take_all n h high ∙ sym (take_all (min n (length h)) h (omega (arith, e))))
    (cases n (length h))
  where
    cases : (a b : ℕ) → (a ≤ b) ⊎ (b ≤ a)
    cases a b = grind arith

module _ {D : Type 0} (score : List ℕ → List ℕ) (disk : DiskOf D) (tables : List Table) (old new : PerDevice D) (tells : IsTrue disk.tells)
    (read : (d : D) → disk.images d (disk.bytes d))
    (mid : List D) (was : HoldTheSame disk old.partitions mid) (is : HoldTheSame disk mid new.partitions) (settled : (i : ℕ) (d : D) → slice_get mid i ≡ Some d → IsSynced disk d)
    (filter : HoldTheSame disk old.filter new.filter) (sizes : map disk.size new.sections ≡ map disk.size old.sections)
    (stand : (c : Setup) (h g : History) (base : ℕ) → IsLogOf score disk tables old c h g base → (i : ℕ) (after : D) (file : List ℕ)
    → slice_get new.sections i ≡ Some after → disk.images after file → SectionStandsFor score c g i file)
    (written : (c : Setup) (h g : History) (base i : ℕ) (before after : D) → IsLogOf score disk tables old c h g base → slice_get old.sections i ≡ Some before → slice_get new.sections i ≡ Some after
    → (disk.bytes after ≡ disk.bytes before) ⊎ LacksMany score c g i (disk.bytes before)) where
  partitions : HoldTheSame disk old.partitions new.partitions
  partitions = held_twice disk old.partitions mid new.partitions was is

  -- what is left, with the sections as they were read
  abbrev as_read : DeviceFiles → DeviceFiles
  as_read files = record { partitions = files.partitions; sections = map disk.bytes old.sections; filter = files.filter }

  images_as_read : (files : DeviceFiles) → AreImages disk new files → AreImages disk old (as_read files)
  images_as_read files images = record {
    partitions = images_among disk old.partitions new.partitions files.partitions partitions images.partitions;
    sections = images_read disk read old.sections;
    filter = images_among disk old.filter new.filter files.filter filter images.filter;
  }

  -- it stands for the same first blocks as the log does
  stands_too : (c : Setup) (h : History) (n : ℕ) (files : DeviceFiles) → IsLegal score c h → IsSetupOf disk tables old c → EachStands score disk c tables 0 old h
      → AreImages disk new files → StandsFor score c tables (as_read files) h n → StandsFor score c tables files h n
  stands_too c h n files legal setup each images it =
      let same : files.partitions ≡ map disk.bytes old.partitions =
      settled_files disk mid files.partitions tells settled (images_among disk mid new.partitions files.partitions is images.partitions) ∙ was.bytes_are in
      let log : IsLogOf score disk tables old c h (take n h) it.log.base = record {
        legal = legal;
        setup = setup;
        each = each;
        read = subst (λ (l : List (List ℕ)). IsLog score (layout_of tables) l (take n h) it.log.base) same it.log.log;
      } in
      let many : length new.sections ≡ length old.sections = sym (length-map new.sections disk.size) ∙ ap length sizes ∙ length-map old.sections disk.size in
      record {
        partitions = it.partitions;
        log = record { base = it.log.base; log = it.log.log; versions = it.log.versions; least = it.log.least; most = it.log.most };
        many = images.sections.many ∙ many ∙ sym (length-map old.sections (λ device. buckets_in (disk.size device))) ∙ ap length (sym setup.sections);
        sections = λ i file at.
            let d = slice_get_other new.sections files.sections i file images.sections.many at in
            stand c h (take n h) it.log.base log i d.0 file d.1 (images.sections.each i d.0 file d.1 at);
        filter = it.filter;
      }

  each_zero : (c : Setup) (h : History) (least : ℕ) → EachStands score disk c tables least old h → EachStands score disk c tables 0 old h
  each_zero c h least each files images =
      let it = each files images in
      record { n = it.n; keeps = omega arith; within = it.within; stands = it.stands }

  each_all : (c : Setup) (h : History) (n : ℕ) → AllStandFor score disk c tables old h n → EachStands score disk c tables 0 old h
  each_all c h n all files images = record {
    n = min n (length h);
    keeps = omega arith;
    within = omega arith;
    stands = stands_at score c tables files h n (min n (length h)) (take_min n h) (all files images);
  }

  pub leaves_read : LeavesStanding score disk tables old new
  leaves_read = record {
    prefix = λ c h least legal setup each files images.
        let it = each (as_read files) (images_as_read files images) in
        record {
          n = it.n;
          keeps = it.keeps;
          within = it.within;
          stands = stands_too c h it.n files legal setup (each_zero c h least each) images it.stands;
        };
    same = λ c h n legal setup all files images.
        stands_too c h n files legal setup (each_all c h n all) images (all (as_read files) (images_as_read files images));
    partitions = partitions;
    filter = filter;
    sizes = sizes;
    sections = written;
  }
