-- A store whose index was rebuilt stands for all of its log.
use Rattle.std.proofs.Common.{◌≡◌, ⊎_elim, ℕ, zero, suc, ◌<◌, ◌≤◌, List, [], ◌∷◌, length, map, take, Option, Some, None, refl, sym, ◌∙◌, ap, subst, arith}
use Rattle.std.specs.Prelude.{IsTrue, slice_get, sum}
use Rattle.std.specs.List.{All, AllByRecursion, AllZip}
use Rattle.std.specs.Option.{option_map_or, option_to_list}
use Rattle.std.proofs.lemmas.Bool.{cases_lt}
use Rattle.std.proofs.lemmas.List.{length-map, take_all}
use Rattle.std.proofs.lemmas.List.Sums.{sum_by-cons}
use Rattle.std.proofs.lemmas.Option.{same_Some}
use Rattle.vt_arena.specs.declared.head.Found.{Found}
use Rattle.vt_base.specs.Bytes.{AreBytes}
use Rattle.vt_conf.specs.declared.conf.Conf.{Conf}
use Rattle.vt_recover.specs.declared.devices.Devices.{Devices}
use Rattle.vt_core.specs.declared.TheConstants.{MOST_ARENAS, MOST_BUCKETS}
use Rattle.vt_core.specs.Files.{AreImages, DeviceFiles, PerDevice}
use Rattle.vt_core.specs.Mounting.{EachStands, IsLogOf, IsSetupOf, KeepsLimits, devices_in, tables_in}
use Rattle.vt_recover.specs.Opening.{IsFoundSection}
use Rattle.vt_core.specs.Stands.{ArePartitions, FilterStandsFor, StandsFor}
use Rattle.vt_recover.specs.Sections.{SectionStandsFor, section_buckets}
use Rattle.vt_core.proofs.Beside.{all_from}
use Rattle.vt_core.proofs.LogVersions.{versions_read}
use Rattle.vt_recover.proofs.Lists.{at_map, index_map, same_lists}
use Rattle.vt_recover.proofs.Zips.{zip_beside, zip_length}
use Rattle.vt_disk.specs.Calls.{IsSynced}
use Rattle.vt_disk.specs.Members.{DiskOf}
use Rattle.vt_isect.specs.Agreement.{AgreesWith}
use Rattle.vt_isect.specs.declared.head.Head.{Head}
use Rattle.vt_isect.specs.Layout.{IsSection, buckets_in}
use Rattle.vt_isect.specs.Section.{SectionState}
use Rattle.vt_log.specs.Log.{LogState, disks_of, filled_as}
use Rattle.vt_log.specs.Logs.{AreArenas, IsLog, arena_count, versions_of}
use Rattle.vt_log.specs.Sound.{AreImagesOf, IsSoundLog}
use Rattle.vt_log.specs.declared.filling.Filling.{Filling}
use Rattle.vt_log.proofs.Lists.{at_slice, slice_get_other}
use Rattle.vt_model.specs.History.{History}
use Rattle.vt_model.specs.Legal.{IsLegal}
use Rattle.vt_model.specs.declared.TheConstants.{BUCKET_ROOM}
use Rattle.vt_model.specs.Places.{Setup, crowd, current_arena}
use Rattle.vt_open.specs.Names.{AreUnder}
use Rattle.vt_open.specs.Taking.{IsMountedPart}
use Rattle.vt_open.specs.TakingAll.{AreAllTaken}
use Rattle.vt_open.proofs.Opened.{many_sections, tables_are_read}
use Rattle.vt_open.proofs.Recalled.{read_holds, same_tables}
use Rattle.vt_open.proofs.Shapes.{one_list}
use Rattle.vt_open.proofs.Taken.{Stands}
use Rattle.vt_part.specs.Laws.{IsUnambiguous}
use Rattle.vt_part.specs.Layout.{AreDistinct, layout_of}
use Rattle.vt_part.specs.Parts.{table_of, tables_of}
use Rattle.vt_part.specs.Table.{IsPartition, Table}
use Rattle.vt_part.specs.declared.part.Part.{Part}
use Rattle.vt_part.specs.declared.layout.ArenaRegion.{ArenaRegion}
use Rattle.vt_rebuild.specs.Building.{disks_under}
use Rattle.vt_rebuild.specs.Rebuilt.{AreRebuilt, HasHistory, counts_of, setup_with}
use Rattle.vt_maintain.specs.Rebuilding.{RebuildsOn}
use Rattle.vt_maintain.specs.Stores.{OnStore}
use Rattle.vt_maintain.proofs.Scores.{log_scores, none_past}

-- each image of settled disks is what they read as
only_files : {D : Type 0} (disk : DiskOf D) (disks : List D) (files : List (List ℕ))
    → IsTrue disk.tells → All (IsSynced disk) disks → AreImagesOf disk disks files
    → files ≡ map disk.bytes disks
only_files disk disks files tells settled images =
    same_lists files (map disk.bytes disks) (images.many ∙ sym (length-map disks disk.bytes))
    (λ i file bytes here there.
    let d = slice_get_other disks files i file images.many here in
    let read : disk.bytes d.0 ≡ bytes =
    same_Some (disk.bytes d.0) bytes (sym (at_map disk.bytes disks i d.0 d.1) ∙ there) in
    at_slice (IsSynced disk) disks i d.0 settled d.1 tells file (images.each i d.0 file d.1 here)
    ∙ read)

-- the arena that a mounted log is filled in
filled_there : (found : Option Found) (base : ℕ)
    → (option_map_or (λ (f : Found). filled_as base f.head) found
    (record { arena = base; used = 0; clumps = 0 })).arena ≡ base
filled_there None base = refl
filled_there (Some found) base = refl

-- sections that were found have buckets
pub some_buckets : {D : Type 0} (disk : DiskOf D) (devices : List D)
    (sections : List (SectionState D)) → AllZip (IsFoundSection disk) devices sections
    → 0 < length devices → 0 < sum (counts_of sections)
some_buckets disk [] sections zip some = absurd (omega (arith, some))
some_buckets disk (d ∷ devices) [] zip some = absurd zip
some_buckets disk (d ∷ devices) (s ∷ sections) zip some =
    let first = zip.0.some in
    omega (arith, first, sum_by-cons (λ (n : ℕ). n) s.buckets (counts_of sections))

module _ {D : Type 0} (disk : DiskOf D) (score : List ℕ → List ℕ) (tells : IsTrue disk.tells)
    (read : (d : D) → disk.images d (disk.bytes d))
    (fit : (d : D) (file : List ℕ) → disk.images d file → AreBytes file)
    (blocks : ℕ) (devices back : Devices D) (some : 0 < length devices.sections.items)
    (done : RebuildsOn score disk blocks devices back)
    (c : Setup) (setup : IsSetupOf disk (tables_in devices) (devices_in back) c)
    (g : History) (base : ℕ)
    (log_is : IsLog score (layout_of (tables_in devices))
    (map disk.bytes (disks_of devices.parts.items)) g base)
    (versions_are : c.versions ≡ versions_of log_is.contents)
    (are : ArePartitions (tables_in devices) (map disk.bytes (disks_of devices.parts.items)))
    (sections : List ℕ) (legal : IsLegal score (record c { base = base; sections = sections }) g)
    (filter_is : All (λ d. (file : List ℕ) → disk.images d file → FilterStandsFor score g file)
    (option_to_list devices.filter)) where
  abbrev tables : List Table
  tables = tables_in devices

  abbrev log : LogState D
  log = done.log

  abbrev olds : List (SectionState D)
  olds = done.olds

  abbrev news : List (SectionState D)
  news = done.news

  -- the store of the log and the sections
  abbrev made : Setup
  made = setup_with log olds

  same_tables_ : log.tables ≡ tables
  same_tables_ = done.opened.log_is.tables

  found : IsSoundLog score disk log g × (log.base ≡ base) × (log.durable ≡ length g)
  found = done.opened.log_is.found.found g base tells
      (subst (λ (t : List Table). IsLog score (layout_of t)
      (map disk.bytes (disks_of devices.parts.items)) g base) (sym same_tables_) log_is)

  -- the log has the arenas' versions
  versions_here : log.versions ≡ versions_of log_is.contents
  versions_here =
      let files = map disk.bytes (disks_of devices.parts.items) in
      let own : IsLog score (layout_of log.tables) files g base = record {
        contents = log_is.contents;
        arenas = subst (λ (t : List Table). AreArenas score (layout_of t) files log_is.contents)
            (sym same_tables_) log_is.arenas;
        order = log_is.order;
        history = log_is.history;
        base_is = log_is.base_is;
      } in
      versions_read score disk (disks_of devices.parts.items) log devices.sections.items
      devices.filter done.opened.log_is.found tells read g base own

  history : HasHistory score disk log g
  history = record { tells = tells; sound = found.0; keys = legal.keys }

  all_rebuilt : AreRebuilt score disk made g olds news
  all_rebuilt = done.rebuilt g history

  -- ---- the setup

  -- how many buckets a section has is what its device has room for
  buckets_there : (i : ℕ) (old new : SectionState D) → slice_get olds i ≡ Some old
      → slice_get news i ≡ Some new → old.buckets ≡ buckets_in (disk.size new.disk)
  buckets_there i old new at there =
      let d = zip_beside (IsFoundSection disk) devices.sections.items olds i old
      done.opened.sections_are at in
      let own : old.buckets ≡ buckets_in (disk.size d.0) =
      ap (λ (t : SectionState D). t.buckets) d.2.fresh in
      let size : disk.size new.disk ≡ disk.size d.0 =
      (all_rebuilt.each i old new at there).same.size ∙ d.2.reads.size in
      own ∙ ap buckets_in (sym size)

  counts_are : counts_of olds ≡ c.sections
  counts_are =
      let back_are : c.sections ≡ map (λ d. buckets_in (disk.size d)) (disks_under news) =
      setup.sections ∙ ap (map (λ d. buckets_in (disk.size d))) done.sections in
      let many : length c.sections ≡ length olds =
      ap length back_are ∙ length-map (disks_under news) (λ d. buckets_in (disk.size d))
      ∙ length-map news (λ s. s.disk) ∙ all_rebuilt.many in
      same_lists (counts_of olds) c.sections (length-map olds (λ s. s.buckets) ∙ sym many)
      (λ i n m here there.
      let old = slice_get_other olds (counts_of olds) i n (length-map olds (λ s. s.buckets)) here in
      let new = slice_get_other news olds i old.0 (sym all_rebuilt.many) old.1 in
      let first : n ≡ old.0.buckets =
      same_Some n old.0.buckets (sym here ∙ at_map (λ s. s.buckets) olds i old.0 old.1) in
      let disk_at : slice_get (disks_under news) i ≡ Some new.0.disk =
      at_map (λ s. s.disk) news i new.0 new.1 in
      let second : m ≡ buckets_in (disk.size new.0.disk) =
      same_Some m (buckets_in (disk.size new.0.disk)) (sym there
      ∙ ap (λ (l : List ℕ). slice_get l i) back_are
      ∙ at_map (λ d. buckets_in (disk.size d)) (disks_under news) i new.0.disk disk_at) in
      first ∙ buckets_there i old.0 new.0 old.1 new.1 ∙ sym second)

  setup_is : record c { base = base } ≡ made
  setup_is =
      let layout : log.layout ≡ layout_of tables =
      done.opened.log_is.found.layout ∙ ap layout_of same_tables_ in
      let arenas : c.arenas ≡ map (λ r. r.region.len) log.layout =
      setup.arenas ∙ ap (map (λ (r : ArenaRegion). r.region.len)) (sym layout) in
      let versions : c.versions ≡ log.versions = versions_are ∙ sym versions_here in
      let first : base ≡ log.base = sym found.1 in
      let counts : c.sections ≡ counts_of olds = sym counts_are in
      let put : List ℕ → List ℕ → ℕ → List ℕ → Setup =
      λ a v b s. record { arenas = a; versions = v; base = b; sections = s } in
      let e : put c.arenas c.versions base c.sections
      ≡ put (map (λ r. r.region.len) log.layout) log.versions log.base
      (counts_of olds) = cc in
      e

  -- ---- the history

  some_here : 0 < sum (counts_of olds)
  some_here = some_buckets disk devices.sections.items olds done.opened.sections_are some

  scores_are : AllByRecursion (λ e. AreBytes (score e.block.bytes)) g
  scores_are = log_scores score (layout_of tables) (map disk.bytes (disks_of devices.parts.items)) g
      base log_is (λ i file at.
      let parts = disks_of devices.parts.items in
      let d = slice_get_other parts (map disk.bytes parts) i file (length-map parts disk.bytes) at in
      let own : disk.bytes d.0 ≡ file =
      same_Some (disk.bytes d.0) file (sym (at_map disk.bytes parts i d.0 d.1) ∙ at) in
      subst AreBytes own (fit d.0 (disk.bytes d.0) (read d.0)))

  -- no bucket has more blocks than it has room for
  fits : (bucket : ℕ) → crowd score (sum (counts_of olds)) g bucket ≤ BUCKET_ROOM
  fits bucket = ⊎_elim
      (λ (below : bucket < sum (counts_of olds)). done.room g history bucket below)
      (λ (past : sum (counts_of olds) ≤ bucket).
      omega (arith, none_past score (sum (counts_of olds)) g bucket some_here past scores_are))
      (cases_lt bucket (sum (counts_of olds)))

  legal_now : IsLegal score (record c { base = base }) g
  legal_now = record {
    blocks = legal.blocks;
    keys = legal.keys;
    scores = legal.scores;
    nonzero = legal.nonzero;
    arenas = legal.arenas;
    room = legal.room;
    buckets = λ bucket. subst (λ (l : List ℕ). crowd score (sum l) g bucket ≤ BUCKET_ROOM)
        counts_are (fits bucket);
  }

  whole : take (length g) g ≡ g
  whole = take_all (length g) g (omega arith)

  current_is : current_arena made g ≡ base
  current_is =
      let filling : log.filling.arena ≡ log.base =
      ap (λ (f : Filling). f.arena) done.opened.log_is.found.mounted.filling
      ∙ filled_there (slice_get log.heads log.base) log.base in
      sym found.0.last ∙ filling ∙ found.1

  -- ---- what a crash leaves

  bytes_are : map disk.bytes (disks_of back.parts.items)
      ≡ map disk.bytes (disks_of devices.parts.items)
  bytes_are = done.keeps.partitions.bytes_are

  section_stands : (i : ℕ) (device : D) (file : List ℕ)
      → slice_get back.sections.items i ≡ Some device → disk.images device file
      → SectionStandsFor score made g i file
  section_stands i device file at image =
      let under : slice_get (disks_under news) i ≡ Some device =
      ap (λ (l : List D). slice_get l i) (sym done.sections) ∙ at in
      let new = slice_get_other news (disks_under news) i device (length-map news (λ s. s.disk))
      under in
      let old = slice_get_other olds news i new.0 all_rebuilt.many new.1 in
      let own : device ≡ new.0.disk =
      same_Some device new.0.disk (sym under ∙ at_map (λ s. s.disk) news i new.0 new.1) in
      let it = all_rebuilt.each i old.0 new.0 old.1 new.1 in
      let left = it.images file (subst (λ (d : D). disk.images d file) own image) in
      let count : section_buckets made i ≡ old.0.buckets =
      index_map (λ s. s.buckets) olds i old.0 old.1 in
      record {
        name = old.0.name;
        place = new.0.head;
        live = record {
          state = ap (λ (x : Head). x.state) it.head;
          first = ap (λ (x : Head). x.first) it.head;
          count = ap (λ (x : Head). x.count) it.head ∙ sym count;
          total = ap (λ (x : Head). x.total) it.head;
        };
        section = record {
          head = new.0.head;
          entries = left.0;
          is = subst (λ (n : ℕ). IsSection old.0.name new.0.head n left.0 file) (sym count) left.1;
          live = ap (λ (x : Head). x.state) it.head;
          at_place = refl;
          agrees = subst (λ (n : ℕ). AgreesWith score made g n new.0.head left.0) (sym count)
              left.2;
        };
      }

  all_stand : (files : DeviceFiles) → AreImages disk (devices_in back) files
      → StandsFor score made tables files g (length g)
  all_stand files images =
      let parts : files.partitions ≡ map disk.bytes (disks_of devices.parts.items) =
      only_files disk (disks_of back.parts.items) files.partitions tells done.keeps.settled
      images.partitions ∙ bytes_are in
      let current : current_arena made (take (length g) g) ≡ base =
      ap (current_arena made) whole ∙ current_is in
      record {
        partitions = subst (ArePartitions tables) (sym parts) are;
        log = record {
          base = base;
          log = record {
            contents = log_is.contents;
            arenas = subst (λ (l : List (List ℕ)). AreArenas score (layout_of tables) l
                log_is.contents) (sym parts) log_is.arenas;
            order = log_is.order;
            history = whole ∙ log_is.history;
            base_is = log_is.base_is;
          };
          versions = versions_here;
          least = omega (arith, current);
          most = omega (arith, current_is);
        };
        many = images.sections.many ∙ ap length done.sections ∙ length-map news (λ s. s.disk)
            ∙ all_rebuilt.many ∙ sym (length-map olds (λ s. s.buckets));
        sections = λ i file at.
            let device = slice_get_other back.sections.items files.sections i file
            images.sections.many at in
            subst (λ (h : History). SectionStandsFor score made h i file) (sym whole)
            (section_stands i device.0 file device.1
            (images.sections.each i device.0 file device.1 at));
        filter = λ i file at.
            let device = slice_get_other (option_to_list back.filter) files.filter i file
            images.filter.many at in
            let was : slice_get (option_to_list devices.filter) i ≡ Some device.0 =
            ap (λ (o : Option D). slice_get (option_to_list o) i) (sym done.keeps.filter)
            ∙ device.1 in
            subst (λ (h : History). FilterStandsFor score h file) (sym whole)
            (at_slice (λ d. (file : List ℕ) → disk.images d file → FilterStandsFor score g file)
            (option_to_list devices.filter) i device.0 filter_is was file
            (images.filter.each i device.0 file device.1 at));
      }

  pub stands_for_all : IsLogOf score disk tables (devices_in back) (record c { base = base }) g g base
  stands_for_all = record {
    legal = legal_now;
    setup = record { arenas = setup.arenas; sections = setup.sections };
    each = subst (λ (m : Setup). EachStands score disk m tables 0 (devices_in back) g) (sym setup_is)
        (λ files images. record {
          n = length g;
          keeps = omega arith;
          within = omega arith;
          stands = all_stand files images;
        });
    read = subst (λ (l : List (List ℕ)). IsLog score (layout_of tables) l g base) (sym bytes_are)
        log_is;
  }

  pub limits_kept : KeepsLimits tables c
  limits_kept = record {
    arenas = subst (λ (t : List Table). arena_count t ≤ MOST_ARENAS) same_tables_
        done.opened.log_is.found.arenas;
    buckets = subst (λ (l : List ℕ). sum l ≤ MOST_BUCKETS) counts_are done.opened.few;
    sections = subst (All (λ n. 0 < n)) counts_are (all_from (λ n. 0 < n) (counts_of olds)
        (λ i n at.
        let old = slice_get_other olds (counts_of olds) i n (length-map olds (λ s. s.buckets)) at in
        let own : n ≡ old.0.buckets =
        same_Some n old.0.buckets (sym at ∙ at_map (λ s. s.buckets) olds i old.0 old.1) in
        let d = zip_beside (IsFoundSection disk) devices.sections.items olds i old.0
        done.opened.sections_are old.1 in
        subst (λ (m : ℕ). 0 < m) (sym own) d.2.some));
    names = subst (λ (t : List Table). AreDistinct (map (λ x. x.name) t)) same_tables_
        done.opened.log_is.found.read.mounted.distinct;
  }

  pub blocks_are : blocks ≡ length g
  blocks_are = done.blocks_are ∙ found.2

-- ---- under the names of a configuration's files

-- the partitions of which these arenas were mounted
module _ {D : Type 0} (disk : DiskOf D) (tells : IsTrue disk.tells) where
  each_partition : (handed : List D) (arenas : List (Part D))
      → AllZip (IsMountedPart disk) handed arenas → (i : ℕ) (t : Table) (file : List ℕ)
      → slice_get (tables_of arenas) i ≡ Some t → slice_get (map disk.bytes handed) i ≡ Some file
      → IsPartition t file
  each_partition [] [] it i t file at is = absurd (cc)
  each_partition [] (p ∷ arenas) it i t file at is = absurd it
  each_partition (d ∷ handed) [] it i t file at is = absurd it
  each_partition (d ∷ handed) (p ∷ arenas) it zero t file at is =
      let e : table_of p ≡ t = cc in
      let f : disk.bytes d ≡ file = cc in
      subst (λ (x : Table). IsPartition x file) e
      (subst (λ (x : List ℕ). IsPartition (table_of p) x) f (it.0.partition tells))
  each_partition (d ∷ handed) (p ∷ arenas) it (suc i) t file at is =
      each_partition handed arenas it.1 i t file at is

  are_partitions : (handed : List D) (arenas : List (Part D))
      → AllZip (IsMountedPart disk) handed arenas
      → ArePartitions (tables_of arenas) (map disk.bytes handed)
  are_partitions handed arenas it = record {
    many = length-map handed disk.bytes ∙ sym (zip_length (IsMountedPart disk) handed arenas it)
        ∙ sym (length-map arenas (λ part. table_of part));
    each = each_partition handed arenas it;
  }

module _ {D : Type 0} (disk : DiskOf D) (score : List ℕ → List ℕ) (told : Type 0) (conf : Conf)
    (is_told : told) (tells : IsTrue disk.tells) (one : IsUnambiguous)
    (read : (d : D) → disk.images d (disk.bytes d))
    (fit : (d : D) (file : List ℕ) → disk.images d file → AreBytes file)
    (blocks : ℕ) (old new : Stands D) (some : 0 < length conf.sections.items)
    (on : OnStore disk told conf (RebuildsOn score disk blocks) old new)
    (devices back : PerDevice D) (under : AreUnder old conf devices)
    (under_back : AreUnder new conf back) where
  abbrev all : AreAllTaken disk told conf old on.during on.devices
  all = on.taken

  handed_is : devices ≡ all.handed
  handed_is = one_list old conf devices all.handed under
      (record { shape = all.shape; under = all.taken.stood is_told })

  back_is : back ≡ devices_in on.back
  back_is = one_list new conf back (devices_in on.back) under_back (record {
    shape = on.shape;
    under = on.given.stand is_told (all.taken.out is_told) (all.taken.apart is_told);
  })

  parts_hold : map disk.bytes (disks_of on.devices.parts.items) ≡ map disk.bytes devices.partitions
  parts_hold = (read_holds disk all.handed (devices_in on.devices)
      (tables_are_read disk told conf old on.during on.devices all)).bytes_are
      ∙ ap (λ (p : PerDevice D). map disk.bytes p.partitions) (sym handed_is)

  own_tables : ArePartitions (tables_in on.devices) (map disk.bytes devices.partitions)
  own_tables = subst (λ (p : PerDevice D). ArePartitions (tables_in on.devices)
      (map disk.bytes p.partitions)) (sym handed_is)
      (are_partitions disk tells all.handed.partitions on.devices.parts.items all.mounted)

  module _ (tables : List Table) (c : Setup) (sections : List ℕ) (g : History) (base : ℕ)
      (are : ArePartitions tables (map disk.bytes devices.partitions))
      (log_is : IsLog score (layout_of tables) (map disk.bytes devices.partitions) g base)
      (setup : IsSetupOf disk tables back c)
      (versions_are : c.versions ≡ versions_of log_is.contents)
      (legal : IsLegal score (record c { base = base; sections = sections }) g)
      (filter_is : All (λ d. (file : List ℕ) → disk.images d file → FilterStandsFor score g file)
      devices.filter) where
    tables_are_ : tables ≡ tables_in on.devices
    tables_are_ = same_tables one tables (tables_in on.devices) (map disk.bytes devices.partitions)
        are own_tables

    some_section : 0 < length on.devices.sections.items
    some_section =
        omega (arith, some, many_sections disk told conf old on.during on.devices all)

    setup_here : IsSetupOf disk (tables_in on.devices) (devices_in on.back) c
    setup_here = subst (λ (p : PerDevice D). IsSetupOf disk (tables_in on.devices) p c) back_is
        (subst (λ (t : List Table). IsSetupOf disk t back c) tables_are_ setup)

    abbrev log_here : IsLog score (layout_of (tables_in on.devices))
        (map disk.bytes (disks_of on.devices.parts.items)) g base
    log_here = record {
      contents = log_is.contents;
      arenas = subst (λ (l : List (List ℕ)). AreArenas score (layout_of (tables_in on.devices)) l
          log_is.contents) (sym parts_hold) (subst (λ (t : List Table). AreArenas score (layout_of t)
          (map disk.bytes devices.partitions) log_is.contents) tables_are_ log_is.arenas);
      order = log_is.order;
      history = log_is.history;
      base_is = log_is.base_is;
    }

    are_here : ArePartitions (tables_in on.devices)
        (map disk.bytes (disks_of on.devices.parts.items))
    are_here = subst (ArePartitions (tables_in on.devices)) (sym parts_hold) own_tables

    filter_here : All (λ d. (file : List ℕ) → disk.images d file → FilterStandsFor score g file)
        (option_to_list on.devices.filter)
    filter_here = subst (All (λ d. (file : List ℕ) → disk.images d file
        → FilterStandsFor score g file))
        (ap (λ (p : PerDevice D). p.filter) handed_is ∙ all.filter) filter_is

    abbrev C : Setup
    C = record c { base = base }

    pub can_be_opened : (blocks ≡ length g) × IsLogOf score disk tables back C g g base
        × KeepsLimits tables c
    can_be_opened =
        let of = stands_for_all disk score tells read fit blocks on.devices on.back some_section
        on.does c setup_here g base log_here versions_are are_here sections legal filter_here in
        let limits = limits_kept disk score tells read fit blocks on.devices on.back some_section
        on.does c setup_here g base log_here versions_are are_here sections legal filter_here in (
          blocks_are disk score tells read fit blocks on.devices on.back some_section
              on.does c setup_here g base log_here versions_are are_here sections legal filter_here,
          subst (λ (p : PerDevice D). IsLogOf score disk tables p C g g base) (sym back_is)
              (subst (λ (t : List Table). IsLogOf score disk t (devices_in on.back) C g g base)
              (sym tables_are_) of),
          subst (λ (t : List Table). KeepsLimits t c) (sym tables_are_) limits,
        )
