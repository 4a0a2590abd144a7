-- What formatting leaves stands for no blocks, and sections and filters without entries for any.
use Rattle.std.proofs.Common.{◌≡◌, ◌+◌, ◌<◌, ◌≤◌, ℕ, zero, suc, List, [], ◌∷◌, length, map, take, Some, refl, sym, ◌∙◌, ap, subst, arith, rules}
use Rattle.std.specs.Prelude.{All, slice_get, IsTrue, sum}
use Rattle.std.specs.List.{AllPairs, AllZip, Contains}
use Rattle.std.proofs.lemmas.List.{length-map}
use Rattle.std.proofs.lemmas.List.Sums.{sum_by-cons}
use Rattle.vt_disk.specs.Members.{DiskOf}
use Rattle.vt_model.specs.History.{History}
use Rattle.vt_model.specs.Legal.{HasOtherKey, IsLegal}
use Rattle.vt_model.specs.Places.{Setup, bucket_count, first_bucket}
use Rattle.vt_model.proofs.Room.{nothing_fits}
use Rattle.vt_part.specs.Laws.{LayoutsHaveArenas, LayoutsListArenas}
use Rattle.vt_part.specs.Layout.{layout_of}
use Rattle.vt_part.specs.Table.{IsPartition, Table}
use Rattle.vt_bloom.specs.Frame.{HasSaved, empty_of}
use Rattle.vt_bucket.specs.Order.{IsBelow}
use Rattle.vt_isect.specs.Layout.{IsSection, buckets_in}
use Rattle.vt_log.specs.Sound.{AreImagesOf}
use Rattle.vt_log.proofs.Lists.{at_slice, slice_get_other}
use Rattle.vt_shard.specs.Sound.{IsLiveSection}
use Rattle.vt_format.specs.Arenas.{IsEmptyLog}
use Rattle.vt_format.specs.Usage.{head_in}
use Rattle.vt_core.specs.Files.{PerDevice}
use Rattle.vt_core.specs.Mounting.{AllStandFor, IsLogOf}
use Rattle.vt_core.specs.Stands.{FilterStandsFor}
use Rattle.vt_recover.specs.Sections.{SectionStandsFor, section_buckets}
use Rattle.vt_empty.specs.Devices.{AreFormatted, setup_on}
use Rattle.vt_empty.specs.Formatted.{AreUnfilled, IsUnfilled, IsUnset}
use Rattle.vt_empty.proofs.EmptyLogs.{files_empty, log_versions, one_log}

none_of : {X : Type 0} (x : X) → ¬ Contains [] x
none_of x (k, within, is) = absurd (omega (arith, within))

no_pairs : {X : Type 0} (R : X → X → Type 0) → AllPairs R []
no_pairs R i j d less within = absurd (omega (arith, within))

-- ---- a section and a filter

pub section_stands : (score : List ℕ → List ℕ) (c : Setup) (g : History) (i first total count : ℕ) (name file : List ℕ) → AllPairs (HasOtherKey score) g
    → first ≡ first_bucket c.sections i → count ≡ section_buckets c i → total ≡ bucket_count c
    → IsSection name (head_in 1 first count total) count (λ n. []) file → SectionStandsFor score c g i file
section_stands score c g i first total count name file keys first_is count_is total_is is = record {
  name = name;
  place = head_in 1 first count total;
  live = record { state = refl; first = first_is; count = count_is; total = total_is };
  section = subst (λ (n : ℕ). IsLiveSection score c g name n (head_in 1 first count total) file) count_is (record {
    head = head_in 1 first count total;
    entries = λ n. [];
    is = is;
    live = refl;
    at_place = refl;
    agrees = record {
      keys = keys;
      total = total_is;
      blocks = λ n entry in_range has. absurd (none_of entry has);
      ascending = λ n in_range. no_pairs IsBelow;
      filed = λ n k in_range below. absurd (omega (arith, below));
      mark_fits = omega arith;
    };
  });
}

pub filter_stands : (score : List ℕ → List ℕ) (g : History) (m k : ℕ) (file : List ℕ) → HasSaved (empty_of m k) file → FilterStandsFor score g file
filter_stands score g m k file has = record {
  saved = empty_of m k;
  has = has;
  covers = record {
    within = omega arith;
    set = λ i s below at. absurd (omega (arith, below));
  };
}

-- ---- those of devices

module _ {D : Type 0} (disk : DiskOf D) where
  abbrev pub counts_of : List D → List ℕ
  counts_of devices = map (λ device. buckets_in (disk.size device)) devices

  unfilled_at : (devices : List D) (first total : ℕ) → AreUnfilled disk first total devices → (i : ℕ) (device : D) → slice_get devices i ≡ Some device
      → IsUnfilled disk (first + first_bucket (counts_of devices) i) total device
  unfilled_at [] first total are i device at = absurd (cc)
  unfilled_at (d ∷ ds) first total are zero device at =
      let same : d ≡ device = cc in
      let e : first ≡ first + first_bucket (counts_of (d ∷ ds)) 0 = omega arith in
      subst (λ (f : ℕ). IsUnfilled disk f total device) e (subst (λ (x : D). IsUnfilled disk first total x) same are.0)
  unfilled_at (d ∷ ds) first total are (suc i) device at =
      let n = buckets_in (disk.size d) in
      let sums : sum (n ∷ take i (counts_of ds)) ≡ n + sum (take i (counts_of ds)) = sum_by-cons (λ x. x) n (take i (counts_of ds)) in
      let e : (first + n) + first_bucket (counts_of ds) i ≡ first + first_bucket (counts_of (d ∷ ds)) (suc i) = omega (arith, sums) in
      subst (λ (f : ℕ). IsUnfilled disk f total device) e (unfilled_at ds (first + n) total are.1 i device at)

  unfilled_total : (devices : List D) (first total : ℕ) → AreUnfilled disk first total devices → total ≡ first + sum (counts_of devices)
  unfilled_total [] first total are = let e : total ≡ first = are in omega (arith, e)
  unfilled_total (d ∷ ds) first total are =
      let n = buckets_in (disk.size d) in
      let sums : sum (n ∷ counts_of ds) ≡ n + sum (counts_of ds) = sum_by-cons (λ x. x) n (counts_of ds) in
      omega (arith, sums, unfilled_total ds (first + n) total are.1)

  index_map : {X : Type 0} (f : X → ℕ) (xs : List X) (i : ℕ) (x : X) → slice_get xs i ≡ Some x → f x ≡ Rattle.std.specs.Prelude.slice_index (map f xs) i
  index_map f [] i x at = absurd (cc)
  index_map f (y ∷ xs) zero x at = let same : y ≡ x = cc in ap f (sym same)
  index_map f (y ∷ xs) (suc i) x at = index_map f xs i x at

  pub sections_stand : (score : List ℕ → List ℕ) (c : Setup) (g : History) (devices : List D) (total : ℕ) (files : List (List ℕ)) → AllPairs (HasOtherKey score) g
      → c.sections ≡ counts_of devices → AreUnfilled disk 0 total devices → AreImagesOf disk devices files
      → (i : ℕ) (file : List ℕ) → slice_get files i ≡ Some file → SectionStandsFor score c g i file
  sections_stand score c g devices total files keys counts are images i file at =
      let d = slice_get_other devices files i file images.many at in
      let is = unfilled_at devices 0 total are i d.0 d.1 in
      let first : 0 + first_bucket (counts_of devices) i ≡ first_bucket c.sections i = Rattle.std.proofs.Common.zero-add _ ∙ ap (λ (ns : List ℕ). first_bucket ns i) (sym counts) in
      let count : buckets_in (disk.size d.0) ≡ section_buckets c i = index_map (λ (x : D). buckets_in (disk.size x)) devices i d.0 d.1 ∙ ap (λ (ns : List ℕ). Rattle.std.specs.Prelude.slice_index ns i) (sym counts) in
      let whole : total ≡ bucket_count c = unfilled_total devices 0 total are ∙ Rattle.std.proofs.Common.zero-add _ ∙ ap (λ (ns : List ℕ). sum ns) (sym counts) in
      section_stands score c g i (0 + first_bucket (counts_of devices) i) total (buckets_in (disk.size d.0)) is.name file keys first count whole (is.images file (images.each i d.0 file d.1 at))

  pub filters_stand : (score : List ℕ → List ℕ) (g : History) (devices : List D) (files : List (List ℕ)) → All (IsUnset disk) devices → AreImagesOf disk devices files
      → (i : ℕ) (file : List ℕ) → slice_get files i ≡ Some file → FilterStandsFor score g file
  filters_stand score g devices files unset images i file at =
      let d = slice_get_other devices files i file images.many at in
      let is = at_slice (IsUnset disk) devices i d.0 unset d.1 in
      filter_stands score g is.m is.k file (is.images file (images.each i d.0 file d.1 at))

  pub many_files : (devices : List D) (files : List (List ℕ)) → AreImagesOf disk devices files → length files ≡ length (counts_of devices)
  many_files devices files images = images.many ∙ sym (length-map devices (λ (x : D). buckets_in (disk.size x)))

  zip_partitions : (tables : List Table) (files : List (List ℕ)) → AllZip IsEmptyLog tables files
      → (i : ℕ) (t : Table) (file : List ℕ) → slice_get tables i ≡ Some t → slice_get files i ≡ Some file → IsPartition t file
  zip_partitions [] files each i t file at there = absurd (cc)
  zip_partitions (u ∷ us) [] each i t file at there = absurd each
  zip_partitions (u ∷ us) (f ∷ fs) each zero t file at there =
      let table : u ≡ t = cc in let bytes : f ≡ file = cc in
      subst (λ (x : Table). IsPartition x file) table (subst (λ (x : List ℕ). IsPartition u x) bytes each.0.partition)
  zip_partitions (u ∷ us) (f ∷ fs) each (suc i) t file at there = zip_partitions us fs each.1 i t file at there

  zip_many : {X Y : Type 0} (R : X → Y → Type 0) (xs : List X) (ys : List Y) → AllZip R xs ys → length ys ≡ length xs
  zip_many R [] [] each = refl
  zip_many R [] (y ∷ ys) each = absurd each
  zip_many R (x ∷ xs) [] each = absurd each
  zip_many R (x ∷ xs) (y ∷ ys) each = let few = zip_many R xs ys each.1 in omega (arith, few)

-- ---- all of them

legal_nothing : (score : List ℕ → List ℕ) (c : Setup) → IsLegal score c []
legal_nothing score c = search (rules, nothing_fits)

module _ {D : Type 0} (disk : DiskOf D) where
  pub own_images : ((device : D) → disk.images device (disk.bytes device)) → (devices : List D) → AreImagesOf disk devices (map disk.bytes devices)
  own_images own devices = record {
    many = length-map devices disk.bytes;
    each = own_at devices;
  }
    where
      own_at : (ds : List D) (i : ℕ) (device : D) (file : List ℕ) → slice_get ds i ≡ Some device → slice_get (map disk.bytes ds) i ≡ Some file → disk.images device file
      own_at [] i device file at there = absurd (cc)
      own_at (d ∷ ds) zero device file at there =
          let same : d ≡ device = cc in let bytes : disk.bytes d ≡ file = cc in
          subst (λ (x : D). disk.images x file) same (subst (λ (x : List ℕ). disk.images d x) bytes (own d))
      own_at (d ∷ ds) (suc i) device file at there = own_at ds i device file at there

module _ {D : Type 0} (disk : DiskOf D) (have : LayoutsHaveArenas) (listed : LayoutsListArenas) where
  pub all_stand : (score : List ℕ → List ℕ) (tables : List Table) (devices : PerDevice D) → AreFormatted disk tables devices
      → AllStandFor score disk (setup_on disk tables devices) tables devices [] 0
  all_stand score tables devices are files images =
      let each = files_empty disk tables devices.partitions files.partitions are.partitions images.partitions.many images.partitions.each in
      let log = one_log have listed score tables files.partitions each in
      record {
        partitions = record {
          many = zip_many disk IsEmptyLog tables files.partitions each;
          each = zip_partitions disk tables files.partitions each;
        };
        log = record {
          base = 0;
          log = log;
          versions = log_versions score (layout_of tables) files.partitions log;
          least = omega arith;
          most = omega arith;
        };
        many = many_files disk devices.sections files.sections images.sections;
        sections = sections_stand disk score (setup_on disk tables devices) [] devices.sections are.total files.sections (no_pairs (HasOtherKey score)) refl are.sections images.sections;
        filter = filters_stand disk score [] devices.filter files.filter are.filter images.filter;
      }

  pub log_of : ((device : D) → disk.images device (disk.bytes device)) → (score : List ℕ → List ℕ) (tables : List Table) (devices : PerDevice D)
      → AreFormatted disk tables devices → IsLogOf score disk tables devices (setup_on disk tables devices) [] [] 0
  log_of own score tables devices are =
      let images = own_images disk own devices.partitions in
      record {
        legal = legal_nothing score (setup_on disk tables devices);
        setup = record { arenas = refl; sections = refl };
        each = λ files left. record {
          n = 0;
          keeps = omega arith;
          within = omega arith;
          stands = all_stand score tables devices are files left;
        };
        read = one_log have listed score tables (map disk.bytes devices.partitions)
            (files_empty disk tables devices.partitions (map disk.bytes devices.partitions) are.partitions images.many images.each);
      }
