-- What a crash leaves of a store's devices, and what is mounted on that.
use Rattle.std.proofs.Common.{◌≡◌, inl, ◌≤◌, ℕ, zero, suc, List, [], ◌∷◌, ◌++◌, length, map, Some, refl, sym, ◌∙◌, ap, subst, arith}
use Rattle.std.proofs.lemmas.List.{length-map}
use Rattle.std.proofs.lemmas.Option.{same_Some}
use Rattle.std.specs.List.{All, AllZip}
use Rattle.std.specs.Prelude.{slice_get}
use Rattle.vt_disk.specs.Calls.{OnlyReads}
use Rattle.vt_disk.specs.Disk.{Only}
use Rattle.vt_disk.specs.Members.{DiskOf}
use Rattle.vt_memdisk.specs.declared.crash.CrashMode.{CrashMode}
use Rattle.vt_isect.specs.Layout.{buckets_in}
use Rattle.vt_log.specs.Sound.{AreImagesOf, AreWithinCallOf}
use Rattle.vt_model.specs.History.{History}
use Rattle.vt_model.specs.Places.{Setup}
use Rattle.vt_part.specs.Parts.{disk_of, table_of, tables_of}
use Rattle.vt_part.specs.Table.{Table, arenas_end}
use Rattle.vt_part.specs.declared.part.Part.{Part}
use Rattle.vt_core.specs.Crashing.{AreLeftOf, LeftByCrash}
use Rattle.vt_core.specs.Files.{AreImages, DeviceFiles, PerDevice, all_of}
use Rattle.vt_core.specs.Mounting.{EachStands, IsSetupOf}
use Rattle.vt_core.specs.Stands.{StandForPrefix}
use Rattle.vt_rehearse.specs.Crashed.{IsImageLeft, IsLeftMounted}

module _ {D : Type 0} (disk : DiskOf D) (Leaves : CrashMode → D → List ℕ → Type 0) (mode : CrashMode) where
  -- ---- one device

  -- a read of it changes nothing
  pub left_read : (before made after : D) → IsImageLeft disk Leaves mode before made → OnlyReads disk 1 made after → IsImageLeft disk Leaves mode before after
  left_read before made after left reads = record {
    left = subst (λ (f : List ℕ). Leaves mode before f) (sym reads.bytes) left.left;
    image = subst (λ (f : List ℕ). disk.images before f) (sym reads.bytes) left.image;
    only = λ file is. left.only file (reads.images file is) ∙ sym reads.bytes;
    size = reads.size ∙ left.size;
  }

  -- ---- one kind of devices

  pub left_images : (xs ys : List D) → AllZip (IsImageLeft disk Leaves mode) xs ys → AreImagesOf disk xs (map disk.bytes ys)
  left_images xs ys zip = record { many = many xs ys zip; each = each xs ys zip }
    where
      many : (xs ys : List D) → AllZip (IsImageLeft disk Leaves mode) xs ys → length (map disk.bytes ys) ≡ length xs
      many [] [] zip = refl
      many [] (y ∷ ys) zip = absurd zip
      many (x ∷ xs) [] zip = absurd zip
      many (x ∷ xs) (y ∷ ys) zip = ap (λ (n : ℕ). suc n) (many xs ys zip.1)

      each : (xs ys : List D) → AllZip (IsImageLeft disk Leaves mode) xs ys → (i : ℕ) (d : D) (file : List ℕ) → slice_get xs i ≡ Some d → slice_get (map disk.bytes ys) i ≡ Some file → disk.images d file
      each [] ys zip i d file at is = absurd (cc)
      each (x ∷ xs) [] zip i d file at is = absurd zip
      each (x ∷ xs) (y ∷ ys) zip zero d file at is =
          subst (λ (f : List ℕ). disk.images d f) (same_Some (disk.bytes y) file is) (subst (λ (e : D). disk.images e (disk.bytes y)) (same_Some x d at) zip.0.image)
      each (x ∷ xs) (y ∷ ys) zip (suc i) d file at is = each xs ys zip.1 i d file at is

  pub left_within : (xs ys : List D) → AllZip (IsImageLeft disk Leaves mode) xs ys → AreWithinCallOf disk xs xs (map disk.bytes ys)
  left_within xs ys zip =
      let images = left_images xs ys zip in
      record { many = images.many; each = λ i before after file at then is. inl (images.each i before file at is) }

  pub left_are : (xs ys : List D) → AllZip (IsImageLeft disk Leaves mode) xs ys → AreLeftOf disk (map disk.bytes ys) ys
  left_are xs ys zip = record { many = sym (length-map ys disk.bytes); each = each xs ys zip }
    where
      each : (xs ys : List D) → AllZip (IsImageLeft disk Leaves mode) xs ys → (i : ℕ) (d : D) (file : List ℕ) → slice_get ys i ≡ Some d → slice_get (map disk.bytes ys) i ≡ Some file
          → (disk.bytes d ≡ file) × Only file (disk.images d)
      each xs [] zip i d file at is = absurd (cc)
      each [] (y ∷ ys) zip i d file at is = absurd zip
      each (x ∷ xs) (y ∷ ys) zip zero d file at is =
          let one : y ≡ d = same_Some y d at in
          let two : disk.bytes y ≡ file = same_Some (disk.bytes y) file is in
          (sym (ap disk.bytes one) ∙ two, subst (λ (f : List ℕ). Only f (disk.images d)) two (subst (λ (e : D). Only (disk.bytes y) (disk.images e)) one zip.0.only))
      each (x ∷ xs) (y ∷ ys) zip (suc i) d file at is = each xs ys zip.1 i d file at is

  pub left_mode : (xs ys : List D) → AllZip (IsImageLeft disk Leaves mode) xs ys → AllZip (Leaves mode) xs (map disk.bytes ys)
  left_mode [] [] zip = tt
  left_mode [] (y ∷ ys) zip = absurd zip
  left_mode (x ∷ xs) [] zip = absurd zip
  left_mode (x ∷ xs) (y ∷ ys) zip = (zip.0.left, left_mode xs ys zip.1)

  pub left_sizes : (xs ys : List D) → AllZip (IsImageLeft disk Leaves mode) xs ys → map disk.size ys ≡ map disk.size xs
  left_sizes [] [] zip = refl
  left_sizes [] (y ∷ ys) zip = absurd zip
  left_sizes (x ∷ xs) [] zip = absurd zip
  left_sizes (x ∷ xs) (y ∷ ys) zip = ap (λ (n : ℕ). n ∷ map disk.size ys) zip.0.size ∙ ap (λ (ns : List ℕ). disk.size x ∷ ns) (left_sizes xs ys zip.1)

  -- a second crash leaves the same files
  left_again : (ys : List D) (again : List (List ℕ)) → AreLeftOf disk (map disk.bytes ys) ys → AreImagesOf disk ys again → again ≡ map disk.bytes ys
  left_again ys again left images = by ys again (λ i d at. (left.each i d (disk.bytes d) at (read ys i d at)).1) images.many images.each
    where
      read : (ys : List D) (i : ℕ) (d : D) → slice_get ys i ≡ Some d → slice_get (map disk.bytes ys) i ≡ Some (disk.bytes d)
      read [] i d at = absurd (cc)
      read (y ∷ ys) zero d at = ap (λ (e : D). Some (disk.bytes e)) (same_Some y d at)
      read (y ∷ ys) (suc i) d at = read ys i d at

      by : (ys : List D) (again : List (List ℕ)) → ((i : ℕ) (d : D) → slice_get ys i ≡ Some d → Only (disk.bytes d) (disk.images d)) → length again ≡ length ys
          → ((i : ℕ) (d : D) (file : List ℕ) → slice_get ys i ≡ Some d → slice_get again i ≡ Some file → disk.images d file) → again ≡ map disk.bytes ys
      by [] [] only many each = refl
      by [] (f ∷ again) only many each = absurd (omega (arith, many))
      by (y ∷ ys) [] only many each = absurd (omega (arith, many))
      by (y ∷ ys) (f ∷ again) only many each =
          let head : f ≡ disk.bytes y = only zero y refl f (each zero y f refl refl) in
          let tail : again ≡ map disk.bytes ys = by ys again (λ i. only (suc i)) (omega (arith, many)) (λ i. each (suc i)) in
          ap (λ (g : List ℕ). g ∷ again) head ∙ ap (λ (gs : List (List ℕ)). disk.bytes y ∷ gs) tail

  -- ---- partitions

  pub left_disks : (xs ys : List (Part D)) → AllZip (IsLeftMounted disk Leaves mode) xs ys → AllZip (IsImageLeft disk Leaves mode) (map (λ p. disk_of p) xs) (map (λ p. disk_of p) ys)
  left_disks [] [] zip = tt
  left_disks [] (y ∷ ys) zip = absurd zip
  left_disks (x ∷ xs) [] zip = absurd zip
  left_disks (x ∷ xs) (y ∷ ys) zip = (zip.0.disks, left_disks xs ys zip.1)

  pub left_tables : (xs ys : List (Part D)) → AllZip (IsLeftMounted disk Leaves mode) xs ys → tables_of ys ≡ tables_of xs
  left_tables [] [] zip = refl
  left_tables [] (y ∷ ys) zip = absurd zip
  left_tables (x ∷ xs) [] zip = absurd zip
  left_tables (x ∷ xs) (y ∷ ys) zip = ap (λ (t : Table). t ∷ tables_of ys) zip.0.table ∙ ap (λ (ts : List Table). table_of x ∷ ts) (left_tables xs ys zip.1)

  pub left_rooms : (xs ys : List (Part D)) → AllZip (IsLeftMounted disk Leaves mode) xs ys → All (λ part. arenas_end (table_of part) ≤ disk.size (disk_of part)) ys
  left_rooms xs ys zip i d lt = by xs ys zip i d lt
    where
      by : (xs ys : List (Part D)) → AllZip (IsLeftMounted disk Leaves mode) xs ys → All (λ part. arenas_end (table_of part) ≤ disk.size (disk_of part)) ys
      by xs [] zip i d lt = absurd (omega (arith, lt))
      by [] (y ∷ ys) zip i d lt = absurd zip
      by (x ∷ xs) (y ∷ ys) zip zero d lt = zip.0.room
      by (x ∷ xs) (y ∷ ys) zip (suc i) d lt = by xs ys zip.1 i d (omega (arith, lt))

  -- ---- all devices

  pub record AllLeft (old new : PerDevice D) : Type 0 where
    pub partitions : AllZip (IsImageLeft disk Leaves mode) old.partitions new.partitions
    pub sections : AllZip (IsImageLeft disk Leaves mode) old.sections new.sections
    pub filter : AllZip (IsImageLeft disk Leaves mode) old.filter new.filter

  zip_append : {X Y : Type 0} (R : X → Y → Type 0) (xs us : List X) (ys vs : List Y) → AllZip R xs ys → AllZip R us vs → AllZip R (xs ++ us) (ys ++ vs)
  zip_append R [] us [] vs first second = second
  zip_append R [] us (y ∷ ys) vs first second = absurd first
  zip_append R (x ∷ xs) us [] vs first second = absurd first
  zip_append R (x ∷ xs) us (y ∷ ys) vs first second = (first.0, zip_append R xs us ys vs first.1 second)

  module _ (old new : PerDevice D) (all : AllLeft old new) where
    pub all_images : AreImages disk old (record { partitions = map disk.bytes new.partitions; sections = map disk.bytes new.sections; filter = map disk.bytes new.filter })
    all_images = record {
      partitions = left_images old.partitions new.partitions all.partitions;
      sections = left_images old.sections new.sections all.sections;
      filter = left_images old.filter new.filter all.filter;
    }

    abbrev pub all_left : LeftByCrash disk old old new
    all_left = record {
      files = record { partitions = map disk.bytes new.partitions; sections = map disk.bytes new.sections; filter = map disk.bytes new.filter };
      images = record {
        partitions = left_within old.partitions new.partitions all.partitions;
        sections = left_within old.sections new.sections all.sections;
        filter = left_within old.filter new.filter all.filter;
      };
      are = record {
        partitions = left_are old.partitions new.partitions all.partitions;
        sections = left_are old.sections new.sections all.sections;
        filter = left_are old.filter new.filter all.filter;
      };
      sizes = left_sizes old.sections new.sections all.sections;
    }

    pub all_modes : AllZip (Leaves mode) (all_of old) (all_of all_left.files)
    all_modes = zip_append (Leaves mode) (old.partitions ++ old.sections) old.filter (map disk.bytes new.partitions ++ map disk.bytes new.sections) (map disk.bytes new.filter)
        (zip_append (Leaves mode) old.partitions old.sections (map disk.bytes new.partitions) (map disk.bytes new.sections)
        (left_mode old.partitions new.partitions all.partitions) (left_mode old.sections new.sections all.sections))
        (left_mode old.filter new.filter all.filter)

    -- what is left stands for a prefix, whatever a second crash leaves
    pub left_stands : (score : List ℕ → List ℕ) (c : Setup) (tables : List Table) (h : History) (least : ℕ)
        → StandForPrefix score c tables least (record { partitions = map disk.bytes new.partitions; sections = map disk.bytes new.sections; filter = map disk.bytes new.filter }) h
        → EachStands score disk c tables 0 new h
    left_stands score c tables h least stands more images =
        let P : DeviceFiles → Type 0 = λ fs. StandForPrefix score c tables 0 fs h in
        let partitions = left_again new.partitions more.partitions (left_are old.partitions new.partitions all.partitions) images.partitions in
        let sections = left_again new.sections more.sections (left_are old.sections new.sections all.sections) images.sections in
        let filter = left_again new.filter more.filter (left_are old.filter new.filter all.filter) images.filter in
        let start : P (record { partitions = map disk.bytes new.partitions; sections = map disk.bytes new.sections; filter = map disk.bytes new.filter }) =
        record { n = stands.n; keeps = omega arith; within = stands.within; stands = stands.stands } in
        let one : P (record { partitions = more.partitions; sections = map disk.bytes new.sections; filter = map disk.bytes new.filter }) =
        subst (λ (l : List (List ℕ)). P (record { partitions = l; sections = map disk.bytes new.sections; filter = map disk.bytes new.filter })) (sym partitions) start in
        let two : P (record { partitions = more.partitions; sections = more.sections; filter = map disk.bytes new.filter }) =
        subst (λ (l : List (List ℕ)). P (record { partitions = more.partitions; sections = l; filter = map disk.bytes new.filter })) (sym sections) one in
        subst (λ (l : List (List ℕ)). P (record { partitions = more.partitions; sections = more.sections; filter = l })) (sym filter) two

    -- and has the buckets that there were
    pub left_setup : (c : Setup) (tables : List Table) → IsSetupOf disk tables old c → IsSetupOf disk tables new c
    left_setup c tables setup =
        record { arenas = setup.arenas; sections = setup.sections ∙ twice old.sections ∙ ap (λ (ns : List ℕ). map buckets_in ns) (sym (left_sizes old.sections new.sections all.sections)) ∙ sym (twice new.sections) }
      where
        twice : (ds : List D) → map (λ d. buckets_in (disk.size d)) ds ≡ map buckets_in (map disk.size ds)
        twice [] = refl
        twice (d ∷ ds) = ap (λ (ns : List ℕ). buckets_in (disk.size d) ∷ ns) (twice ds)
