-- The log of devices whose tables were read is that of the devices as they were handed out.
use Rattle.std.proofs.Common.{◌≡◌, ℕ, zero, suc, List, [], ◌∷◌, length, map, Some, refl, sym, ◌∙◌, ap, subst, arith}
use Rattle.std.specs.Prelude.{slice_get}
use Rattle.std.specs.Option.{option_map}
use Rattle.std.proofs.lemmas.List.{length-map}
use Rattle.std.proofs.lemmas.Option.{same_Some, slice_get-map}
use Rattle.vt_disk.specs.Calls.{OnlyReads}
use Rattle.vt_disk.specs.Members.{DiskOf}
use Rattle.vt_isect.specs.Layout.{buckets_in}
use Rattle.vt_log.specs.Answers.{HoldTheSame}
use Rattle.vt_log.specs.Logs.{IsLog}
use Rattle.vt_log.specs.Sound.{AreImagesOf}
use Rattle.vt_model.specs.History.{History}
use Rattle.vt_model.specs.Places.{Setup}
use Rattle.vt_part.specs.Laws.{IsUnambiguous}
use Rattle.vt_part.specs.Layout.{layout_of}
use Rattle.vt_part.specs.Table.{Table}
use Rattle.vt_core.specs.Files.{PerDevice, DeviceFiles, AreImages}
use Rattle.vt_core.specs.Mounting.{AllStandFor, EachStands, IsLogOf, IsSetupOf}
use Rattle.vt_core.specs.Stands.{ArePartitions}
use Rattle.vt_open.specs.Opening.{AreTablesRead}
use Rattle.vt_open.proofs.Held.{IsHeld, held_many, held_reads, hold_zip, zip_implies}

pub at_map : {X Y : Type 0} (f : X → Y) (xs : List X) (i : ℕ) (x : X) → slice_get xs i ≡ Some x → slice_get (map f xs) i ≡ Some (f x)
at_map f xs i x at = slice_get-map f xs i ∙ ap (option_map f) at

-- of two lists of one length, what stands there in the one where something stands in the other
pub beside : {X Y : Type 0} (xs : List X) (ys : List Y) (i : ℕ) (y : Y) → length ys ≡ length xs → slice_get ys i ≡ Some y → (x : X) × (slice_get xs i ≡ Some x)
beside [] [] i y many at = absurd (cc)
beside [] (b ∷ ys) i y many at = absurd (omega (arith, many))
beside (a ∷ xs) [] i y many at = absurd (cc)
beside (a ∷ xs) (b ∷ ys) zero y many at = (a, refl)
beside (a ∷ xs) (b ∷ ys) (suc i) y many at = let few : length ys ≡ length xs = omega (arith, many) in beside xs ys i y few at

-- one file has one table
pub same_tables : IsUnambiguous → (a b : List Table) (files : List (List ℕ)) → ArePartitions a files → ArePartitions b files → a ≡ b
same_tables one a b files these those = each a b (sym these.many ∙ those.many) (λ i s t here there.
    let file = beside files a i s (sym these.many) here in
    one s t file.0 (these.each i s file.0 here file.1) (those.each i t file.0 there file.1))
  where
    each : (a b : List Table) → length a ≡ length b → ((i : ℕ) (s t : Table) → slice_get a i ≡ Some s → slice_get b i ≡ Some t → s ≡ t) → a ≡ b
    each [] [] many same = refl
    each [] (t ∷ b) many same = absurd (omega (arith, many))
    each (s ∷ a) [] many same = absurd (omega (arith, many))
    each (s ∷ a) (t ∷ b) many same =
        let few : length a ≡ length b = omega (arith, many) in
        let head : s ≡ t = same 0 s t refl refl in
        let tail = each a b few (λ i. same (suc i)) in
        cc

module _ {D : Type 0} (disk : DiskOf D) where
  -- what a crash may leave of them now it might have left before
  pub images_among : (old new : List D) (files : List (List ℕ)) → HoldTheSame disk old new → AreImagesOf disk new files → AreImagesOf disk old files
  images_among old new files held images = record {
    many = images.many ∙ held_many disk old new held;
    each = λ i device file at is.
        let d = beside new old i device (sym (held_many disk old new held)) at in
        held.images_are i device d.0 at d.1 file (images.each i d.0 file d.1 is);
  }

  -- what is read is an image of each
  images_read : ((d : D) → disk.images d (disk.bytes d)) → (devices : List D) → AreImagesOf disk devices (map disk.bytes devices)
  images_read read devices = record {
    many = length-map devices disk.bytes;
    each = λ i d file at is. subst (disk.images d) (same_Some (disk.bytes d) file (sym (at_map disk.bytes devices i d at) ∙ is)) (read d);
  }

  pub all_read : ((d : D) → disk.images d (disk.bytes d)) → (devices : PerDevice D)
      → AreImages disk devices (record { partitions = map disk.bytes devices.partitions; sections = map disk.bytes devices.sections; filter = map disk.bytes devices.filter })
  all_read read devices = record {
    partitions = images_read read devices.partitions;
    sections = images_read read devices.sections;
    filter = images_read read devices.filter;
  }

  -- the tables of devices that stand for prefixes
  pub tables_read : ((d : D) → disk.images d (disk.bytes d)) → (score : List ℕ → List ℕ) (c : Setup) (tables : List Table) (least : ℕ) (devices : PerDevice D) (h : History)
      → EachStands score disk c tables least devices h → ArePartitions tables (map disk.bytes devices.partitions)
  tables_read read score c tables least devices h each =
      (each (record { partitions = map disk.bytes devices.partitions; sections = map disk.bytes devices.sections; filter = map disk.bytes devices.filter }) (all_read read devices)).stands.partitions

  pub tables_are : IsUnambiguous → ((d : D) → disk.images d (disk.bytes d)) → (score : List ℕ → List ℕ) (c : Setup) (a b : List Table) (least : ℕ) (devices : PerDevice D) (h : History)
      → EachStands score disk c a least devices h → ArePartitions b (map disk.bytes devices.partitions) → a ≡ b
  tables_are one read score c a b least devices h each those = same_tables one a b (map disk.bytes devices.partitions) (tables_read read score c a least devices h each) those

  module _ (handed mounted : PerDevice D) (read : AreTablesRead disk handed mounted) where
    pub read_holds : HoldTheSame disk handed.partitions mounted.partitions
    read_holds = hold_zip disk handed.partitions mounted.partitions
        (zip_implies (OnlyReads disk 1) (IsHeld disk) handed.partitions mounted.partitions (λ x y it. held_reads disk 1 x y it) read.partitions)

    images_before : (files : DeviceFiles) → AreImages disk mounted files → AreImages disk handed files
    images_before files images = record {
      partitions = images_among handed.partitions mounted.partitions files.partitions read_holds images.partitions;
      sections = subst (λ (l : List D). AreImagesOf disk l files.sections) read.sections images.sections;
      filter = subst (λ (l : List D). AreImagesOf disk l files.filter) read.filter images.filter;
    }

    pub stands_read : (score : List ℕ → List ℕ) (c : Setup) (tables : List Table) (least : ℕ) (h : History) → EachStands score disk c tables least handed h → EachStands score disk c tables least mounted h
    stands_read score c tables least h each files images = each files (images_before files images)

    pub all_read_on : (score : List ℕ → List ℕ) (c : Setup) (tables : List Table) (n : ℕ) (h : History) → AllStandFor score disk c tables handed h n → AllStandFor score disk c tables mounted h n
    all_read_on score c tables n h all files images = all files (images_before files images)

    pub setup_read : (tables : List Table) (c : Setup) → IsSetupOf disk tables handed c → IsSetupOf disk tables mounted c
    setup_read tables c setup = record {
      arenas = setup.arenas;
      sections = setup.sections ∙ ap (λ (l : List D). map (λ d. buckets_in (disk.size d)) l) (sym read.sections);
    }

    pub log_read : (score : List ℕ → List ℕ) (tables : List Table) (c : Setup) (h g : History) (base : ℕ) → IsLogOf score disk tables handed c h g base → IsLogOf score disk tables mounted c h g base
    log_read score tables c h g base it = record {
      legal = it.legal;
      setup = setup_read tables c it.setup;
      each = stands_read score c tables 0 h it.each;
      read = subst (λ (l : List (List ℕ)). IsLog score (layout_of tables) l g base) (sym read_holds.bytes_are) it.read;
    }
