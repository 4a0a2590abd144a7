-- What a refusal before the store is mounted leaves, and when it comes.
use Rattle.std.proofs.Common.{◌≡◌, ◌⊎◌, ⊎_elim, inl, inr, ◌+◌, ◌<◌, ◌≤◌, ℕ, zero, suc, List, [], ◌∷◌, ◌++◌, length, map, Some, None, refl, sym, ◌∙◌, ap, subst, arith, length-append}
use Rattle.std.specs.Prelude.{slice_get, IsTrue}
use Rattle.std.specs.List.{AllZip, Contains}
use Rattle.vt_base.specs.Bytes.{AreBytes}
use Rattle.vt_base.specs.declared.mount.MountBad.{MountBad}
use Rattle.vt_base.specs.declared.mount.MountBad.TheVariants.{Fault, NoMemory}
use Rattle.vt_conf.specs.declared.conf.Conf.{Conf}
use Rattle.vt_conf.specs.declared.conf.PartFile.{PartFile}
use Rattle.vt_disk.specs.Members.{DiskOf}
use Rattle.vt_disk.specs.declared.TheConstants.{BLOCK_LEN}
use Rattle.vt_log.specs.Answers.{HoldTheSame}
use Rattle.vt_model.specs.History.{History}
use Rattle.vt_model.specs.Places.{Setup}
use Rattle.vt_part.specs.Faults.{first_bad_part}
use Rattle.vt_part.specs.Laws.{PassesPartitions}
use Rattle.vt_part.specs.Table.{Table, IsPartition, head_of}
use Rattle.vt_part.specs.declared.error.PartBad.TheVariants as part_bad
use Rattle.vt_partitions.specs.Parts.{Standing, StaysThere, there}
use Rattle.vt_mount_errors.specs.MountErrors.{of_part}
use Rattle.vt_core.specs.Files.{PerDevice, DeviceFiles, AreImages, all_of}
use Rattle.vt_core.specs.Mounting.{EachStands, LeavesStanding}
use Rattle.vt_core.specs.Stands.{ArePartitions}
use Rattle.vt_open.specs.declared.error.OpenError.{OpenError}
use Rattle.vt_open.specs.declared.error.OpenError.TheVariants.{Missing, Refused}
use Rattle.vt_open.specs.Names.{AreUnder, StandUnder, files_of, names_of}
use Rattle.vt_open.specs.Opening.{IsFaultOrMemory}
use Rattle.vt_open.specs.Taking.{AreBack, RefusesTaking, TableIsRefused}
use Rattle.vt_open.proofs.Held.{IsHeld, hold_zip, zip_hold}
use Rattle.vt_open.proofs.Lists.{has_cases, has_none, zip_left, zip_right}
use Rattle.vt_open.proofs.Recalled.{beside, images_among, tables_read}
use Rattle.vt_open.proofs.Taken.{Stands, among}

module _ {D : Type 0} (disk : DiskOf D) where
  -- of devices that hold what they held, the ones that stood under a name and stand there now
  both_at : (old new : Stands D) (files : List PartFile) (ds es : List D) (n : List ℕ) → StandUnder old files ds → StandUnder new files es → AllZip (IsHeld disk) ds es
      → Contains (names_of files) n → StaysThere disk (old n) (new n)
  both_at old new [] ds es n these those held has = absurd (has_none n has)
  both_at old new (f ∷ files) [] es n these those held has = absurd these
  both_at old new (f ∷ files) (d ∷ ds) [] n these those held has = absurd those
  both_at old new (f ∷ files) (d ∷ ds) (e ∷ es) n these those held has = ⊎_elim
      (λ (same : n ≡ f.name).
      subst (λ (x : Standing D). StaysThere disk x (new n)) (sym (ap old same ∙ these.0))
      (subst (λ (x : Standing D). StaysThere disk (there d) x) (sym (ap new same ∙ those.0))
      (held.0.size, held.0.bytes, held.0.images)))
      (λ (later : Contains (names_of files) n). both_at old new files ds es n these.1 those.1 held.1 later)
      (has_cases f.name (names_of files) n has)

  pub all_stay : (told : Type 0) (files : List PartFile) (old new : Stands D) (handed back : List D) → AreBack disk told files old new handed back → HoldTheSame disk handed back
      → told → (n : List ℕ) → StaysThere disk (old n) (new n)
  all_stay told files old new handed back are held t n = ⊎_elim
      (λ (has : Contains (names_of are.front) n). both_at old new are.front handed back n (are.stood t) (are.stand t) (zip_hold disk handed back held) has)
      (λ (no : ¬ Contains (names_of are.front) n). are.stay t n no)
      (among (names_of are.front) n)

  zip_stay : (old new : Stands D) (files : List PartFile) (ds es : List D) → StandUnder old files ds → StandUnder new files es → ((n : List ℕ) → StaysThere disk (old n) (new n)) → AllZip (IsHeld disk) ds es
  zip_stay old new [] [] [] these those stay = tt
  zip_stay old new [] [] (e ∷ es) these those stay = absurd those
  zip_stay old new [] (d ∷ ds) es these those stay = absurd these
  zip_stay old new (f ∷ files) [] es these those stay = absurd these
  zip_stay old new (f ∷ files) (d ∷ ds) [] these those stay = absurd those
  zip_stay old new (f ∷ files) (d ∷ ds) (e ∷ es) these those stay =
      let it : StaysThere disk (there d) (there e) =
      subst (λ (x : Standing D). StaysThere disk x (there e)) these.0 (subst (λ (x : Standing D). StaysThere disk (old f.name) x) those.0 (stay f.name)) in
      (record { size = it.0; bytes = it.1; images = it.2 }, zip_stay old new files ds es these.1 those.1 stay)

  -- nothing is written
  leaves_held : (score : List ℕ → List ℕ) (tables : List Table) (old new : PerDevice D) → HoldTheSame disk old.partitions new.partitions → HoldTheSame disk old.sections new.sections
      → HoldTheSame disk old.filter new.filter → LeavesStanding score disk tables old new
  leaves_held score tables old new partitions sections filter =
      let before : (files : DeviceFiles) → AreImages disk new files → AreImages disk old files = λ files images. record {
        partitions = images_among disk old.partitions new.partitions files.partitions partitions images.partitions;
        sections = images_among disk old.sections new.sections files.sections sections images.sections;
        filter = images_among disk old.filter new.filter files.filter filter images.filter;
      } in
      record {
        prefix = λ c h least legal setup each files images. each files (before files images);
        same = λ c h n legal setup all files images. all files (before files images);
        partitions = partitions;
        filter = filter;
        sizes = sections.sizes_are;
        sections = λ c h g base i a b log here after. inl (same_bytes old.sections new.sections i a b (zip_hold disk old.sections new.sections sections) here after);
      }
    where
      same_bytes : (xs ys : List D) (i : ℕ) (x y : D) → AllZip (IsHeld disk) xs ys → slice_get xs i ≡ Some x → slice_get ys i ≡ Some y → disk.bytes y ≡ disk.bytes x
      same_bytes [] ys i x y held here after = absurd (cc)
      same_bytes (a ∷ xs) [] i x y held here after = absurd held
      same_bytes (a ∷ xs) (b ∷ ys) zero x y held here after =
          let e : a ≡ x = cc in
          let f : b ≡ y = cc in
          sym (ap disk.bytes f) ∙ held.0.bytes ∙ ap disk.bytes e
      same_bytes (a ∷ xs) (b ∷ ys) (suc i) x y held here after = same_bytes xs ys i x y held.1 here after

  pub early_stands : (score : List ℕ → List ℕ) (tables : List Table) (old new : Stands D) (conf : Conf) (devices back : PerDevice D) → AreUnder old conf devices → AreUnder new conf back
      → ((n : List ℕ) → StaysThere disk (old n) (new n)) → LeavesStanding score disk tables devices back
  early_stands score tables old new conf devices back these those stay =
      let held = zip_stay old new (all_of (files_of conf)) (all_of devices) (all_of back) these.under those.under stay in
      let p : length back.partitions ≡ length devices.partitions = those.shape.partitions ∙ sym these.shape.partitions in
      let s : length back.sections ≡ length devices.sections = those.shape.sections ∙ sym these.shape.sections in
      let ps : length (back.partitions ++ back.sections) ≡ length (devices.partitions ++ devices.sections) =
      omega (arith, p, s, length-append back.partitions back.sections, length-append devices.partitions devices.sections) in
      let front = zip_left (IsHeld disk) (devices.partitions ++ devices.sections) devices.filter (back.partitions ++ back.sections) back.filter ps held in
      leaves_held score tables devices back
      (hold_zip disk devices.partitions back.partitions (zip_left (IsHeld disk) devices.partitions devices.sections back.partitions back.sections p front))
      (hold_zip disk devices.sections back.sections (zip_right (IsHeld disk) devices.partitions devices.sections back.partitions back.sections p front))
      (hold_zip disk devices.filter back.filter (zip_right (IsHeld disk) (devices.partitions ++ devices.sections) devices.filter (back.partitions ++ back.sections) back.filter ps held))

  -- ---- on devices that stand for prefixes

  -- a device that was handed out is that of its place
  handed_at : (s : Stands D) (front behind : List PartFile) (hs ds : List D) (i : ℕ) (d : D) → StandUnder s front hs → StandUnder s (front ++ behind) ds → slice_get hs i ≡ Some d → slice_get ds i ≡ Some d
  handed_at s [] behind [] ds i d these those at = absurd (cc)
  handed_at s [] behind (h ∷ hs) ds i d these those at = absurd these
  handed_at s (f ∷ front) behind [] ds i d these those at = absurd these
  handed_at s (f ∷ front) behind (h ∷ hs) [] i d these those at = absurd those
  handed_at s (f ∷ front) behind (h ∷ hs) (e ∷ ds) zero d these those at =
      let both : there h ≡ there e = sym these.0 ∙ those.0 in
      let same : h ≡ e = cc in
      ap (λ (x : D). Some x) (sym same) ∙ at
  handed_at s (f ∷ front) behind (h ∷ hs) (e ∷ ds) (suc i) d these those at = handed_at s front behind hs ds i d these.1 those.1 at

  get_front : (xs ys : List D) (i : ℕ) → i < length xs → slice_get (xs ++ ys) i ≡ slice_get xs i
  get_front [] ys i lt = absurd (omega (arith, lt))
  get_front (x ∷ xs) ys zero lt = refl
  get_front (x ∷ xs) ys (suc i) lt = let less : i < length xs = omega (arith, lt) in get_front xs ys i less

  module _ (passes : PassesPartitions) (read : (d : D) → disk.images d (disk.bytes d)) (fit : (d : D) (c : List ℕ) → disk.images d c → (length c ≡ disk.size d) × AreBytes c) (tells : IsTrue disk.tells)
      (told : Type 0) (t : told) (conf : Conf) (old new : Stands D) (devices : PerDevice D) (under : AreUnder old conf devices)
      (score : List ℕ → List ℕ) (c : Setup) (tables : List Table) (h : History) (each : EachStands score disk c tables 0 devices h) where
    refused : (handed back : List D) → AreBack disk told (all_of (files_of conf)) old new handed back → (bad : MountBad) → TableIsRefused disk 0 (length conf.arenas.items) handed bad → (bad ≡ Fault) ⊎ (bad ≡ NoMemory)
    refused handed back are bad it =
        let all : slice_get (all_of devices) it.i ≡ Some it.device =
        handed_at old are.front are.behind handed (all_of devices) it.i it.device (are.stood t)
        (subst (λ (l : List PartFile). StandUnder old l (all_of devices)) are.files_are under.under) it.at in
        let p = under.shape.partitions in
        let low : it.i < length devices.partitions = let w = it.within in omega (arith, w, p) in
        let lower : it.i < length (devices.partitions ++ devices.sections) = omega (arith, low, length-append devices.partitions devices.sections) in
        let at : slice_get devices.partitions it.i ≡ Some it.device =
        sym (get_front devices.partitions devices.sections it.i low) ∙ sym (get_front (devices.partitions ++ devices.sections) devices.filter it.i lower) ∙ all in
        let are_tables : ArePartitions tables (map disk.bytes devices.partitions) = tables_read disk read score c tables 0 devices h each in
        let file_at : slice_get (map disk.bytes devices.partitions) it.i ≡ Some (disk.bytes it.device) = map_at devices.partitions it.i it.device at in
        let table = beside tables (map disk.bytes devices.partitions) it.i (disk.bytes it.device) are_tables.many file_at in
        let is : IsPartition table.0 (disk.bytes it.device) = are_tables.each it.i table.0 (disk.bytes it.device) table.1 file_at in
        let size : length (disk.bytes it.device) ≡ disk.size it.device = (fit it.device (disk.bytes it.device) (read it.device)).0 in
        let none : first_bad_part (disk.size it.device) (head_of (disk.bytes it.device)) ≡ None =
        subst (λ (n : ℕ). first_bad_part n (head_of (disk.bytes it.device)) ≡ None) size (passes table.0 (disk.bytes it.device) is) in
        ⊎_elim
        (λ (some : first_bad_part (disk.size it.device) (head_of (disk.bytes it.device)) ≡ Some it.why). let wrong : None ≡ Some it.why = sym none ∙ some in absurd (cc))
        (λ (fault : (BLOCK_LEN ≤ disk.size it.device) × (it.why ≡ part_bad.Fault)). inl (it.bad_is ∙ ap (of_part (0 + it.i)) fault.1))
        (it.refuses tells)
      where
        map_at : (xs : List D) (i : ℕ) (x : D) → slice_get xs i ≡ Some x → slice_get (map disk.bytes xs) i ≡ Some (disk.bytes x)
        map_at [] i x at = absurd (cc)
        map_at (y ∷ xs) zero x at = let e : y ≡ x = cc in ap (λ (z : D). Some (disk.bytes z)) e
        map_at (y ∷ xs) (suc i) x at = map_at xs i x at

    pub taking_fails : (f f' : ℕ) (bad : OpenError) → RefusesTaking disk told 0 (length conf.arenas.items) (all_of (files_of conf)) old new f f' bad → IsFaultOrMemory bad
    taking_fails f f' (Missing part) it = tt
    taking_fails f f' (Refused bad) it = ⊎_elim
        (λ (none : bad ≡ NoMemory). inr none)
        (λ (table : TableIsRefused disk 0 (length conf.arenas.items) it.handed bad). refused it.handed it.back it.are bad table)
        it.cause.2
