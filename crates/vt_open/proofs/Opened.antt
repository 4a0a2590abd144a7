-- A store that is mounted on partitions that were handed out, or refused.
use Rattle.std.proofs.Common.{◌≡◌, ◌⊎◌, ◌+◌, ◌<◌, ◌≤◌, ℕ, zero, suc, List, [], ◌∷◌, ◌++◌, length, map, Some, sym, ◌∙◌, ap, subst, arith, length-append}
use Rattle.std.specs.Prelude.{slice_get, IsTrue}
use Rattle.std.specs.List.{All, AllByRecursion, AllZip}
use Rattle.std.proofs.lemmas.List.{length-map, map-append}
use Rattle.std.proofs.lemmas.List.Elements.{All-from_recursion}
use Rattle.std.proofs.lemmas.List.Sums.{sum_by-cons}
use Rattle.vt_base.specs.declared.mount.MountBad.{MountBad}
use Rattle.vt_base.specs.declared.mount.MountBad.TheVariants.{Fault, NoMemory}
use Rattle.vt_conf.specs.declared.conf.Conf.{Conf}
use Rattle.vt_disk.specs.Calls.{OnlyReads}
use Rattle.vt_disk.specs.Members.{DiskOf}
use Rattle.vt_log.specs.Answers.{HoldTheSame}
use Rattle.vt_log.specs.Log.{disks_of}
use Rattle.vt_log.specs.Logs.{arena_count}
use Rattle.vt_model.specs.History.{History}
use Rattle.vt_model.specs.Places.{Setup}
use Rattle.vt_part.specs.Parts.{disk_of, table_of, tables_of}
use Rattle.vt_part.specs.Table.{Table, IsPartition, arenas_end}
use Rattle.vt_part.specs.declared.part.Part.{Part}
use Rattle.vt_recover.specs.declared.devices.Devices.{Devices}
use Rattle.vt_core.specs.Core.{CoreState, devices_of}
use Rattle.vt_core.specs.Files.{PerDevice, all_of}
use Rattle.vt_core.specs.Mounting.{IsLogOf, KeepsLimits, LeavesStanding, MountsStore, devices_in, tables_in}
use Rattle.vt_recover.specs.Refusals.{CountsRefusal}
use Rattle.vt_core.specs.Refusals.{RefusesToMount}
use Rattle.vt_core.specs.Stands.{ArePartitions}
use Rattle.vt_open.specs.Names.{AreUnder, HaveOneShape, files_of}
use Rattle.vt_open.specs.Opening.{AreTablesRead, FindsNoStore, Opens, sizes_of}
use Rattle.vt_open.specs.Taking.{AreHandedBack, IsMountedPart}
use Rattle.vt_open.specs.TakingAll.{AreAllTaken}
use Rattle.vt_open.proofs.Held.{held_many}
use Rattle.vt_open.proofs.Lists.{zip_length}
use Rattle.vt_open.proofs.Recalled.{read_holds}
use Rattle.vt_open.proofs.Shapes.{shape_of, shape_on}
use Rattle.vt_open.proofs.Taken.{Stands}
use Rattle.vt_open.proofs.TakingAll.{mounted_faults}

module _ {D : Type 0} (disk : DiskOf D) where
  -- ---- what mounting a store asks of its partitions

  pub rooms : (handed : List D) (arenas : List (Part D)) → AllZip (IsMountedPart disk) handed arenas → All (λ (part : Part D). arenas_end (table_of part) ≤ disk.size (disk_of part)) arenas
  rooms handed arenas it = All-from_recursion (λ (part : Part D). arenas_end (table_of part) ≤ disk.size (disk_of part)) arenas (each handed arenas it)
    where
      each : (handed : List D) (arenas : List (Part D)) → AllZip (IsMountedPart disk) handed arenas → AllByRecursion (λ (part : Part D). arenas_end (table_of part) ≤ disk.size (disk_of part)) arenas
      each [] [] it = tt
      each [] (p ∷ arenas) it = absurd it
      each (d ∷ handed) [] it = absurd it
      each (d ∷ handed) (p ∷ arenas) it = (it.0.room, each handed arenas it.1)

  pub some_arena : (handed : List D) (arenas : List (Part D)) → AllZip (IsMountedPart disk) handed arenas → 0 < length handed → 0 < arena_count (tables_of arenas)
  some_arena [] arenas it some = absurd (omega (arith, some))
  some_arena (d ∷ handed) [] it some = absurd it
  some_arena (d ∷ handed) (p ∷ arenas) it some =
      let first = it.0.table.some in
      let all : arena_count (tables_of (p ∷ arenas)) ≡ (table_of p).count + arena_count (tables_of arenas) = sum_by-cons (λ (t : Table). t.count) (table_of p) (tables_of arenas) in
      omega (arith, first, all)

  are_partitions : (handed : List D) (arenas : List (Part D)) → AllZip (IsMountedPart disk) handed arenas → IsTrue disk.tells → ArePartitions (tables_of arenas) (map disk.bytes handed)
  are_partitions handed arenas it tells = record {
    many = length-map handed disk.bytes ∙ sym (zip_length (IsMountedPart disk) handed arenas it) ∙ sym (length-map arenas (λ part. table_of part));
    each = λ i t file at is. each handed arenas it i t file at is;
  }
    where
      each : (handed : List D) (arenas : List (Part D)) → AllZip (IsMountedPart disk) handed arenas → (i : ℕ) (t : Table) (file : List ℕ) → slice_get (tables_of arenas) i ≡ Some t
          → slice_get (map disk.bytes handed) i ≡ Some file → IsPartition t file
      each [] [] it i t file at is = absurd (cc)
      each [] (p ∷ arenas) it i t file at is = absurd it
      each (d ∷ handed) [] it i t file at is = absurd it
      each (d ∷ handed) (p ∷ arenas) it zero t file at is =
          let e : table_of p ≡ t = cc in
          let f : disk.bytes d ≡ file = cc in
          subst (λ (x : Table). IsPartition x file) e (subst (λ (x : List ℕ). IsPartition (table_of p) x) f (it.0.partition tells))
      each (d ∷ handed) (p ∷ arenas) it (suc i) t file at is = each handed arenas it.1 i t file at is

  module _ (told : Type 0) (conf : Conf) (old mid : Stands D) (devices : Devices D) (all : AreAllTaken disk told conf old mid devices) where
    abbrev here : PerDevice D
    here = devices_in devices

    pub tables_are_read : AreTablesRead disk all.handed here
    tables_are_read = record {
      partitions = parts all.handed.partitions devices.parts.items all.mounted;
      sections = sym all.sections;
      filter = sym all.filter;
    }
      where
        parts : (handed : List D) (arenas : List (Part D)) → AllZip (IsMountedPart disk) handed arenas → AllZip (OnlyReads disk 1) handed (disks_of arenas)
        parts [] [] it = tt
        parts [] (p ∷ arenas) it = absurd it
        parts (d ∷ handed) [] it = absurd it
        parts (d ∷ handed) (p ∷ arenas) it = (it.0.reads, parts handed arenas it.1)

    -- as many as there are files
    pub many_arenas : length devices.parts.items ≡ length conf.arenas.items
    many_arenas = let shape = all.shape in zip_length (IsMountedPart disk) all.handed.partitions devices.parts.items all.mounted ∙ shape.partitions

    pub many_sections : length devices.sections.items ≡ length conf.sections.items
    many_sections = let shape = all.shape in ap length (sym all.sections) ∙ shape.sections

    pub all_rooms : All (λ (part : Part D). arenas_end (table_of part) ≤ disk.size (disk_of part)) devices.parts.items
    all_rooms = rooms all.handed.partitions devices.parts.items all.mounted

    pub arenas_some : 0 < length conf.arenas.items → 0 < arena_count (tables_in devices)
    arenas_some some = let shape = all.shape in let p = shape.partitions in some_arena all.handed.partitions devices.parts.items all.mounted (omega (arith, p, some))

    each_of_both : (f : D → ℕ) → map f here.partitions ≡ map f all.handed.partitions → map f (all_of here) ≡ map f (all_of all.handed)
    each_of_both f parts =
        let h = all.handed in
        map-append f (here.partitions ++ here.sections) here.filter
        ∙ ap (λ (l : List ℕ). l ++ map f here.filter) (map-append f here.partitions here.sections ∙ ap (λ (l : List ℕ). l ++ map f here.sections) parts
        ∙ ap (λ (l : List D). map f h.partitions ++ map f l) (sym all.sections) ∙ sym (map-append f h.partitions h.sections))
        ∙ ap (λ (l : List D). map f (h.partitions ++ h.sections) ++ map f l) (sym all.filter)
        ∙ sym (map-append f (h.partitions ++ h.sections) h.filter)

    pub same_faults : map disk.faults (all_of here) ≡ map disk.faults (all_of all.handed)
    same_faults = each_of_both disk.faults (mounted_faults disk all.handed.partitions devices.parts.items all.mounted)

    pub same_sizes : map disk.size (all_of here) ≡ map disk.size (all_of all.handed)
    same_sizes = each_of_both disk.size (read_holds disk all.handed here tables_are_read).sizes_are

    shape_here : HaveOneShape here (files_of conf)
    shape_here =
        let shape = all.shape in
        record {
          partitions = held_many disk all.handed.partitions here.partitions (read_holds disk all.handed here tables_are_read) ∙ shape.partitions;
          sections = ap length (sym all.sections) ∙ shape.sections;
          filter = ap length (sym all.filter) ∙ shape.filter;
        }

    pub opens : (score : List ℕ → List ℕ) (sessions : ℕ) (k : CoreState D) → MountsStore score disk (tables_in devices) here (sizes_of conf) sessions k
        → (IsTrue disk.tells → LeavesStanding score disk (tables_in devices) here (devices_of k)) → Opens score disk told conf sessions old mid k
    opens score sessions k mounts standing =
        let fresh = mounts.fresh in
        record {
          handed = all.handed;
          shape = all.shape;
          taken = all.taken;
          mounted = here;
          read = tables_are_read;
          tables = tables_in devices;
          partitions = are_partitions all.handed.partitions devices.parts.items all.mounted;
          mounts = mounts;
          standing = standing;
          faults_are = mounts.faults_are ∙ same_faults;
          devices = shape_on (devices_of k) here (files_of conf) (shape_of disk k here fresh.sizes fresh.shards fresh.filter) shape_here;
        }

    -- ---- a refusal

    pub shape_back_ : (score : List ℕ → List ℕ) (back : Devices D) (bad : MountBad) → RefusesToMount score disk (tables_in devices) here bad back → HaveOneShape (devices_in back) (files_of conf)
    shape_back_ score back bad refuses =
        let there = devices_in back in
        let shape = shape_here in
        let sizes : length (all_of there) ≡ length (all_of here) = sym (length-map (all_of there) disk.size) ∙ ap length refuses.sizes ∙ length-map (all_of here) disk.size in
        let s = refuses.sections in
        let f = refuses.filter in
        let p : length there.partitions ≡ length here.partitions =
        omega (
          arith,
          sizes,
          s,
          f,
          length-append (there.partitions ++ there.sections) there.filter,
          length-append there.partitions there.sections,
          length-append (here.partitions ++ here.sections) here.filter,
          length-append here.partitions here.sections,
        ) in
        record { partitions = p ∙ shape.partitions; sections = s ∙ shape.sections; filter = f ∙ shape.filter }

    module _ (score : List ℕ → List ℕ) (new : Stands D) (back : Devices D) (bad : MountBad) (refuses : RefusesToMount score disk (tables_in devices) here bad back)
        (given : AreHandedBack told (all_of (files_of conf)) mid new (all_of (devices_in back))) where
      pub stand_back : told → AreUnder new conf (devices_in back)
      stand_back t = record { shape = shape_back_ score back bad refuses; under = given.stand t (all.taken.out t) (all.taken.apart t) }

      pub finds_none : (IsTrue disk.tells → LeavesStanding score disk (tables_in devices) here (devices_in back))
          → ((c : Setup) (h g : History) (base : ℕ) → IsTrue disk.tells → IsLogOf score disk (tables_in devices) here c h g base → KeepsLimits (tables_in devices) c → (bad ≡ Fault) ⊎ (bad ≡ NoMemory))
          → FindsNoStore score disk told conf old new bad
      finds_none standing found = record {
        handed = all.handed;
        back = devices_in back;
        shape = all.shape;
        shape_back = shape_back_ score back bad refuses;
        stood = λ t. record { shape = all.shape; under = all.taken.stood t };
        stand = stand_back;
        others = λ t n no. given.others t n no ∙ all.taken.others t n no;
        mounted = here;
        read = tables_are_read;
        tables = tables_in devices;
        partitions = are_partitions all.handed.partitions devices.parts.items all.mounted;
        cause = refuses.cause;
        counts = subst (λ (l : List ℕ). CountsRefusal bad l (map disk.faults (all_of (devices_in back)))) same_faults refuses.counts;
        early = λ soon. subst (λ (l : List D). HoldTheSame disk l (devices_in back).sections) (sym all.sections) (refuses.early soon);
        sizes = refuses.sizes ∙ same_sizes;
        found = found;
        standing = standing;
      }
