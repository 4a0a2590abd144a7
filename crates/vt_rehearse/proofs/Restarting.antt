-- A store that is mounted on what a crash left of its devices.
use Rattle.std.proofs.Common.{◌≡◌, inl, ◌<◌, ◌≤◌, ℕ, zero, suc, List, [], ◌∷◌, length, map, Some, refl, sym, ◌∙◌, ap, subst, arith, get_or}
use Rattle.std.proofs.lemmas.List.{length-map, length-take}
use Rattle.std.specs.List.{All, AllZip}
use Rattle.std.specs.Option.{option_to_list}
use Rattle.std.specs.Prelude.{IsTrue, drop, slice_get, take}
use Rattle.vt_disk.specs.Members.{DiskOf}
use Rattle.vt_memdisk.specs.declared.crash.CrashMode.{CrashMode}
use Rattle.vt_log.specs.Log.{disks_of}
use Rattle.vt_log.specs.Logs.{IsLog, arena_count}
use Rattle.vt_model.specs.History.{History}
use Rattle.vt_model.specs.Places.{Setup}
use Rattle.vt_part.specs.declared.layout.ArenaRegion.{ArenaRegion}
use Rattle.vt_part.specs.Parts.{disk_of, table_of, tables_of}
use Rattle.vt_part.specs.Table.{IsPartition, Table, arenas_end}
use Rattle.vt_part.specs.declared.part.Part.{Part}
use Rattle.vt_recover.specs.declared.devices.Devices.{Devices}
use Rattle.vt_core.specs.Core.{CoreState, devices_of, machine_of, setup_of}
use Rattle.vt_core.specs.Crashing.{MayTurnInto, Recovers}
use Rattle.vt_core.specs.Files.{AreImages, DeviceFiles, PerDevice}
use Rattle.vt_core.specs.Machine.{Crashes}
use Rattle.vt_core.specs.Mounting.{IsLogOf, KeepsLimits, MountsStore, devices_in, tables_in}
use Rattle.vt_core.specs.Sound.{IsSound}
use Rattle.vt_core.specs.Stands.{StandForPrefix}
use Rattle.vt_recover.proofs.Lists.{at_map}
use Rattle.vt_rehearse.specs.declared.TheConstants.{SESSIONS}
use Rattle.vt_rehearse.specs.Crashed.{CanBeMounted, IsImageLeft, IsLeftMounted, KeepsSealed, Restarts}
use Rattle.vt_rehearse.specs.Shape.{the_sizes}
use Rattle.vt_rehearse.specs.Stage.{IsSteady, none_waits}
use Rattle.vt_rehearse.proofs.Recovering.{AllLeft, all_images, all_left, all_modes, left_disks, left_rooms, left_setup, left_stands, left_tables}
use Rattle.vt_rehearse.proofs.Sealed.{LeavesLog, keeps_sealed}

get_at : {X : Type 0} (xs : List X) (i : ℕ) (d : X) → i < length xs → slice_get xs i ≡ Some (get_or xs i d)
get_at [] i d lt = absurd (omega (arith, lt))
get_at (x ∷ xs) zero d lt = refl
get_at (x ∷ xs) (suc i) d lt = get_at xs i d (omega (arith, lt))

-- each partition has its table in every image
pub have_tables : {D : Type 0} (score : List ℕ → List ℕ) (disk : DiskOf D) (k : CoreState D) (h : History) (parts : List (Part D)) → IsSteady score disk k h → disks_of parts ≡ k.log.disks → tables_of parts ≡ k.log.tables
    → All (λ part. (c : List ℕ) → disk.images (disk_of part) c → IsPartition (table_of part) c) parts
have_tables {D} score disk k h parts steady disks tables i d lt c image =
    let part = get_or parts i d in
    let at = get_at parts i d lt in
    steady.sound.partitions i (table_of part) (disk_of part) c
    (ap (λ (ts : List Table). slice_get ts i) (sym tables) ∙ at_map (λ p. table_of p) parts i part at)
    (ap (λ (ds : List D). slice_get ds i) (sym disks) ∙ at_map (λ p. disk_of p) parts i part at) image

module _ {D : Type 0} (score : List ℕ → List ℕ) (disk : DiskOf D) (Leaves : CrashMode → D → List ℕ → Type 0) (mode : CrashMode) (tells : IsTrue disk.tells)
    (old : CoreState D) (h : History) (steady : IsSteady score disk old h) (before after : Devices D)
    (devices : devices_in before ≡ devices_of old) (tables : tables_in before ≡ old.log.tables)
    (parts : AllZip (IsLeftMounted disk Leaves mode) before.parts.items after.parts.items)
    (sections : AllZip (IsImageLeft disk Leaves mode) before.sections.items after.sections.items)
    (filter : AllZip (IsImageLeft disk Leaves mode) (option_to_list before.filter) (option_to_list after.filter)) where
  abbrev left : AllLeft disk Leaves mode (devices_of old) (devices_in after)
  left = subst (λ (ds : PerDevice D). AllLeft disk Leaves mode ds (devices_in after)) devices
      (record { partitions = left_disks disk Leaves mode before.parts.items after.parts.items parts; sections = sections; filter = filter })

  tables_are : tables_in after ≡ old.log.tables
  tables_are = left_tables disk Leaves mode before.parts.items after.parts.items parts ∙ tables

  -- ---- it can be mounted

  pub one_part : length after.parts.items ≡ 1
  one_part = sym (length-map after.parts.items (λ p. table_of p)) ∙ ap (λ (ts : List Table). length ts) tables_are ∙ steady.partitions

  pub two_sections : length after.sections.items ≡ 2
  two_sections =
      let sizes : map disk.size after.sections.items ≡ map disk.size (devices_of old).sections = (all_left disk Leaves mode (devices_of old) (devices_in after) left).sizes in
      sym (length-map after.sections.items disk.size) ∙ ap (λ (ns : List ℕ). length ns) sizes ∙ length-map (devices_of old).sections disk.size ∙ length-map old.shards (λ s. s.section.disk) ∙ steady.shards

  pub some_arena : 0 < arena_count (tables_in after)
  some_arena = subst (λ (ts : List Table). 0 < arena_count ts) (sym tables_are) steady.arenas

  pub rooms : All (λ part. arenas_end (table_of part) ≤ disk.size (disk_of part)) after.parts.items
  rooms = left_rooms disk Leaves mode before.parts.items after.parts.items parts

  module _ (gives : (score : List ℕ → List ℕ) (k : CoreState D) (h : History) (files : DeviceFiles) → IsSound score disk k h → AreImages disk (devices_of k) files
      → StandForPrefix score (setup_of k) k.log.tables k.log.durable files h) where
    prefix : StandForPrefix score (setup_of old) old.log.tables old.log.durable (all_left disk Leaves mode (devices_of old) (devices_in after) left).files h
    prefix = gives score old h _ steady.sound (all_images disk Leaves mode (devices_of old) (devices_in after) left)

    -- the log that is read, of which no arena that is sealed has lost a block
    abbrev read : LeavesLog score old.log (map disk.bytes (devices_in after).partitions) h
    read = keeps_sealed score disk old.log h (map disk.bytes (devices_in after).partitions) steady.sound.log (all_images disk Leaves mode (devices_of old) (devices_in after) left).partitions

    module _ (own : (score : List ℕ → List ℕ) (k : CoreState D) (h : History) → IsTrue disk.tells → IsSound score disk k h
        → (g : History) × (base : ℕ) × IsLogOf score disk k.log.tables (devices_of k) (setup_of k) h g base) where
      log_of : IsLogOf score disk (tables_in after) (devices_in after) (setup_of old) h (take read.n h) read.base
      log_of = subst (λ (ts : List Table). IsLogOf score disk ts (devices_in after) (setup_of old) h (take read.n h) read.base) (sym tables_are) (record {
        legal = steady.sound.legal;
        setup = left_setup disk Leaves mode (devices_of old) (devices_in after) left (setup_of old) old.log.tables (own score old h tells steady.sound).2.setup;
        each = left_stands disk Leaves mode (devices_of old) (devices_in after) left score (setup_of old) old.log.tables h old.log.durable prefix;
        read = subst (λ (layout : List ArenaRegion). IsLog score layout (map disk.bytes (devices_in after).partitions) (take read.n h) read.base) steady.sound.log.whole.layout read.log;
      })

      pub can_be_mounted : CanBeMounted score disk (tables_in after) (devices_in after)
      can_be_mounted = record { c = setup_of old; h = h; g = take read.n h; base = read.base; log = log_of; limits = subst (λ (ts : List Table). KeepsLimits ts (setup_of old)) (sym tables_are) steady.limits }

      -- what is mounted has that log
      pub keeps_blocks : (new : CoreState D) (g : History) → MountsStore score disk (tables_in after) (devices_in after) the_sizes SESSIONS new → IsSound score disk new g → KeepsSealed new.log.base h g
      keeps_blocks new g mounts sound =
          let recalls = mounts.recalls (setup_of old) h (take read.n h) read.base tells log_of in
          let base : new.log.base ≡ read.base = ap (λ (c : Setup). c.base) recalls.setup in
          let one = sound.log.front in
          let two = recalls.sound.log.front in
          let cut = length-take read.n h in
          let within = read.within in
          let long : length g ≡ read.n = omega (arith, one, two, cut, within) in
          subst (λ (b : ℕ). All (λ e. b ≤ e.arena) (drop (length g) h)) (sym base) (subst (λ (m : ℕ). All (λ e. read.base ≤ e.arena) (drop m h)) (sym long) read.others)

    -- ---- and is

    module _ (new : CoreState D) (mounts : MountsStore score disk (tables_in after) (devices_in after) the_sizes SESSIONS new) where
      abbrev recovers : Recovers score disk old old new
      recovers = record {
        left = devices_in after;
        crash = all_left disk Leaves mode (devices_of old) (devices_in after) left;
        tables = old.log.tables;
        are_tables = prefix.stands.partitions;
        tries = 0;
        devices = devices_in after;
        retried = refl;
        sizes = the_sizes;
        sessions = SESSIONS;
        mounts = subst (λ (ts : List Table). MountsStore score disk ts (devices_in after) the_sizes SESSIONS new) tables_are mounts;
      }

      pub restarts : Restarts score disk Leaves mode old new
      restarts = record {
        recovers = recovers;
        left = all_modes disk Leaves mode (devices_of old) (devices_in after) left;
        at_once = refl;
        sizes = refl;
        sessions = refl;
      }

      pub crashes : ((score : List ℕ → List ℕ) (old during again : CoreState D) (h : History) → IsTrue disk.tells → IsSound score disk old h → MayTurnInto score disk old during
          → Recovers score disk old during again → (g : History) × Crashes (machine_of old h) (machine_of again g) × IsSound score disk again g)
          → ((score : List ℕ → List ℕ) (k : CoreState D) (h : History) → IsTrue disk.tells → IsSound score disk k h → (g : History) × (base : ℕ) × IsLogOf score disk k.log.tables (devices_of k) (setup_of k) h g base)
          → (g : History) × Crashes (machine_of old h) (machine_of new g) × IsSteady score disk new g × (new.waiting ≡ none_waits) × KeepsSealed new.log.base h g
      crashes law own =
          let it = law score old old new h tells steady.sound (inl refl) recovers in (
            it.0,
            it.1,
            record {
              sound = it.2;
              partitions = ap (λ (ts : List Table). length ts) (mounts.fresh.tables_are ∙ tables_are) ∙ steady.partitions;
              arenas = subst (λ (ts : List Table). 0 < arena_count ts) (sym (mounts.fresh.tables_are ∙ tables_are)) steady.arenas;
              shards = mounts.fresh.shards ∙ two_sections;
              stops = mounts.fresh.stops;
              limits = subst (λ (ts : List Table). KeepsLimits ts (setup_of new)) (sym mounts.fresh.tables_are) mounts.fresh.limits;
            },
            mounts.fresh.waiting,
            keeps_blocks own new it.0 mounts it.2,
          )
