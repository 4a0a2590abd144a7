-- What is made in memory has its shape.
use Rattle.std.proofs.Common.{◌≡◌, ◌⊎◌, ⊎_elim, ◌+◌, ◌-◌, ◌*◌, ◌/◌, ◌^◌, ◌<◌, ◌≤◌, min, ℕ, zero, suc, List, [], ◌∷◌, length, map, Option, Some, None, refl, sym, ◌∙◌, ap, subst, arith}
use Rattle.std.specs.Prelude.{All, codes, MatchOption, replicate, sum}
use Rattle.std.specs.List.{range_with_len}
use Rattle.std.specs.Option.{option_to_list}
use Rattle.std.proofs.lemmas.List.{append-nil, length-map, length-replicate}
use Rattle.std.proofs.lemmas.List.Folds.{sum_by-replicate}
use Rattle.std.proofs.lemmas.Bool.{cases_lt}
use Rattle.std.proofs.lemmas.Nat.{pow_below}
use Rattle.std.proofs.Math.Nat.{le-mul_of_pos_right, mul-div_cancel}
use Rattle.vt_base.specs.declared.mount.MountBad.{MountBad}
use Rattle.vt_base.specs.declared.mount.MountBad.TheVariants as mount_bad
use Rattle.vt_bloom.specs.Bloom.{BloomState, IsSoundBloom}
use Rattle.vt_bloom.specs.Frame.{HasSaved, Saved, empty_of}
use Rattle.vt_bloom.specs.Laws.{HasOneSaved}
use Rattle.vt_bloom.specs.Size.{IsLargest, IsFilterSize, filter_len}
use Rattle.vt_disk.specs.Members.{DiskOf}
use Rattle.vt_disk.specs.declared.TheConstants.{BLOCK_LEN}
use Rattle.vt_isect.specs.Layout.{buckets_in}
use Rattle.vt_log.specs.Answers.{HoldTheSame}
use Rattle.vt_log.specs.Log.{disks_of}
use Rattle.vt_log.specs.Logs.{arena_count}
use Rattle.vt_model.specs.declared.TheConstants.{WRITTEN_VERSION}
use Rattle.vt_model.specs.Places.{Setup}
use Rattle.vt_part.specs.declared.layout.ArenaRegion.{ArenaRegion}
use Rattle.vt_part.specs.declared.part.Part.{Part}
use Rattle.vt_part.specs.Layout.{AreDistinct, arena_of, arenas_of_table, layout_of}
use Rattle.vt_part.specs.Parts.{disk_of, table_of, tables_of}
use Rattle.vt_part.specs.Table.{Table, count_for, arenas_end, table_for}
use Rattle.vt_recover.specs.declared.devices.Devices.{Devices}
use Rattle.vt_core.specs.Core.{CoreState, devices_of}
use Rattle.vt_core.specs.Mounting.{IsLogOf, KeepsLimits, devices_in, tables_in}
use Rattle.vt_recover.specs.Refusals.{CountsRefusal}
use Rattle.vt_core.specs.Sound.{IsSound}
use Rattle.vt_empty.specs.Devices.{AreFormatted, setup_on}
use Rattle.vt_empty.specs.Formatted.{AreEmptyLogs, AreUnfilled, IsUnset}
use Rattle.vt_empty.specs.Partition.{IsFreshPart}
use Rattle.vt_empty.specs.Shape.{IsShape, setup_for}
use Rattle.vt_empty.specs.Store.{AreFresh, HasCountsOf, IsFilterFor}
use Rattle.vt_empty.specs.declared.shape.Shape.{Shape}
use Rattle.vt_empty.proofs.Never.{none_risen}

-- ---- the setup

lens : (t : Table) (s n : ℕ) → map (λ (r : ArenaRegion). r.region.len) (map (arena_of 0 t) (range_with_len s n)) ≡ replicate n t.arena_size
lens t s zero = refl
lens t s (suc n) = ap (λ (ns : List ℕ). t.arena_size ∷ ns) (lens t (s + 1) n)

arena_lens : (t : Table) → map (λ (r : ArenaRegion). r.region.len) (layout_of (t ∷ [])) ≡ replicate t.count t.arena_size
arena_lens t = ap (λ (rs : List ArenaRegion). map (λ (r : ArenaRegion). r.region.len) rs) (append-nil (arenas_of_table 0 t)) ∙ lens t 0 t.count

-- each arena is of the version that is written
each_version : (rs : List ArenaRegion) → map (λ r. WRITTEN_VERSION) rs ≡ map (λ (n : ℕ). WRITTEN_VERSION) (map (λ (r : ArenaRegion). r.region.len) rs)
each_version [] = refl
each_version (r ∷ rs) = ap (λ (vs : List ℕ). WRITTEN_VERSION ∷ vs) (each_version rs)

same_version : (n len : ℕ) → map (λ (m : ℕ). WRITTEN_VERSION) (replicate n len) ≡ replicate n WRITTEN_VERSION
same_version zero len = refl
same_version (suc n) len = ap (λ (vs : List ℕ). WRITTEN_VERSION ∷ vs) (same_version n len)

arenas_in : (len arenas : ℕ) → 0 < len → arenas ≤ 4096 → count_for (BLOCK_LEN + arenas * len) len ≡ arenas
arenas_in len arenas some few =
    let behind : (BLOCK_LEN + arenas * len) - BLOCK_LEN ≡ arenas * len = omega arith in
    let whole : ((BLOCK_LEN + arenas * len) - BLOCK_LEN) / len ≡ arenas = ap (λ (n : ℕ). n / len) behind ∙ mul-div_cancel arenas some in
    let least : min arenas (2 ^ 32 - 1) ≡ arenas = omega arith in
    ap (λ (n : ℕ). min n (2 ^ 32 - 1)) whole ∙ least

all_some : (n x : ℕ) → 0 < x → All (λ k. 0 < k) (replicate n x)
all_some zero x some k d within = absurd (omega (arith, within))
all_some (suc n) x some zero d within = some
all_some (suc n) x some (suc k) d within = let less : k < length (replicate n x) = omega (arith, within) in all_some n x some k d less

one_name : (names : List (List ℕ)) → length names ≡ 1 → AreDistinct names
one_name names one i j is = omega (arith, one, is.order, is.within)

-- ---- the devices

pub subst_size : {D : Type 0} {disk : DiskOf D} {arena_len : ℕ} {part : Part D} {m n : ℕ} → m ≡ n → IsFreshPart disk m arena_len part → IsFreshPart disk n arena_len part
subst_size {disk = disk} {arena_len = arena_len} {part = part} same is = subst (λ (k : ℕ). IsFreshPart disk k arena_len part) same is

module _ {D : Type 0} (disk : DiskOf D) (shape : Shape) (is : IsShape shape) (devices : Devices D) (part : Part D) (f : D)
    (parts_are : devices.parts.items ≡ part ∷ []) (filter_is : devices.filter ≡ Some f)
    (fresh : IsFreshPart disk (BLOCK_LEN + shape.arenas * shape.arena_len) shape.arena_len part)
    (unfilled : AreUnfilled disk 0 (shape.sections * shape.buckets) devices.sections.items)
    (counts : map (λ (d : D). buckets_in (disk.size d)) devices.sections.items ≡ replicate shape.sections shape.buckets)
    (unset : IsFilterFor disk shape f) where
  all_formatted : AreFormatted disk (tables_in devices) (devices_in devices)
  all_formatted = record {
    partitions = subst (λ (ps : List (Part D)). AreEmptyLogs disk (tables_of ps) (disks_of ps)) (sym parts_are) (fresh.log, tt);
    total = shape.sections * shape.buckets;
    sections = unfilled;
    filter = subst (λ (o : Option D). All (IsUnset disk) (option_to_list o)) (sym filter_is) one_unset;
  }
    where
      one_unset : All (IsUnset disk) (f ∷ [])
      one_unset zero d within = record { m = unset.m; k = shape.positions; images = unset.images }
      one_unset (suc k) d within = absurd (omega (arith, within))

  some_len : 0 < shape.arena_len
  some_len = let size = is.arena_len in search (Rattle.std.proofs.Common.rules)

  arenas_are : map (λ (r : ArenaRegion). r.region.len) (layout_of (tables_in devices)) ≡ replicate shape.arenas shape.arena_len
  arenas_are =
      let few = is.arenas in
      let table = fresh.table in
      ap (λ (ps : List (Part D)). map (λ (r : ArenaRegion). r.region.len) (layout_of (tables_of ps))) parts_are
      ∙ ap (λ (t : Table). map (λ (r : ArenaRegion). r.region.len) (layout_of (t ∷ []))) table ∙ arena_lens (table_for (codes "arenas") (BLOCK_LEN + shape.arenas * shape.arena_len) shape.arena_len)
      ∙ ap (λ (n : ℕ). replicate n shape.arena_len) (arenas_in shape.arena_len shape.arenas some_len few)

  versions_are : map (λ r. WRITTEN_VERSION) (layout_of (tables_in devices)) ≡ replicate shape.arenas WRITTEN_VERSION
  versions_are = each_version (layout_of (tables_in devices)) ∙ ap (map (λ (n : ℕ). WRITTEN_VERSION)) arenas_are
      ∙ same_version shape.arenas shape.arena_len

  setup_same : setup_on disk (tables_in devices) (devices_in devices) ≡ setup_for shape
  setup_same =
      let lens = map (λ (r : ArenaRegion). r.region.len) (layout_of (tables_in devices)) in
      let counted = map (λ (d : D). buckets_in (disk.size d)) devices.sections.items in
      ap (λ (vs : List ℕ). record { arenas = lens; versions = vs; base = 0; sections = counted }) versions_are
      ∙ ap (λ (ns : List ℕ). record { arenas = ns; versions = replicate shape.arenas WRITTEN_VERSION; base = 0; sections = counted }) arenas_are
      ∙ ap (λ (ns : List ℕ). record { arenas = replicate shape.arenas shape.arena_len; versions = replicate shape.arenas WRITTEN_VERSION; base = 0; sections = ns }) counts

  arenas_many : arena_count (tables_in devices) ≡ shape.arenas
  arenas_many =
      let few = is.arenas in
      let count : (table_of part).count ≡ shape.arenas = ap (λ (t : Table). t.count) fresh.table ∙ arenas_in shape.arena_len shape.arenas some_len few in
      subst (λ (ps : List (Part D)). arena_count (tables_of ps) ≡ shape.arenas) (sym parts_are) (omega (arith, count))

  sections_many : length devices.sections.items ≡ shape.sections
  sections_many = sym (length-map devices.sections.items (λ (d : D). buckets_in (disk.size d))) ∙ ap (λ (ns : List ℕ). length ns) counts ∙ length-replicate shape.sections shape.buckets

  limits_kept : KeepsLimits (tables_in devices) (setup_for shape)
  limits_kept =
      let few = is.arenas in
      let most = is.buckets in
      let table = fresh.table in
      let count : (table_of part).count ≡ shape.arenas = ap (λ (t : Table). t.count) table ∙ arenas_in shape.arena_len shape.arenas some_len few in
      let sums : sum (replicate shape.sections shape.buckets) ≡ shape.sections * shape.buckets = sum_by-replicate (λ x. x) shape.sections shape.buckets in
      subst (λ (ps : List (Part D)). KeepsLimits (tables_of ps) (setup_for shape)) (sym parts_are) (record {
        arenas = omega (arith, count, few);
        buckets = omega (arith, sums, most);
        sections = all_some shape.sections shape.buckets is.some_bucket;
        names = one_name ((table_of part).name ∷ []) refl;
      })

  pub all_fresh : (AreFormatted disk (tables_in devices) (devices_in devices) → (score : List ℕ → List ℕ) → IsLogOf score disk (tables_in devices) (devices_in devices) (setup_on disk (tables_in devices) (devices_in devices)) [] [] 0)
      → AreFresh disk shape devices
  all_fresh logs = record {
    log = λ score. subst (λ (c : Setup). IsLogOf score disk (tables_in devices) (devices_in devices) c [] [] 0) setup_same (logs all_formatted score);
    limits = limits_kept;
    rooms = subst (λ (ps : List (Part D)). All (λ (p : Part D). arenas_end (table_of p) ≤ disk.size (disk_of p)) ps) (sym parts_are) one_room;
    partitions = ap (λ (ps : List (Part D)). length ps) parts_are;
    arenas = arenas_many;
    sections = sections_many;
    filter = subst (λ (o : Option D). MatchOption o ⊥ (IsFilterFor disk shape)) (sym filter_is) unset;
  }
    where
      one_room : All (λ (p : Part D). arenas_end (table_of p) ≤ disk.size (disk_of p)) (part ∷ [])
      one_room zero d within = let room = fresh.room in let size = fresh.size_is in omega (arith, room, size)
      one_room (suc k) d within = absurd (omega (arith, within))

-- ---- a filter

pub largest_of : (m len : ℕ) → 16 ≤ m → m ≤ 23 → len ≡ filter_len m → IsLargest len m
largest_of m len low high is = record {
  least = low;
  most = high;
  fits = omega (arith, is);
  no_larger = λ n most fits. ⊎_elim
      (λ (more : m < n).
      let further : m - 3 < n - 3 = omega (arith, more, low) in
      let above = pow_below (m - 3) (n - 3) further in
      absurd (omega (arith, above, fits, is)))
      (λ (less : n ≤ m). less)
      (cases_lt m n);
}

-- ---- the store

pub few_sections : (shape : Shape) → IsShape shape → shape.sections ≤ 1048576
few_sections shape is =
    let most = is.buckets in
    let product = le-mul_of_pos_right shape.sections is.some_bucket in
    omega (arith, most, product)

module _ {D : Type 0} (disk : DiskOf D) where
  pub only_memory : ((d : D) → disk.faults d ≡ 0) → (bad : MountBad) (old new : List D) → CountsRefusal bad (map disk.faults old) (map disk.faults new)
      → (bad ≡ mount_bad.Fault) ⊎ (bad ≡ mount_bad.NoMemory) → bad ≡ mount_bad.NoMemory
  only_memory never bad old new counts is = ⊎_elim
      (λ (fault : bad ≡ mount_bad.Fault). absurd (none_risen disk never old new
      (subst (λ (b : MountBad). CountsRefusal b (map disk.faults old) (map disk.faults new)) fault counts)))
      (λ (none : bad ≡ mount_bad.NoMemory). none)
      is

  -- the filter that a store has is the one of its device
  counts_kept : HasOneSaved → ((b : BloomState D) (saved coming : Saved) → IsSoundBloom b saved coming (disk.bytes b.disk) (disk.images b.disk) → b.twin.change ≡ None
      → (c : List ℕ) → disk.images b.disk c → HasSaved saved c) → ((d : D) → disk.images d (disk.bytes d)) → (score : List ℕ → List ℕ) (shape : Shape) (k : CoreState D) (b : BloomState D) (f : D)
      → IsSound score disk k [] → k.bloom ≡ Some b → b.twin.change ≡ None → disk.bytes b.disk ≡ disk.bytes f → IsFilterFor disk shape f → HasCountsOf shape k.bits
  counts_kept one rest own score shape k b f sound at quiet bytes is =
      let whole = sound.whole.filter b at in
      let its = sound.filter b at in
      let here = rest b its.saved its.coming its.sound quiet (disk.bytes b.disk) (own b.disk) in
      let made : HasSaved (empty_of is.m shape.positions) (disk.bytes b.disk) = subst (λ (c : List ℕ). HasSaved (empty_of is.m shape.positions) c) (sym bytes) (is.images (disk.bytes f) (own f)) in
      let same = one its.saved (empty_of is.m shape.positions) (disk.bytes b.disk) here made in
      let m : k.bits.m ≡ is.m = whole.counts.0 ∙ sym its.sound.saved_counts.0 ∙ ap (λ (s : Saved). s.filter.m) same in
      let p : k.bits.k ≡ shape.positions = whole.counts.1 ∙ sym its.sound.saved_counts.1 ∙ ap (λ (s : Saved). s.filter.k) same in
      record {
        m = subst (λ (n : ℕ). IsFilterSize n shape.filter) (sym m) is.size;
        k = p;
      }

  pub bits_kept : HasOneSaved → ((b : BloomState D) (saved coming : Saved) → IsSoundBloom b saved coming (disk.bytes b.disk) (disk.images b.disk) → b.twin.change ≡ None
      → (c : List ℕ) → disk.images b.disk c → HasSaved saved c) → ((d : D) → disk.images d (disk.bytes d)) → (score : List ℕ → List ℕ) (shape : Shape) (devices : Devices D) (k : CoreState D)
      → IsSound score disk k [] → MatchOption devices.filter ⊥ (IsFilterFor disk shape) → length (option_to_list k.bloom) ≡ length (devices_in devices).filter
      → All (λ b. b.twin.change ≡ None) (option_to_list k.bloom) → HoldTheSame disk (devices_in devices).filter (devices_of k).filter → HasCountsOf shape k.bits
  bits_kept one rest own score shape devices k sound is many quiet held = by_filter devices.filter k.bloom refl is many quiet held.bytes_are
    where
      by_filter : (o : Option D) (p : Option (BloomState D)) → k.bloom ≡ p → MatchOption o ⊥ (IsFilterFor disk shape) → length (option_to_list p) ≡ length (option_to_list o)
          → All (λ b. b.twin.change ≡ None) (option_to_list p) → map disk.bytes (map (λ (b : BloomState D). b.disk) (option_to_list p)) ≡ map disk.bytes (option_to_list o) → HasCountsOf shape k.bits
      by_filter None p at is many quiet bytes = absurd is
      by_filter (Some f) None at is many quiet bytes = absurd (omega (arith, many))
      by_filter (Some f) (Some b) at is many quiet bytes =
          let first : disk.bytes b.disk ≡ disk.bytes f = cc in
          let one_there : 0 < length (b ∷ []) = omega arith in
          counts_kept one rest own score shape k b f sound at (quiet 0 b one_there) first is
