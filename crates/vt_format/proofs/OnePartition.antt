-- One partition as a list of them, and what formatting makes of it.
use Rattle.std.proofs.Common.{◌≡◌, ◌≢◌, ◌⊎◌, inl, inr, ⊎_elim, ℕ, zero, suc, ◌+◌, ◌<◌, ◌≤◌, List, [], ◌∷◌, ◌++◌, Some, Ok, Err, Result, length, take, drop, refl, sym, ◌∙◌, ap, subst, arith, length-append}
use Rattle.std.specs.Prelude.{All, IsTrue, IfOk, IfErr, OnOk, MatchBool, slice_get}
use Rattle.std.proofs.Math.Seq.{take-append_seam}
use Rattle.std.proofs.lemmas.List.{length-map}
use Rattle.std.proofs.lemmas.List.Elements.{All-head}
use Rattle.std.proofs.lemmas.Option.{same_Some}
use Rattle.vt_base.specs.Faults.{HasRisen}
use Rattle.vt_base.specs.declared.mount.MountBad.{MountBad}
use Rattle.vt_base.specs.declared.mount.MountBad.TheVariants.{Fault, NoMemory}
use Rattle.vt_disk.specs.Calls.{IsSynced}
use Rattle.vt_disk.specs.Disk.{AreAmong, ChangesAt}
use Rattle.vt_disk.specs.Members.{DiskOf}
use Rattle.vt_disk.proofs.Calls.{changes_wider}
use Rattle.vt_log.specs.Formatting.{InFirstHeads, WritesInHeads}
use Rattle.vt_log.specs.Log.{disks_of}
use Rattle.vt_log.specs.Logs.{IsLog}
use Rattle.vt_log.specs.Sound.{AreImagesOf}
use Rattle.vt_part.specs.declared.error.Field.TheVariants.{Version, ArenaSize, Count}
use Rattle.vt_part.specs.declared.error.PartBad.{PartBad}
use Rattle.vt_part.specs.declared.error.PartBad.TheVariants as part_bad
use Rattle.vt_part.specs.declared.part.Part.{Part}
use Rattle.vt_part.specs.Faults.{NamesPartCause, is_part_fault}
use Rattle.vt_part.specs.Layout.{layout_of}
use Rattle.vt_part.specs.Parts.{disk_of, table_of, tables_of}
use Rattle.vt_part.specs.Table.{Table, IsArenaSize, IsPartition, count_for, table_for}
use Rattle.vt_format.specs.Arenas.{BecomesArenas, RefusesArenaFormat, RefusesTable}
use Rattle.vt_mount_errors.specs.MountErrors.{of_part}

-- what is popped of one partition is all
one_part : {D : Type 0} (ps rest : List (Part D)) (part popped : Part D) → tables_of ps ≡ tables_of (part ∷ [])
    → ps ≡ rest ++ popped ∷ [] → ps ≡ popped ∷ []
one_part ps [] part popped tables is = is
one_part {D = D} ps (p ∷ rest) part popped tables is = absurd (
    let one : length (tables_of ps) ≡ 1 = ap length tables in
    let many : length ps ≡ suc (length rest) + 1 = ap length is ∙ length-append (p ∷ rest) (popped ∷ []) in
    let same : length (tables_of ps) ≡ length ps = length-map ps (λ (part : Part D). table_of part) in
    omega (arith, one, many, same))

-- what was lent of a list, and is written back whole
pub lent_back : {A : Type 0} (n : ℕ) (ps xs : List A) → n ≡ length ps → take n (ps ++ drop (length ps) xs) ≡ ps
lent_back n ps xs same = ap (λ (k : ℕ). take k (ps ++ drop (length ps) xs)) same ∙ take-append_seam ps (drop (length ps) xs)

module _ {D : Type 0} (disk : DiskOf D) where
  -- an image of the one disk
  one_image : (d : D) (c : List ℕ) → disk.images d c → AreImagesOf disk (d ∷ []) (c ∷ [])
  one_image d c left = record {
    many = refl;
    each = each;
  }
    where
      each : (i : ℕ) (device : D) (file : List ℕ) → slice_get (d ∷ []) i ≡ Some device → slice_get (c ∷ []) i ≡ Some file → disk.images device file
      each zero device file is_device is_file =
          subst (λ (x : D). disk.images x file) (same_Some d device is_device) (subst (λ (x : List ℕ). disk.images d x) (same_Some c file is_file) left)
      each (suc i) device file is_device is_file = absurd (cc)

  -- heads of arenas stand behind the table
  behind_table : (t : Table) (old new : D) → WritesInHeads disk t old new → ChangesAt (λ i. 8192 ≤ i) (disk.images old) (disk.images new)
  behind_table t old new writes =
      changes_wider (InFirstHeads t t.count) (λ i. 8192 ≤ i)
      (λ i in_heads. omega (arith, in_heads.2.0)) (disk.images old) (disk.images new) writes.images

-- the partition that is popped of the list that was formatted, and its disk
module _ {D : Type 0} (disk : DiskOf D) (old ps rest : List (Part D)) (part popped : Part D) (d : D)
    (old_is : old ≡ part ∷ []) (tables : tables_of ps ≡ tables_of old) (popped_is : ps ≡ rest ++ popped ∷ [])
    (d_is : d ≡ disk_of popped) where
  all : ps ≡ popped ∷ []
  all = one_part ps rest part popped (tables ∙ ap (λ (l : List (Part D)). tables_of l) old_is) popped_is

  pub log_of : ((score_of : List ℕ → List ℕ) (files : List (List ℕ)) → IsTrue disk.tells → AreImagesOf disk (disks_of ps) files
      → IsLog score_of (layout_of (tables_of old)) files [] 0) → IsTrue disk.tells
      → (score_of : List ℕ → List ℕ) (c : List ℕ) → disk.images d c → IsLog score_of (layout_of (table_of part ∷ [])) (c ∷ []) [] 0
  log_of empty told score_of c left =
      subst (λ (l : List (Part D)). IsLog score_of (layout_of (tables_of l)) (c ∷ []) [] 0) old_is
      (empty score_of (c ∷ []) told (subst (λ (l : List (Part D)). AreImagesOf disk (disks_of l) (c ∷ [])) (sym all)
      (one_image disk (disk_of popped) c (subst (λ (x : D). disk.images x c) d_is left))))

  pub synced_of : All (IsSynced disk) (disks_of ps) → IsSynced disk d
  synced_of synced =
      subst (λ (x : D). IsSynced disk x) (sym d_is)
      (All-head (IsSynced disk) (disk_of popped) [] (subst (λ (l : List (Part D)). All (IsSynced disk) (disks_of l)) all synced))

  pub writes_of : ((i : ℕ) (before after : Part D) → slice_get old i ≡ Some before → slice_get ps i ≡ Some after
      → WritesInHeads disk (table_of before) (disk_of before) (disk_of after)) → WritesInHeads disk (table_of part) (disk_of part) d
  writes_of writes =
      subst (λ (x : D). WritesInHeads disk (table_of part) (disk_of part) x) (sym d_is)
      (writes 0 part popped (ap (λ (l : List (Part D)). slice_get l 0) old_is) (ap (λ (l : List (Part D)). slice_get l 0) all))

-- a disk that was given its table, was mounted and had its arenas' heads written
module _ {D : Type 0} (disk : DiskOf D) (name : List ℕ) (arena_size : ℕ) (old with_table new : D) (part : Part D)
    (found : IsTrue disk.tells → table_of part ≡ table_for name (disk.size old) arena_size)
    (first : IsTrue disk.tells → (c : List ℕ) → disk.images with_table c → IsPartition (table_for name (disk.size old) arena_size) c)
    (fewer : AreAmong (disk.images (disk_of part)) (disk.images with_table))
    (writes : WritesInHeads disk (table_of part) (disk_of part) new)
    (stay : (t : Table) (before after : D) → ChangesAt (λ i. 8192 ≤ i) (disk.images before) (disk.images after)
    → ((c : List ℕ) → disk.images before c → IsPartition t c) → (c : List ℕ) → disk.images after c → IsPartition t c) where
  pub becomes : (r : Result ℕ MountBad) (count : ℕ) → 8192 + arena_size ≤ disk.size old → count ≡ count_for (disk.size old) arena_size
      → IfOk r (λ n. n ≡ count)
      → OnOk r (IsTrue disk.tells → (score_of : List ℕ → List ℕ) (c : List ℕ) → disk.images new c
      → IsLog score_of (layout_of (table_of part ∷ [])) (c ∷ []) [] 0)
      → OnOk r (IsSynced disk new) → IfOk r (λ n. BecomesArenas disk name arena_size n old new)
  becomes (Err bad) count room counts same log settled = tt
  becomes (Ok n) count room counts same log settled = record {
    room = room;
    arenas = same ∙ counts;
    log = λ told c left. record {
      partition = stay (table_for name (disk.size old) arena_size) (disk_of part) new (behind_table disk (table_of part) (disk_of part) new writes)
          (λ file image. first told file (fewer file image)) c left;
      log = λ score_of. subst (λ (t : Table). IsLog score_of (layout_of (t ∷ [])) (c ∷ []) [] 0) (found told) (log told score_of c left);
    };
    settled = settled;
  }

pub refuses : {D : Type 0} (disk : DiskOf D) (arena_size : ℕ) (old mid new : D) (r : Result ℕ MountBad) → disk.faults mid ≡ disk.faults old
    → IfErr r (λ bad. (bad ≡ NoMemory) ⊎ ((bad ≡ Fault) × HasRisen (disk.faults mid) (disk.faults new)))
    → IfErr r (λ bad. RefusesArenaFormat disk arena_size bad old new)
refuses disk arena_size old mid new (Ok n) same refused = tt
refuses disk arena_size old mid new (Err bad) same refused = ⊎_elim
    (λ memory. inr (inr (inl memory)))
    (λ fault. inr (inl (fault.0, subst (λ (n : ℕ). HasRisen n (disk.faults new)) same fault.1)))
    refused

-- a table is refused that was just written: a call failed, or the disk doesn't tell what it holds
module _ {D : Type 0} (disk : DiskOf D) (arena_size : ℕ) (old mid new : D) (same : disk.faults mid ≡ disk.faults old) where
  abbrev Refused : PartBad → Type 0
  Refused bad = RefusesArenaFormat disk arena_size (of_part 0 bad) old new

  misread : (bad : PartBad) → (IsTrue disk.tells → bad ≡ part_bad.Fault) → bad ≢ part_bad.Fault → RefusesTable (of_part 0 bad) → Refused bad
  misread bad told other refused = inr (inr (inr (λ tells. other (told tells), refused)))

  pub refuses_table : (size : ℕ) (bad : PartBad) → (IsTrue disk.tells → bad ≡ part_bad.Fault) → NamesPartCause size bad
      → MatchBool (is_part_fault bad) (HasRisen (disk.faults mid) (disk.faults new)) (disk.faults new ≡ disk.faults mid) → Refused bad
  refuses_table size part_bad.Fault told names rose = inr (inl (refl, subst (λ (n : ℕ). HasRisen n (disk.faults new)) same rose))
  refuses_table size (part_bad.TooSmall len need) told names rose =
      misread (part_bad.TooSmall len need) told (λ is. cc) (refl, subst (λ (n : ℕ). n < need) (sym names.0) names.1)
  refuses_table size part_bad.NotFormatted told names rose = misread part_bad.NotFormatted told (λ is. cc) refl
  refuses_table size (part_bad.Torn Version found want) told names rose =
      misread (part_bad.Torn Version found want) told (λ is. cc) (refl, λ is. names.1.0 (is ∙ names.1.1))
  refuses_table size (part_bad.Torn ArenaSize found want) told names rose =
      misread (part_bad.Torn ArenaSize found want) told (λ is. cc) (refl, λ is. names.1.0 (subst IsArenaSize (sym (is ∙ names.1.1)) refl))
  refuses_table size (part_bad.Torn Count found want) told names rose =
      misread (part_bad.Torn Count found want) told (λ is. cc) (refl, λ is. let wrong = sym names.1.0 ∙ is ∙ names.1.1 in cc)
  refuses_table size (part_bad.DuplicateName first second) told names rose = absurd names
  refuses_table size part_bad.NoMemory told names rose = absurd names
