-- Partitions that are read, and what is found of their arenas.
use Rattle.std.proofs.Common.{◌≡◌, ◌≢◌, ◌⊎◌, ⊎_elim, inl, inr, ℕ, zero, suc, ◌+◌, ◌%◌, ◌<◌, ◌≤◌, ◌==◌, ◌||◌, Bool, true, false, cond, List, [], ◌∷◌, ◌++◌, length, get_or, map, set, take, drop, refl, sym, ◌∙◌, ap, subst, arith, append_assoc, append-nil, take-append-drop, Some, None, Option, option_map, Ok, Err, Result, IsTrue}
use Rattle.std.specs.Prelude.{All, slice_get, sum_by, not, OnOk, MatchBool}
use Rattle.std.proofs.lemmas.Bool.{cases_eq}
use Rattle.std.proofs.lemmas.List.{length-map, length_push, map-append, drop_more, drop_all, map_more, length-take-le}
use Rattle.std.proofs.lemmas.Option.{slice_get_within, slice_get-get_or, slice_get-map, same_Some, get_or_from_slice_get}
use Rattle.vt_base.specs.Faults.{CountsFault}
use Rattle.vt_disk.specs.Members.{DiskOf}
use Rattle.vt_disk.specs.Calls.{MadeCalls, OnlyReads, IsSynced}
use Rattle.vt_disk.specs.Disk.{AreAmong, IsOneMore}
use Rattle.vt_part.specs.declared.error.PartBad.{PartBad}
use Rattle.vt_part.specs.declared.layout.ArenaRegion.{ArenaRegion}
use Rattle.vt_part.specs.declared.part.Part.{Part}
use Rattle.vt_part.specs.Layout.{AreDistinct}
use Rattle.vt_part.specs.Parts.{disk_of}
use Rattle.vt_arena.specs.declared.error.ArenaBad.{ArenaBad}
use Rattle.vt_arena.specs.declared.error.ArenaBad.TheVariants.{Fault as ArenaFault, NotFormatted, Torn, NoMemory as ArenaNoMemory}
use Rattle.vt_arena.specs.declared.error.Field.TheVariants.{Sealed}
use Rattle.vt_arena.specs.declared.head.ArenaHead.{ArenaHead}
use Rattle.vt_arena.specs.declared.head.Found.{Found}
use Rattle.vt_arena.specs.Arena.{ArenaState, fresh_arena}
use Rattle.vt_arena.specs.Faults.{first_bad_head, read_at, reads_to_find, FindsArena, CanStand, is_arena_fault}
use Rattle.vt_arena.specs.Heads.{fields_of, flag_of, own_fields, sealed_in, clump_count_in}
use Rattle.vt_arena.proofs.Finds.{own_clumps, own_sealed}
use Rattle.vt_arena.specs.Places.{IsArenaLen}
use Rattle.vt_arena.specs.Sound.{IsRegion}
use Rattle.vt_log.specs.declared.error.LogBad.{LogBad}
use Rattle.vt_log.specs.declared.error.LogBad.TheVariants.{Part as PartRefused, Arena, Order, Fault, NoMemory}
use Rattle.vt_log.specs.Answers.{HoldTheSame}
use Rattle.vt_log.specs.Faults.{AreReadAt, RefusesLogMount, CountsFaults, OneHasRisen, is_log_fault, bad_arena, first_of_two, out_of_order, first_bad_log}
use Rattle.vt_log.specs.Log.{disks_of}
use Rattle.vt_log.specs.Mounting.{TellsOfSettled, IsBeforeCalls, AreSettled, StopsSyncing, OnlyReadsParts, reads_to_find_all, AreFieldsAt, FindsNext, arena_refusal, IsFoundArena, AreFound, RefusesArenas, ArePassed, IsRoomFor}
use Rattle.vt_log.specs.Whole.{IsOnDisk}
use Rattle.vt_log.proofs.Disks.{parts_disks, parts_tables, calls_set, hold_set, tells_as, tells_set}
use Rattle.vt_log.proofs.Lists.{map_long, map_there, slice_get_other, at_slice, slice_get_left, slice_get_right, slice_get_set_same, slice_get_set_other}

pub on_ok : {T E P : Type 0} (r : Result T E) → P → OnOk r P
on_ok (Ok t) p = p
on_ok (Err e) p = tt

-- ---- room

pub room_there : (layout : List ArenaRegion) (heads : List Found) (arena : ℕ) (r : ArenaRegion) (found : Found) (a : ArenaState) → slice_get layout arena ≡ Some r → slice_get heads arena ≡ Some found
    → a ≡ fresh_arena r.region.len (found.selector % 2) found.head → IsRoomFor layout heads arena a
room_there layout heads arena r found a at_r at_found fresh = record {
  len = r.region.len;
  current = found.selector % 2;
  head = found.head;
  fresh = fresh;
  there = λ q other at_q at_other.
      let r_is : r ≡ q = same_Some r q (sym at_r ∙ at_q) in
      let found_is : found ≡ other = same_Some found other (sym at_found ∙ at_other) in
      (ap (λ (x : ArenaRegion). x.region.len) r_is, ap (λ (x : Found). x.selector % 2) found_is, ap (λ (x : Found). x.head) found_is);
  past = λ past. absurd (omega (arith, past, slice_get_within layout arena r at_r));
}

pub room_past : (layout : List ArenaRegion) (heads : List Found) (arena len current : ℕ) (head : ArenaHead) (a : ArenaState) → length layout ≤ arena
    → (head.sealed ≡ false) × (head.used ≡ 0) × (head.clumps ≡ 0) → a ≡ fresh_arena len current head → IsRoomFor layout heads arena a
room_past layout heads arena len current head a past none fresh = record {
  len = len;
  current = current;
  head = head;
  fresh = fresh;
  there = λ r found at_r at_found. absurd (omega (arith, past, slice_get_within layout arena r at_r));
  past = λ _. none;
}

-- ---- partitions that are read

module _ {D : Type 0} (disk : DiskOf D) where
  pub hold_refl : (ds : List D) → HoldTheSame disk ds ds
  hold_refl ds = record {
    bytes_are = refl;
    sizes_are = refl;
    images_are = λ i before after was is.
        let same : before ≡ after = same_Some before after (sym was ∙ is) in
        λ c left. subst (λ (d : D). disk.images d c) (sym same) left;
  }

  pub hold_then : (ds es fs : List D) → HoldTheSame disk ds es → HoldTheSame disk es fs → HoldTheSame disk ds fs
  hold_then ds es fs one two = record {
    bytes_are = two.bytes_are ∙ one.bytes_are;
    sizes_are = two.sizes_are ∙ one.sizes_are;
    images_are = λ i before after was is.
        let mid = slice_get_other es ds i before (sym (map_long disk.size ds es one.sizes_are)) was in
        λ c left. one.images_are i before mid.0 was mid.1 c (two.images_are i mid.0 after mid.1 is c left);
  }

  pub read_refl : (ps : List (Part D)) → OnlyReadsParts disk 0 ps ps
  read_refl ps = record { tables = refl; disks = hold_refl (disks_of ps); calls_most = λ told. omega arith }

  pub read_then : (m n k : ℕ) (ps qs rs : List (Part D)) → m + n ≤ k → OnlyReadsParts disk m ps qs → OnlyReadsParts disk n qs rs
      → OnlyReadsParts disk k ps rs
  read_then m n k ps qs rs most one two = record {
    tables = two.tables ∙ one.tables;
    disks = hold_then (disks_of ps) (disks_of qs) (disks_of rs) one.disks two.disks;
    calls_most = λ told. omega (arith, most, one.calls_most told, two.calls_most told);
  }

  pub read_more : (m k : ℕ) (ps qs : List (Part D)) → m ≤ k → OnlyReadsParts disk m ps qs → OnlyReadsParts disk k ps qs
  read_more m k ps qs most read = record { tables = read.tables; disks = read.disks; calls_most = λ told. omega (arith, most, read.calls_most told) }

  -- one disk is read or synced
  pub read_set : (n i : ℕ) (ps : List (Part D)) (p : Part D) (d : D) → slice_get ps i ≡ Some p → OnlyReads disk n (disk_of p) d → OnlyReadsParts disk n ps (set ps i (record p { disk = d }))
  read_set n i ps p d at reads =
      let was : slice_get (disks_of ps) i ≡ Some (disk_of p) = slice_get-map (λ (part : Part D). disk_of part) ps i ∙ rw at in
      let is = parts_disks ps i p d in
      record {
        tables = parts_tables ps i p d at;
        disks = subst (λ (ds : List D). HoldTheSame disk (disks_of ps) ds) (sym is) (hold_set disk n (disks_of ps) i (disk_of p) d was reads);
        calls_most = λ told. subst (λ (ds : List D). sum_by disk.calls ds ≤ sum_by disk.calls (disks_of ps) + n) (sym is) (calls_set disk.calls (disks_of ps) i (disk_of p) d n was (reads.calls told));
      }

  -- a sync is a call that only reads
  pub synced : (d e : D) → disk.bytes e ≡ disk.bytes d → AreAmong (disk.images e) (disk.images d) → disk.size e ≡ disk.size d
      → (IsTrue disk.tells → IsOneMore (disk.calls d) (disk.calls e)) → OnlyReads disk 1 d e
  synced d e bytes images size calls = record { bytes = bytes; images = images; size = size; calls = λ told. omega (arith, calls told) }

  -- a sync that fails is the last call
  pub sync_stops : (old ps : List (Part D)) (i : ℕ) (p : Part D) (d : D) → slice_get ps i ≡ Some p
      → ((k : ℕ) → i ≤ k → slice_get ps k ≡ slice_get old k) → OnlyReadsParts disk i old ps
      → (IsTrue disk.tells → disk.calls d ≤ disk.calls (disk_of p) + 1)
      → StopsSyncing disk old (set ps i (record p { disk = d }))
  sync_stops old ps i p d at rest read most =
      let was : slice_get (disks_of ps) i ≡ Some (disk_of p) = slice_get-map (λ (part : Part D). disk_of part) ps i ∙ rw at in
      let is = parts_disks ps i p d in
      record {
        part = i;
        within = slice_get_within old i p (sym (rest i (omega arith)) ∙ at);
        calls_most = λ told.
            let one = subst (λ (ds : List D). sum_by disk.calls ds ≤ sum_by disk.calls (disks_of ps) + 1) (sym is)
            (calls_set disk.calls (disks_of ps) i (disk_of p) d 1 was (most told)) in
            omega (arith, one, read.calls_most told);
        behind = λ k more. slice_get_set_other ps i k (record p { disk = d }) (λ same. omega (arith, more, same)) ∙ rest k (omega (arith, more));
      }

  -- what is settled stays settled
  pub settled_held : (ds es : List D) → HoldTheSame disk ds es → All (IsSynced disk) ds → All (IsSynced disk) es
  settled_held ds es hold settled i d within told =
      let e : D = get_or es i d in
      let at : slice_get es i ≡ Some e = slice_get-get_or es i d within in
      let was = slice_get_other ds es i e (map_long disk.size ds es hold.sizes_are) at in
      λ c left. at_slice (IsSynced disk) ds i was.0 settled was.1 told c (hold.images_are i was.0 e was.1 at c left) ∙ sym (map_there disk.bytes ds es i was.0 e hold.bytes_are was.1 at)

  -- each disk that was synced is settled
  pub settled_more : (ps : List (Part D)) (i : ℕ) (p : Part D) (d : D) → slice_get ps i ≡ Some p → IsSynced disk d
      → ((k : ℕ) (e : D) → k < i → slice_get (disks_of ps) k ≡ Some e → IsSynced disk e)
      → (k : ℕ) (e : D) → k < i + 1 → slice_get (disks_of (set ps i (record p { disk = d }))) k ≡ Some e → IsSynced disk e
  settled_more ps i p d at settled before k e less is =
      let there : slice_get (set (disks_of ps) i d) k ≡ Some e = ap (λ (ds : List D). slice_get ds k) (sym (parts_disks ps i p d)) ∙ is in
      ⊎_elim
      (λ (here : k ≡ i).
      let within : i < length (disks_of ps) = omega (arith, slice_get_within ps i p at, length-map ps (λ (part : Part D). disk_of part)) in
      let same : d ≡ e = same_Some d e (sym (slice_get_set_same (disks_of ps) i d within) ∙ sym (ap (slice_get (set (disks_of ps) i d)) here) ∙ there) in
      subst (IsSynced disk) same settled)
      (λ (other : k ≢ i). before k e (omega (arith, less, other)) (sym (slice_get_set_other (disks_of ps) i k d other) ∙ there))
      (cases_eq k i)

  pub settled_all : (ds : List D) (n : ℕ) → length ds ≤ n → ((k : ℕ) (e : D) → k < n → slice_get ds k ≡ Some e → IsSynced disk e) → All (IsSynced disk) ds
  settled_all ds n many settled k d within = settled k (get_or ds k d) (omega (arith, many, within)) (slice_get-get_or ds k d within)

-- ---- one arena

-- the partition of a region is there, with its disk
pub record IsPartOf {D : Type 0} (disk : DiskOf D) (ps : List (Part D)) (r : ArenaRegion) : Type 0 where
  pub below : r.part < length ps
  pub part_is : (p : Part D) → slice_get ps r.part ≡ Some p → IsRegion r.region (disk.size (disk_of p))

disk_at : {D : Type 0} (ps : List (Part D)) (i : ℕ) (p : Part D) (d : D) → slice_get ps i ≡ Some p → slice_get (disks_of ps) i ≡ Some d → disk_of p ≡ d
disk_at {D = D} ps i p d at is =
    same_Some (disk_of p) d (sym (slice_get-map (λ (part : Part D). disk_of part) ps i ∙ ap (option_map (λ (part : Part D). disk_of part)) at) ∙ is)

pub part_of_region : {D : Type 0} (disk : DiskOf D) (ps : List (Part D)) (r : ArenaRegion) → IsOnDisk disk (disks_of ps) r → IsPartOf disk ps r
part_of_region {D = D} disk ps r on = record {
  below = omega (arith, slice_get_within (disks_of ps) r.part on.device on.has, length-map ps (λ (part : Part D). disk_of part));
  part_is = λ p at. subst (IsRegion r.region) (sym (ap disk.size (disk_at ps r.part p on.device at on.has))) on.region;
}

-- the file of a partition
file_at : {D : Type 0} (disk : DiskOf D) (ps : List (Part D)) (i : ℕ) (p : Part D) (file : List ℕ) → slice_get ps i ≡ Some p → slice_get (map disk.bytes (disks_of ps)) i ≡ Some file → disk.bytes (disk_of p) ≡ file
file_at {D = D} disk ps i p file at is =
    same_Some (disk.bytes (disk_of p)) file (sym (slice_get-map disk.bytes (disks_of ps) i ∙ ap (option_map disk.bytes) (slice_get-map (λ (part : Part D). disk_of part) ps i ∙ ap (option_map (λ (part : Part D). disk_of part)) at)) ∙ is)

pub fields_for : {D : Type 0} (disk : DiskOf D) (ps : List (Part D)) (r : ArenaRegion) (p : Part D) (fields : List ℕ) → slice_get ps r.part ≡ Some p
    → fields ≡ read_at r.region r.number (disk.bytes (disk_of p)) → AreFieldsAt (map disk.bytes (disks_of ps)) r fields
fields_for disk ps r p fields at is file file_is = is ∙ ap (read_at r.region r.number) (file_at disk ps r.part p file at file_is)

-- what finding it gives
pub found_for : {D : Type 0} (disk : DiskOf D) (ps : List (Part D)) (r : ArenaRegion) (p : Part D) (found : Found) → slice_get ps r.part ≡ Some p
    → IsFoundArena disk.tells r (disk.bytes (disk_of p)) found → (device : D) → slice_get (disks_of ps) r.part ≡ Some device → IsFoundArena disk.tells r (disk.bytes device) found
found_for {D = D} disk ps r p found at finds device is =
    subst (λ (d : D). IsFoundArena disk.tells r (disk.bytes d) found) (disk_at ps r.part p device at is) finds

-- so many reads were made, where none failed
pub reads_made : {D F : Type 0} (disk : DiskOf D) (n : ℕ) (d e : D) → OnlyReads disk 3 d e → (F → ⊥) → F ⊎ MadeCalls disk n d e → OnlyReads disk n d e
reads_made {F = F} disk n d e reads ran made = ⊎_elim
    (λ (f : F). absurd (ran f))
    (λ (one : MadeCalls disk n d e). record { bytes = reads.bytes; images = reads.images; size = reads.size; calls = λ told. omega (arith, one told) })
    made

pub finds_ok : (arena : ℕ) (r : ArenaRegion) (fields : List ℕ) (found : Found) → FindsArena r.number r.region.len fields (Ok found) → FindsNext false arena r fields (Ok found)
finds_ok arena r fields found is = (ap (λ (o : Option ArenaBad). bad_arena false arena o fields) is.0, is.1)

pub finds_err : (arena : ℕ) (r : ArenaRegion) (fields : List ℕ) (bad : ArenaBad) → FindsArena r.number r.region.len fields (Err bad) → FindsNext false arena r fields (Err (arena_refusal arena bad))
finds_err arena r fields ArenaFault is = tt
finds_err arena r fields NotFormatted is = ap (λ (o : Option ArenaBad). bad_arena false arena o fields) is
finds_err arena r fields (Torn field found want) is = ap (λ (o : Option ArenaBad). bad_arena false arena o fields) is
finds_err arena r fields ArenaNoMemory is = absurd is

-- the counts of faults, where one partition's disk was called
pub counts_set : {D T E : Type 0} (disk : DiskOf D) (is_fault : E → Bool) (ps : List (Part D)) (i : ℕ) (p : Part D) (d : D) (result : Result T E) → slice_get ps i ≡ Some p
    → CountsFault is_fault result (disk.faults (disk_of p)) (disk.faults d) → CountsFaults disk is_fault result (disks_of ps) (disks_of (set ps i (record p { disk = d })))
counts_set {D = D} disk is_fault ps i p d result at cause =
    tells_set disk.faults is_fault (disks_of ps) (disks_of (set ps i (record p { disk = d }))) i (disk_of p) d result
    (slice_get-map (λ (part : Part D). disk_of part) ps i ∙ ap (option_map (λ (part : Part D). disk_of part)) at) (parts_disks ps i p d) cause

-- and where none of them had moved before
pub counts_from : {D T E : Type 0} (disk : DiskOf D) (is_fault : E → Bool) (ds es fs : List D) (result : Result T E) → map disk.faults es ≡ map disk.faults ds
    → CountsFaults disk is_fault result es fs → CountsFaults disk is_fault result ds fs
counts_from disk is_fault ds es fs result same cause =
    tells_as is_fault result (λ rose. subst (λ (ns : List ℕ). OneHasRisen ns (map disk.faults fs)) same rose) (λ stayed. stayed ∙ same) cause

-- what is told of a log is a fault where what is told of its arena is
refused_fault : (arena : ℕ) (bad : ArenaBad) → is_log_fault (arena_refusal arena bad) ≡ is_arena_fault bad
refused_fault arena ArenaFault = refl
refused_fault arena NotFormatted = refl
refused_fault arena (Torn field found want) = refl
refused_fault arena ArenaNoMemory = refl

pub counts_refused : {D : Type 0} (disk : DiskOf D) (ps : List (Part D)) (i arena : ℕ) (p : Part D) (d : D) (bad : ArenaBad) → slice_get ps i ≡ Some p
    → CountsFault {T = Found} is_arena_fault (Err bad) (disk.faults (disk_of p)) (disk.faults d)
    → CountsFaults {T = Found} disk is_log_fault (Err (arena_refusal arena bad)) (disks_of ps) (disks_of (set ps i (record p { disk = d })))
counts_refused {D = D} disk ps i arena p d bad at cause =
    let new : List (Part D) = set ps i (record p { disk = d }) in
    subst (λ (b : Bool). MatchBool b (OneHasRisen (map disk.faults (disks_of ps)) (map disk.faults (disks_of new))) (map disk.faults (disks_of new) ≡ map disk.faults (disks_of ps)))
    (sym (refused_fault arena bad)) (counts_set {T = Found} disk is_arena_fault ps i p d (Err bad) at cause)

-- ---- its place in the order

behind_same : (behind : Bool) (arena : ℕ) (o : Option ArenaBad) (fields : List ℕ) (bad : LogBad) → bad_arena false arena o fields ≡ Some bad → bad_arena behind arena o fields ≡ Some bad
behind_same behind arena (Some it) fields bad is = is
behind_same behind arena None fields bad is = absurd (cc)

-- an arena that can't be mounted is told of before its place is looked at
pub next_refused : (behind : Bool) (arena : ℕ) (r : ArenaRegion) (fields : List ℕ) (bad : LogBad) → FindsNext false arena r fields (Err bad) → FindsNext behind arena r fields (Err bad)
next_refused behind arena r fields (PartRefused bad) is = is
next_refused behind arena r fields (Arena i bad) is = behind_same behind arena (first_bad_head r.number r.region.len fields) fields (Arena i bad) is
next_refused behind arena r fields (Order i clumps) is = behind_same behind arena (first_bad_head r.number r.region.len fields) fields (Order i clumps) is
next_refused behind arena r fields Fault is = tt
next_refused behind arena r fields NoMemory is = is

behind_open : (arena : ℕ) (o : Option ArenaBad) (fields : List ℕ) → bad_arena false arena o fields ≡ None → bad_arena true arena o fields ≡ out_of_order arena fields
behind_open arena (Some it) fields is = absurd (cc)
behind_open arena None fields is = refl

-- what a frame's own fields say of that is what all of it says
order_own : (arena : ℕ) (fields : List ℕ) (h : ArenaHead) → fields_of h ≡ own_fields fields → out_of_order arena fields ≡ out_of_order arena (fields_of h)
order_own arena fields h spelled =
    (λ i. cond (sym (own_clumps fields) i == 0) (cond (sym (own_sealed fields) i == 0) None (Some (Arena arena (Torn Sealed 1 0)))) (Some (Order arena (sym (own_clumps fields) i))))
    ∙ ap (out_of_order arena) (sym spelled)

pub order_passes : (arena : ℕ) (r : ArenaRegion) (fields : List ℕ) (found : Found) → FindsNext false arena r fields (Ok found) → out_of_order arena (fields_of found.head) ≡ None
    → FindsNext true arena r fields (Ok found)
order_passes arena r fields found is none =
    (behind_open arena (first_bad_head r.number r.region.len fields) fields is.0 ∙ order_own arena fields found.head is.1 ∙ none, is.1)

never_part : (arena clumps : ℕ) (none unsealed : Bool) (it : ArenaBad) (bad : PartBad) → cond none (cond unsealed None (Some (Arena arena it))) (Some (Order arena clumps)) ≡ Some (PartRefused bad) → ⊥
never_part arena clumps true true it bad is = cc
never_part arena clumps true false it bad is = cc
never_part arena clumps false unsealed it bad is = cc

never_memory : (arena clumps : ℕ) (none unsealed : Bool) (it : ArenaBad) → cond none (cond unsealed None (Some (Arena arena it))) (Some (Order arena clumps)) ≡ Some NoMemory → ⊥
never_memory arena clumps true true it is = cc
never_memory arena clumps true false it is = cc
never_memory arena clumps false unsealed it is = cc

pub order_refused : (arena : ℕ) (r : ArenaRegion) (fields : List ℕ) (found : Found) (bad : LogBad) → FindsNext false arena r fields (Ok found) → out_of_order arena (fields_of found.head) ≡ Some bad
    → FindsNext true arena r fields (Err bad)
order_refused arena r fields found (PartRefused bad) is order =
    absurd (never_part arena (clump_count_in (fields_of found.head)) (clump_count_in (fields_of found.head) == 0) (sealed_in (fields_of found.head) == 0) (Torn Sealed 1 0) bad order)
order_refused arena r fields found (Arena i bad) is order =
    behind_open arena (first_bad_head r.number r.region.len fields) fields is.0 ∙ order_own arena fields found.head is.1 ∙ order
order_refused arena r fields found (Order i clumps) is order =
    behind_open arena (first_bad_head r.number r.region.len fields) fields is.0 ∙ order_own arena fields found.head is.1 ∙ order
order_refused arena r fields found Fault is order = tt
order_refused arena r fields found NoMemory is order =
    absurd (never_memory arena (clump_count_in (fields_of found.head)) (clump_count_in (fields_of found.head) == 0) (sealed_in (fields_of found.head) == 0) (Torn Sealed 1 0) order)

-- ---- all arenas

-- what is read of an arena, where its partition's file is there
abbrev pub fields_there : (files : List (List ℕ)) → ArenaRegion → List ℕ
fields_there files r = read_at r.region r.number (get_or files r.part [])

there_is : (files : List (List ℕ)) (r : ArenaRegion) (file : List ℕ) → slice_get files r.part ≡ Some file → fields_there files r ≡ read_at r.region r.number file
there_is files r file is = ap (read_at r.region r.number) (get_or_from_slice_get files r.part file [] is)

pub fields_are : (files : List (List ℕ)) (layout : List ArenaRegion) → AreReadAt layout files (map (fields_there files) layout)
fields_are files layout = record {
  many = length-map layout (fields_there files);
  each = λ i r file at is.
      slice_get-map (fields_there files) layout i ∙ ap (option_map (fields_there files)) at ∙ ap (λ (l : List ℕ). Some l) (there_is files r file is);
}

pub fields_one : {D : Type 0} (disk : DiskOf D) (ds : List D) (r : ArenaRegion) (fields : List ℕ) → IsOnDisk disk ds r → AreFieldsAt (map disk.bytes ds) r fields
    → fields ≡ fields_there (map disk.bytes ds) r
fields_one disk ds r fields on are =
    let is : slice_get (map disk.bytes ds) r.part ≡ Some (disk.bytes on.device) = slice_get-map disk.bytes ds r.part ∙ ap (option_map disk.bytes) on.has in
    are (disk.bytes on.device) is ∙ sym (there_is (map disk.bytes ds) r (disk.bytes on.device) is)

-- the fields of the heads that were found
abbrev pub fields_of_all : List Found → List (List ℕ)
fields_of_all heads = map (λ found. fields_of found.head) heads

-- the arenas up to this one, of which this was read, pass, and an unsealed one is among them exactly
-- if `behind` says so: what is refused is what the rest refuses
abbrev pub Passes : List ArenaRegion → (fields : List (List ℕ)) → (behind : Bool) → (i : ℕ) → Type 0
Passes layout fields behind i =
    (rest : List (List ℕ)) → first_bad_log false 0 layout (fields ++ rest) ≡ first_bad_log behind i (drop i layout) rest

-- what was read of the arenas up to this one: they pass, these are their heads, and so many reads were made
pub record AreRead {D : Type 0} (disk : DiskOf D) (old new : List (Part D)) (layout : List ArenaRegion) (heads : List Found) (behind : Bool) (i : ℕ) : Type 0 where
  pub fields : List (List ℕ)
  pub passes : Passes layout fields behind i
  pub heads_are : fields_of_all heads ≡ map own_fields fields
  pub there : IsTrue disk.tells → fields ≡ map (fields_there (map disk.bytes (disks_of old))) (take i layout)
  pub reads : OnlyReadsParts disk (reads_to_find_all (take i layout) fields) old new

pub read_none : {D : Type 0} (disk : DiskOf D) (old : List (Part D)) (layout : List ArenaRegion) (heads : List Found) → heads ≡ [] → AreRead disk old old layout heads false 0
read_none disk old layout heads none = record {
  fields = [];
  passes = λ rest. refl;
  heads_are = ap fields_of_all none;
  there = λ told. refl;
  reads = read_refl disk old;
}

drop_at : {X : Type 0} (xs : List X) (i : ℕ) (x : X) → slice_get xs i ≡ Some x → drop i xs ≡ x ∷ drop (i + 1) xs
drop_at {X = X} xs i x at = drop_more xs i x (slice_get_within xs i x at) ∙ ap (λ (y : X). y ∷ drop (i + 1) xs) (get_or_from_slice_get xs i x x at)

-- one more, with what is read of its sealing
flag_is_none : (b : Bool) → (flag_of b == 0) ≡ not b
flag_is_none true = refl
flag_is_none false = refl

at_step : (behind : Bool) (i : ℕ) (r : ArenaRegion) (rest : List ArenaRegion) (f : List ℕ) (fs : List (List ℕ)) → bad_arena behind i (first_bad_head r.number r.region.len f) f ≡ None
    → first_bad_log behind i (r ∷ rest) (f ∷ fs) ≡ first_bad_log (behind || sealed_in f == 0) (i + 1) rest fs
at_step behind i r rest f fs none = ap (λ (o : Option LogBad). first_of_two o (first_bad_log (behind || sealed_in f == 0) (i + 1) rest fs)) none

at_stop : (behind : Bool) (i : ℕ) (r : ArenaRegion) (rest : List ArenaRegion) (f : List ℕ) (fs : List (List ℕ)) (bad : LogBad) → bad_arena behind i (first_bad_head r.number r.region.len f) f ≡ Some bad
    → first_bad_log behind i (r ∷ rest) (f ∷ fs) ≡ Some bad
at_stop behind i r rest f fs bad is = ap (λ (o : Option LogBad). first_of_two o (first_bad_log (behind || sealed_in f == 0) (i + 1) rest fs)) is

-- the flag of a head, by what was read
pub sealed_read : (h : ArenaHead) (f : List ℕ) → fields_of h ≡ own_fields f → sealed_in f ≡ flag_of h.sealed
sealed_read h f spelled = sym (own_sealed f) ∙ ap sealed_in (sym spelled)

passes_more : (layout : List ArenaRegion) (fields : List (List ℕ)) (behind next : Bool) (i : ℕ) (r : ArenaRegion) (f : List ℕ) (sealed : Bool) → Passes layout fields behind i → slice_get layout i ≡ Some r
    → bad_arena behind i (first_bad_head r.number r.region.len f) f ≡ None → sealed_in f ≡ flag_of sealed
    → next ≡ (behind || not sealed) → Passes layout (fields ++ f ∷ []) next (i + 1)
passes_more layout fields behind next i r f sealed passes at none flag next_is rest =
    ap (first_bad_log false 0 layout) (append_assoc fields (f ∷ []) rest)
    ∙ passes (f ∷ rest)
    ∙ ap (λ (rs : List ArenaRegion). first_bad_log behind i rs (f ∷ rest)) (drop_at layout i r at)
    ∙ at_step behind i r (drop (i + 1) layout) f rest none
    ∙ ap (λ (b : Bool). first_bad_log b (i + 1) (drop (i + 1) layout) rest)
    (ap (λ (n : ℕ). behind || n == 0) flag ∙ ap (λ (b : Bool). behind || b) (flag_is_none sealed) ∙ sym next_is)

passes_stop : (layout : List ArenaRegion) (fields : List (List ℕ)) (behind : Bool) (i : ℕ) (r : ArenaRegion) (f : List ℕ) (rest : List (List ℕ)) (bad : LogBad) → Passes layout fields behind i → slice_get layout i ≡ Some r
    → bad_arena behind i (first_bad_head r.number r.region.len f) f ≡ Some bad → first_bad_log false 0 layout (fields ++ f ∷ rest) ≡ Some bad
passes_stop layout fields behind i r f rest bad passes at is =
    passes (f ∷ rest)
    ∙ ap (λ (rs : List ArenaRegion). first_bad_log behind i rs (f ∷ rest)) (drop_at layout i r at)
    ∙ at_stop behind i r (drop (i + 1) layout) f rest bad is

-- all pass
pub passes_all : {D : Type 0} (disk : DiskOf D) (old new : List (Part D)) (layout : List ArenaRegion) (heads : List Found) (behind : Bool) (i : ℕ) → (so_far : AreRead disk old new layout heads behind i)
    → length layout ≤ i → ArePassed layout so_far.fields heads
passes_all disk old new layout heads behind i so_far past = record {
  passed = ap (first_bad_log false 0 layout) (sym (append-nil so_far.fields)) ∙ so_far.passes [] ∙ ap (λ (rs : List ArenaRegion). first_bad_log behind i rs []) (drop_all i layout past);
  heads_are = so_far.heads_are;
}

-- the next one is refused
pub stops : {D : Type 0} (disk : DiskOf D) (old new : List (Part D)) (layout : List ArenaRegion) (heads : List Found) (behind : Bool) (i : ℕ) (r : ArenaRegion) (bad : LogBad)
    → All (IsOnDisk disk (disks_of old)) layout → AreRead disk old new layout heads behind i
    → slice_get layout i ≡ Some r
    → (fields : List ℕ) × (IsTrue disk.tells → AreFieldsAt (map disk.bytes (disks_of old)) r fields) × FindsNext behind i r fields (Err bad)
    → (fields : List (List ℕ)) × (IsTrue disk.tells → AreReadAt layout (map disk.bytes (disks_of old)) fields) × RefusesArenas layout fields bad
stops {D = D} disk old new layout heads behind i r bad regions so_far at answer =
    let rest : List (List ℕ) = map (fields_there (map disk.bytes (disks_of old))) (drop (i + 1) layout) in (
      so_far.fields ++ answer.0 ∷ rest,
      λ told. subst (AreReadAt layout (map disk.bytes (disks_of old))) (sym (whole told)) (fields_are (map disk.bytes (disks_of old)) layout),
      refuses bad answer.2,
    )
  where
    on : IsOnDisk disk (disks_of old) r
    on = at_slice (IsOnDisk disk (disks_of old)) layout i r regions at

    whole : (told : IsTrue disk.tells) → so_far.fields ++ answer.0 ∷ map (fields_there (map disk.bytes (disks_of old))) (drop (i + 1) layout) ≡ map (fields_there (map disk.bytes (disks_of old))) layout
    whole told =
        (λ j. so_far.there told j ++ fields_one disk (disks_of old) r answer.0 on (answer.1 told) j ∷ map (fields_there (map disk.bytes (disks_of old))) (drop (i + 1) layout))
        ∙ sym (map-append (fields_there (map disk.bytes (disks_of old))) (take i layout) (r ∷ drop (i + 1) layout))
        ∙ ap (λ (rs : List ArenaRegion). map (fields_there (map disk.bytes (disks_of old))) (take i layout ++ rs)) (sym (drop_at layout i r at))
        ∙ ap (map (fields_there (map disk.bytes (disks_of old)))) (take-append-drop i layout)

    refuses : (bad : LogBad) → FindsNext behind i r answer.0 (Err bad) → RefusesArenas layout (so_far.fields ++ answer.0 ∷ map (fields_there (map disk.bytes (disks_of old))) (drop (i + 1) layout)) bad
    refuses (PartRefused it) is = is
    refuses (Arena j it) is = passes_stop layout so_far.fields behind i r answer.0 _ (Arena j it) so_far.passes at is
    refuses (Order j clumps) is = passes_stop layout so_far.fields behind i r answer.0 _ (Order j clumps) so_far.passes at is
    refuses Fault is = tt
    refuses NoMemory is = absurd is

-- and what is found of them
pub found_more : (tells : Bool) (layout : List ArenaRegion) (files : List (List ℕ)) (heads : List Found) (i : ℕ) (r : ArenaRegion) (found : Found) → AreFound tells (take i layout) files heads → slice_get layout i ≡ Some r
    → ((file : List ℕ) → slice_get files r.part ≡ Some file → IsFoundArena tells r file found) → AreFound tells (take (i + 1) layout) files (heads ++ found ∷ [])
found_more tells layout files heads i r found are at finds = record {
  many = length_push heads found ∙ omega (arith, are.many, length-take-le i layout (omega (arith, within)), length-take-le (i + 1) layout (omega (arith, within)));
  each = λ k q file other at_q file_is at_other.
      let below = slice_get_within (take (i + 1) layout) k q at_q in
      ⊎_elim
      (λ (here : k ≡ length heads).
      let same_q : r ≡ q = same_Some r q (sym at
      ∙ ap (slice_get layout) (let e : i ≡ k = omega (arith, here, many) in e) ∙ in_all k q at_q) in
      let same_found : found ≡ other = same_Some found other (sym (slice_get_right heads (found ∷ []) 0) ∙ ap (slice_get (heads ++ found ∷ [])) (omega (arith, here)) ∙ at_other) in
      subst (λ (x : Found). IsFoundArena tells q file x) same_found
      (subst (λ (x : ArenaRegion). IsFoundArena tells x file found) same_q (finds file (ap (λ (x : ArenaRegion). slice_get files x.part) same_q ∙ file_is))))
      (λ (other_place : k ≢ length heads).
      let before : k < i = omega (arith, other_place, many, below, length-take-le (i + 1) layout (omega (arith, within))) in
      are.each k q file other (take_there layout i k q before (in_all k q at_q)) file_is
      (sym (slice_get_left heads (found ∷ []) k (omega (arith, before, many))) ∙ at_other))
      (cases_eq k (length heads));
}
  where
    within : i < length layout
    within = slice_get_within layout i r at

    many : length heads ≡ i
    many = are.many ∙ length-take-le i layout (omega (arith, within))

    take_there : (rs : List ArenaRegion) (n k : ℕ) (q : ArenaRegion) → k < n → slice_get rs k ≡ Some q → slice_get (take n rs) k ≡ Some q
    take_there [] n k q less is = absurd (cc)
    take_there (x ∷ rs) zero k q less is = absurd (omega (arith, less))
    take_there (x ∷ rs) (suc n) zero q less is = is
    take_there (x ∷ rs) (suc n) (suc k) q less is = take_there rs n k q (omega (arith, less)) is

    from_take : (rs : List ArenaRegion) (n k : ℕ) (q : ArenaRegion) → slice_get (take n rs) k ≡ Some q → slice_get rs k ≡ Some q
    from_take [] zero k q is = is
    from_take [] (suc n) k q is = is
    from_take (x ∷ rs) zero k q is = absurd (cc)
    from_take (x ∷ rs) (suc n) zero q is = is
    from_take (x ∷ rs) (suc n) (suc k) q is = from_take rs n k q is

    in_all : (k : ℕ) (q : ArenaRegion) → slice_get (take (i + 1) layout) k ≡ Some q → slice_get layout k ≡ Some q
    in_all k q is = from_take layout (i + 1) k q is

pub found_none : (tells : Bool) (layout : List ArenaRegion) (files : List (List ℕ)) (heads : List Found) → heads ≡ [] → AreFound tells (take 0 layout) files heads
found_none tells layout files heads none = subst (AreFound tells (take 0 layout) files) (sym none) (record {
  many = refl;
  each = λ i r file found at file_is at_found. absurd (cc);
})

-- a region is still there
pub on_held : {D : Type 0} (disk : DiskOf D) (ds es : List D) (r : ArenaRegion) → HoldTheSame disk ds es → IsOnDisk disk ds r → IsOnDisk disk es r
on_held disk ds es r hold on =
    let now = slice_get_other es ds r.part on.device (sym (map_long disk.size ds es hold.sizes_are)) on.has in record {
      device = now.0;
      has = now.1;
      region = subst (IsRegion r.region) (sym (map_there disk.size ds es r.part on.device now.0 hold.sizes_are on.has now.1)) on.region;
    }

-- what is found is told by the file
pub found_file : {D : Type 0} (disk : DiskOf D) (ds : List D) (files : List (List ℕ)) (r : ArenaRegion) (found : Found) → map disk.bytes ds ≡ files
    → ((device : D) → slice_get ds r.part ≡ Some device → IsFoundArena disk.tells r (disk.bytes device) found) → (file : List ℕ) → slice_get files r.part ≡ Some file → IsFoundArena disk.tells r file found
found_file {D = D} disk ds files r found same finds file at =
    let device = slice_get_other ds files r.part file (ap (λ (fs : List (List ℕ)). length fs) (sym same) ∙ length-map ds disk.bytes) at in
    let is : disk.bytes device.0 ≡ file = same_Some (disk.bytes device.0) file (sym (slice_get-map disk.bytes ds r.part ∙ ap (option_map disk.bytes) device.1) ∙ ap (λ (fs : List (List ℕ)). slice_get fs r.part) same ∙ at) in
    subst (λ (f : List ℕ). IsFoundArena disk.tells r f found) is (finds device.0 device.1)

-- the reads of one more
reads_more : (layout : List ArenaRegion) (fields : List (List ℕ)) (i : ℕ) (r : ArenaRegion) (f : List ℕ) → slice_get layout i ≡ Some r → length fields ≡ i
    → reads_to_find_all (take (i + 1) layout) (fields ++ f ∷ []) ≡ reads_to_find_all (take i layout) fields + reads_to_find r.number r.region.len f
reads_more [] fields i r f at many = absurd (cc)
reads_more (x ∷ rest) [] zero r f at many =
    let same : x ≡ r = same_Some x r at in
    ap (λ (q : ArenaRegion). reads_to_find q.number q.region.len f + 0) same ∙ omega arith
reads_more (x ∷ rest) (g ∷ fields) zero r f at many = absurd (omega (arith, many))
reads_more (x ∷ rest) [] (suc i) r f at many = absurd (omega (arith, many))
reads_more (x ∷ rest) (g ∷ fields) (suc i) r f at many =
    ap (λ (n : ℕ). reads_to_find_all (take n (x ∷ rest)) (g ∷ (fields ++ f ∷ []))) (let e : suc i + 1 ≡ suc (i + 1) = omega arith in e)
    ∙ omega (arith, reads_more rest fields i r f at (omega (arith, many)))

-- one more is read
pub read_more_of : {D : Type 0} (disk : DiskOf D) (old mid new : List (Part D)) (layout : List ArenaRegion) (heads : List Found) (behind next : Bool) (i : ℕ) (r : ArenaRegion) (found : Found) → All (IsOnDisk disk (disks_of old)) layout
    → slice_get layout i ≡ Some r → length heads ≡ i
    → (answer : (fields : List ℕ) × (IsTrue disk.tells → AreFieldsAt (map disk.bytes (disks_of old)) r fields) × FindsNext behind i r fields (Ok found)
    × OnlyReadsParts disk (reads_to_find r.number r.region.len fields) mid new)
    → next ≡ (behind || not found.head.sealed) → AreRead disk old mid layout heads behind i → AreRead disk old new layout (heads ++ found ∷ []) next (i + 1)
read_more_of disk old mid new layout heads behind next i r found regions at many answer next_is so_far = record {
  fields = so_far.fields ++ answer.0 ∷ [];
  passes = passes_more layout so_far.fields behind next i r answer.0 found.head.sealed so_far.passes at answer.2.0 (sealed_read found.head answer.0 answer.2.1) next_is;
  heads_are = map-append (λ (x : Found). fields_of x.head) heads (found ∷ [])
      ∙ (λ j. so_far.heads_are j ++ answer.2.1 j ∷ [])
      ∙ sym (map-append own_fields so_far.fields (answer.0 ∷ []));
  there = λ told.
      (λ j. so_far.there told j ++ fields_one disk (disks_of old) r answer.0 (at_slice (IsOnDisk disk (disks_of old)) layout i r regions at) (answer.1 told) j ∷ [])
      ∙ ap (λ (q : ArenaRegion). map (fields_there (map disk.bytes (disks_of old))) (take i layout) ++ fields_there (map disk.bytes (disks_of old)) q ∷ []) (sym (get_or_from_slice_get layout i r r at))
      ∙ sym (map_more (fields_there (map disk.bytes (disks_of old))) layout i r (slice_get_within layout i r at));
  reads =
      let count : length so_far.fields ≡ i =
      sym (length-map so_far.fields own_fields) ∙ ap (λ (l : List (List ℕ)). length l) (sym so_far.heads_are) ∙ length-map heads (λ (x : Found). fields_of x.head) ∙ many in
      read_then disk (reads_to_find_all (take i layout) so_far.fields) (reads_to_find r.number r.region.len answer.0) (reads_to_find_all (take (i + 1) layout) (so_far.fields ++ answer.0 ∷ []))
      old mid new (omega (arith, reads_more layout so_far.fields i r answer.0 at count)) so_far.reads answer.3;
}

-- a head that was found can stand in its region
pub found_stands : {D : Type 0} (disk : DiskOf D) (ds : List D) (rs : List ArenaRegion) (heads : List Found) (i : ℕ) (r : ArenaRegion) (found : Found)
    → All (IsOnDisk disk ds) rs → AreFound disk.tells rs (map disk.bytes ds) heads → slice_get rs i ≡ Some r → slice_get heads i ≡ Some found
    → IsArenaLen r.region.len × CanStand r.number r.region.len found.head
found_stands {D = D} disk ds rs heads i r found regions are at at_found =
    let on = at_slice (IsOnDisk disk ds) rs i r regions at in
    (on.region.len, (are.each i r (disk.bytes on.device) found at (slice_get-map disk.bytes ds r.part ∙ ap (option_map disk.bytes) on.has) at_found).stands)

-- ---- what is told

-- a refusal that comes before any call, and one that comes behind the syncs
pub told_early : {D : Type 0} (disk : DiskOf D) (ps : List (Part D)) (bad : LogBad) → IsBeforeCalls bad → TellsOfSettled disk ps ps bad
told_early disk ps (PartRefused bad) early = refl
told_early disk ps (Arena i bad) early = absurd early
told_early disk ps (Order i clumps) early = absurd early
told_early disk ps Fault early = absurd early
told_early disk ps NoMemory early = inl refl

pub told_behind : {D : Type 0} (disk : DiskOf D) (old new : List (Part D)) (layout : List ArenaRegion) (fields : List (List ℕ)) (bad : LogBad)
    → RefusesArenas layout fields bad → AreSettled disk new → TellsOfSettled disk old new bad
told_behind disk old new layout fields (PartRefused bad) refuses settled = absurd refuses
told_behind disk old new layout fields (Arena i bad) refuses settled = settled
told_behind disk old new layout fields (Order i clumps) refuses settled = settled
told_behind disk old new layout fields Fault refuses settled = inr settled
told_behind disk old new layout fields NoMemory refuses settled = inr settled

-- what arenas are refused for, a log is
pub refuses_mount : (names : List (List ℕ)) (layout : List ArenaRegion) (fields : List (List ℕ)) (bad : LogBad) → AreDistinct names → RefusesArenas layout fields bad
    → RefusesLogMount names layout fields bad
refuses_mount names layout fields (PartRefused bad) distinct refuses = absurd refuses
refuses_mount names layout fields (Arena i bad) distinct refuses = (distinct, refuses)
refuses_mount names layout fields (Order i clumps) distinct refuses = (distinct, refuses)
refuses_mount names layout fields Fault distinct refuses = distinct
refuses_mount names layout fields NoMemory distinct refuses = distinct
