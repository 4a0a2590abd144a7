-- Mounting before the sections are opened.
use Rattle.std.proofs.Common.{◌≡◌, ◌⊎◌, ⊎_elim, inl, inr, ◌≤◌, ◌+◌, ℕ, Bool, true, false, List, [], ◌∷◌, ◌++◌, length, map, take, drop, Option, Some, None, Err, refl, sym, ◌∙◌, ap, subst, arith, append_assoc}
use Rattle.std.specs.Prelude.{IsTrue, MatchBool, sum, sum_by, ⊤, codes, if◌then◌else◌, nat_lt, not, ◌||◌, ◌==◌}
use Rattle.std.specs.Str.{bytes_eq}
use Rattle.std.specs.List.{All}
use Rattle.std.specs.Option.{option_map, option_or, option_to_list}
use Rattle.std.proofs.lemmas.List.Sums.{sum_by-take-le, sum_by-cons}
use Rattle.vt_arena.specs.declared.error.ArenaBad.{ArenaBad}
use Rattle.vt_arena.specs.declared.error.ArenaBad.TheVariants as arena_bad
use Rattle.vt_arena.specs.declared.error.Field.TheVariants.{Last, Number, Sealed, Used, Version}
use Rattle.vt_arena.specs.declared.TheConstants.{FIELDS_LEN}
use Rattle.vt_arena.specs.Faults.{bad_last_header, bad_last_value, bad_value, first_bad_fields, first_bad_head, names_last, room_taken}
use Rattle.vt_arena.specs.Heads.{clump_count_in, last_in, number_in, sealed_in, used_in, version_in}
use Rattle.vt_arena.specs.Places.{arena_room, bad_last, sectors_of}
use Rattle.vt_clump.specs.Spelling.{size_in}
use Rattle.vt_base.specs.declared.mount.MountBad.{MountBad}
use Rattle.vt_base.specs.declared.mount.MountBad.TheVariants.{Disagree}
use Rattle.vt_base.specs.declared.mount.MountField.TheVariants.{Arenas}
use Rattle.vt_disk.specs.Calls.{IsSynced}
use Rattle.vt_disk.specs.Members.{DiskOf}
use Rattle.vt_log.specs.Answers.{HoldTheSame}
use Rattle.vt_log.specs.Faults.{AreReadAt, IsMountedBy, RefusesLogMount, OneHasRisen, bad_arena, first_bad_log, first_of_two, is_log_fault, out_of_order}
use Rattle.vt_log.specs.Log.{IsMountedLog, LogState, disks_of}
use Rattle.vt_log.specs.Logs.{IsLog, arena_count}
use Rattle.vt_log.specs.Mounting.{reads_to_find_all}
use Rattle.vt_log.specs.Sound.{IsSoundLog}
use Rattle.vt_log.specs.Whole.{IsWholeLog}
use Rattle.vt_log.specs.declared.error.LogBad.{LogBad}
use Rattle.vt_log.specs.declared.error.LogBad.TheVariants as log_bad
use Rattle.vt_model.specs.History.{History}
use Rattle.vt_part.specs.Layout.{AreDistinct, layout_of}
use Rattle.vt_part.specs.Parts.{names_of, table_of, tables_of, disk_of}
use Rattle.vt_part.specs.Table.{Table}
use Rattle.vt_part.specs.declared.error.PartBad.TheVariants as part_bad
use Rattle.vt_part.specs.declared.layout.ArenaRegion.{ArenaRegion}
use Rattle.vt_part.specs.declared.part.Part.{Part}
use Rattle.vt_shard.specs.declared.mounting.Sizes.{Sizes}
use Rattle.vt_mount_errors.specs.MountErrors.{of_log}
use Rattle.vt_recover.specs.declared.devices.Devices.{Devices}
use Rattle.vt_core.specs.Files.{PerDevice, all_of}
use Rattle.vt_core.specs.Mounting.{IsLogRead, devices_in, tables_in}
use Rattle.vt_core.specs.Opening.{AreHeld, IsLogFound, IsMountOf, with_log}
use Rattle.vt_recover.specs.Refusals.{CountsRefusal}
use Rattle.vt_core.specs.Refusals.{PassesOrRefuses}
use Rattle.vt_recover.proofs.Held.{hold_still, counts_more}
use Rattle.vt_core.proofs.Returned.{held_mount}
use Rattle.std.proofs.lemmas.List.{map-append, length-map}

pub names_same : {D : Type 0} (parts : List (Part D)) → names_of parts ≡ map (λ t. t.name) (tables_of parts)
names_same [] = refl
names_same (p ∷ parts) = ap (λ l. (table_of p).name ∷ l) (names_same parts)

pub count_same : (tables : List Table) → sum (map (λ t. t.count) tables) ≡ arena_count tables
count_same [] = refl
count_same (t ∷ tables) =
    let rest : sum (map (λ t. t.count) tables) ≡ arena_count tables = count_same tables in
    let left : sum (map (λ t. t.count) (t ∷ tables)) ≡ t.count + sum (map (λ t. t.count) tables) = sum_by-cons (λ n. n) t.count (map (λ t. t.count) tables) in
    let right : arena_count (t ∷ tables) ≡ t.count + arena_count tables = sum_by-cons (λ t. t.count) t tables in
    omega (arith, rest, left, right)

-- ---- a test of an arena's fields tells no fault

abbrev NoFault : Option ArenaBad → Type 0
NoFault None = ⊤
NoFault (Some arena_bad.Fault) = ⊥
NoFault (Some arena_bad.NotFormatted) = ⊤
NoFault (Some (arena_bad.Torn field found want)) = ⊤
NoFault (Some arena_bad.NoMemory) = ⊤

if_none : (b : Bool) (x y : Option ArenaBad) → NoFault x → NoFault y → NoFault (if b then x else y)
if_none true x y one other = one
if_none false x y one other = other

value_none : (number len version numbered sealed taken : ℕ) → NoFault (bad_value number len version numbered sealed taken)
value_none number len version numbered sealed taken =
    let room = arena_room len in
    let last = if nat_lt room taken then Some (arena_bad.Torn Used taken room) else None in
    let third = if nat_lt 1 sealed then Some (arena_bad.Torn Sealed sealed 1) else last in
    let second = if not (numbered == number) then Some (arena_bad.Torn Number numbered number) else third in
    if_none (not (version == 1 || version == 2)) (Some (arena_bad.Torn Version version 2)) second tt
    (if_none (not (numbered == number)) (Some (arena_bad.Torn Number numbered number)) third tt
    (if_none (nat_lt 1 sealed) (Some (arena_bad.Torn Sealed sealed 1)) last tt
    (if_none (nat_lt room taken) (Some (arena_bad.Torn Used taken room)) None tt tt)))

or_none : (x y : Option ArenaBad) → NoFault x → NoFault y → NoFault (option_or x y)
or_none None y one other = other
or_none (Some bad) y one other = one

last_none : (version clumps used last : ℕ) → NoFault (bad_last_value version clumps used last)
last_none version clumps used last =
    if_none (version == 2) (option_map (λ want. arena_bad.Torn Last last want) (bad_last clumps used last)) None (wanted (bad_last clumps used last)) tt
  where
    wanted : (o : Option ℕ) → NoFault (option_map (λ want. arena_bad.Torn Last last want) o)
    wanted None = tt
    wanted (Some want) = tt

header_none : (last : ℕ) (header : List ℕ) → NoFault (bad_last_header last header)
header_none last header = if_none (last == sectors_of (size_in header)) None (Some (arena_bad.Torn Last last (sectors_of (size_in header)))) tt tt

fields_none : (number len : ℕ) (fields : List ℕ) → NoFault (first_bad_head number len fields)
fields_none number len fields =
    let value = bad_value number len (version_in fields) (number_in fields) (sealed_in fields) (room_taken fields) in
    let last = bad_last_value (version_in fields) (clump_count_in fields) (used_in fields) (last_in fields) in
    let header = bad_last_header (last_in fields) (drop FIELDS_LEN fields) in
    or_none (first_bad_fields number len fields) (if names_last number len fields then header else None)
    (if_none (not (bytes_eq (take 4 fields) (codes "VARN"))) (Some arena_bad.NotFormatted) (option_or value last) tt
    (or_none value last (value_none number len (version_in fields) (number_in fields) (sealed_in fields) (room_taken fields))
    (last_none (version_in fields) (clump_count_in fields) (used_in fields) (last_in fields))))
    (if_none (names_last number len fields) header None (header_none (last_in fields) (drop FIELDS_LEN fields)) tt)

abbrev NoFaultLog : Option LogBad → Type 0
NoFaultLog None = ⊤
NoFaultLog (Some (log_bad.Part bad)) = ⊤
NoFaultLog (Some (log_bad.Arena i bad)) = NoFault (Some bad)
NoFaultLog (Some (log_bad.Order i clumps)) = ⊤
NoFaultLog (Some log_bad.Fault) = ⊤
NoFaultLog (Some log_bad.NoMemory) = ⊤

if_log : (b : Bool) (x y : Option LogBad) → NoFaultLog x → NoFaultLog y → NoFaultLog (if b then x else y)
if_log true x y one other = one
if_log false x y one other = other

order_none : (i : ℕ) (fields : List ℕ) → NoFaultLog (out_of_order i fields)
order_none i fields = if_log (clump_count_in fields == 0) (if sealed_in fields == 0 then None else Some (log_bad.Arena i (arena_bad.Torn Sealed 1 0))) (Some (log_bad.Order i (clump_count_in fields)))
    (if_log (sealed_in fields == 0) None (Some (log_bad.Arena i (arena_bad.Torn Sealed 1 0))) tt tt) tt

arena_none : (behind : Bool) (i : ℕ) (bad : Option ArenaBad) (fields : List ℕ) → NoFault bad → NoFaultLog (bad_arena behind i bad fields)
arena_none behind i None fields none = if_log behind (out_of_order i fields) None (order_none i fields) tt
arena_none behind i (Some bad) fields none = none

two_none : (x y : Option LogBad) → NoFaultLog x → NoFaultLog y → NoFaultLog (first_of_two x y)
two_none None y one other = other
two_none (Some bad) y one other = one

arenas_none : (behind : Bool) (i : ℕ) (layout : List ArenaRegion) (fields : List (List ℕ)) → NoFaultLog (first_bad_log behind i layout fields)
arenas_none behind i [] fields = tt
arenas_none behind i (r ∷ rest) [] = tt
arenas_none behind i (r ∷ rest) (f ∷ fields) =
    two_none (bad_arena behind i (first_bad_head r.number r.region.len f) f) (first_bad_log (behind || sealed_in f == 0) (i + 1) rest fields)
    (arena_none behind i (first_bad_head r.number r.region.len f) f (fields_none r.number r.region.len f)) (arenas_none (behind || sealed_in f == 0) (i + 1) rest fields)

-- a fault is told exactly where the log's mount told one
counts_log : (names : List (List ℕ)) (layout : List ArenaRegion) (fields : List (List ℕ)) (why : LogBad) (old new : List ℕ) → RefusesLogMount names layout fields why
    → MatchBool (is_log_fault why) (OneHasRisen old new) (new ≡ old) → CountsRefusal (of_log layout why) old new
counts_log names layout fields log_bad.Fault old new refuses it = it
counts_log names layout fields log_bad.NoMemory old new refuses it = it
counts_log names layout fields (log_bad.Order i clumps) old new refuses it = it
counts_log names layout fields (log_bad.Arena i arena_bad.Fault) old new refuses it = absurd (subst NoFaultLog refuses.1 (arenas_none false 0 layout fields))
counts_log names layout fields (log_bad.Arena i arena_bad.NotFormatted) old new refuses it = it
counts_log names layout fields (log_bad.Arena i (arena_bad.Torn field found want)) old new refuses it = it
counts_log names layout fields (log_bad.Arena i arena_bad.NoMemory) old new refuses it = it
counts_log names layout fields (log_bad.Part (part_bad.DuplicateName first second)) old new refuses it = it
counts_log names layout fields (log_bad.Part part_bad.Fault) old new refuses it = absurd refuses
counts_log names layout fields (log_bad.Part (part_bad.TooSmall len need)) old new refuses it = absurd refuses
counts_log names layout fields (log_bad.Part part_bad.NotFormatted) old new refuses it = absurd refuses
counts_log names layout fields (log_bad.Part (part_bad.Torn field found want)) old new refuses it = absurd refuses
counts_log names layout fields (log_bad.Part part_bad.NoMemory) old new refuses it = absurd refuses

module _ {D : Type 0} (score : List ℕ → List ℕ) (disk : DiskOf D) (tables : List Table) (before devices : List D) (filter : Option D) (sizes : Sizes) (sessions : ℕ) where
  abbrev pd : PerDevice D
  pd = with_log before devices filter

  still : (after : List D) → HoldTheSame disk before after → AreHeld disk pd (with_log after devices filter)
  still after held = record { partitions = held; sections = hold_still disk devices; filter = hold_still disk (option_to_list filter) }

  -- more arenas than there may be
  pub arenas_mount : (bad : MountBad) (back : Devices D) → devices_in back ≡ pd → tables_in back ≡ tables
      → PassesOrRefuses Arenas 4096 0 (map (λ t. t.count) tables) (Err bad) → IsMountOf score disk tables pd sizes sessions (Err (bad, back))
  arenas_mount bad back is are it =
      let first : 0 + it.0 ≡ it.0 = omega arith in
      let same : bad ≡ Disagree it.0 Arenas (arena_count tables) 4096 =
      it.2 ∙ ap (λ (p : ℕ). Disagree p Arenas (sum (map (λ t. t.count) tables)) 4096) first ∙ ap (λ (n : ℕ). Disagree it.0 Arenas n 4096) (count_same tables) in
      held_mount score disk tables pd pd bad back sizes sessions is are (still before (hold_still disk before))
      (λ c setup. inr (inr (inr (inr (inr (inl (inl (it.0, it.1, same))))))))
      (subst (λ (b : MountBad). CountsRefusal b (map disk.faults (all_of pd)) (map disk.faults (all_of pd))) (sym same) refl)
      (λ c h g base tells of limits.
      absurd (omega (arith, limits.arenas, it.1.past, sum_by-take-le (λ n. n) (map (λ t. t.count) tables) (it.0 + 1), count_same tables)))

  -- the log is refused
  pub log_mount : (after : List D) (why : LogBad) (back : Devices D) → devices_in back ≡ with_log after devices filter → tables_in back ≡ tables
      → (fields : List (List ℕ)) → (IsTrue disk.tells → AreReadAt (layout_of tables) (map disk.bytes before) fields)
      → RefusesLogMount (map (λ t. t.name) tables) (layout_of tables) fields why → HoldTheSame disk before after
      → MatchBool (is_log_fault why) (OneHasRisen (map disk.faults before) (map disk.faults after)) (map disk.faults after ≡ map disk.faults before)
      → ((g : History) (base : ℕ) → IsTrue disk.tells → AreDistinct (map (λ t. t.name) tables) → IsLog score (layout_of tables) (map disk.bytes before) g base
      → (why ≡ log_bad.Fault) ⊎ (why ≡ log_bad.NoMemory))
      → IsMountOf score disk tables pd sizes sessions (Err (of_log (layout_of tables) why, back))
  log_mount after why back is are fields read refuses held counts found =
      let f = disk.faults in
      let rest = devices ++ option_to_list filter in
      let bad = of_log (layout_of tables) why in
      let told : CountsRefusal bad (map f before ++ map f rest) (map f after ++ map f rest) =
      counts_more bad (map f rest) (map f before) (map f after) (counts_log (map (λ t. t.name) tables) (layout_of tables) fields why (map f before) (map f after) refuses counts) in
      let here : map f before ++ map f rest ≡ map f (before ++ devices ++ option_to_list filter) = sym (map-append f before rest) ∙ ap (map f) (sym (append_assoc before devices (option_to_list filter))) in
      let there : map f after ++ map f rest ≡ map f (after ++ devices ++ option_to_list filter) = sym (map-append f after rest) ∙ ap (map f) (sym (append_assoc after devices (option_to_list filter))) in
      held_mount score disk tables pd (with_log after devices filter) bad back sizes sessions is are (still after held)
      (λ c setup. inr (inr (inl (record { why = why; bad_is = refl; fields = fields; read = read; refuses = refuses }))))
      (subst (λ (l : List ℕ). CountsRefusal bad l (map f (after ++ devices ++ option_to_list filter))) here (subst (λ (l : List ℕ). CountsRefusal bad (map f before ++ map f rest) l) there told))
      (λ c h g base tells of limits. ⊎_elim
      (λ fault. inl (ap (of_log (layout_of tables)) fault))
      (λ memory. inr (ap (of_log (layout_of tables)) memory))
      (found g base tells limits.names of.read))

-- what is known of a log that was just mounted
pub log_given : {D : Type 0} (score : List ℕ → List ℕ) (disk : DiskOf D) (parts : List (Part D)) (sections : List D) (filter : Option D) (log : LogState D)
    → IsWholeLog disk log → IsMountedLog log → log.layout ≡ layout_of (tables_of parts) → (same : log.tables ≡ tables_of parts) → arena_count (tables_of parts) ≤ 4096
    → (fields : List (List ℕ)) → (IsTrue disk.tells → AreReadAt (layout_of (tables_of parts)) (map disk.bytes (disks_of parts)) fields)
    → IsMountedBy (names_of parts) (layout_of (tables_of parts)) fields log
    → ((g : History) (base : ℕ) → IsTrue disk.tells → AreDistinct (names_of parts) → IsLog score (layout_of (tables_of parts)) (map disk.bytes (disks_of parts)) g base
    → IsSoundLog score disk log g × (log.base ≡ base) × (log.durable ≡ length g))
    → HoldTheSame disk (disks_of parts) log.disks → All (IsSynced disk) log.disks → map disk.faults log.disks ≡ map disk.faults (disks_of parts)
    → (IsTrue disk.tells → sum_by disk.calls log.disks ≤ sum_by disk.calls (disks_of parts) + length parts + reads_to_find_all (layout_of (tables_of parts)) fields)
    → IsLogFound score disk (disks_of parts) sections filter log
log_given score disk parts sections filter log whole mounted layout same few fields read by_ found held settled faults most =
    let read_it : IsLogRead disk log.tables (with_log (disks_of parts) sections filter) log = record {
      fields = fields;
      read = subst (λ (t : List Table). IsTrue disk.tells → AreReadAt (layout_of t) (map disk.bytes (disks_of parts)) fields) (sym same) read;
      mounted = subst (λ (t : List Table). IsMountedBy (map (λ t. t.name) t) (layout_of t) fields log) (sym same)
          (subst (λ (n : List (List ℕ)). IsMountedBy n (layout_of (tables_of parts)) fields log) (names_same parts) by_);
    } in
    record {
      whole = whole;
      mounted = mounted;
      layout = layout ∙ ap layout_of (sym same);
      arenas = subst (λ (t : List Table). arena_count t ≤ 4096) (sym same) few;
      read = read_it;
      found = λ g base tells is. found g base tells by_.distinct
          (subst (λ (t : List Table). IsLog score (layout_of t) (map disk.bytes (disks_of parts)) g base) same is);
      held = held;
      settled = settled;
      faults = faults;
      calls = λ tells. omega (arith, most tells, length-map parts (λ part. disk_of part), ap (λ (t : List Table). reads_to_find_all (layout_of t) fields) same);
    }
