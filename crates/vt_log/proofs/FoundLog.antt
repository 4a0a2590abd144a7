-- A log that was found.
use Rattle.std.proofs.Common.{◌≡◌, ◌≢◌, ◌⊎◌, ⊎_elim, inl, inr, ℕ, zero, suc, ◌+◌, ◌^◌, ◌<◌, ◌≤◌, ◌==◌, ◌||◌, Bool, true, false, cond, List, [], ◌∷◌, ◌++◌, length, get_or, map, take, drop, refl, sym, ◌∙◌, ap, subst, arith, append-nil, length-append, Some, None, Option, option_map, IsTrue}
use Rattle.std.specs.Prelude.{All, AllPairs, IsFalse, MatchBool, slice_get, slice_index, sum_by, filter}
use Rattle.std.proofs.lemmas.Bool.Decides.{nat_tests, eqb_tells}
use Rattle.std.proofs.lemmas.List.{length-map, take_all, drop_all}
use Rattle.std.proofs.lemmas.List.Elements.{All-weaker, All-nil, All-cons, All-head, All-tail, All-append, All-map}
use Rattle.std.proofs.lemmas.List.Sums.{sum_by-cons}
use Rattle.std.proofs.lemmas.Option.{slice_get-map, slice_get_cases, same_Some}
use Rattle.vt_disk.specs.Members.{DiskOf}
use Rattle.vt_disk.specs.declared.region.Region.{Region}
use Rattle.vt_disk.specs.Calls.{IsSynced}
use Rattle.vt_disk.specs.Region.{region_bytes}
use Rattle.vt_clump.specs.Clumps.{stored_of}
use Rattle.vt_clump.specs.Spelling.{Stored}
use Rattle.vt_model.specs.History.{Accepted, History}
use Rattle.vt_model.specs.Places.{lengths_in}
use Rattle.vt_model.proofs.Prefixes.{lengths_in-append}
use Rattle.vt_part.specs.declared.error.PartBad.TheVariants.{Fault as PartFault, TooSmall, NotFormatted as PartNotFormatted, Torn as PartTorn, DuplicateName, NoMemory as PartNoMemory}
use Rattle.vt_part.specs.declared.layout.ArenaRegion.{ArenaRegion}
use Rattle.vt_part.specs.declared.part.Part.{Part}
use Rattle.vt_part.specs.Laws.{IsArenaOfTable, IsBefore}
use Rattle.vt_part.specs.Layout.{AreDistinct, layout_of, arena_region}
use Rattle.vt_part.specs.Parts.{disk_of, table_of, tables_of}
use Rattle.vt_part.specs.Table.{Table, IsTable, arenas_end, is_arena_size}
use Rattle.vt_part.proofs.Layouts.{arenas_are_aligned, arenas_follow, layouts_have_arenas, layouts_have_lengths, layouts_are_in_order}
use Rattle.vt_arena.specs.declared.error.ArenaBad.{ArenaBad}
use Rattle.vt_arena.specs.declared.error.ArenaBad.TheVariants.{Torn}
use Rattle.vt_arena.specs.declared.error.Field.TheVariants.{Sealed}
use Rattle.vt_arena.specs.declared.head.ArenaHead.{ArenaHead}
use Rattle.vt_arena.specs.declared.head.Found.{Found}
use Rattle.vt_arena.specs.Arena.{ArenaState, fresh_arena, is_committing, version_counted}
use Rattle.vt_arena.specs.Faults.{first_bad_head, read_at, CanStand}
use Rattle.vt_arena.specs.Heads.{fields_of, flag_of, own_fields, sealed_in, clump_count_in}
use Rattle.vt_arena.specs.Layout.{Content, IsArena, arena_head}
use Rattle.vt_arena.specs.Places.{IsArenaLen, IsVersion, bad_last, block_room, lengths_of}
use Rattle.vt_arena.specs.Sound.{IsRegion, IsSettled, IsSoundArena}
use Rattle.vt_arena.proofs.ArenaFound.{arena_reads}
use Rattle.vt_arena.proofs.Finds.{own_clumps}
use Rattle.vt_arena.proofs.Fresh.{fresh_sound}
use Rattle.vt_arena.proofs.Unique.{read_clumps}
use Rattle.vt_log.specs.declared.error.LogBad.{LogBad}
use Rattle.vt_log.specs.declared.error.LogBad.TheVariants.{Part as PartRefused, Arena, Order, Fault, NoMemory}
use Rattle.vt_log.specs.Answers.{HoldTheSame}
use Rattle.vt_log.specs.Faults.{AreReadAt, RefusesLogMount, IsMountedBy, bad_arena, first_of_two, first_bad_log}
use Rattle.vt_log.specs.Log.{LogState, IsMountedLog, disks_of, filled_as, found_filling}
use Rattle.vt_log.specs.Logs.{accepted_in, blocks_from, IsSealed, IsUntouched, InOrder, IsLog, arena_count}
use Rattle.vt_log.specs.Mounting.{OnlyReadsParts, AreFound, ArePassed, IsFoundArena, IsFirstOpen, IsRoomFor, found_log}
use Rattle.vt_log.specs.Sound.{IsArenaAt, IsSplit, IsFilledBy, IsSoundLog}
use Rattle.vt_log.specs.Whole.{IsOnDisk, IsWholeLog}
use Rattle.vt_log.proofs.IsSplit.{split_order, blocks_arenas, last_arena_le}
use Rattle.vt_log.proofs.AreFound.{fields_of_all, on_held, sealed_read}
use Rattle.vt_log.proofs.Versions.{used_counted, version_there}
use Rattle.vt_log.proofs.Lists.{slice_get_other, at_slice}

-- ---- the regions

pub arena_len : (n : ℕ) → IsTrue (is_arena_size n) → IsArenaLen n
arena_len n is =
    let least : 32768 ≤ n = grind (arith, nat_tests) in
    let most : n ≤ 1073741824 = grind (arith, nat_tests) in
    (least, most)

-- an arena may have the region that a table gives it
pub region_fits : (size : ℕ) (t : Table) (number : ℕ) → IsTable t → number < t.count → arenas_end t ≤ size → IsRegion (arena_region t number) size
region_fits size t number table less room = record {
  within = omega (arith, room, arenas_follow t number t.count less);
  aligned = (arenas_are_aligned t number table).0;
  len = arena_len t.arena_size table.arena_size;
}

-- each arena lies on its partition's disk, which has room for all of them
pub regions_on : {D : Type 0} (disk : DiskOf D) (ps : List (Part D)) → All (λ part. arenas_end (table_of part) ≤ disk.size (disk_of part)) ps
    → All (IsOnDisk disk (disks_of ps)) (layout_of (tables_of ps))
regions_on {D = D} disk ps rooms =
    All-weaker (IsArenaOfTable (tables_of ps)) (IsOnDisk disk (disks_of ps)) here (layout_of (tables_of ps)) (layouts_have_arenas (tables_of ps))
  where
    here : (r : ArenaRegion) → IsArenaOfTable (tables_of ps) r → IsOnDisk disk (disks_of ps) r
    here r is =
        let t : Table = is.0 in
        let p = slice_get_other ps (tables_of ps) r.part t (length-map ps (λ (part : Part D). table_of part)) is.1 in
        let table_is : table_of p.0 ≡ t = same_Some (table_of p.0) t (sym (slice_get-map (λ (part : Part D). table_of part) ps r.part ∙ ap (option_map (λ (part : Part D). table_of part)) p.1) ∙ is.1) in
        let allowed : IsTable t = subst IsTable table_is p.0.head.allowed in
        let room : arenas_end t ≤ disk.size (disk_of p.0) = subst (λ (u : Table). arenas_end u ≤ disk.size (disk_of p.0)) table_is (at_slice (λ (part : Part D). arenas_end (table_of part) ≤ disk.size (disk_of part)) ps r.part p.0 rooms p.1) in
        record {
          device = disk_of p.0;
          has = slice_get-map (λ (part : Part D). disk_of part) ps r.part ∙ ap (option_map (λ (part : Part D). disk_of part)) p.1;
          region = subst (λ (x : ArenaRegion). IsRegion x.region (disk.size (disk_of p.0))) (sym is.3) (region_fits (disk.size (disk_of p.0)) t r.number allowed is.2 room);
        }

-- an arena's number is small
pub numbers_small : {D : Type 0} (ps : List (Part D)) → All (λ r. r.number < 2 ^ 32) (layout_of (tables_of ps))
numbers_small {D = D} ps =
    All-weaker (IsArenaOfTable (tables_of ps)) (λ (r : ArenaRegion). r.number < 2 ^ 32) here (layout_of (tables_of ps)) (layouts_have_arenas (tables_of ps))
  where
    here : (r : ArenaRegion) → IsArenaOfTable (tables_of ps) r → r.number < 2 ^ 32
    here r is =
        let t : Table = is.0 in
        let p = slice_get_other ps (tables_of ps) r.part t (length-map ps (λ (part : Part D). table_of part)) is.1 in
        let table_is : table_of p.0 ≡ t = same_Some (table_of p.0) t (sym (slice_get-map (λ (part : Part D). table_of part) ps r.part ∙ ap (option_map (λ (part : Part D). table_of part)) p.1) ∙ is.1) in
        let allowed : IsTable t = subst IsTable table_is p.0.head.allowed in
        omega (arith, is.2, allowed.count)

-- ---- in memory

two_none : (a b : Option LogBad) → first_of_two a b ≡ None → (a ≡ None) × (b ≡ None)
two_none None b is = (refl, is)
two_none (Some bad) b is = absurd (cc)

order_none : (arena clumps : ℕ) (none unsealed : Bool) (it : ArenaBad) → cond none (cond unsealed None (Some (Arena arena it))) (Some (Order arena clumps)) ≡ None → unsealed ≡ true
order_none arena clumps true true it is = refl
order_none arena clumps true false it is = absurd (cc)
order_none arena clumps false unsealed it is = absurd (cc)

flag_zero : (b : Bool) → (flag_of b == 0) ≡ true → b ≡ false
flag_zero true is = cc
flag_zero false is = refl

zero_flag : (b : Bool) → b ≡ false → (flag_of b == 0) ≡ true
zero_flag true is = cc
zero_flag false is = refl

behind_none : (i : ℕ) (o : Option ArenaBad) (h : ArenaHead) (f : List ℕ) → fields_of h ≡ own_fields f → bad_arena true i o f ≡ None → h.sealed ≡ false
behind_none i (Some bad) h f spelled is = absurd (cc)
behind_none i None h f spelled is =
    flag_zero h.sealed (ap (λ (n : ℕ). n == 0) (sym (sealed_read h f spelled)) ∙ order_none i (clump_count_in f) (clump_count_in f == 0) (sealed_in f == 0) _ is)

-- what is read of the first arena, and of those behind it
first_spelled : (h : Found) (hs : List Found) (f : List ℕ) (fs : List (List ℕ)) → fields_of_all (h ∷ hs) ≡ map own_fields (f ∷ fs) → fields_of h.head ≡ own_fields f
first_spelled h hs f fs is = cc

rest_spelled : (h : Found) (hs : List Found) (f : List ℕ) (fs : List (List ℕ)) → fields_of_all (h ∷ hs) ≡ map own_fields (f ∷ fs) → fields_of_all hs ≡ map own_fields fs
rest_spelled h hs f fs is = cc

-- behind an unsealed arena none is sealed
open_behind : (behind : Bool) (i : ℕ) (layout : List ArenaRegion) (heads : List Found) (fields : List (List ℕ)) → behind ≡ true → length heads ≡ length layout → fields_of_all heads ≡ map own_fields fields
    → first_bad_log behind i layout fields ≡ None → (k : ℕ) (found : Found) → slice_get heads k ≡ Some found → found.head.sealed ≡ false
open_behind behind i layout [] fields is many spelled none k found at = absurd (cc)
open_behind behind i [] (h ∷ hs) fields is many spelled none k found at = absurd (omega (arith, many))
open_behind behind i (r ∷ rs) (h ∷ hs) [] is many spelled none k found at = absurd (cc)
open_behind behind i (r ∷ rs) (h ∷ hs) (f ∷ fs) is many spelled none zero found at =
    let both = two_none (bad_arena behind i (first_bad_head r.number r.region.len f) f) _ none in
    let same : h ≡ found = same_Some h found at in
    subst (λ (x : Found). x.head.sealed ≡ false) same
    (behind_none i (first_bad_head r.number r.region.len f) h.head f (first_spelled h hs f fs spelled)
    (subst (λ (b : Bool). bad_arena b i (first_bad_head r.number r.region.len f) f ≡ None) is both.0))
open_behind behind i (r ∷ rs) (h ∷ hs) (f ∷ fs) is many spelled none (suc k) found at =
    let both = two_none (bad_arena behind i (first_bad_head r.number r.region.len f) f) _ none in
    open_behind (behind || sealed_in f == 0) (i + 1) rs hs fs (ap (λ (b : Bool). b || sealed_in f == 0) is) (omega (arith, many)) (rest_spelled h hs f fs spelled) both.1 k found at

first_rest : (h : Found) (hs : List Found) (base : ℕ) → IsFirstOpen (h ∷ hs) (suc base) → IsFirstOpen hs base
first_rest h hs base first = record {
  before = All-tail (λ (found : Found). found.head.sealed ≡ true) h (take base hs) first.before;
  at = λ found at. first.at found at;
  most = omega (arith, first.most);
}

or_true : (a b : Bool) → b ≡ true → (a || b) ≡ true
or_true true b is = refl
or_true false b is = is

-- from the first unsealed arena on none is sealed
unsealed_from : (behind : Bool) (i : ℕ) (layout : List ArenaRegion) (heads : List Found) (fields : List (List ℕ)) (base : ℕ) → length heads ≡ length layout → fields_of_all heads ≡ map own_fields fields
    → first_bad_log behind i layout fields ≡ None → IsFirstOpen heads base
    → (k : ℕ) (found : Found) → base ≤ k → slice_get heads k ≡ Some found → found.head.sealed ≡ false
unsealed_from behind i layout [] fields base many spelled none first k found least at = absurd (cc)
unsealed_from behind i [] (h ∷ hs) fields base many spelled none first k found least at = absurd (omega (arith, many))
unsealed_from behind i (r ∷ rs) (h ∷ hs) [] base many spelled none first k found least at = absurd (cc)
unsealed_from behind i (r ∷ rs) (h ∷ hs) (f ∷ fs) zero many spelled none first zero found least at = first.at found at
unsealed_from behind i (r ∷ rs) (h ∷ hs) (f ∷ fs) zero many spelled none first (suc k) found least at =
    let both = two_none (bad_arena behind i (first_bad_head r.number r.region.len f) f) _ none in
    let flag : (sealed_in f == 0) ≡ true = ap (λ (n : ℕ). n == 0) (sealed_read h.head f (first_spelled h hs f fs spelled)) ∙ zero_flag h.head.sealed (first.at h refl) in
    open_behind (behind || sealed_in f == 0) (i + 1) rs hs fs (or_true behind (sealed_in f == 0) flag) (omega (arith, many)) (rest_spelled h hs f fs spelled) both.1 k found at
unsealed_from behind i (r ∷ rs) (h ∷ hs) (f ∷ fs) (suc base) many spelled none first zero found least at = absurd (omega (arith, least))
unsealed_from behind i (r ∷ rs) (h ∷ hs) (f ∷ fs) (suc base) many spelled none first (suc k) found least at =
    let both = two_none (bad_arena behind i (first_bad_head r.number r.region.len f) f) _ none in
    unsealed_from (behind || sealed_in f == 0) (i + 1) rs hs fs base (omega (arith, many)) (rest_spelled h hs f fs spelled) both.1 (first_rest h hs base first) k found (omega (arith, least)) at

-- what is known of a log that was found
pub record IsFoundLog {D : Type 0} (disk : DiskOf D) (disks : List D) (tables : List Table) (layout : List ArenaRegion) (files : List (List ℕ)) (fields : List (List ℕ))
    (heads : List Found) (base : ℕ) (arena : ArenaState) : Type 0 where
  pub many_disks : length disks ≡ length tables
  pub layout_is : layout ≡ layout_of tables
  pub regions : All (IsOnDisk disk disks) layout
  pub few : length layout < 2 ^ 32
  pub files_are : map disk.bytes disks ≡ files
  pub found : AreFound disk.tells layout files heads
  pub passed : ArePassed layout fields heads
  pub first : IsFirstOpen heads base
  pub room : IsRoomFor layout heads base arena

module _ {D : Type 0} (disk : DiskOf D) (disks : List D) (tables : List Table) (layout : List ArenaRegion) (files : List (List ℕ)) (fields : List (List ℕ))
    (heads : List Found) (base : ℕ) (arena : ArenaState) (is : IsFoundLog disk disks tables layout files fields heads base arena) where
  file_of : (r : ArenaRegion) → IsOnDisk disk disks r → (file : List ℕ) × (slice_get files r.part ≡ Some file)
  file_of r on = (disk.bytes on.device, ap (λ (fs : List (List ℕ)). slice_get fs r.part) (sym is.files_are) ∙ slice_get-map disk.bytes disks r.part ∙ ap (option_map disk.bytes) on.has)

  it_stands : (i : ℕ) (r : ArenaRegion) (found : Found) → slice_get layout i ≡ Some r → slice_get heads i ≡ Some found → CanStand r.number r.region.len found.head
  it_stands i r found at at_found =
      let file = file_of r (at_slice (IsOnDisk disk disks) layout i r is.regions at) in
      (is.found.each i r file.0 found at file.1 at_found).stands

  -- the arena in memory has an unsealed head
  room_open : is.room.head.sealed ≡ false
  room_open = ⊎_elim
      (λ (it : (x : Found) × (base < length heads) × (slice_get heads base ≡ Some x) × (get_or heads base x ≡ x)).
      let r = slice_get_other layout heads base it.0 is.found.many it.2 in
      ap (λ (h : ArenaHead). h.sealed) (is.room.there r.0 it.0 r.1 it.2).2 ∙ is.first.at it.0 it.2)
      (λ (past : (length heads ≤ base) × (slice_get heads base ≡ None)). (is.room.past (omega (arith, past.0, is.found.many))).0)
      (slice_get_cases heads base).1

  pub found_whole : IsWholeLog disk (found_log disks tables layout heads base arena)
  found_whole = subst (λ (a : ArenaState). IsWholeLog disk (found_log disks tables layout heads base a)) (sym is.room.fresh) (record {
    many_disks = is.many_disks;
    layout = is.layout_is;
    regions = is.regions;
    apart = subst (AllPairs IsBefore) (sym is.layout_is) (layouts_are_in_order tables);
    few = is.few;
    many = is.found.many;
    heads = λ i r found at at_found.
        let stands = it_stands i r found at at_found in
        record { number = stands.number_is; version = stands.version; last = stands.last; fit = stands.fit };
    versions = refl;
    unsealed = unsealed_from false 0 layout heads fields base is.found.many is.passed.heads_are is.passed.passed is.first;
    base = omega arith;
    committing = omega (arith, is.first.most, is.found.many);
    arena = λ r found at at_found.
        let it = is.room.there r found at at_found in
        let stands = it_stands base r found at at_found in
        record {
          len = it.0;
          number = ap (λ (h : ArenaHead). h.number) it.2 ∙ stands.number_is;
          head = it.2;
          counted = ap version_counted it.2;
          version = subst (λ (h : ArenaHead). IsVersion h.version) (sym it.2) stands.version;
          last = subst (λ (h : ArenaHead). h.version ≡ 2 → bad_last h.clumps h.used h.last ≡ None) (sym it.2) stands.last;
        };
    none = λ past. (refl, room_open);
    number = refl;
    clumps = omega arith;
    runs = λ _. refl;
    some = λ committing none. absurd (cc);
    way = λ sealed. absurd (cc (sealed, room_open));
    queue = refl;
    places = refl;
    most = omega arith;
    durable = refl;
  })

  pub mounted_by : (names : List (List ℕ)) → AreDistinct names → IsMountedBy names layout fields (found_log disks tables layout heads base arena)
  mounted_by names distinct = record {
    distinct = distinct;
    passed = is.passed.passed;
    heads = is.passed.heads_are;
    before = is.first.before;
    base = is.first.at;
    most = omega (arith, is.first.most, is.found.many);
  }

  pub filling_is : filled_as base arena.head ≡ found_filling heads base
  filling_is = ap (λ (a : ArenaState). filled_as base a.head) is.room.fresh ∙ ⊎_elim
      (λ (it : (x : Found) × (base < length heads) × (slice_get heads base ≡ Some x) × (get_or heads base x ≡ x)).
      let r = slice_get_other layout heads base it.0 is.found.many it.2 in
      rw it.2 (ap (filled_as base) (is.room.there r.0 it.0 r.1 it.2).2))
      (λ (past : (length heads ≤ base) × (slice_get heads base ≡ None)).
      let none = is.room.past (omega (arith, past.0, is.found.many)) in
      rw past.1 (λ j. record { arena = base; used = none.1 j; clumps = none.2 j }))
      (slice_get_cases heads base).1

-- ---- what the disks hold

-- each block is in one of the arenas
blocks_within : (k : ℕ) (contents : List Content) → All (λ e. (k ≤ e.arena) × (e.arena < k + length contents)) (blocks_from k contents)
blocks_within k [] = All-nil (λ (e : Accepted). (k ≤ e.arena) × (e.arena < k + 0))
blocks_within k (a ∷ rest) =
    All-append (λ (e : Accepted). (k ≤ e.arena) × (e.arena < k + length (a ∷ rest))) (map (accepted_in k) a.stored) (blocks_from (k + 1) rest)
    (All-map (λ (e : Accepted). (k ≤ e.arena) × (e.arena < k + length (a ∷ rest))) (accepted_in k) a.stored (λ i s below. (omega arith, omega arith)))
    (All-weaker (λ (e : Accepted). (k + 1 ≤ e.arena) × (e.arena < k + 1 + length rest)) (λ (e : Accepted). (k ≤ e.arena) × (e.arena < k + length (a ∷ rest)))
    (λ e at. (omega (arith, at.0), omega (arith, at.1))) (blocks_from (k + 1) rest) (blocks_within (k + 1) rest))

lengths_other : (a : ℕ) (h : History) → All (λ e. e.arena ≢ a) h → lengths_in a h ≡ []
lengths_other a [] all = refl
lengths_other a (e ∷ h) all =
    let rest : List Accepted = filter (λ (e : Accepted). e.arena == a) h in
    let other : (e.arena == a) ≡ false = ⊎_elim (λ (t : ((e.arena == a) ≡ true) × (e.arena ≡ a)). absurd (All-head (λ (e : Accepted). e.arena ≢ a) e h all t.1))
    (λ (t : ((e.arena == a) ≡ false) × (e.arena ≢ a)). t.0) (eqb_tells e.arena a) in
    ap (λ (b : Bool). map (λ (e : Accepted). length e.block.bytes) (cond b (e ∷ rest) rest)) other
    ∙ lengths_other a h (All-tail (λ (e : Accepted). e.arena ≢ a) e h all)

lengths_here : (k : ℕ) (stored : List Stored) → lengths_in k (map (accepted_in k) stored) ≡ lengths_of stored
lengths_here k [] = refl
lengths_here k (s ∷ stored) =
    let rest : List Accepted = filter (λ (e : Accepted). e.arena == k) (map (accepted_in k) stored) in
    let here : (k == k) ≡ true = ⊎_elim (λ (t : ((k == k) ≡ true) × (k ≡ k)). t.0) (λ (t : ((k == k) ≡ false) × (k ≢ k)). absurd (t.1 refl)) (eqb_tells k k) in
    ap (λ (b : Bool). map (λ (e : Accepted). length e.block.bytes) (cond b (accepted_in k s ∷ rest) rest)) here
    ∙ ap (λ (ls : List ℕ). length s.block ∷ ls) (lengths_here k stored)

-- the blocks of one arena
lengths_at : (k i : ℕ) (contents : List Content) (a : Content) → slice_get contents i ≡ Some a → lengths_in (k + i) (blocks_from k contents) ≡ lengths_of a.stored
lengths_at k i [] a at = absurd (cc)
lengths_at k zero (x ∷ rest) a at =
    let same : x ≡ a = same_Some x a at in
    ap (λ (j : ℕ). lengths_in j (map (accepted_in k) x.stored ++ blocks_from (k + 1) rest)) (let e : k + 0 ≡ k = omega arith in e)
    ∙ lengths_in-append k (map (accepted_in k) x.stored) (blocks_from (k + 1) rest)
    ∙ (λ j. lengths_here k x.stored j ++ lengths_other k (blocks_from (k + 1) rest)
    (All-weaker (λ (e : Accepted). (k + 1 ≤ e.arena) × (e.arena < k + 1 + length rest)) (λ (e : Accepted). e.arena ≢ k) (λ e at is. absurd (omega (arith, at.0, is))) (blocks_from (k + 1) rest) (blocks_within (k + 1) rest)) j)
    ∙ append-nil (lengths_of x.stored)
    ∙ ap (λ (c : Content). lengths_of c.stored) same
lengths_at k (suc i) (x ∷ rest) a at =
    lengths_in-append (k + suc i) (map (accepted_in k) x.stored) (blocks_from (k + 1) rest)
    ∙ (λ j. lengths_other (k + suc i) (map (accepted_in k) x.stored) (All-map (λ (e : Accepted). e.arena ≢ k + suc i) (accepted_in k) x.stored (λ n s below is. absurd (omega (arith, is)))) j
    ++ lengths_in (k + suc i) (blocks_from (k + 1) rest))
    ∙ ap (λ (j : ℕ). lengths_in j (blocks_from (k + 1) rest)) (let e : k + suc i ≡ k + 1 + i = omega arith in e)
    ∙ lengths_at (k + 1) i rest a at

lengths_past : (i : ℕ) (contents : List Content) → length contents ≤ i → lengths_in i (blocks_from 0 contents) ≡ []
lengths_past i contents past =
    lengths_other i (blocks_from 0 contents)
    (All-weaker (λ (e : Accepted). (0 ≤ e.arena) × (e.arena < 0 + length contents)) (λ (e : Accepted). e.arena ≢ i) (λ e at is. absurd (omega (arith, at.1, is, past))) (blocks_from 0 contents) (blocks_within 0 contents))

-- how many blocks there are
blocks_count : (k : ℕ) (contents : List Content) (heads : List Found) → length heads ≡ length contents
    → ((i : ℕ) (found : Found) (a : Content) → slice_get heads i ≡ Some found → slice_get contents i ≡ Some a → found.head.clumps ≡ length a.stored)
    → sum_by (λ found. found.head.clumps) heads ≡ length (blocks_from k contents)
blocks_count k [] [] many same = refl
blocks_count k [] (h ∷ hs) many same = absurd (omega (arith, many))
blocks_count k (a ∷ rest) [] many same = absurd (omega (arith, many))
blocks_count k (a ∷ rest) (h ∷ hs) many same =
    sum_by-cons (λ (found : Found). found.head.clumps) h hs
    ∙ (λ j. (same 0 h a refl refl ∙ sym (length-map a.stored (accepted_in k))) j + blocks_count (k + 1) rest hs (omega (arith, many)) (λ i found b at has. same (suc i) found b at has) j)
    ∙ sym (length-append (map (accepted_in k) a.stored) (blocks_from (k + 1) rest))

-- the arenas before the first unsealed one
sealed_before : (base : ℕ) (contents : List Content) (heads : List Found) → length heads ≡ length contents
    → ((i : ℕ) (found : Found) (a : Content) → slice_get heads i ≡ Some found → slice_get contents i ≡ Some a → found.head.sealed ≡ a.sealed)
    → All (λ found. found.head.sealed ≡ true) (take base heads) → All IsSealed (take base contents)
sealed_before zero contents heads many same all = All-nil IsSealed
sealed_before (suc base) [] heads many same all = All-nil IsSealed
sealed_before (suc base) (a ∷ rest) [] many same all = absurd (omega (arith, many))
sealed_before (suc base) (a ∷ rest) (h ∷ hs) many same all =
    All-cons IsSealed a (take base rest) (sym (same 0 h a refl refl) ∙ All-head (λ (found : Found). found.head.sealed ≡ true) h (take base hs) all)
    (sealed_before base rest hs (omega (arith, many)) (λ i found b at has. same (suc i) found b at has) (All-tail (λ (found : Found). found.head.sealed ≡ true) h (take base hs) all))

-- and those behind it
order_behind : (c : ℕ) (contents : List Content) → InOrder contents → All IsSealed (take c contents) → ((a : Content) → slice_get contents c ≡ Some a → a.sealed ≡ false) → All IsUntouched (drop (c + 1) contents)
order_behind c [] order sealed unsealed = subst (All IsUntouched) (sym (drop_all (c + 1) [] (omega arith))) (All-nil IsUntouched)
order_behind zero (a ∷ rest) order sealed unsealed = subst (λ (b : Bool). MatchBool b (InOrder rest) (All IsUntouched rest)) (unsealed a refl) order
order_behind (suc c) (a ∷ rest) order sealed unsealed =
    let is : a.sealed ≡ true = All-head IsSealed a (take c rest) sealed in
    subst (All IsUntouched) (ap (λ (k : ℕ). drop k (a ∷ rest)) (let e : suc (c + 1) ≡ suc c + 1 = omega arith in e))
    (order_behind c rest (subst (λ (b : Bool). MatchBool b (InOrder rest) (All IsUntouched rest)) is order) (All-tail IsSealed a (take c rest) sealed) (λ b at. unsealed b at))

-- the log that is there is found
pub record IsFoundSound {D : Type 0} (score_of : List ℕ → List ℕ) (disk : DiskOf D) (l : LogState D) (h : History) (base : ℕ) : Type 0 where
  pub sound : IsSoundLog score_of disk l h
  pub base_is : l.base ≡ base
  pub durable_is : l.durable ≡ length h

module _ {D : Type 0} (disk : DiskOf D) (disks : List D) (tables : List Table) (layout : List ArenaRegion) (files : List (List ℕ)) (fields : List (List ℕ))
    (heads : List Found) (base : ℕ) (arena : ArenaState) (is : IsFoundLog disk disks tables layout files fields heads base arena) (score_of : List ℕ → List ℕ) (h : History) (first : ℕ)
    (told : IsTrue disk.tells) (settled : All (IsSynced disk) disks) (log : IsLog score_of layout files h first) where
  abbrev l : LogState D
  l = found_log disks tables layout heads base arena

  arena_at : (i : ℕ) (r : ArenaRegion) (device : D) (a : Content) → slice_get layout i ≡ Some r → slice_get disks r.part ≡ Some device → slice_get log.contents i ≡ Some a
      → IsArena score_of r.region r.number a (disk.bytes device)
  arena_at i r device a at disk_is has =
      let x = log.arenas.each i r a at has in
      let file : x.0 ≡ disk.bytes device = same_Some x.0 (disk.bytes device) (sym x.1 ∙ ap (λ (fs : List (List ℕ)). slice_get fs r.part) (sym is.files_are) ∙ slice_get-map disk.bytes disks r.part ∙ ap (option_map disk.bytes) disk_is) in
      subst (λ (f : List ℕ). IsArena score_of r.region r.number a f) file x.2

  settled_at : (i : ℕ) (device : D) (region : Region) → slice_get disks i ≡ Some device → IsSettled region (disk.bytes device) (disk.images device)
  settled_at i device region at c left = ap (λ (f : List ℕ). region_bytes region f) (at_slice (IsSynced disk) disks i device settled at told c left)

  found_at : (i : ℕ) (r : ArenaRegion) (device : D) (found : Found) → slice_get layout i ≡ Some r → slice_get disks r.part ≡ Some device → slice_get heads i ≡ Some found → IsFoundArena disk.tells r (disk.bytes device) found
  found_at i r device found at disk_is at_found =
      is.found.each i r (disk.bytes device) found at (ap (λ (fs : List (List ℕ)). slice_get fs r.part) (sym is.files_are) ∙ slice_get-map disk.bytes disks r.part ∙ ap (option_map disk.bytes) disk_is) at_found

  head_at : (i : ℕ) (r : ArenaRegion) (found : Found) (a : Content) → slice_get layout i ≡ Some r → slice_get heads i ≡ Some found → slice_get log.contents i ≡ Some a → found.head ≡ arena_head score_of r.number a
  head_at i r found a at at_found has =
      let on = at_slice (IsOnDisk disk disks) layout i r is.regions at in
      (found_at i r on.device found at on.has at_found).head score_of a told (arena_at i r on.device a at on.has has)

  many : length heads ≡ length log.contents
  many = is.found.many ∙ sym log.arenas.many

  same_sealed : (i : ℕ) (found : Found) (a : Content) → slice_get heads i ≡ Some found → slice_get log.contents i ≡ Some a → found.head.sealed ≡ a.sealed
  same_sealed i found a at has =
      let r = slice_get_other layout heads i found is.found.many at in
      ap (λ (h : ArenaHead). h.sealed) (head_at i r.0 found a r.1 at has)

  same_clumps : (i : ℕ) (found : Found) (a : Content) → slice_get heads i ≡ Some found → slice_get log.contents i ≡ Some a → found.head.clumps ≡ length a.stored
  same_clumps i found a at has =
      let r = slice_get_other layout heads i found is.found.many at in
      ap (λ (h : ArenaHead). h.clumps) (head_at i r.0 found a r.1 at has)

  current_open : (a : Content) → slice_get log.contents base ≡ Some a → a.sealed ≡ false
  current_open a has =
      let found = slice_get_other heads log.contents base a (sym many) has in
      sym (same_sealed base found.0 a found.1 has) ∙ is.first.at found.0 found.1

  split : IsSplit base log.contents
  split =
      let before = sealed_before base log.contents heads many same_sealed is.first.before in
      record { before = before; current = current_open; behind = order_behind base log.contents log.order before current_open }

  within : base ≤ length log.contents
  within = omega (arith, is.first.most, many)

  first_is : base ≡ first
  first_is = sym (split_order base log.contents split within).1 ∙ sym log.base_is

  count : sum_by (λ found. found.head.clumps) heads ≡ length h
  count = blocks_count 0 log.contents heads many same_clumps ∙ ap (λ (q : History). length q) (sym log.history)

  all_up_to : All (λ e. e.arena ≤ base) h
  all_up_to = subst (All (λ (e : Accepted). e.arena ≤ base)) (sym log.history)
      (All-weaker (λ (e : Accepted). e.arena ≤ 0 + base) (λ (e : Accepted). e.arena ≤ base) (λ e least. omega (arith, least)) (blocks_from 0 log.contents) (blocks_arenas 0 base log.contents split.behind))

  -- the room is that of the first unsealed arena
  current_sound : (r : ArenaRegion) (device : D) (a : Content) → IsArenaAt l base r device → slice_get log.contents base ≡ Some a → IsSoundArena score_of arena r.region a (disk.bytes device) (disk.images device)
  current_sound r device a at has =
      let found = slice_get_other heads layout base r (sym is.found.many) at.arena in
      let it = is.room.there r found.0 at.arena found.1 in
      let own = found_at base r device found.0 at.arena at.disk_is found.1 in
      let on = at_slice (IsOnDisk disk disks) layout base r is.regions at.arena in
      let disk_is : on.device ≡ device = same_Some on.device device (sym on.has ∙ at.disk_is) in
      let stand : CanStand r.number r.region.len is.room.head = subst (λ (h : ArenaHead). CanStand r.number r.region.len h) (sym it.2) own.stands in
      subst (λ (x : ArenaState). IsSoundArena score_of x r.region a (disk.bytes device) (disk.images device)) (sym is.room.fresh)
      (subst (λ (n : ℕ). IsSoundArena score_of (fresh_arena n is.room.current is.room.head) r.region a (disk.bytes device) (disk.images device)) (sym it.0)
      (fresh_sound score_of r.region (disk.size device) r.number is.room.current a is.room.head (disk.bytes device) (disk.images device)
      (subst (λ (d : D). IsRegion r.region (disk.size d)) disk_is on.region)
      (settled_at r.part device r.region at.disk_is) (arena_at base r device a at.arena at.disk_is has)
      (it.1 ∙ own.selector told) (it.2 ∙ head_at base r found.0 a at.arena found.1 has) stand))

  whole_found : IsWholeLog disk l
  whole_found = found_whole disk disks tables layout files fields heads base arena is

  filled : IsFilledBy (slice_index l.versions base) (lengths_in base h) (filled_as base arena.head)
  filled = subst (λ (x : ArenaState). IsFilledBy (slice_index l.versions base) (lengths_in base h) (filled_as base x.head)) (sym is.room.fresh) (⊎_elim
      (λ (it : (a : Content) × (base < length log.contents) × (slice_get log.contents base ≡ Some a) × (get_or log.contents base a ≡ a)).
      let found = slice_get_other heads log.contents base it.0 (sym many) it.2 in
      let r = slice_get_other layout heads base found.0 is.found.many found.1 in
      let head : is.room.head ≡ arena_head score_of r.0.number it.0 = (is.room.there r.0 found.0 r.1 found.1).2 ∙ head_at base r.0 found.0 it.0 r.1 found.1 it.2 in
      let lengths : lengths_in base h ≡ lengths_of it.0.stored = ap (lengths_in base) log.history ∙ ap (λ (j : ℕ). lengths_in j (blocks_from 0 log.contents)) (let e : base ≡ 0 + base = omega arith in e) ∙ lengths_at 0 base log.contents it.0 it.2 in
      record {
        used = ap (λ (x : ArenaHead). x.used) head ∙ sym (used_counted it.0)
            ∙ ap (λ (v : ℕ). sum_by (block_room v) (lengths_of it.0.stored))
            (sym (version_there disk l whole_found base found.0 found.1 ∙ ap version_counted (head_at base r.0 found.0 it.0 r.1 found.1 it.2)))
            ∙ ap (λ (ls : List ℕ). sum_by (block_room (slice_index l.versions base)) ls) (sym lengths);
        clumps = ap (λ (x : ArenaHead). x.clumps) head ∙ sym (length-map it.0.stored (λ (s : Stored). length s.block)) ∙ ap (λ (ls : List ℕ). length ls) (sym lengths);
      })
      (λ (past : (length log.contents ≤ base) × (slice_get log.contents base ≡ None)).
      let none = is.room.past (omega (arith, past.0, log.arenas.many)) in
      let lengths : lengths_in base h ≡ [] = ap (lengths_in base) log.history ∙ lengths_past base log.contents past.0 in
      record {
        used = none.1 ∙ ap (λ (ls : List ℕ). sum_by (block_room (slice_index l.versions base)) ls) (sym lengths);
        clumps = none.2 ∙ ap (λ (ls : List ℕ). length ls) (sym lengths);
      })
      (slice_get_cases log.contents base).1)

  pub found_sound : IsFoundSound score_of disk (found_log disks tables layout heads base arena) h first
  found_sound = record {
    sound = record {
      whole = whole_found;
      contents = log.contents;
      many = log.arenas.many;
      split = split;
      current = current_sound;
      others = λ i r device a other at has. (settled_at r.part device r.region at.disk_is, arena_at i r device a at.arena at.disk_is has);
      heads = head_at;
      selectors = λ i r device found behind at at_found. (found_at i r device found at.arena at.disk_is at_found).selector told;
      committed = take_all (sum_by (λ found. found.head.clumps) heads) h (omega (arith, count)) ∙ log.history;
      queued = drop_all (sum_by (λ found. found.head.clumps) heads) h (omega (arith, count)) ∙ sym (ap (λ (x : ArenaState). map (accepted_in base) (map stored_of x.staged) ++ []) is.room.fresh);
      front = omega (arith, count);
      packed = All-nil _;
      places = λ i place at. absurd (cc);
      filling = filled;
      last = omega (arith, last_arena_le base 0 h (omega arith) all_up_to);
      arenas = all_up_to;
    };
    base_is = first_is;
    durable_is = count;
  }

-- ---- no test fails on a log

-- what the fields of an arena tell, where it holds this
record AreOf (r : ArenaRegion) (f : List ℕ) (a : Content) : Type 0 where
  pub passes : first_bad_head r.number r.region.len f ≡ None
  pub sealed : sealed_in f ≡ flag_of a.sealed
  pub clumps : clump_count_in f ≡ length a.stored

no_order : (k : ℕ) (o : Option ArenaBad) (f : List ℕ) → o ≡ None → clump_count_in f ≡ 0 → sealed_in f ≡ 0 → bad_arena true k o f ≡ None
no_order k o f none clumps sealed =
    ap (λ (o : Option ArenaBad). bad_arena true k o f) none
    ∙ ap (λ (n : ℕ). cond (n == 0) (cond (sealed_in f == 0) None (Some (Arena k (Torn Sealed 1 0)))) (Some (Order k n))) clumps
    ∙ ap (λ (n : ℕ). cond (n == 0) None (Some (Arena k (Torn Sealed 1 0)))) sealed

passes_behind : (behind : Bool) (k : ℕ) (layout : List ArenaRegion) (fields : List (List ℕ)) (contents : List Content) → behind ≡ true → length contents ≡ length layout → length fields ≡ length layout
    → ((i : ℕ) (r : ArenaRegion) (f : List ℕ) (a : Content) → slice_get layout i ≡ Some r → slice_get fields i ≡ Some f → slice_get contents i ≡ Some a → AreOf r f a)
    → All IsUntouched contents → first_bad_log behind k layout fields ≡ None
passes_behind behind k [] fields contents is many many_fields each untouched = refl
passes_behind behind k (r ∷ rs) [] contents is many many_fields each untouched = refl
passes_behind behind k (r ∷ rs) (f ∷ fs) [] is many many_fields each untouched = absurd (omega (arith, many))
passes_behind behind k (r ∷ rs) (f ∷ fs) (a ∷ rest) is many many_fields each untouched =
    let of = each 0 r f a refl refl refl in
    let first = All-head IsUntouched a rest untouched in
    let none : bad_arena behind k (first_bad_head r.number r.region.len f) f ≡ None =
    ap (λ (b : Bool). bad_arena b k (first_bad_head r.number r.region.len f) f) is
    ∙ no_order k (first_bad_head r.number r.region.len f) f of.passes (of.clumps ∙ ap (λ (ss : List Stored). length ss) first.1) (of.sealed ∙ ap flag_of first.0) in
    ap (λ (o : Option LogBad). first_of_two o (first_bad_log (behind || sealed_in f == 0) (k + 1) rs fs)) none
    ∙ passes_behind (behind || sealed_in f == 0) (k + 1) rs fs rest (ap (λ (b : Bool). b || sealed_in f == 0) is) (omega (arith, many)) (omega (arith, many_fields))
    (λ i q g b at at_f has. each (suc i) q g b at at_f has) (All-tail IsUntouched a rest untouched)

passes_order : (behind : Bool) (k : ℕ) (layout : List ArenaRegion) (fields : List (List ℕ)) (contents : List Content) → behind ≡ false → length contents ≡ length layout → length fields ≡ length layout
    → ((i : ℕ) (r : ArenaRegion) (f : List ℕ) (a : Content) → slice_get layout i ≡ Some r → slice_get fields i ≡ Some f → slice_get contents i ≡ Some a → AreOf r f a)
    → InOrder contents → first_bad_log behind k layout fields ≡ None
passes_order behind k [] fields contents is many many_fields each order = refl
passes_order behind k (r ∷ rs) [] contents is many many_fields each order = refl
passes_order behind k (r ∷ rs) (f ∷ fs) [] is many many_fields each order = absurd (omega (arith, many))
passes_order behind k (r ∷ rs) (f ∷ fs) (a ∷ rest) is many many_fields each order =
    ap (λ (o : Option LogBad). first_of_two o (first_bad_log (behind || sealed_in f == 0) (k + 1) rs fs)) none
    ∙ next a.sealed refl (λ shut sealed. passes_order (behind || sealed_in f == 0) (k + 1) rs fs rest shut (omega (arith, many)) (omega (arith, many_fields))
    (λ i q g b at at_f has. each (suc i) q g b at at_f has) (subst (λ (b : Bool). MatchBool b (InOrder rest) (All IsUntouched rest)) sealed order))
  where
    of : AreOf r f a
    of = each 0 r f a refl refl refl

    none : bad_arena behind k (first_bad_head r.number r.region.len f) f ≡ None
    none = ap (λ (b : Bool). bad_arena b k (first_bad_head r.number r.region.len f) f) is ∙ ap (λ (o : Option ArenaBad). bad_arena false k o f) of.passes

    flag : (b : Bool) → a.sealed ≡ b → (behind || sealed_in f == 0) ≡ (flag_of b == 0)
    flag b sealed = ap (λ (x : Bool). x || sealed_in f == 0) is ∙ ap (λ (n : ℕ). n == 0) (of.sealed ∙ ap flag_of sealed)

    next : (b : Bool) → a.sealed ≡ b → ((behind || sealed_in f == 0) ≡ false → a.sealed ≡ true → first_bad_log (behind || sealed_in f == 0) (k + 1) rs fs ≡ None)
        → first_bad_log (behind || sealed_in f == 0) (k + 1) rs fs ≡ None
    next true sealed goes_on = goes_on (flag true sealed) sealed
    next false sealed goes_on = passes_behind (behind || sealed_in f == 0) (k + 1) rs fs rest (flag false sealed) (omega (arith, many)) (omega (arith, many_fields))
        (λ i q g b at at_f has. each (suc i) q g b at at_f has) (subst (λ (b : Bool). MatchBool b (InOrder rest) (All IsUntouched rest)) sealed order)

pub log_passes : {D : Type 0} (disk : DiskOf D) (disks : List D) (layout : List ArenaRegion) (fields : List (List ℕ)) (score_of : List ℕ → List ℕ) (h : History) (base : ℕ)
    → ((d : D) → length (disk.bytes d) ≡ disk.size d) → All (IsOnDisk disk disks) layout → All (λ r. r.number < 2 ^ 32) layout → AreReadAt layout (map disk.bytes disks) fields → IsLog score_of layout (map disk.bytes disks) h base → first_bad_log false 0 layout fields ≡ None
log_passes {D = D} disk disks layout fields score_of h base fit regions numbers are log =
    passes_order false 0 layout fields log.contents refl log.arenas.many are.many each log.order
  where
    each : (i : ℕ) (r : ArenaRegion) (f : List ℕ) (a : Content) → slice_get layout i ≡ Some r → slice_get fields i ≡ Some f → slice_get log.contents i ≡ Some a → AreOf r f a
    each i r f a at at_f has =
        let on = at_slice (IsOnDisk disk disks) layout i r regions at in
        let number : r.number < 2 ^ 32 = at_slice (λ (r : ArenaRegion). r.number < 2 ^ 32) layout i r numbers at in
        let x = log.arenas.each i r a at has in
        let file : x.0 ≡ disk.bytes on.device =
        same_Some x.0 (disk.bytes on.device) (sym x.1 ∙ slice_get-map disk.bytes disks r.part ∙ ap (option_map disk.bytes) on.has) in
        let there : IsArena score_of r.region r.number a (disk.bytes on.device) = subst (λ (z : List ℕ). IsArena score_of r.region r.number a z) file x.2 in
        let fields_is : f ≡ read_at r.region r.number (disk.bytes on.device) =
        same_Some f (read_at r.region r.number (disk.bytes on.device)) (sym at_f ∙ are.each i r x.0 at x.1 ∙ ap (λ (z : List ℕ). Some (read_at r.region r.number z)) file) in
        let reads = arena_reads score_of r.region (disk.size on.device) r.number a (disk.bytes on.device) on.region (fit on.device) there number in
        let spelled : fields_of (arena_head score_of r.number a) ≡ own_fields f = sym (ap own_fields fields_is ∙ reads.1) in
        record {
          passes = ap (first_bad_head r.number r.region.len) fields_is ∙ reads.0;
          sealed = sealed_read (arena_head score_of r.number a) f spelled;
          clumps = sym (own_clumps f) ∙ ap clump_count_in (sym spelled) ∙ read_clumps score_of r.region.len r.number on.region.len.1 a there.content;
        }

-- so that a log isn't refused but for a fault or want of memory
pub not_refused : (names : List (List ℕ)) (layout : List ArenaRegion) (fields : List (List ℕ)) (bad : LogBad) → AreDistinct names → first_bad_log false 0 layout fields ≡ None → RefusesLogMount names layout fields bad
    → (bad ≡ Fault) ⊎ (bad ≡ NoMemory)
not_refused names layout fields (PartRefused (DuplicateName i j)) distinct passes refused = absurd (distinct i j refused.namesakes)
not_refused names layout fields (PartRefused PartFault) distinct passes refused = absurd refused
not_refused names layout fields (PartRefused (TooSmall len need)) distinct passes refused = absurd refused
not_refused names layout fields (PartRefused PartNotFormatted) distinct passes refused = absurd refused
not_refused names layout fields (PartRefused (PartTorn field found want)) distinct passes refused = absurd refused
not_refused names layout fields (PartRefused PartNoMemory) distinct passes refused = absurd refused
not_refused names layout fields (Arena i bad) distinct passes refused = let is : first_bad_log false 0 layout fields ≡ Some (Arena i bad) = refused.1 in absurd (cc (is, passes))
not_refused names layout fields (Order i clumps) distinct passes refused = let is : first_bad_log false 0 layout fields ≡ Some (Order i clumps) = refused.1 in absurd (cc (is, passes))
not_refused names layout fields Fault distinct passes refused = inl refl
not_refused names layout fields NoMemory distinct passes refused = inr refl

-- what mounting finds, as the partitions are afterwards
pub found_of : {D : Type 0} (disk : DiskOf D) (most : ℕ) (items old new : List (Part D))
    (fields : List (List ℕ)) (layout : List ArenaRegion) (heads : List Found) (base : ℕ) (arena : ArenaState) → old ≡ items → All (λ part. arenas_end (table_of part) ≤ disk.size (disk_of part)) items → arena_count (tables_of items) < 2 ^ 32
    → OnlyReadsParts disk most old new → layout ≡ layout_of (tables_of old) → AreFound disk.tells (layout_of (tables_of old)) (map disk.bytes (disks_of old)) heads
    → ArePassed (layout_of (tables_of old)) fields heads → IsFirstOpen heads base → IsRoomFor (layout_of (tables_of old)) heads base arena
    → IsFoundLog disk (disks_of new) (tables_of new) layout (map disk.bytes (disks_of items)) fields heads base arena
found_of {D = D} disk most items old new fields layout heads base arena same rooms few read layout_is found passed first room =
    let tables : layout ≡ layout_of (tables_of new) = layout_is ∙ ap layout_of (sym read.tables) in
    let items_layout : layout_of (tables_of items) ≡ layout = ap (λ (ps : List (Part D)). layout_of (tables_of ps)) (sym same) ∙ sym layout_is in
    let hold : HoldTheSame disk (disks_of items) (disks_of new) = subst (λ (ps : List (Part D)). HoldTheSame disk (disks_of ps) (disks_of new)) same read.disks in
    record {
      many_disks = length-map new (λ (part : Part D). disk_of part) ∙ sym (length-map new (λ (part : Part D). table_of part));
      layout_is = tables;
      regions = subst (All (IsOnDisk disk (disks_of new))) items_layout
          (All-weaker (IsOnDisk disk (disks_of items)) (IsOnDisk disk (disks_of new)) (λ r on. on_held disk (disks_of items) (disks_of new) r hold on)
          (layout_of (tables_of items)) (regions_on disk items rooms));
      few = omega (arith, few, layouts_have_lengths (tables_of items), ap (λ (rs : List ArenaRegion). length rs) items_layout);
      files_are = hold.bytes_are;
      found = subst (λ (ps : List (Part D)). AreFound disk.tells layout (map disk.bytes (disks_of ps)) heads) same (subst (λ (rs : List ArenaRegion). AreFound disk.tells rs (map disk.bytes (disks_of old)) heads) (sym layout_is) found);
      passed = subst (λ (rs : List ArenaRegion). ArePassed rs fields heads) (sym layout_is) passed;
      first = first;
      room = subst (λ (rs : List ArenaRegion). IsRoomFor rs heads base arena) (sym layout_is) room;
    }

-- a list that was lent whole is what it was given back as
pub given_back : {X : Type 0} (n : ℕ) (new old : List X) → length new ≡ n → length old ≡ n → take n (new ++ drop (length new) old) ≡ new
given_back {X = X} n new old many many_old =
    ap (λ (xs : List X). take n (new ++ xs)) (drop_all (length new) old (omega (arith, many, many_old)))
    ∙ ap (take n) (append-nil new)
    ∙ take_all n new (omega (arith, many))

pub mount_sound : {D : Type 0} (disk : DiskOf D) (items : List (Part D)) (l : LogState D) (disks : List D) (tables : List Table)
    (fields : List (List ℕ)) (layout : List ArenaRegion) (heads : List Found) (base : ℕ) (arena : ArenaState) (score_of : List ℕ → List ℕ) (h : History) (first : ℕ)
    → IsFoundLog disk disks tables layout (map disk.bytes (disks_of items)) fields heads base arena → l ≡ found_log disks tables layout heads base arena
    → layout ≡ layout_of (tables_of items) → IsTrue disk.tells → All (IsSynced disk) disks → IsLog score_of (layout_of (tables_of items)) (map disk.bytes (disks_of items)) h first
    → IsSoundLog score_of disk l h × (l.base ≡ first) × (l.durable ≡ length h)
mount_sound {D = D} disk items l disks tables fields layout heads base arena score_of h first is l_is layout_is told settled log =
    let own : IsLog score_of layout (map disk.bytes (disks_of items)) h first = subst (λ (rs : List ArenaRegion). IsLog score_of rs (map disk.bytes (disks_of items)) h first) (sym layout_is) log in
    let it = found_sound disk disks tables layout (map disk.bytes (disks_of items)) fields heads base arena is score_of h first told settled own in
    subst (λ (x : LogState D). IsSoundLog score_of disk x h × (x.base ≡ first) × (x.durable ≡ length h)) (sym l_is) (it.sound, it.base_is, it.durable_is)

pub mount_is : {D : Type 0} (disk : DiskOf D) (l : LogState D) (disks : List D) (tables : List Table) (files fields : List (List ℕ)) (layout : List ArenaRegion) (heads : List Found) (base : ℕ)
    (arena : ArenaState) → IsFoundLog disk disks tables layout files fields heads base arena → l ≡ found_log disks tables layout heads base arena → IsMountedLog l
mount_is {D = D} disk l disks tables files fields layout heads base arena is l_is =
    subst IsMountedLog (sym l_is) (record {
      committing = refl;
      staged = ap (λ (a : ArenaState). a.staged) is.room.fresh;
      rest = subst (λ (a : ArenaState). IsFalse (is_committing a)) (sym is.room.fresh) refl;
      queue = refl;
      filling = filling_is disk disks tables layout files fields heads base arena is;
      durable = refl;
      calls = refl;
      stopped = refl;
    })
