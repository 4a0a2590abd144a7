-- Tables read back, and heads in which no test fails spell one.
use Rattle.std.proofs.Common.{◌≡◌, inl, inr, ⊎_elim, ℕ, ◌+◌, ◌*◌, ◌<◌, ◌≤◌, Bool, true, false, not, cond, Option, Some, None, List, [], ◌++◌, length, take, drop, refl, sym, ◌∙◌, ap, subst, arith, append-nil, length-take, length-drop, take-append-drop}
use Rattle.std.specs.Prelude.{codes, nat_lt, ◌==◌}
use Rattle.std.specs.Str.{bytes_eq}
use Rattle.std.proofs.lemmas.List.{take_at, drop_at, drop-drop, drop_all, get_or-take, get_or-drop, get_or_past}
use Rattle.std.proofs.lemmas.Slice.Eq.{bytes_eq-Decides}
use Rattle.std.proofs.lemmas.Bool.{eqb-true, ltb-false, not-false, cases_lt}
use Rattle.std.proofs.lemmas.Bool.Decides.{nat_tests}
use Rattle.byteorder.specs.Endian.{big_number, big_bytes}
use Rattle.byteorder.specs.Numbers.{big_number-reads_back, big_from-lt}
use Rattle.vt_base.specs.Bytes.{AreBytes}
use Rattle.vt_disk.specs.Disk.{SameBut}
use Rattle.vt_disk.proofs.Bytes.{part_same}
use Rattle.vt_base.specs.Fields.{drop-field, drop-number}
use Rattle.vt_part.specs.declared.error.PartBad.{PartBad}
use Rattle.vt_part.specs.declared.error.PartBad.TheVariants.{Fault}
use Rattle.vt_part.specs.Faults.{version_in, arena_size_in, count_in, end_in, first_bad_part, RefusesPartMount}
use Rattle.vt_base.specs.Filled.{filled}
use Rattle.vt_part.specs.Table.{Table, IsTable, IsArenaSize, IsPartition, is_arena_size, table_bytes, head_of, arenas_end}
use Rattle.vt_part.proofs.Names.{length-filled, name_unique, Named, named}

-- what the tests want
pub record Passes (len : ℕ) (head : List ℕ) : Type 0 where
  pub long : 8192 ≤ len
  pub magic : take 4 head ≡ codes "VPRT"
  pub version : version_in head ≡ 1
  pub size : IsArenaSize (arena_size_in head)
  pub some : 0 < count_in head
  pub room : end_in head ≤ len

pub passing : (len : ℕ) (head : List ℕ) → Passes len head → first_bad_part len head ≡ None
passing len head pass =
    let is_long : nat_lt len 8192 ≡ false = let h = pass.long in grind (arith, nat_tests) in
    let is_size : is_arena_size (arena_size_in head) ≡ true = pass.size in
    let is_some : count_in head == 0 ≡ false = let h = pass.some in grind (arith, nat_tests) in
    let is_room : nat_lt len (end_in head)
    ≡ false = let h = pass.room in grind (arith, nat_tests) in
    rw (is_long, pass.magic, pass.version, is_size, is_some, is_room) refl

-- a test that found nothing, and those behind it
none_then : (b : Bool) (bad : PartBad) (later : Option PartBad) → cond b (Some bad) later ≡ None
    → (b ≡ false) × (later ≡ None)
none_then true bad later none = absurd (cc)
none_then false bad later none = (refl, none)

pub passed : (len : ℕ) (head : List ℕ) → first_bad_part len head ≡ None → Passes len head
passed len head none =
    let long = none_then (nat_lt len 8192) _ _ none in
    let magic = none_then (not (bytes_eq (take 4 head) (codes "VPRT"))) _ _ long.1 in
    let version = none_then (not (version_in head == 1)) _ _ magic.1 in
    let size = none_then (not (is_arena_size (arena_size_in head))) _ _ version.1 in
    let some = none_then (count_in head == 0) _ _ size.1 in
    let room = none_then (nat_lt len (end_in head)) _ _ some.1 in
    record {
      long = ltb-false _ _ long.0;
      magic = (bytes_eq-Decides (take 4 head) (codes "VPRT")).0 (not-false _ magic.0);
      version = eqb-true _ _ (not-false _ version.0);
      size = not-false _ size.0;
      some = let h = some.0 in grind (arith, nat_tests);
      room = ltb-false _ _ room.0;
    }

pub size_least : (n : ℕ) → IsArenaSize n → 32768 ≤ n
size_least n is = grind (arith, nat_tests)

size_most : (n : ℕ) → IsArenaSize n → n ≤ 1073741824
size_most n is = grind (arith, nat_tests)

-- what a table spells
module _ (t : Table) (is : IsTable t) where
  abbrev sizes : List ℕ
  sizes = big_bytes 8 t.arena_size ++ big_bytes 4 t.count

  at_70 : drop 70 (table_bytes t) ≡ sizes
  at_70 = sym (drop-drop 64 6 (table_bytes t))
      ∙ drop_at (filled 64 t.name) sizes 64 (length-filled 64 t.name is.name_len)

  at_78 : drop 78 (table_bytes t) ≡ big_bytes 4 t.count
  at_78 = sym (drop-drop 8 70 (table_bytes t)) ∙ ap (λ (l : List ℕ). drop 8 l) at_70

  field_read : take 64 (drop 6 (table_bytes t)) ≡ filled 64 t.name
  field_read = take_at (filled 64 t.name) sizes 64 (length-filled 64 t.name is.name_len)

  size_read : arena_size_in (table_bytes t) ≡ t.arena_size
  size_read = ap (λ (l : List ℕ). big_number 8 l) at_70
      ∙ big_number-reads_back 8 t.arena_size (big_bytes 4 t.count) (omega
      (arith, size_most t.arena_size is.arena_size))

  count_read : count_in (table_bytes t) ≡ t.count
  count_read = ap (λ (l : List ℕ). big_number 4 l) (at_78 ∙ sym (append-nil (big_bytes 4 t.count)))
      ∙ big_number-reads_back 4 t.count [] is.count

  pub table_passes : (len : ℕ) → arenas_end t ≤ len → Passes len (table_bytes t)
  table_passes len room = record {
    long = omega arith;
    magic = refl;
    version = refl;
    size = subst IsArenaSize (sym size_read) is.arena_size;
    some = subst (λ (k : ℕ). 0 < k) (sym count_read) is.some;
    room = subst (λ (k : ℕ). k ≤ len) (λ i. 8192 + sym count_read i * sym size_read i) room;
  }

-- bytes spell one table
pub table_unique : (s t : Table) → IsTable s → IsTable t → table_bytes s ≡ table_bytes t → s ≡ t
table_unique s t s_is t_is same =
    let names : s.name ≡ t.name =
    name_unique 64 s.name t.name s_is.name_len t_is.name_len s_is.name_end t_is.name_end
    (sym (field_read s s_is) ∙ ap (λ (l : List ℕ). take 64 (drop 6 l)) same ∙ field_read t t_is) in
    let arena_sizes : s.arena_size ≡ t.arena_size =
    sym (size_read s s_is) ∙ ap arena_size_in same ∙ size_read t t_is in
    let counts : s.count ≡ t.count =
    sym (count_read s s_is) ∙ ap count_in same ∙ count_read t t_is in
    λ i. record { name = names i; arena_size = arena_sizes i; count = counts i }

pub partition_unique : (s t : Table) (file : List ℕ) → IsPartition s file → IsPartition t file
    → s ≡ t
partition_unique s t file one other = table_unique s t one.table other.table (sym one.spelling
    ∙ other.spelling)

pub partition_passes : (t : Table) (file : List ℕ) → IsPartition t file
    → first_bad_part (length file) (head_of file) ≡ None
partition_passes t file is =
    rw is.spelling (passing (length file) (table_bytes t) (table_passes t is.table
    (length file) is.room))

-- what lies behind the block may change
pub partition_stays : (t : Table) (old new : List ℕ) → SameBut (λ i. 8192 ≤ i) old new
    → IsPartition t old → IsPartition t new
partition_stays t old new same is = record {
  table = is.table;
  spelling = part_same (λ i. 8192 ≤ i) 0 82 old new same (λ i above below behind. omega arith)
      ∙ is.spelling;
  room = omega (arith, is.room, same.same_length);
}

-- only a fault keeps a partition from being mounted
pub refused_by_fault : (t : Table) (file : List ℕ) (size : ℕ) (bad : PartBad)
    → length file ≡ size → IsPartition t file
    → RefusesPartMount size (head_of file) bad → bad ≡ Fault
refused_by_fault t file size bad whole is (inl first) =
    absurd (cc (
      partition_passes t file is,
      ap (λ (n : ℕ). first_bad_part n
          (head_of file)) whole,
      first,
    ))
refused_by_fault t file size bad whole is (inr fault) = fault.1

-- a head whose fields say what the table says spells it
module _ (head : List ℕ) (whole : length head ≡ 82) (are : AreBytes head) (magic : take 4 head
    ≡ codes "VPRT")
    (version : version_in head ≡ 1) where
  pub head_spells : (t : Table) → take 64 (drop 6 head) ≡ filled 64 t.name
      → arena_size_in head ≡ t.arena_size
      → count_in head ≡ t.count → head ≡ table_bytes t
  head_spells t name arena_size count =
      let none : drop 82 head ≡ [] = drop_all 82 head (omega arith) in
      let from_78 : drop 78 head ≡ big_bytes 4 t.count =
      drop-number 78 4 head (omega arith) are
      ∙ (λ i. big_bytes 4 (count i) ++ none i) ∙ append-nil (big_bytes 4 t.count) in
      let from_70 : drop 70 head ≡ big_bytes 8 t.arena_size ++ big_bytes 4 t.count =
      drop-number 70 8 head (omega arith) are ∙ (λ i. big_bytes 8 (arena_size i) ++ from_78 i) in
      let from_4 : drop 4 head ≡ big_bytes 2 1 ++ drop 6 head =
      drop-number 4 2 head (omega arith) are
      ∙ ap (λ (k : ℕ). big_bytes 2 k ++ drop 6 head) version in
      sym (take-append-drop 4 head)
      ∙ (λ i. magic i ++ from_4 i)
      ∙ ap (λ (l : List ℕ). codes "VPRT" ++ (big_bytes 2 1 ++ l))
      (drop-field 6 64 head ∙ (λ i. name i ++ from_70 i))

bytes_in_head : (file : List ℕ) → AreBytes file → AreBytes (head_of file)
bytes_in_head file are i = ⊎_elim
    (λ (within : i < 82). subst (λ b. b < 256) (sym (get_or-take 82 file i 0 within)) (are i))
    (λ (behind : 82 ≤ i). subst (λ b. b < 256)
    (sym (get_or_past (head_of file) i 0 (omega (arith, length-take 82 file)))) (omega arith))
    (cases_lt i 82)

bytes_behind : (n : ℕ) (xs : List ℕ) → AreBytes xs → AreBytes (drop n xs)
bytes_behind n xs are i = subst (λ b. b < 256) (sym (get_or-drop n xs i 0)) (are (n + i))

-- bytes in which no test fails are a partition
pub passing_partition : (file : List ℕ) → AreBytes file
    → first_bad_part (length file) (head_of file) ≡ None
    → (t : Table) × IsPartition t file
passing_partition file are none =
    let head : List ℕ = head_of file in
    let head_are : AreBytes head = bytes_in_head file are in
    let pass : Passes (length file) head = passed (length file) head none in
    let whole : length head ≡ 82 = omega (arith, length-take 82 file, pass.long) in
    let field : List ℕ = take 64 (drop 6 head) in
    let field_whole : length field ≡ 64 =
    omega (arith, length-take 64 (drop 6 head), length-drop 6 head, whole) in
    let n : Named 64 field field_whole = named 64 field field_whole in
    let t : Table = record {
      name = take n.name_len field;
      arena_size = arena_size_in head;
      count = count_in head;
    } in (
      t,
      record {
        table = record {
          name_len = omega (arith, length-take n.name_len field, n.within);
          name_end = n.ends;
          arena_size = pass.size;
          some = pass.some;
          count = big_from-lt 0 4 (drop 78 head) (bytes_behind 78 head head_are);
        };
        spelling = head_spells head whole head_are pass.magic pass.version t n.fills refl refl;
        room = pass.room;
      },
    )
