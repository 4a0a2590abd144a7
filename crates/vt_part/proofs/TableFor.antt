-- What formatting leaves.
use Rattle.std.proofs.Common.{◌≡◌, ℕ, ◌+◌, ◌-◌, ◌*◌, ◌/◌, ◌<◌, ◌≤◌, List, ◌++◌, length, take, replicate, sym, ◌∙◌, ap, subst, arith, length-append}
use Rattle.std.specs.Prelude.{IsTrue}
use Rattle.std.proofs.Math.Nat.{le-div_iff_mul-le, mul-le-mul_right, div-mul-le_self}
use Rattle.std.proofs.lemmas.List.{take_at, take-take}
use Rattle.byteorder.specs.Endian.{big_bytes}
use Rattle.vt_disk.specs.Disk.{with_bytes}
use Rattle.vt_disk.proofs.Bytes.{length-with_bytes, part-with_bytes}
use Rattle.vt_base.specs.Filled.{filled}
use Rattle.vt_part.specs.Table.{Table, IsTable, IsPartName, IsArenaSize, IsPartition, is_name_byte, count_for, table_bytes, table_block, arenas_end}
use Rattle.vt_part.proofs.Names.{length-filled}
use Rattle.vt_part.proofs.Tables.{size_least}

-- the table of a disk of this length
module _ (name : List ℕ) (arena_size len n : ℕ) (is_name : IsPartName name)
    (is_size : IsArenaSize arena_size)
    (room : 8192 + arena_size ≤ len) (counted : n ≡ count_for len arena_size) where
  abbrev table : Table
  table = record { name = name; arena_size = arena_size; count = n }

  one_fits : 1 ≤ (len - 8192) / arena_size
  one_fits =
      let some : 0 < arena_size = omega (arith, size_least arena_size is_size) in
      (le-div_iff_mul-le {x = 1} {y = len - 8192} some).1 (omega arith)

  pub counted_fit : arenas_end table ≤ len
  counted_fit =
      let most : n * arena_size ≤ (len - 8192) / arena_size * arena_size =
      mul-le-mul_right arena_size (omega (arith, counted)) in
      omega (arith, most, div-mul-le_self (len - 8192) arena_size)

  pub is_table : IsTable table
  is_table = record {
    name_len = is_name.most;
    name_end = λ some is_zero. absurd (cc (subst (λ b. IsTrue (is_name_byte b)) is_zero
        (is_name.each (length name - 1) 0 (omega (arith, some)))));
    arena_size = is_size;
    some = omega (arith, counted, one_fits);
    count = omega (arith, counted);
  }

-- a disk whose block 0 was written
module _ (t : Table) (is : IsTable t) (file : List ℕ) (room : arenas_end t ≤ length file) where
  length-spelled : length (table_bytes t) ≡ 82
  length-spelled = omega (
    arith,
    length-append (filled 64 t.name) (big_bytes 8 t.arena_size
        ++ big_bytes 4 t.count),
    length-filled 64 t.name is.name_len,
  )

  length-block : length (table_block t) ≡ 8192
  length-block = length-filled 8192 (table_bytes t) (omega (arith, length-spelled))

  fits : 0 + length (table_block t) ≤ length file
  fits = omega (arith, length-block, room)

  pub formatted : IsPartition t (with_bytes 0 (table_block t) file)
  formatted = record {
    table = is;
    spelling =
        sym (take-take 82 (length (table_block t)) (with_bytes 0 (table_block t) file) (omega
        (arith, length-block)))
        ∙ ap (λ (l : List ℕ). take 82 l) (part-with_bytes 0 (table_block t) file fits)
        ∙ take_at (table_bytes t) (replicate (8192 - length (table_bytes t)) 0) 82 length-spelled;
    room = omega (arith, length-with_bytes 0 (table_block t) file fits, room);
  }
