-- Names on the command line.
use Rattle.std.specs.Prelude.{ℕ, ◌==◌, ◌&&◌, nat_le, min, if◌then◌else◌, List, length}
use Rattle.std.specs.List.{prefix_len}
use Rattle.vt_disk.specs.declared.TheConstants.{NAME_LEN}
use Rattle.vt_part.specs.Table.{is_name_byte}

-- The place of the first byte that can't stand in a name, among the 64 that a name may have, or 64
-- where they are all right and there are more; 0 where nothing is wrong but that the name is empty.
abbrev pub wrong_name : List ℕ → ℕ
wrong_name text =
    let len = prefix_len is_name_byte text in
    if len == length text && nat_le len NAME_LEN then 0 else min len NAME_LEN
