-- How much each shard of the index keeps in memory: what there is room for, over the count of index
-- sections, but not too little and not too much (venti(8)).
use Rattle.std.specs.Prelude.{ℕ, ◌/◌, max, min}
use Rattle.vt_base.specs.declared.TheConstants.{MAX_BLOCK}

-- so many blocks, of `mem` bytes
abbrev pub cached_blocks : (mem sections : ℕ) → ℕ
cached_blocks mem sections = min 65536 (max 4 (mem / MAX_BLOCK / sections))

-- so many index entries, of `icmem` bytes
abbrev pub entry_room : (icmem sections : ℕ) → ℕ
entry_room icmem sections = min 1048576 (max 64 (icmem / 64 / sections))
