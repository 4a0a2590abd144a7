-- What comes next of an arena, as it was read.
use Rattle.std.specs.Prelude.{◌≡◌, ℕ, ◌+◌, ◌-◌, false, List, ◌++◌, length, map, drop}
use Rattle.vt_arena.specs.declared.head.ArenaHead.{ArenaHead}
use Rattle.vt_arena.specs.Directory.{walks_headers}
use Rattle.vt_disk.specs.Disk.{part}
use Rattle.vt_disk.specs.declared.region.Region.{Region}
use Rattle.vt_model.specs.declared.TheConstants.{ARENA_HEAD_LEN}
use Rattle.vt_check.specs.declared.clumps.Cut.{Cut}
use Rattle.vt_check.specs.Checking.{area_of, clumps_in, entries_at}
use Rattle.vt_check.specs.Following.{cut_bytes, taken_by_cuts}

-- Behind so many clumps that take so many bytes of an arena with this head, the cuts are the next ones,
-- each with its entry in the directory, where there is one.
pub record AreNextCuts (region : Region) (head : ArenaHead) (file : List ℕ) (clumps used : ℕ)
    (window : List ℕ) (cuts : List Cut) : Type 0 where
  pub next : clumps_in head.version (head.clumps - clumps) (drop used (area_of region file))
      ≡ map (cut_bytes window) cuts
      ++ clumps_in head.version (head.clumps - clumps - length cuts)
      (drop (used + taken_by_cuts head.version cuts) (area_of region file))
  pub entries : walks_headers head ≡ false
      → entries_at region clumps (head.clumps - clumps) file ≡ map (λ cut. cut.entry) cuts
      ++ entries_at region (clumps + length cuts) (head.clumps - clumps - length cuts) file
