use Rattle.std.proofs.Common.{◌≤◌, ℕ, sym, subst}
use Rattle.vt_part.specs.Parts.{table_in}
use Rattle.vt_part.specs.Table.{arenas_end}
use Rattle.vt_part.proofs.Tables.{partition_unique, refused_by_fault}
use Rattle.vt_part.proofs.mounting.mount.Goals as goal

pub returns-in-Ok-clause-found : goal.returns-in-Ok-clause-found
returns-in-Ok-clause-found g c told = record {
  table = c.in-Ok.ensures.table;
  spelling = c.in-Ok.ensures.spelling told;
  room =
      subst (λ (k : ℕ). arenas_end (table_in c.in-Ok.head) ≤ k)
      (sym (g.met.D.Disk.images_fit _ _ (g.met.D.Disk.read_is_image _ told)).0)
      c.in-Ok.ensures.room;
}

pub returns-in-Ok-clause-all_are_found : goal.returns-in-Ok-clause-all_are_found
returns-in-Ok-clause-all_are_found g c t told is =
    partition_unique _ t _ (returns-in-Ok-clause-found g c told) is

pub returns-in-Err-clause-all_are_found : goal.returns-in-Err-clause-all_are_found
returns-in-Err-clause-all_are_found g c t told is =
    refused_by_fault t _ _ c.in-Err.bad
    (g.met.D.Disk.images_fit _ _ (g.met.D.Disk.read_is_image _ told)).0 is
    (c.in-Err.ensures.refused told)
