use Rattle.std.proofs.Common.{◌≡◌, sym, ◌∙◌, ap, subst, arith}
use Rattle.std.specs.Prelude.{IsTrue}
use Rattle.vt_base.specs.declared.mount.MountBad.{MountBad}
use Rattle.vt_part.specs.Parts.{disk_of, table_of}
use Rattle.vt_part.specs.Table.{count_for, table_for}
use Rattle.vt_format.specs.Arenas.{RefusesArenaFormat}
use Rattle.vt_format.proofs.OnePartition.{becomes, refuses, refuses_table}
use Rattle.vt_format.proofs.arenas.make_arenas.Goals as goal

pub returns-in-Ok-mount : goal.returns-in-Ok-mount
returns-in-Ok-mount g c =
    let disk = g.D.Disk in
    let old = c.args.disk in
    let name = c.args.name.now in
    let size = c.args.arena_size in
    let with_table = c.format.new.disk in
    let part = c.in-Ok-mount.part in
    let table = table_for name (disk.size old) size in
    let found : IsTrue disk.tells → table_of part ≡ table = λ told.
    c.in-Ok-mount.ensures.all_are_found table told (c.in-Ok.ensures.partition told (disk.bytes with_table) (g.met.D.Disk.read_is_image with_table told)) in
    let writes = c.empty_arenas.ensures.writes in
    record {
      size = writes.size ∙ c.in-Ok-mount.ensures.reads.size ∙ c.format.ensures.writes.size;
      calls = λ told.
          let count : (table_of part).count ≡ count_for (disk.size old) size = ap (λ t. t.count) (found told) in
          omega (arith, count, writes.calls told, c.in-Ok-mount.ensures.reads.calls told, c.format.ensures.writes.calls told);
      formatted = becomes disk name size old with_table c.empty_arenas.result.0 part found c.in-Ok.ensures.partition c.in-Ok-mount.ensures.reads.images writes
          c.partitions_stay_on_disks.ensures c.empty_arenas.result.1 c.in-Ok.count c.in-Ok.ensures.room c.in-Ok.ensures.count
          c.empty_arenas.ensures.count c.empty_arenas.ensures.log c.empty_arenas.ensures.settled;
      refused = refuses disk size old (disk_of part) c.empty_arenas.result.0 c.empty_arenas.result.1
          (c.in-Ok-mount.ensures.cause ∙ c.in-Ok.ensures.cause) c.empty_arenas.ensures.refused;
    }

pub returns-in-Err-mount : goal.returns-in-Err-mount
returns-in-Err-mount g c =
    let disk = g.D.Disk in
    let old = c.args.disk in
    let with_table = c.format.new.disk in
    let table = table_for c.args.name.now (disk.size old) c.args.arena_size in
    record {
      size = c.in-Err-mount.ensures.reads.size ∙ c.format.ensures.writes.size;
      calls = λ told. omega (arith, c.in-Err-mount.ensures.reads.calls told, c.format.ensures.writes.calls told);
      formatted = tt;
      refused = subst (λ (bad : MountBad). RefusesArenaFormat disk c.args.arena_size bad old c.in-Err-mount.disk) (sym c.of_part-in-Err-mount.ensures)
          (refuses_table disk c.args.arena_size old with_table c.in-Err-mount.disk c.in-Ok.ensures.cause (disk.size with_table) c.in-Err-mount.bad
          (λ told. c.in-Err-mount.ensures.all_are_found table told (c.in-Ok.ensures.partition told (disk.bytes with_table) (g.met.D.Disk.read_is_image with_table told)))
          c.in-Err-mount.ensures.differs c.in-Err-mount.ensures.cause);
    }
