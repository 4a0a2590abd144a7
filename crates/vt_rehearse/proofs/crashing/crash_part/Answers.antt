use Rattle.std.proofs.Common.{◌≡◌, ℕ, ◌≤◌, sym, subst}
use Rattle.std.specs.Prelude.{MatchBool}
use Rattle.vt_base.specs.Faults.{HasRisen}
use Rattle.vt_part.specs.declared.error.PartBad.{PartBad}
use Rattle.vt_part.specs.Faults.{is_part_fault}
use Rattle.vt_part.specs.Parts.{disk_of, table_of}
use Rattle.vt_part.specs.Table.{arenas_end}
use Rattle.vt_rehearse.specs.Crashed.{IsImageLeft}
use Rattle.vt_rehearse.proofs.Recovering.{left_read}
use Rattle.vt_rehearse.proofs.Stepping.{not_risen}
use Rattle.vt_rehearse.proofs.crashing.crash_part.Goals as goal

pub unreachable-requires : goal.unreachable-requires
unreachable-requires g c =
    let disk = g.D.Disk in
    let made = c.crashed.result in
    let image = subst (λ (d : g.row.D.Denot). disk.images d (disk.bytes made)) c.into_devices.ensures c.crashed.ensures.image in
    let fault = c.in-Err.ensures.all_are_found (table_of c.args.part) c.requires.memory.tells (c.requires.table (disk.bytes made) image) in
    let after = c.in-Err.field-0.1 in
    not_risen disk c.requires.memory.never made after
    (subst (λ (b : PartBad). MatchBool (is_part_fault b) (HasRisen (disk.faults made) (disk.faults after)) (disk.faults after ≡ disk.faults made)) fault c.in-Err.ensures.cause)

pub returns : goal.returns
returns g c =
    let disk = g.D.Disk in
    let before = disk_of c.args.part in
    let made = c.crashed.result in
    let Leaves = g.D.Crashable.leaves in
    let made_is : IsImageLeft disk Leaves c.args.mode before made =
    subst (λ (d : g.row.D.Denot). IsImageLeft disk Leaves c.args.mode d made) c.into_devices.ensures
    (record { left = c.crashed.ensures.left; image = c.crashed.ensures.image; only = c.crashed.ensures.only; size = c.crashed.ensures.size }) in
    let reads = c.in-Ok.ensures.reads in
    record {
      disks = left_read disk Leaves c.args.mode before made (disk_of c.in-Ok.part) made_is reads;
      table = c.in-Ok.ensures.all_are_found (table_of c.args.part) c.requires.memory.tells (c.requires.table (disk.bytes made) made_is.image);
      room = subst (λ (n : ℕ). arenas_end (table_of c.in-Ok.part) ≤ n) (sym reads.size) c.in-Ok.ensures.room;
    }
