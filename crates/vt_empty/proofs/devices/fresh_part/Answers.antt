-- no call of the disk fails, and its table was written
use Rattle.std.proofs.Common.{◌≡◌, ℕ, List, sym, ◌∙◌, ap, subst, arith}
use Rattle.std.specs.Prelude.{IfOk, MatchBool}
use Rattle.vt_base.specs.Faults.{HasRisen}
use Rattle.vt_part.specs.declared.error.PartBad.{PartBad}
use Rattle.vt_part.specs.Faults.{is_part_fault}
use Rattle.vt_part.specs.Parts.{table_of}
use Rattle.vt_part.specs.Table.{Table, table_for}
use Rattle.vt_format.specs.Arenas.{BecomesArenas, IsEmptyLog}
use Rattle.vt_empty.proofs.Never.{not_risen}
use Rattle.vt_empty.proofs.devices.fresh_part.Goals as goal

pub unreachable-requires-in_default : goal.unreachable-requires-in_default
unreachable-requires-in_default g c =
    let disk = g.D.Disk in
    let told = c.requires.tells in
    let made = c.make_arenas-disk.result.0 in
    let becomes : BecomesArenas disk c.in_ok-name.name c.args.arena_len c.in-Ok.field-0 c.args.disk made =
    subst (λ r. IfOk r (λ count. BecomesArenas disk c.in_ok-name.name c.args.arena_len count c.args.disk made)) c.in-Ok.is c.make_arenas-disk.ensures.formatted in
    let part = (becomes.log told (disk.bytes made) (g.met.D.Disk.read_is_image made told)).partition in
    let fault = c.in_default.ensures.all_are_found _ told part in
    not_risen disk c.requires.never made c.in_default.field-0.1
    (subst (λ (b : PartBad). MatchBool (is_part_fault b) (HasRisen (disk.faults made) (disk.faults c.in_default.field-0.1)) (disk.faults c.in_default.field-0.1 ≡ disk.faults made)) fault c.in_default.ensures.cause)

pub returns : goal.returns
returns g c =
    let disk = g.D.Disk in
    let told = c.requires.tells in
    let made = c.make_arenas-disk.result.0 in
    let size = c.args.arena_len in
    let becomes : BecomesArenas disk c.in_ok-name.name size c.in-Ok.field-0 c.args.disk made =
    subst (λ r. IfOk r (λ count. BecomesArenas disk c.in_ok-name.name size count c.args.disk made)) c.in-Ok.is c.make_arenas-disk.ensures.formatted in
    let there = (becomes.log told (disk.bytes made) (g.met.D.Disk.read_is_image made told)).partition in
    let found : table_of c.in-Ok-mount.part ≡ table_for c.in_ok-name.name (disk.size c.args.disk) size = c.in-Ok-mount.ensures.all_are_found _ told there in
    let reads = c.in-Ok-mount.ensures.reads in
    let room = c.in-Ok-mount.ensures.room in
    let long = c.make_arenas-disk.ensures.size in
    record {
      table = found ∙ ap (λ (name : List ℕ). table_for name (disk.size c.args.disk) size) c.in_ok-name.ensures;
      size_is = reads.size ∙ long;
      room = omega (arith, room, long);
      log = λ file is. subst (λ (t : Table). IsEmptyLog t file) (sym found) (becomes.log told file (reads.images file is));
    }
