use Rattle.std.proofs.Common.{◌≤◌, List, length, Option, refl, sym, ◌∙◌, ap, subst, arith}
use Rattle.std.specs.Prelude.{Err, sum}
use Rattle.std.specs.List.{AllZip}
use Rattle.vt_base.specs.declared.mount.MountField.TheVariants.{Buckets}
use Rattle.vt_recover.specs.declared.devices.Devices.{Devices}
use Rattle.vt_recover.specs.Opening.{IsFoundSection}
use Rattle.vt_core.specs.Opening.{buckets_in_each, with_log}
use Rattle.vt_core.specs.Refusals.{PassesOrRefuses}
use Rattle.vt_recover.proofs.Zips.{zip_length}
use Rattle.vt_isect.specs.Section.{SectionState}
use Rattle.vt_rebuild.specs.Building.{disks_under}
use Rattle.vt_maintain.proofs.Backs.{closed_sections, refused_buckets, refused_sections}
use Rattle.vt_maintain.proofs.opened.Opened.open_beside.Goals as goal

pub returns-in-Err-clause-refused : goal.returns-in-Err-clause-refused
returns-in-Err-clause-refused g c = λ devices on same filter at.
    let log = c.args.log in
    let after = c.in-Err.sections.items in
    let back : Devices g.row.D.Denot =
    record { parts = c.into_devices.result; sections = c.in-Err.sections; filter = c.args.filter } in
    refused_sections g.D.Disk g.S.Scorer.score_of devices log c.args.sections.items c.args.part
    c.in-Err.bad back after on same at c.in-Err.ensures.refused c.in-Err.ensures.held
    c.in-Err.ensures.counts
    (ap (λ (l : List g.row.D.Denot). with_log l after c.args.filter) c.into_devices.ensures.disks
    ∙ ap (λ (o : Option g.row.D.Denot). with_log log.disks after o) (sym filter))
    c.into_devices.ensures.tables

pub test_buckets-requires : goal.test_buckets-requires
test_buckets-requires g c =
    let many = zip_length (IsFoundSection g.D.Disk) c.args.sections.items c.in-Ok.opened.0.items
    c.in-Ok.ensures.opened.0 in
    omega (arith, many, ap length c.deref.ensures.value, c.requires)

pub close_sections-requires : goal.close_sections-requires
close_sections-requires g c =
    let many = zip_length (IsFoundSection g.D.Disk) c.args.sections.items c.in-Ok.opened.0.items
    c.in-Ok.ensures.opened.0 in
    let room = c.in-Ok.ensures.opened.1 in
    omega (arith, many, ap (λ (l : List g.row.D.Denot). length l) room.empty, room.enough)

pub returns-in-Ok-test_buckets-clause-opened : goal.returns-in-Ok-test_buckets-clause-opened
returns-in-Ok-test_buckets-clause-opened g c = λ devices on same. record {
  log_is = on;
  sections_are = subst (λ (l : List g.row.D.Denot). AllZip (IsFoundSection g.D.Disk) l
      c.in-Ok.opened.0.items) (sym same) c.in-Ok.ensures.opened.0;
  few = subst (λ (l : List (SectionState g.row.D.Denot)). sum (buckets_in_each l) ≤ 1048576)
      c.deref.ensures.value c.in-Ok-test_buckets.ensures.1;
}

pub returns-in-Ok-test_buckets-clause-beside : goal.returns-in-Ok-test_buckets-clause-beside
returns-in-Ok-test_buckets-clause-beside g c =
    let many = zip_length (IsFoundSection g.D.Disk) c.args.sections.items c.in-Ok.opened.0.items
    c.in-Ok.ensures.opened.0 in
    let room = c.in-Ok.ensures.opened.1 in
    record {
      part_is = refl;
      buckets_are = c.in-Ok-test_buckets.ensures.0
          ∙ ap (λ (l : List (SectionState g.row.D.Denot)). sum (buckets_in_each l))
          c.deref.ensures.value;
      room_is = record { empty = room.empty; enough = omega (arith, many, room.enough) };
    }

pub returns-in-Err-test_buckets-clause-refused : goal.returns-in-Err-test_buckets-clause-refused
returns-in-Err-test_buckets-clause-refused g c = λ devices on same filter at.
    let log = c.args.log in
    let sections = c.in-Ok.opened.0.items in
    let bad = c.in-Err-test_buckets.bad in
    let closed = closed_sections (disks_under sections) c.in-Ok.opened.1.items
    c.close_sections.result.items c.in-Ok.ensures.opened.1.empty c.close_sections.ensures in
    let passes : PassesOrRefuses Buckets 1048576 c.args.part (buckets_in_each sections) (Err bad) =
    subst (λ (l : List (SectionState g.row.D.Denot)). PassesOrRefuses Buckets 1048576 c.args.part
    (buckets_in_each l) (Err bad)) c.deref.ensures.value c.in-Err-test_buckets.ensures in
    let back : Devices g.row.D.Denot = record {
      parts = c.into_devices-in-Err-test_buckets.result;
      sections = c.close_sections.result;
      filter = c.args.filter;
    } in
    let zip = subst (λ (l : List g.row.D.Denot). AllZip (IsFoundSection g.D.Disk) l sections) (sym same)
    c.in-Ok.ensures.opened.0 in
    refused_buckets g.D.Disk g.S.Scorer.score_of devices log sections c.args.part bad back on.found
    zip at passes on.tables
    (ap (λ (l : List g.row.D.Denot). with_log l c.close_sections.result.items c.args.filter)
    c.into_devices-in-Err-test_buckets.ensures.disks
    ∙ ap (λ (l : List g.row.D.Denot). with_log log.disks l c.args.filter) closed
    ∙ ap (λ (o : Option g.row.D.Denot). with_log log.disks (disks_under sections) o) (sym filter))
    c.into_devices-in-Err-test_buckets.ensures.tables
