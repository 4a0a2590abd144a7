use Rattle.std.proofs.Common.{◌≡◌, ◌≤◌, ℕ, List, length, map, Err, refl, sym, ◌∙◌, ap, subst, arith}
use Rattle.std.specs.Prelude.{sum}
use Rattle.std.proofs.lemmas.List.{length-map}
use Rattle.vt_base.specs.declared.mount.MountField.TheVariants.{Arenas}
use Rattle.vt_log.specs.Faults.{RefusesLogMount}
use Rattle.vt_log.specs.Logs.{arena_count}
use Rattle.vt_part.specs.Layout.{AreDistinct, layout_of}
use Rattle.vt_part.specs.Parts.{table_of, tables_of}
use Rattle.vt_part.specs.Table.{Table}
use Rattle.vt_part.specs.declared.part.Part.{Part}
use Rattle.vt_mount_errors.specs.MountErrors.{of_log}
use Rattle.vt_recover.specs.declared.devices.Devices.{Devices}
use Rattle.vt_core.specs.Refusals.{PassesOrRefuses}
use Rattle.vt_core.proofs.LogMount.{count_same, log_given, names_same}
use Rattle.vt_maintain.proofs.Backs.{refused_arenas, refused_log}
use Rattle.vt_maintain.proofs.opened.Opened.open.Goals as goal

pub test_arenas-requires : goal.test_arenas-requires
test_arenas-requires g c = omega (arith, ap length c.deref.ensures.value, c.requires.many)

pub overflow_cast-part : goal.overflow_cast-part
overflow_cast-part g c = omega (arith, c.len-part.ensures, c.args.devices.parts.ok.0, c.requires.many)

pub mount-requires-clause-many : goal.mount-requires-clause-many
mount-requires-clause-many g c = omega (arith, c.requires.many)

pub mount-requires-clause-few : goal.mount-requires-clause-few
mount-requires-clause-few g c =
    let few : arena_count (tables_of c.args.devices.parts.items) ≤ 4096 =
    omega (arith, c.in_default.ensures.1, ap (λ (l : List (Part g.row.D.Denot)). sum (map (λ t. t.count) (tables_of l))) c.deref.ensures.value, count_same (tables_of c.args.devices.parts.items)) in
    omega (arith, few)

pub mount-requires-clause-rooms : goal.mount-requires-clause-rooms
mount-requires-clause-rooms g c = c.requires.rooms

pub open_beside-requires : goal.open_beside-requires
open_beside-requires g c = omega (arith, c.len-part.ensures, c.args.devices.parts.ok.0, c.requires.many)

pub of_log-bad-requires-clause-many : goal.of_log-bad-requires-clause-many
of_log-bad-requires-clause-many g c =
    omega (
      arith,
      ap length c.deref-in-Err-mount.ensures.value,
      ap (λ (l : List Table). length l) c.in-Err-mount.ensures.handed_back,
      length-map c.in-Err-mount.parts.items (λ part. table_of part),
      length-map c.args.devices.parts.items (λ part. table_of part),
      c.requires.many,
    )

pub of_log-bad-requires-clause-few : goal.of_log-bad-requires-clause-few
of_log-bad-requires-clause-few g c =
    let few : arena_count (tables_of c.args.devices.parts.items) ≤ 4096 =
    omega (arith, c.in_default.ensures.1, ap (λ (l : List (Part g.row.D.Denot)). sum (map (λ t. t.count) (tables_of l))) c.deref.ensures.value, count_same (tables_of c.args.devices.parts.items)) in
    omega (arith, few, ap arena_count (ap tables_of c.deref-in-Err-mount.ensures.value ∙ c.in-Err-mount.ensures.handed_back))

pub returns-in-Err-clause-refused : goal.returns-in-Err-clause-refused
returns-in-Err-clause-refused g c =
    let d = c.args.devices in
    let passes : PassesOrRefuses Arenas 4096 0 (map (λ t. t.count) (tables_of d.parts.items)) (Err c.in-Err.bad) =
    subst (λ (l : List (Part g.row.D.Denot)). PassesOrRefuses Arenas 4096 0 (map (λ t. t.count) (tables_of l)) (Err c.in-Err.bad)) c.deref.ensures.value c.in-Err.ensures in
    refused_arenas g.D.Disk d c.in-Err.bad (record { parts = d.parts; sections = d.sections; filter = d.filter }) refl refl passes

pub returns-in-Err-mount-clause-refused : goal.returns-in-Err-mount-clause-refused
returns-in-Err-mount-clause-refused g c =
    let d = c.args.devices in
    let e = c.in-Err-mount.ensures in
    let back : Devices g.row.D.Denot = record { parts = c.in-Err-mount.parts; sections = d.sections; filter = d.filter } in
    let tables = tables_of d.parts.items in
    let told : c.of_log-bad.result ≡ of_log (layout_of tables) c.in-Err-mount.bad =
    c.of_log-bad.ensures ∙ ap (λ (t : List Table). of_log (layout_of t) c.in-Err-mount.bad) (ap tables_of c.deref-in-Err-mount.ensures.value ∙ e.handed_back) in
    refused_log g.D.Disk g.S.Scorer.score_of d c.in-Err-mount.bad c.of_log-bad.result back refl e.handed_back told e.answer.0 e.answer.1
    (subst (λ (n : List (List ℕ)). RefusesLogMount n (layout_of tables) e.answer.0 c.in-Err-mount.bad) (names_same d.parts.items) e.answer.2) e.disks e.cause
    (λ h base tells distinct is. e.found h base tells (subst AreDistinct (sym (names_same d.parts.items)) distinct) is)

pub returns-in-Ok-clause-opened : goal.returns-in-Ok-clause-opened
returns-in-Ok-clause-opened g c =
    let few : arena_count (tables_of c.args.devices.parts.items) ≤ 4096 =
    omega (arith, c.in_default.ensures.1, ap (λ (l : List (Part g.row.D.Denot)). sum (map (λ t. t.count) (tables_of l))) c.deref.ensures.value, count_same (tables_of c.args.devices.parts.items)) in
    let d = c.args.devices in
    let e = c.in-Ok.ensures in
    let given = log_given g.S.Scorer.score_of g.D.Disk d.parts.items d.sections.items d.filter c.in-Ok.log e.whole e.mounted e.layout.0 e.layout.1 few
    e.answer.0 e.answer.1 e.answer.2 (λ h base tells distinct is. e.found h base tells distinct is) e.disks e.settled e.cause e.answer.3 in
    c.open_beside.ensures.opened d (record { tables = e.layout.1; found = given }) refl

pub returns-in-Ok-clause-refused : goal.returns-in-Ok-clause-refused
returns-in-Ok-clause-refused g c =
    let few : arena_count (tables_of c.args.devices.parts.items) ≤ 4096 =
    omega (arith, c.in_default.ensures.1, ap (λ (l : List (Part g.row.D.Denot)). sum (map (λ t. t.count) (tables_of l))) c.deref.ensures.value, count_same (tables_of c.args.devices.parts.items)) in
    let d = c.args.devices in
    let e = c.in-Ok.ensures in
    let given = log_given g.S.Scorer.score_of g.D.Disk d.parts.items d.sections.items d.filter c.in-Ok.log e.whole e.mounted e.layout.0 e.layout.1 few
    e.answer.0 e.answer.1 e.answer.2 (λ h base tells distinct is. e.found h base tells distinct is) e.disks e.settled e.cause e.answer.3 in
    c.open_beside.ensures.refused d (record { tables = e.layout.1; found = given }) refl refl
    (omega (arith, c.len-part.ensures, d.parts.ok.0))
