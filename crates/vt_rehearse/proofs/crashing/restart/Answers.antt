-- what a crash leaves can be mounted, and is the old store behind a crash
use Rattle.std.proofs.Common.{ap, arith}
use Rattle.std.proofs.lemmas.Result.{IfOk-weaker}
use Rattle.vt_recover.specs.declared.devices.Devices.{Devices}
use Rattle.vt_rehearse.proofs.Restarting.{can_be_mounted, crashes, have_tables, one_part, restarts, rooms, some_arena, two_sections}
use Rattle.vt_rehearse.proofs.crashing.restart.Goals as goal

pub crash_parts-requires-clause-tables : goal.crash_parts-requires-clause-tables
crash_parts-requires-clause-tables g c =
    have_tables g.S.Scorer.score_of g.D.Disk c.args.core c.requires.steady.0 c.into_devices-parts.result.parts.items c.requires.steady.1
    (ap (λ ds. ds.partitions) c.into_devices-parts.ensures.devices) c.into_devices-parts.ensures.tables

pub open-requires-clause-many : goal.open-requires-clause-many
open-requires-clause-many g c =
    let score = g.S.Scorer.score_of in
    let disk = g.D.Disk in
    let Leaves = g.D.Crashable.leaves in
    let mode = c.args.mode in
    let old = c.args.core in
    let before = c.into_devices-parts.result in
    let after : Devices g.row.D.Denot = record { parts = c.in_ok-parts.parts; sections = c.in_ok-sections.sections; filter = c.crash_one-filter.result } in
    let h = c.requires.steady.0 in
    let steady = c.requires.steady.1 in
    let one = one_part score disk Leaves mode c.requires.memory.tells old h steady before after c.into_devices-parts.ensures.devices c.into_devices-parts.ensures.tables
    c.in_ok-parts.ensures c.in_ok-sections.ensures c.crash_one-filter.ensures in
    let two = two_sections score disk Leaves mode c.requires.memory.tells old h steady before after c.into_devices-parts.ensures.devices c.into_devices-parts.ensures.tables
    c.in_ok-parts.ensures c.in_ok-sections.ensures c.crash_one-filter.ensures in
    omega (arith, one, two)

pub open-requires-clause-rooms : goal.open-requires-clause-rooms
open-requires-clause-rooms g c =
    let score = g.S.Scorer.score_of in
    let disk = g.D.Disk in
    let Leaves = g.D.Crashable.leaves in
    let mode = c.args.mode in
    let old = c.args.core in
    let before = c.into_devices-parts.result in
    let after : Devices g.row.D.Denot = record { parts = c.in_ok-parts.parts; sections = c.in_ok-sections.sections; filter = c.crash_one-filter.result } in
    let h = c.requires.steady.0 in
    let steady = c.requires.steady.1 in
    rooms score disk Leaves mode c.requires.memory.tells old h steady before after c.into_devices-parts.ensures.devices c.into_devices-parts.ensures.tables
    c.in_ok-parts.ensures c.in_ok-sections.ensures c.crash_one-filter.ensures

pub open-requires-clause-some_arena : goal.open-requires-clause-some_arena
open-requires-clause-some_arena g c =
    let score = g.S.Scorer.score_of in
    let disk = g.D.Disk in
    let Leaves = g.D.Crashable.leaves in
    let mode = c.args.mode in
    let old = c.args.core in
    let before = c.into_devices-parts.result in
    let after : Devices g.row.D.Denot = record { parts = c.in_ok-parts.parts; sections = c.in_ok-sections.sections; filter = c.crash_one-filter.result } in
    let h = c.requires.steady.0 in
    let steady = c.requires.steady.1 in
    some_arena score disk Leaves mode c.requires.memory.tells old h steady before after c.into_devices-parts.ensures.devices c.into_devices-parts.ensures.tables
    c.in_ok-parts.ensures c.in_ok-sections.ensures c.crash_one-filter.ensures

pub open-requires-clause-some_section : goal.open-requires-clause-some_section
open-requires-clause-some_section g c =
    let score = g.S.Scorer.score_of in
    let disk = g.D.Disk in
    let Leaves = g.D.Crashable.leaves in
    let mode = c.args.mode in
    let old = c.args.core in
    let before = c.into_devices-parts.result in
    let after : Devices g.row.D.Denot = record { parts = c.in_ok-parts.parts; sections = c.in_ok-sections.sections; filter = c.crash_one-filter.result } in
    let h = c.requires.steady.0 in
    let steady = c.requires.steady.1 in
    let two = two_sections score disk Leaves mode c.requires.memory.tells old h steady before after c.into_devices-parts.ensures.devices c.into_devices-parts.ensures.tables
    c.in_ok-parts.ensures c.in_ok-sections.ensures c.crash_one-filter.ensures in
    omega (arith, two)

pub open-requires-clause-log : goal.open-requires-clause-log
open-requires-clause-log g c =
    let score = g.S.Scorer.score_of in
    let disk = g.D.Disk in
    let Leaves = g.D.Crashable.leaves in
    let mode = c.args.mode in
    let old = c.args.core in
    let before = c.into_devices-parts.result in
    let after : Devices g.row.D.Denot = record { parts = c.in_ok-parts.parts; sections = c.in_ok-sections.sections; filter = c.crash_one-filter.result } in
    let h = c.requires.steady.0 in
    let steady = c.requires.steady.1 in
    can_be_mounted score disk Leaves mode c.requires.memory.tells old h steady before after c.into_devices-parts.ensures.devices c.into_devices-parts.ensures.tables
    c.in_ok-parts.ensures c.in_ok-sections.ensures c.crash_one-filter.ensures c.crash_gives_a_prefix.ensures.prefix
    c.stores_can_be_mounted.ensures.log

pub returns-clause-restarts : goal.returns-clause-restarts
returns-clause-restarts g c =
    let score = g.S.Scorer.score_of in
    let disk = g.D.Disk in
    let Leaves = g.D.Crashable.leaves in
    let mode = c.args.mode in
    let old = c.args.core in
    let before = c.into_devices-parts.result in
    let after : Devices g.row.D.Denot = record { parts = c.in_ok-parts.parts; sections = c.in_ok-sections.sections; filter = c.crash_one-filter.result } in
    let h = c.requires.steady.0 in
    let steady = c.requires.steady.1 in
    IfOk-weaker c.open.result _ _ (λ it mounts. restarts score disk Leaves mode c.requires.memory.tells old h steady before after c.into_devices-parts.ensures.devices c.into_devices-parts.ensures.tables
    c.in_ok-parts.ensures c.in_ok-sections.ensures c.crash_one-filter.ensures c.crash_gives_a_prefix.ensures.prefix it mounts) c.open.ensures

pub returns-clause-crashes : goal.returns-clause-crashes
returns-clause-crashes g c h steady =
    let score = g.S.Scorer.score_of in
    let disk = g.D.Disk in
    let Leaves = g.D.Crashable.leaves in
    let mode = c.args.mode in
    let old = c.args.core in
    let before = c.into_devices-parts.result in
    let after : Devices g.row.D.Denot = record { parts = c.in_ok-parts.parts; sections = c.in_ok-sections.sections; filter = c.crash_one-filter.result } in
    IfOk-weaker c.open.result _ _ (λ it mounts. crashes score disk Leaves mode c.requires.memory.tells old h steady before after c.into_devices-parts.ensures.devices c.into_devices-parts.ensures.tables
    c.in_ok-parts.ensures c.in_ok-sections.ensures c.crash_one-filter.ensures c.crash_gives_a_prefix.ensures.prefix it mounts c.recovery_is_a_crash.ensures
    c.stores_can_be_mounted.ensures.log) c.open.ensures
