use Rattle.std.proofs.Common.{◌∙◌, arith}
use Rattle.std.specs.Prelude.{IsTrue}
use Rattle.vt_open.proofs.Opened.{all_rooms, many_arenas, many_sections}
use Rattle.vt_maintain.specs.Checking.{ChecksOn}
use Rattle.vt_maintain.specs.Opened.{RefusesUse}
use Rattle.vt_maintain.proofs.OnStores.{differs, shape_checked, shape_there, uses}
use Rattle.vt_maintain.proofs.checking.check_store.Goals as goal

pub check_devices-done-requires-clause-many : goal.check_devices-done-requires-clause-many
check_devices-done-requires-clause-many g c κs within =
    let parts = g.P.Parts in
    let old = parts.standing c.args.parts.now in
    let mid = parts.standing c.take_all.new.parts in
    let taken = c.in-Ok.ensures.taken in
    let arenas = many_arenas g.P.Disk.Disk (IsTrue parts.tells) c.args.conf.now old mid
    c.in-Ok.devices taken in
    let sections = many_sections g.P.Disk.Disk (IsTrue parts.tells) c.args.conf.now old mid
    c.in-Ok.devices taken in
    omega (arith, arenas, sections, c.requires)

pub check_devices-done-requires-clause-rooms : goal.check_devices-done-requires-clause-rooms
check_devices-done-requires-clause-rooms g c κs within =
    let parts = g.P.Parts in
    all_rooms g.P.Disk.Disk (IsTrue parts.tells) c.args.conf.now (parts.standing c.args.parts.now)
    (parts.standing c.take_all.new.parts) c.in-Ok.devices c.in-Ok.ensures.taken

pub give_all-requires : goal.give_all-requires
give_all-requires g c =
    let parts = g.P.Parts in
    let disk = g.P.Disk.Disk in
    let score = g.S.Scorer.score_of in
    let mid = parts.standing c.take_all.new.parts in
    let devices = c.in-Ok.devices in
    let done = c.check_devices-done.result in
    shape_there disk devices (IsTrue parts.tells) c.args.conf.now
    (parts.standing c.args.parts.now) mid mid c.in-Ok.ensures.taken done.1
    (shape_checked disk devices score (RefusesUse score disk) done.1 done.0
    c.check_devices-done.ensures)

pub returns-clause-uses : goal.returns-clause-uses
returns-clause-uses g c =
    let parts = g.P.Parts in
    let disk = g.P.Disk.Disk in
    let score = g.S.Scorer.score_of in
    let devices = c.in-Ok.devices in
    let done = c.check_devices-done.result in
    uses disk devices (IsTrue parts.tells) c.args.conf.now (parts.standing c.args.parts.now)
    (parts.standing c.take_all.new.parts) (parts.standing c.give_all.new.parts)
    c.in-Ok.ensures.taken done.1
    (shape_checked disk devices score (RefusesUse score disk) done.1 done.0
    c.check_devices-done.ensures)
    c.give_all.ensures.given (parts.faults c.args.parts.now) (parts.faults c.give_all.new.parts)
    (c.give_all.ensures.faults ∙ c.in-Ok.ensures.faults) (RefusesUse score disk)
    (ChecksOn score disk) done.0 c.check_devices-done.ensures

pub returns-clause-differs : goal.returns-clause-differs
returns-clause-differs g c =
    let disk = g.P.Disk.Disk in
    let score = g.S.Scorer.score_of in
    let devices = c.in-Ok.devices in
    let done = c.check_devices-done.result in
    differs disk devices (RefusesUse score disk) (ChecksOn score disk) done.1
    (λ bad why. c.refusals_name_two.ensures.in_use score devices bad why) done.0
    c.check_devices-done.ensures
