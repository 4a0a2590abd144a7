use Rattle.std.proofs.Common.{[], refl, ◌∙◌, arith}
use Rattle.vt_core.specs.Files.{all_of}
use Rattle.vt_core.specs.Mounting.{devices_in}
use Rattle.vt_empty.specs.Shape.{setup_for}
use Rattle.vt_empty.proofs.Made.{bits_kept, few_sections}
use Rattle.vt_empty.proofs.store.fresh_store.Goals as goal

pub mount-requires-clause-many : goal.mount-requires-clause-many
mount-requires-clause-many g c =
    let are = c.in_ok-devices.ensures in
    let parts = are.partitions in
    let sections = are.sections in
    let few = few_sections c.args.shape.now c.requires.shape in
    omega (arith, parts, sections, few)

pub mount-requires-clause-some_arena : goal.mount-requires-clause-some_arena
mount-requires-clause-some_arena g c =
    let arenas = c.in_ok-devices.ensures.arenas in
    let some = c.requires.shape.some_arena in
    omega (arith, arenas, some)

pub mount-requires-clause-some_section : goal.mount-requires-clause-some_section
mount-requires-clause-some_section g c =
    let sections = c.in_ok-devices.ensures.sections in
    let some = c.requires.shape.some_section in
    omega (arith, sections, some)

pub returns-in-Ok : goal.returns-in-Ok
returns-in-Ok g c =
    let score = g.S.Scorer.score_of in
    let shape = c.args.shape.now in
    let devices = c.in_ok-devices.devices in
    let are = c.in_ok-devices.ensures in
    let mounts = c.in-Ok.ensures.mounts in
    let fresh = mounts.fresh in
    let it = mounts.recalls (setup_for shape) _ _ 0 refl (are.log score) in
    record {
      sound = it.sound;
      setup = it.setup;
      durable = it.durable;
      synced = fresh.synced ∙ it.durable;
      waiting = fresh.waiting;
      stops = fresh.stops;
      writebacks = fresh.writebacks;
      saves = fresh.saves;
      bits = bits_kept _ c.saved_filters_are_told_apart.ensures.one_saved c.crash_gives_old_or_new.ensures.rest (λ disk. c.what_is_read_is_an_image.ensures disk refl) score shape devices c.in-Ok.core it.sound are.filter fresh.filter fresh.saves
          (c.in-Ok.ensures.standing refl).filter;
      rooms = fresh.rooms;
    }

pub unreachable-requires : goal.unreachable-requires
unreachable-requires g c =
    let shape = c.args.shape.now in
    let are = c.in_ok-devices.ensures in
    let is = c.in-Err.ensures.found (setup_for shape) [] [] 0 refl (are.log g.S.Scorer.score_of) are.limits in
    c.in_default.not-NoMemory
    (c.memory_is_the_only_refusal.ensures c.in-Err.bad (all_of (devices_in c.in_ok-devices.devices)) (all_of (devices_in c.in-Err.field-0-1)) (λ disk. refl) c.in-Err.ensures.refused.counts is)
