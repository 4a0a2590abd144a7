-- One disk is read.
use Rattle.std.proofs.Common.{◌<◌, length, get_or, set, sym, subst, rules, Ok, Err, false}
use Rattle.std.proofs.lemmas.Option.{slice_get-get_or}
use Rattle.vt_arena.specs.declared.head.Found.{Found}
use Rattle.vt_arena.specs.Faults.{is_arena_fault, reads_to_find}
use Rattle.vt_log.specs.declared.error.LogBad.{LogBad}
use Rattle.vt_log.specs.Faults.{CountsFaults, is_log_fault}
use Rattle.vt_log.specs.Log.{disks_of}
use Rattle.vt_log.specs.Mounting.{FindsNext}
use Rattle.vt_log.proofs.AreFound.{read_set, reads_made, counts_set, part_of_region, fields_for, found_for, finds_ok, finds_err, counts_refused}
use Rattle.vt_log.proofs.mounting.find_arena.Goals as goal

pub offset_bounds-parts-r : goal.offset_bounds-parts-r
offset_bounds-parts-r g c =
    let below : c.args.r.part < length c.args.parts.now = (part_of_region _ c.args.parts.now c.args.r c.requires).below in
    search rules

pub bounds-parts-r : goal.bounds-parts-r
bounds-parts-r g c = (part_of_region _ c.args.parts.now c.args.r c.requires).below

pub find-requires : goal.find-requires
find-requires g c =
    let p = get_or c.args.parts.now c.args.r.part c.index-parts-r.result in
    let it = part_of_region g.D.Disk c.args.parts.now c.args.r c.requires in
    it.part_is p (slice_get-get_or c.args.parts.now c.args.r.part c.index-parts-r.result it.below)

pub returns-in-Ok-clause-answer : goal.returns-in-Ok-clause-answer
returns-in-Ok-clause-answer g c =
    let p = get_or c.args.parts.now c.args.r.part c.index-parts-r.result in
    let it = part_of_region g.D.Disk c.args.parts.now c.args.r c.requires in
    let at = slice_get-get_or c.args.parts.now c.args.r.part c.index-parts-r.result it.below in
    let answer = c.in-Ok.ensures.answer in (
      answer.0,
      λ told. fields_for g.D.Disk c.args.parts.now c.args.r p answer.0 at (answer.1 told),
      finds_ok c.args.arena c.args.r answer.0 c.in-Ok.found answer.2,
      read_set g.D.Disk (reads_to_find c.args.r.number c.args.r.region.len answer.0) c.args.r.part c.args.parts.now p c.find.new.disk at
          (reads_made g.D.Disk (reads_to_find c.args.r.number c.args.r.region.len answer.0) p.disk c.find.new.disk c.find.ensures.reads (λ is. cc) answer.3),
    )

pub returns-in-Ok-clause-found : goal.returns-in-Ok-clause-found
returns-in-Ok-clause-found g c =
    let p = get_or c.args.parts.now c.args.r.part c.index-parts-r.result in
    let it = part_of_region g.D.Disk c.args.parts.now c.args.r c.requires in
    let at = slice_get-get_or c.args.parts.now c.args.r.part c.index-parts-r.result it.below in
    found_for g.D.Disk c.args.parts.now c.args.r p c.in-Ok.found at (record {
      stands = c.in-Ok.ensures.checked;
      selector = c.in-Ok.ensures.selector;
      head = c.in-Ok.ensures.found;
    })

pub returns-in-Ok-clause-read : goal.returns-in-Ok-clause-read
returns-in-Ok-clause-read g c =
    let p = get_or c.args.parts.now c.args.r.part c.index-parts-r.result in
    let it = part_of_region g.D.Disk c.args.parts.now c.args.r c.requires in
    let at = slice_get-get_or c.args.parts.now c.args.r.part c.index-parts-r.result it.below in
    read_set g.D.Disk 3 c.args.r.part c.args.parts.now p c.find.new.disk at c.find.ensures.reads

pub returns-in-Ok-clause-cause : goal.returns-in-Ok-clause-cause
returns-in-Ok-clause-cause g c =
    let p = get_or c.args.parts.now c.args.r.part c.index-parts-r.result in
    let it = part_of_region g.D.Disk c.args.parts.now c.args.r c.requires in
    let at = slice_get-get_or c.args.parts.now c.args.r.part c.index-parts-r.result it.below in
    counts_set {T = Found} g.D.Disk is_arena_fault c.args.parts.now c.args.r.part p c.find.new.disk (Ok c.in-Ok.found) at c.in-Ok.ensures.cause

pub returns-in-Err-clause-answer : goal.returns-in-Err-clause-answer
returns-in-Err-clause-answer g c =
    let p = get_or c.args.parts.now c.args.r.part c.index-parts-r.result in
    let it = part_of_region g.D.Disk c.args.parts.now c.args.r c.requires in
    let at = slice_get-get_or c.args.parts.now c.args.r.part c.index-parts-r.result it.below in
    let answer = c.in-Err.ensures.answer in (
      answer.0,
      λ told. fields_for g.D.Disk c.args.parts.now c.args.r p answer.0 at (answer.1 told),
      subst (λ (bad : LogBad). FindsNext false c.args.arena c.args.r answer.0 (Err bad)) (sym c.refused.ensures) (finds_err c.args.arena c.args.r answer.0 c.in-Err.bad answer.2),
      tt,
    )

pub returns-in-Err-clause-read : goal.returns-in-Err-clause-read
returns-in-Err-clause-read g c =
    let p = get_or c.args.parts.now c.args.r.part c.index-parts-r.result in
    let it = part_of_region g.D.Disk c.args.parts.now c.args.r c.requires in
    let at = slice_get-get_or c.args.parts.now c.args.r.part c.index-parts-r.result it.below in
    read_set g.D.Disk 3 c.args.r.part c.args.parts.now p c.find.new.disk at c.find.ensures.reads

pub returns-in-Err-clause-cause : goal.returns-in-Err-clause-cause
returns-in-Err-clause-cause g c =
    let p = get_or c.args.parts.now c.args.r.part c.index-parts-r.result in
    let it = part_of_region g.D.Disk c.args.parts.now c.args.r c.requires in
    let at = slice_get-get_or c.args.parts.now c.args.r.part c.index-parts-r.result it.below in
    subst (λ (bad : LogBad). CountsFaults {T = Found} g.D.Disk is_log_fault (Err bad) (disks_of c.args.parts.now) (disks_of (set c.args.parts.now c.args.r.part (record p { disk = c.find.new.disk }))))
    (sym c.refused.ensures) (counts_refused g.D.Disk c.args.parts.now c.args.r.part c.args.arena p c.find.new.disk c.in-Err.bad at c.in-Err.ensures.cause)
