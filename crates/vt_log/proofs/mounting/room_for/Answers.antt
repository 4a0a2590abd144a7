-- The arena is there, or none is.
use Rattle.std.proofs.Common.{◌≡◌, ◌%◌, List, [], get_or, false, ◌∙◌, ap, arith}
use Rattle.std.proofs.lemmas.Result.{IfOk-weaker}
use Rattle.std.proofs.lemmas.Option.{slice_get-get_or}
use Rattle.vt_part.specs.declared.layout.ArenaRegion.{ArenaRegion}
use Rattle.vt_arena.specs.declared.head.Found.{Found}
use Rattle.vt_arena.specs.Arena.{fresh_arena}
use Rattle.vt_log.specs.Mounting.{IsRoomFor}
use Rattle.vt_log.proofs.AreFound.{room_there}
use Rattle.vt_log.proofs.Lists.{no_region}
use Rattle.vt_log.proofs.mounting.room_for.Goals as goal

abbrev no_found : Found
no_found = record { head = record { version = 0; number = 0; sealed = false; clumps = 0; used = 0; chain = record { 0 = [] }; last = 0 }; selector = 0 }

pub resume-requires-2-clause-len : goal.resume-requires-2-clause-len
resume-requires-2-clause-len c =
    rw c.as_slice.ensures
    (c.requires.heads _ _ (slice_get-get_or c.args.layout.now c.args.arena no_region (omega arith)) (slice_get-get_or c.args.heads.now c.args.arena no_found (omega arith))).0

pub resume-requires-2-clause-fit : goal.resume-requires-2-clause-fit
resume-requires-2-clause-fit c =
    rw c.as_slice.ensures
    (c.requires.heads _ _ (slice_get-get_or c.args.layout.now c.args.arena no_region (omega arith)) (slice_get-get_or c.args.heads.now c.args.arena no_found (omega arith))).1.fit

pub returns : goal.returns
returns c =
    let r : ArenaRegion = get_or c.args.layout.now c.args.arena no_region in
    let found : Found = get_or c.args.heads.now c.args.arena no_found in
    IfOk-weaker c.resume-2.result (λ a. a ≡ fresh_arena (get_or c.as_slice.result.now c.args.arena no_region).region.len (found.selector % 2) found.head) (IsRoomFor c.args.layout.now c.args.heads.now c.args.arena)
    (λ a fresh. room_there c.args.layout.now c.args.heads.now c.args.arena r found a (slice_get-get_or c.args.layout.now c.args.arena no_region (omega arith))
    (slice_get-get_or c.args.heads.now c.args.arena no_found (omega arith))
    (fresh ∙ ap (λ (rs : List ArenaRegion). fresh_arena (get_or rs c.args.arena no_region).region.len (found.selector % 2) found.head) c.as_slice.ensures))
    c.resume-2.ensures
