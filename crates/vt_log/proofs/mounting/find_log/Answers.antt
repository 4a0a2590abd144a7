-- The disks are synced, and the arenas found.
use Rattle.std.proofs.Common.{◌≡◌, ◌+◌, ◌*◌, ℕ, List, length, map, inl, inr, sym, ap, subst, arith, Ok, Err, Result, IfOk, IfErr, MatchResult}
use Rattle.std.specs.Prelude.{All}
use Rattle.std.proofs.lemmas.List.Elements.{All-weaker}
use Rattle.std.proofs.lemmas.Result.{err_from_is_err_and}
use Rattle.vt_part.specs.declared.layout.ArenaRegion.{ArenaRegion}
use Rattle.vt_part.specs.Layout.{layout_of}
use Rattle.vt_part.specs.Parts.{names_of, tables_of}
use Rattle.vt_part.proofs.Layouts.{layouts_have_lengths}
use Rattle.vt_log.specs.declared.error.LogBad.{LogBad}
use Rattle.vt_log.specs.declared.error.LogBad.TheVariants.{NoMemory}
use Rattle.vt_arena.specs.declared.head.Found.{Found}
use Rattle.vt_log.specs.Faults.{AreReadAt, RefusesLogMount}
use Rattle.vt_log.specs.Log.{disks_of}
use Rattle.vt_log.specs.Logs.{arena_count}
use Rattle.vt_log.specs.Mounting.{ArePassed, TellsOfSettled, reads_to_find_all}
use Rattle.vt_log.specs.Whole.{IsOnDisk}
use Rattle.vt_log.proofs.AreFound.{read_then, on_held, fields_there, fields_are, settled_held, found_stands, on_ok, refuses_mount, told_early, told_behind}
use Rattle.vt_log.proofs.FoundLog.{regions_on}
use Rattle.vt_log.proofs.mounting.find_log.Goals as goal

pub returns-in_err-layout-clause-answer : goal.returns-in_err-layout-clause-answer
returns-in_err-layout-clause-answer g c =
    let layout = layout_of (tables_of c.args.parts.now) in
    let files = map g.D.Disk.bytes (disks_of c.args.parts.now) in
    let e = err_from_is_err_and c.from_residual.result c.from_residual.ensures.1 in
    (map (fields_there files) layout, λ told. fields_are files layout, rw (e.1, e.2) (c.in_err-layout.ensures.refused layout (map (fields_there files) layout)), rw e.1 tt)

pub returns-in_err-sync_all-clause-answer : goal.returns-in_err-sync_all-clause-answer
returns-in_err-sync_all-clause-answer g c =
    let layout = layout_of (tables_of c.args.parts.now) in
    let files = map g.D.Disk.bytes (disks_of c.args.parts.now) in
    let e = err_from_is_err_and c.from_residual-in_err-sync_all.result c.from_residual-in_err-sync_all.ensures.1 in
    (map (fields_there files) layout, λ told. fields_are files layout, rw (e.1, e.2, c.in_err-sync_all.ensures.fault) c.in_ok-layout.ensures.distinct, rw e.1 tt)

pub find_all-requires-clause-few : goal.find_all-requires-clause-few
find_all-requires-clause-few g c =
    omega (arith, ap (λ (rs : List ArenaRegion). length rs) c.in_ok-layout.ensures.listed, layouts_have_lengths (tables_of c.args.parts.now), c.requires.few)

pub find_all-requires-clause-regions : goal.find_all-requires-clause-regions
find_all-requires-clause-regions g c =
    subst (All (IsOnDisk g.D.Disk (disks_of c.sync_all.new.parts))) (sym c.in_ok-layout.ensures.listed)
    (All-weaker (IsOnDisk g.D.Disk (disks_of c.args.parts.now)) (IsOnDisk g.D.Disk (disks_of c.sync_all.new.parts))
    (λ r on. on_held g.D.Disk (disks_of c.args.parts.now) (disks_of c.sync_all.new.parts) r c.sync_all.ensures.read.disks on)
    (layout_of (tables_of c.args.parts.now)) (regions_on g.D.Disk c.args.parts.now c.requires.rooms))

pub returns-in_err-heads-clause-read : goal.returns-in_err-heads-clause-read
returns-in_err-heads-clause-read g c =
    read_then g.D.Disk (length c.args.parts.now) (3 * length c.in_ok-layout.layout) (length c.args.parts.now + 3 * arena_count (tables_of c.args.parts.now))
    c.args.parts.now c.sync_all.new.parts c.find_all.new.parts
    (omega (arith, ap (λ (rs : List ArenaRegion). length rs) c.in_ok-layout.ensures.listed, layouts_have_lengths (tables_of c.args.parts.now))) c.sync_all.ensures.read c.find_all.ensures.read

pub returns-in_err-heads-clause-answer : goal.returns-in_err-heads-clause-answer
returns-in_err-heads-clause-answer g c =
    let e = err_from_is_err_and c.from_residual-in_err-heads.result c.from_residual-in_err-heads.ensures.1 in
    let answer = c.in_err-heads.ensures.answer in (
      answer.0,
      λ told. subst (λ (rs : List ArenaRegion). AreReadAt rs (map g.D.Disk.bytes (disks_of c.args.parts.now)) answer.0) c.in_ok-layout.ensures.listed
          (subst (λ (files : List (List ℕ)). AreReadAt c.in_ok-layout.layout files answer.0) c.sync_all.ensures.read.disks.bytes_are (answer.1 told)),
      rw (e.1, e.2) (subst (λ (rs : List ArenaRegion). RefusesLogMount (names_of c.args.parts.now) rs answer.0 c.in_err-heads.field-0.0) c.in_ok-layout.ensures.listed
          (refuses_mount (names_of c.args.parts.now) c.in_ok-layout.layout answer.0 c.in_err-heads.field-0.0 c.in_ok-layout.ensures.distinct answer.2)),
      rw e.1 tt,
    )

pub returns-clause-answer : goal.returns-clause-answer
returns-clause-answer g c =
    let answer = c.in_ok-heads.ensures.answer in (
      answer.0,
      λ told. subst (λ (rs : List ArenaRegion). AreReadAt rs (map g.D.Disk.bytes (disks_of c.args.parts.now)) answer.0) c.in_ok-layout.ensures.listed
          (subst (λ (files : List (List ℕ)). AreReadAt c.in_ok-layout.layout files answer.0) c.sync_all.ensures.read.disks.bytes_are (answer.1 told)),
      made_answer (λ it. it.heads.items ≡ c.in_ok-heads.heads.items) (λ it. ArePassed (layout_of (tables_of c.args.parts.now)) answer.0 it.heads.items)
          (λ bad. RefusesLogMount (names_of c.args.parts.now) (layout_of (tables_of c.args.parts.now)) answer.0 bad) c.make_room.result c.make_room.ensures.heads c.make_room.ensures.memory
          (λ it heads. subst (λ (rs : List ArenaRegion). ArePassed rs answer.0 it.heads.items) c.in_ok-layout.ensures.listed
          (subst (λ (hs : List Found). ArePassed c.in_ok-layout.layout answer.0 hs) (sym heads) answer.2))
          c.in_ok-layout.ensures.distinct,
      on_ok c.make_room.result (read_then g.D.Disk (length c.args.parts.now) (reads_to_find_all c.in_ok-layout.layout answer.0)
          (length c.args.parts.now + reads_to_find_all (layout_of (tables_of c.args.parts.now)) answer.0)
          c.args.parts.now c.sync_all.new.parts c.find_all.new.parts
          (omega (arith, ap (λ (rs : List ArenaRegion). reads_to_find_all rs answer.0) c.in_ok-layout.ensures.listed)) c.sync_all.ensures.read answer.3),
    )
  where
    made_answer : {T : Type 0} (P Q : T → Type 0) (R : LogBad → Type 0) (result : Result T LogBad) → IfOk result P → IfErr result (λ bad. bad ≡ NoMemory) → ((it : T) → P it → Q it) → R NoMemory → MatchResult result Q R
    made_answer P Q R (Ok it) heads memory gives none = gives it heads
    made_answer P Q R (Err bad) heads memory gives none = subst R (sym memory) none

pub make_room-requires-clause-few : goal.make_room-requires-clause-few
make_room-requires-clause-few g c =
    omega (arith, ap (λ (rs : List ArenaRegion). length rs) c.in_ok-layout.ensures.listed, layouts_have_lengths (tables_of c.args.parts.now), c.requires.few)

pub make_room-requires-clause-heads : goal.make_room-requires-clause-heads
make_room-requires-clause-heads g c i r found at at_found =
    found_stands g.D.Disk (disks_of c.sync_all.new.parts) c.in_ok-layout.layout c.in_ok-heads.heads.items i r found
    (subst (All (IsOnDisk g.D.Disk (disks_of c.sync_all.new.parts))) (sym c.in_ok-layout.ensures.listed)
    (All-weaker (IsOnDisk g.D.Disk (disks_of c.args.parts.now)) (IsOnDisk g.D.Disk (disks_of c.sync_all.new.parts))
    (λ r on. on_held g.D.Disk (disks_of c.args.parts.now) (disks_of c.sync_all.new.parts) r c.sync_all.ensures.read.disks on)
    (layout_of (tables_of c.args.parts.now)) (regions_on g.D.Disk c.args.parts.now c.requires.rooms)))
    c.in_ok-heads.ensures.found at at_found

pub returns-clause-settled : goal.returns-clause-settled
returns-clause-settled g c =
    on_ok c.make_room.result (settled_held g.D.Disk (disks_of c.sync_all.new.parts) (disks_of c.find_all.new.parts)
    c.find_all.ensures.read.disks c.in_ok-sync_all.ensures.settled)

pub returns-clause-read : goal.returns-clause-read
returns-clause-read g c =
    read_then g.D.Disk (length c.args.parts.now) (3 * length c.in_ok-layout.layout) (length c.args.parts.now + 3 * arena_count (tables_of c.args.parts.now))
    c.args.parts.now c.sync_all.new.parts c.find_all.new.parts
    (omega (arith, ap (λ (rs : List ArenaRegion). length rs) c.in_ok-layout.ensures.listed, layouts_have_lengths (tables_of c.args.parts.now))) c.sync_all.ensures.read c.find_all.ensures.read

-- ---- what a refusal is told of

pub returns-in_err-layout-clause-told : goal.returns-in_err-layout-clause-told
returns-in_err-layout-clause-told g c =
    let e = err_from_is_err_and c.from_residual.result c.from_residual.ensures.1 in
    rw (e.1, e.2) (told_early g.D.Disk c.args.parts.now _ c.in_err-layout.ensures.early)

pub returns-in_err-sync_all-clause-told : goal.returns-in_err-sync_all-clause-told
returns-in_err-sync_all-clause-told g c =
    let e = err_from_is_err_and c.from_residual-in_err-sync_all.result c.from_residual-in_err-sync_all.ensures.1 in
    rw (e.1, e.2, c.in_err-sync_all.ensures.fault) (inl c.in_err-sync_all.ensures.stops)

pub returns-in_err-heads-clause-told : goal.returns-in_err-heads-clause-told
returns-in_err-heads-clause-told g c =
    let e = err_from_is_err_and c.from_residual-in_err-heads.result c.from_residual-in_err-heads.ensures.1 in
    let answer = c.in_err-heads.ensures.answer in
    rw (e.1, e.2) (told_behind g.D.Disk c.args.parts.now c.find_all.new.parts _ answer.0 _ answer.2
    (settled_held g.D.Disk (disks_of c.sync_all.new.parts) (disks_of c.find_all.new.parts) c.find_all.ensures.read.disks
    c.in_ok-sync_all.ensures.settled))

pub returns-clause-told : goal.returns-clause-told
returns-clause-told g c =
    on_error (TellsOfSettled g.D.Disk c.args.parts.now c.find_all.new.parts) c.make_room.result c.make_room.ensures.memory (inr
    (settled_held g.D.Disk (disks_of c.sync_all.new.parts) (disks_of c.find_all.new.parts) c.find_all.ensures.read.disks
    c.in_ok-sync_all.ensures.settled))
  where
    on_error : {T : Type 0} (P : LogBad → Type 0) (result : Result T LogBad) → IfErr result (λ bad. bad ≡ NoMemory) → P NoMemory → IfErr result P
    on_error P (Ok it) memory holds = tt
    on_error P (Err bad) memory holds = subst P (sym memory) holds
