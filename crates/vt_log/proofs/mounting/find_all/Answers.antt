-- One more arena is found.
use Rattle.std.proofs.Common.{◌≡◌, ◌+◌, ◌*◌, ◌<◌, ◌≤◌, ◌||◌, ◌++◌, ◌∷◌, [], ℕ, List, length, get_or, map, sym, ◌∙◌, ap, subst, arith, Some, Bool}
use Rattle.std.specs.Prelude.{slice_get, not}
use Rattle.std.proofs.lemmas.List.{length-take-le, take_all}
use Rattle.std.proofs.lemmas.Option.{slice_get-get_or}
use Rattle.std.proofs.lemmas.Result.{err_from_is_err_and}
use Rattle.vt_part.specs.declared.layout.ArenaRegion.{ArenaRegion}
use Rattle.vt_arena.specs.declared.head.Found.{Found}
use Rattle.vt_log.specs.Faults.{AreReadAt}
use Rattle.vt_log.specs.Log.{disks_of}
use Rattle.vt_log.specs.Mounting.{AreFieldsAt, AreFound, OnlyReadsParts, reads_to_find_all}
use Rattle.vt_log.specs.Whole.{IsOnDisk}
use Rattle.vt_log.proofs.Lists.{at_slice, no_region}
use Rattle.vt_log.proofs.AreFound.{read_then, fields_there, fields_are, AreRead, read_more_of, passes_all, stops, found_more, on_held, found_file}
use Rattle.vt_log.proofs.mounting.find_all.Goals as goal
use Rattle.vt_log.proofs.mounting.find_all.Goals.{then-behind, else-behind}

there : (regions layout : List ArenaRegion) (i : ℕ) → regions ≡ layout → i < length layout → slice_get layout i ≡ Some (get_or regions i no_region)
there regions layout i same within = slice_get-get_or layout i no_region within ∙ ap (λ (rs : List ArenaRegion). Some (get_or rs i no_region)) (sym same)

pub returns-in_default-clause-answer : goal.returns-in_default-clause-answer
returns-in_default-clause-answer g c =
    (map (fields_there (map g.D.Disk.bytes (disks_of c.args.parts.now))) c.args.layout.now, λ told. fields_are (map g.D.Disk.bytes (disks_of c.args.parts.now)) c.args.layout.now, tt, tt)

pub find_next-requires : goal.find_next-requires
find_next-requires g c =
    let at = there c.as_slice-regions.result.now c.args.layout.now c.loop-i.i c.as_slice-regions.ensures (omega (arith, ap (λ (rs : List ArenaRegion). length rs) c.as_slice-regions.ensures)) in
    on_held g.D.Disk (disks_of c.args.parts.now) (disks_of c.loop-i.parts) _ c.loop-i.invariant.read.disks
    (at_slice (IsOnDisk g.D.Disk (disks_of c.args.parts.now)) c.args.layout.now c.loop-i.i _ c.requires.regions at)

pub returns-in_err-found-clause-answer : goal.returns-in_err-found-clause-answer
returns-in_err-found-clause-answer g c =
    let r = get_or c.as_slice-regions.result.now c.loop-i.i no_region in
    let at = there c.as_slice-regions.result.now c.args.layout.now c.loop-i.i c.as_slice-regions.ensures (omega (arith, ap (λ (rs : List ArenaRegion). length rs) c.as_slice-regions.ensures)) in
    let e = err_from_is_err_and c.from_residual.result c.from_residual.ensures.1 in
    let answer = c.in_err-found.ensures.answer in
    let it = stops g.D.Disk c.args.parts.now c.loop-i.parts c.args.layout.now c.loop-i.heads.items c.loop-i.behind c.loop-i.i r c.in_err-found.field-0.0
    c.requires.regions c.loop-i.invariant.passed at (
      answer.0,
      λ told. subst (λ (files : List (List ℕ)). AreFieldsAt files r answer.0) c.loop-i.invariant.read.disks.bytes_are (answer.1 told),
      answer.2,
    ) in
    (it.0, it.1, rw (e.1, e.2) it.2, rw e.1 tt)

pub returns-in_err-found-clause-read : goal.returns-in_err-found-clause-read
returns-in_err-found-clause-read g c =
    read_then g.D.Disk (3 * c.loop-i.i) 3 (3 * length c.args.layout.now) c.args.parts.now c.loop-i.parts c.find_next.new.parts
    (omega (arith, ap (λ (rs : List ArenaRegion). length rs) c.as_slice-regions.ensures)) c.loop-i.invariant.read c.find_next.ensures.read

pub returns-in_default-push-clause-answer : goal.returns-in_default-push-clause-answer
returns-in_default-push-clause-answer g c =
    (map (fields_there (map g.D.Disk.bytes (disks_of c.args.parts.now))) c.args.layout.now, λ told. fields_are (map g.D.Disk.bytes (disks_of c.args.parts.now)) c.args.layout.now, tt, tt)

pub returns-in_default-push-clause-read : goal.returns-in_default-push-clause-read
returns-in_default-push-clause-read g c =
    read_then g.D.Disk (3 * c.loop-i.i) 3 (3 * length c.args.layout.now) c.args.parts.now c.loop-i.parts c.find_next.new.parts
    (omega (arith, ap (λ (rs : List ArenaRegion). length rs) c.as_slice-regions.ensures)) c.loop-i.invariant.read c.find_next.ensures.read

pub loop-i-preserved : goal.loop-i-preserved
loop-i-preserved g c =
    let r = get_or c.as_slice-regions.result.now c.loop-i.i no_region in
    let found = c.in_ok-found.found in
    let at = there c.as_slice-regions.result.now c.args.layout.now c.loop-i.i c.as_slice-regions.ensures (omega (arith, ap (λ (rs : List ArenaRegion). length rs) c.as_slice-regions.ensures)) in
    let pushed : c.push.new.self.items ≡ c.loop-i.heads.items ++ found ∷ [] = c.in-Ok-push.ensures.items in
    let answer = c.in_ok-found.ensures.answer in
    let next : c.if-behind.behind ≡ (c.loop-i.behind || not found.head.sealed) =
    elim c.if-behind.branch [
      | then-behind w ↦ w.behind-is ∙ w.if-behind.true ∙ sym (ap (λ (b : Bool). b || not found.head.sealed) w.if-behind.true)
      | else-behind w ↦ w.behind-is ∙ sym (ap (λ (b : Bool). b || not found.head.sealed) w.if-behind.false)
    ] in
    record {
      passed = subst (λ (hs : List Found). AreRead g.D.Disk c.args.parts.now c.find_next.new.parts c.args.layout.now hs c.if-behind.behind (c.loop-i.i + 1)) (sym pushed)
          (read_more_of g.D.Disk c.args.parts.now c.loop-i.parts c.find_next.new.parts c.args.layout.now c.loop-i.heads.items c.loop-i.behind c.if-behind.behind c.loop-i.i r found c.requires.regions at
          (omega (arith, c.loop-i.invariant.found.many, length-take-le c.loop-i.i c.args.layout.now (omega (arith, ap (λ (rs : List ArenaRegion). length rs) c.as_slice-regions.ensures))))
          (answer.0, (λ told. subst (λ (files : List (List ℕ)). AreFieldsAt files r answer.0) c.loop-i.invariant.read.disks.bytes_are (answer.1 told)), answer.2, answer.3)
          next c.loop-i.invariant.passed);
      found = subst (AreFound _ _ _) (sym pushed)
          (found_more g.D.Disk.tells c.args.layout.now (map g.D.Disk.bytes (disks_of c.args.parts.now)) c.loop-i.heads.items c.loop-i.i r found c.loop-i.invariant.found at
          (found_file g.D.Disk (disks_of c.loop-i.parts) (map g.D.Disk.bytes (disks_of c.args.parts.now)) r found c.loop-i.invariant.read.disks.bytes_are c.in_ok-found.ensures.found));
      read = read_then g.D.Disk (3 * c.loop-i.i) 3 (3 * (c.loop-i.i + 1)) c.args.parts.now c.loop-i.parts c.find_next.new.parts
          (omega arith) c.loop-i.invariant.read c.find_next.ensures.read;
      faults = c.in_ok-found.ensures.cause ∙ c.loop-i.invariant.faults;
    }

pub returns-clause-answer : goal.returns-clause-answer
returns-clause-answer g c =
    let whole : length c.args.layout.now ≤ c.loop-i.i = omega (arith, ap (λ (rs : List ArenaRegion). length rs) c.as_slice-regions.ensures) in (
      c.loop-i.invariant.passed.fields,
      λ told. subst (AreReadAt c.args.layout.now (map g.D.Disk.bytes (disks_of c.args.parts.now)))
          (sym (c.loop-i.invariant.passed.there told ∙ ap (map (fields_there (map g.D.Disk.bytes (disks_of c.args.parts.now)))) (take_all c.loop-i.i c.args.layout.now whole)))
          (fields_are (map g.D.Disk.bytes (disks_of c.args.parts.now)) c.args.layout.now),
      passes_all g.D.Disk c.args.parts.now c.loop-i.parts c.args.layout.now c.loop-i.heads.items c.loop-i.behind c.loop-i.i c.loop-i.invariant.passed whole,
      subst (λ (rs : List ArenaRegion). OnlyReadsParts g.D.Disk (reads_to_find_all rs c.loop-i.invariant.passed.fields) c.args.parts.now c.loop-i.parts)
          (take_all c.loop-i.i c.args.layout.now whole) c.loop-i.invariant.passed.reads,
    )
