use Rattle.std.proofs.Common.{◌≡◌, ◌≤◌, ◌+◌, ℕ, inl, inr, List, ◌++◌, length, take, drop, sym, ap, ◌∙◌, arith}
use Rattle.std.proofs.lemmas.Bool.{cases_lt}
use Rattle.std.proofs.lemmas.Grind.{common_steps}
use Rattle.std.proofs.lemmas.List.{drop_all}
use Rattle.std.proofs.lemmas.Result.{err_from_is_err_and}
use Rattle.vac_write.specs.Sources.{bytes_at_path, file_is, is_sure, or_none, sure_faults, unsure_faults}
use Rattle.vac_write.proofs.Pieces.{moved, came, rest_of}
use Rattle.vac_write.proofs.Sure.{failed_unsure, sure_stayed, sure_stays, told_stays, unsure_rose}
use Rattle.vac_write.proofs.sources.FileSourceSource.take.Goals as goal

pub returns-clause-moved : goal.returns-clause-moved
returns-clause-moved g c told =
    let self = c.args.self.now in
    let path = self.path.now in
    let m = c.in_ok-n.ensures.moved told in
    let file : bytes_at_path path (g.F.Folder.holds self.folder.now) ≡ m.0 = ap or_none m.1 in
    let after : bytes_at_path path (g.F.Folder.holds c.read.new.self) ≡ m.0 =
    ap (bytes_at_path path) (c.in_ok-n.ensures.stays told) ∙ file in
    let n = c.in_ok-n.n in
    let behind = drop c.min-room.result c.args.buf.now in
    ap (drop self.at) file
    ∙ moved m.0 c.read.new.buf behind self.at n
    (omega (arith, c.in_ok-n.ensures.fits, c.read.auto.buf)) m.2
    ∙ ap (λ (l : List ℕ). take n (c.read.new.buf ++ behind) ++ drop (self.at + n) l) (sym after)

pub returns-clause-came : goal.returns-clause-came
returns-clause-came g c told =
    let self = c.args.self.now in
    let path = self.path.now in
    let m = c.in_ok-n.ensures.moved told in
    let file : bytes_at_path path (g.F.Folder.holds self.folder.now) ≡ m.0 = ap or_none m.1 in
    let after : bytes_at_path path (g.F.Folder.holds c.read.new.self) ≡ m.0 =
    ap (bytes_at_path path) (c.in_ok-n.ensures.stays told) ∙ file in
    let n = c.in_ok-n.n in
    let behind = drop c.min-room.result c.args.buf.now in
    ap (take (self.at + n)) after
    ∙ came m.0 c.read.new.buf behind self.at n
    (omega (arith, c.in_ok-n.ensures.fits, c.read.auto.buf)) m.2
    ∙ ap (λ (l : List ℕ). take self.at l ++ take n (c.read.new.buf ++ behind)) (sym file)

pub returns-clause-end : goal.returns-clause-end
returns-clause-end g c told none room =
    let self = c.args.self.now in
    let path = self.path.now in
    let m = c.in_ok-n.ensures.moved told in
    let file : bytes_at_path path (g.F.Folder.holds self.folder.now) ≡ m.0 = ap or_none m.1 in
    let few = (file_is path (g.F.Folder.holds self.folder.now)
    (g.met.F.Folder.holds_bytes self.folder.now)).few in
    let over : length m.0 ≤ self.at = elim (cases_lt 0 c.min-room.result) [
      | inl some ↦ m.3 none (grind (arith, common_steps, c.min-room.ensures))
      | inr no_room ↦ omega (arith, ap length file, few, c.min-room.ensures, room)
    ] in
    ap (drop self.at) file ∙ drop_all self.at m.0 over

pub returns-clause-rest : goal.returns-clause-rest
returns-clause-rest g c told =
    rest_of c.read.new.buf c.args.buf.now c.in_ok-n.n c.min-room.result
    (omega (arith, c.in_ok-n.ensures.fits, c.read.auto.buf)) c.in_ok-n.ensures.fits
    (c.in_ok-n.ensures.rest told)

-- ---- what is counted, and kept

pub returns-clause-cause : goal.returns-clause-cause
returns-clause-cause g c =
    let self = c.args.self.now in
    let tells = g.F.Folder.tells in
    let held = g.F.Folder.holds self.folder.now in
    let failing = g.F.Folder.may_fail self.folder.now in
    let sure = sure_stays tells held (g.F.Folder.holds c.read.new.self) failing
    (g.F.Folder.may_fail c.read.new.self) self.path.now c.in_ok-n.ensures.stays
    c.in_ok-n.ensures.paths in
    λ i. unsure_faults (sure i) (c.in_ok-n.ensures.cause i)

pub returns-clause-keeps : goal.returns-clause-keeps
returns-clause-keeps g c =
    let self = c.args.self.now in
    let tells = g.F.Folder.tells in
    let held = g.F.Folder.holds self.folder.now in
    let failing = g.F.Folder.may_fail self.folder.now in
    let held' = g.F.Folder.holds c.read.new.self in
    let failing' = g.F.Folder.may_fail c.read.new.self in
    let told = told_stays tells held held' failing failing' c.in_ok-n.ensures.stays
    c.in_ok-n.ensures.paths in
    let sure = sure_stays tells held held' failing failing' self.path.now
    c.in_ok-n.ensures.stays c.in_ok-n.ensures.paths in
    λ i. (
      self.folder.ghost_name,
      self.path.now,
      told i,
      sure i,
      sure_faults (sure i) (c.in_ok-n.ensures.cause i),
    )

pub returns-in_err-n-clause-cause : goal.returns-in_err-n-clause-cause
returns-in_err-n-clause-cause g c =
    let self = c.args.self.now in
    let tells = g.F.Folder.tells in
    let held = g.F.Folder.holds self.folder.now in
    let failing = g.F.Folder.may_fail self.folder.now in
    let held' = g.F.Folder.holds c.read.new.self in
    let failing' = g.F.Folder.may_fail c.read.new.self in
    let p = err_from_is_err_and c.from_residual.result c.from_residual.ensures.1 in
    rw (p.1) (unsure_rose (is_sure tells held failing self.path.now)
    (is_sure tells held' failing' self.path.now) (g.F.Folder.faults self.folder.now)
    (g.F.Folder.faults c.read.new.self)
    (failed_unsure tells held failing self.path.now c.in_err-n.ensures.because)
    (sure_stays tells held held' failing failing' self.path.now c.in_err-n.ensures.stays
    c.in_err-n.ensures.paths) c.in_err-n.ensures.cause)

pub returns-in_err-n-clause-keeps : goal.returns-in_err-n-clause-keeps
returns-in_err-n-clause-keeps g c =
    let self = c.args.self.now in
    let tells = g.F.Folder.tells in
    let held = g.F.Folder.holds self.folder.now in
    let failing = g.F.Folder.may_fail self.folder.now in
    let held' = g.F.Folder.holds c.read.new.self in
    let failing' = g.F.Folder.may_fail c.read.new.self in
    let told = told_stays tells held held' failing failing' c.in_err-n.ensures.stays
    c.in_err-n.ensures.paths in
    let sure = sure_stays tells held held' failing failing' self.path.now
    c.in_err-n.ensures.stays c.in_err-n.ensures.paths in
    let count = sure_stayed (is_sure tells held failing self.path.now)
    (is_sure tells held' failing' self.path.now) (g.F.Folder.faults self.folder.now)
    (g.F.Folder.faults c.read.new.self)
    (failed_unsure tells held failing self.path.now c.in_err-n.ensures.because) sure in
    λ i. (self.folder.ghost_name, self.path.now, told i, sure i, count i)
