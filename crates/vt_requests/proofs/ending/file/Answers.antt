use Rattle.std.proofs.Common.{◌≡◌, ℕ, Ok, Err, Result, inl, inr, refl, sym, subst, arith}
use Rattle.vt_base.specs.declared.why.Why.{Why}
use Rattle.vt_core.specs.declared.event.Event.{Event}
use Rattle.vt_core.specs.declared.event.Event.TheVariants.{FileAdvance, FileBegin}
use Rattle.vt_requests.specs.Working.{DoesWork, FilesEntries, IsOwnWork}
use Rattle.vt_requests.proofs.AtShard.{begin_went_on, begun_ends}
use Rattle.vt_requests.proofs.WorkDone.{AreOwn, did, handed_on, one_piece, work_for, work_then}
use Rattle.vt_requests.proofs.ending.file.Goals as goal

advances_own : {D : Type 0} (shard : ℕ) → AreOwn {D = D} (λ event k. event ≡ FileAdvance shard)
advances_own shard event k is = subst (λ (e : Event). IsOwnWork e) (sym is) tt

pub returns-in_err-advance_file-clause-works : goal.returns-in_err-advance_file-clause-works
returns-in_err-advance_file-clause-works g c =
    subst (λ (r : Result (Unit {0}) Why). DoesWork g.S.Scorer.score_of g.D.Disk (FilesEntries c.args.shard) r c.args.core.now c.advance_file.new.core)
    (sym (handed_on c.from_residual.result c.in_err-advance_file.field-0.0 c.from_residual.ensures.1))
    (work_for g.S.Scorer.score_of g.D.Disk (λ event k. event ≡ FileAdvance c.args.shard) (FilesEntries c.args.shard) (advances_own c.args.shard) (Err c.in_err-advance_file.field-0.0) c.args.core.now c.advance_file.new.core
    (λ event k same is. inr is) c.in_err-advance_file.ensures.works)

pub step-requires : goal.step-requires
step-requires g c =
    let made = did g.S.Scorer.score_of g.D.Disk (λ event k. event ≡ FileAdvance c.args.shard) (advances_own c.args.shard) (Ok tt) c.args.core.now c.advance_file.new.core c.in_ok-advance_file.ensures.works in
    omega (arith, made.worked.keeps.store.shards, c.requires)

pub advance_file-requires-2 : goal.advance_file-requires-2
advance_file-requires-2 g c =
    let made = did g.S.Scorer.score_of g.D.Disk (λ event k. event ≡ FileAdvance c.args.shard) (advances_own c.args.shard) (Ok tt) c.args.core.now c.advance_file.new.core c.in_ok-advance_file.ensures.works in
    omega (arith, made.worked.keeps.store.shards, c.requires, c.step.ensures.goes_on.store.shards)

pub returns-clause-works : goal.returns-clause-works
returns-clause-works g c =
    work_then {T = Unit {0}} {U = Unit {0}} g.S.Scorer.score_of g.D.Disk (FilesEntries c.args.shard) tt c.advance_file-2.result c.args.core.now c.step.new.self c.advance_file-2.new.core
    (work_then {T = Unit {0}} {U = Unit {0}} g.S.Scorer.score_of g.D.Disk (FilesEntries c.args.shard) tt (Ok tt) c.args.core.now c.advance_file.new.core c.step.new.self
    (work_for g.S.Scorer.score_of g.D.Disk (λ event k. event ≡ FileAdvance c.args.shard) (FilesEntries c.args.shard) (advances_own c.args.shard) (Ok tt) c.args.core.now c.advance_file.new.core
    (λ event k same is. inr is) c.in_ok-advance_file.ensures.works)
    (one_piece g.S.Scorer.score_of g.D.Disk (FilesEntries c.args.shard) tt (FileBegin c.args.shard) c.step.result c.advance_file.new.core c.step.new.self (inl refl)
    (begin_went_on c.args.shard c.advance_file.new.core c.step.new.self c.step.result c.step.ensures.does) c.step.ensures))
    (work_for g.S.Scorer.score_of g.D.Disk (λ event k. event ≡ FileAdvance c.args.shard) (FilesEntries c.args.shard) (advances_own c.args.shard) c.advance_file-2.result c.step.new.self c.advance_file-2.new.core
    (λ event k same is. inr is) c.advance_file-2.ensures.works)

pub returns-clause-filed : goal.returns-clause-filed
returns-clause-filed g c = c.advance_file-2.ensures.filed
    (begun_ends c.args.shard c.advance_file.new.core c.step.new.self c.step.result c.in_ok-advance_file.ensures.rests c.step.ensures.does)
