use Rattle.std.proofs.Common.{◌≤◌, ℕ, List, Option, Some, length, ap, subst, arith}
use Rattle.std.proofs.lemmas.Option.{slice_get_within}
use Rattle.std.specs.Prelude.{OnOk}
use Rattle.vt_core.specs.Core.{history_len}
use Rattle.vt_requests.specs.Working.{DoesWork, NeedsDurable}
use Rattle.vt_requests.proofs.SyncTold.{answered, durable_is_own}
use Rattle.vt_requests.proofs.WorkDone.{did}
use Rattle.vt_requests.proofs.requests.end_wait.Goals as goal

pub step-requires : goal.step-requires
step-requires g c =
    let made = did g.S.Scorer.score_of g.D.Disk (NeedsDurable c.history_len-number.result) (durable_is_own c.history_len-number.result) c.commit-made.result c.args.core.now c.commit-made.new.core c.commit-made.ensures.works in
    omega (arith, slice_get_within c.args.core.now.waiting c.args.session (Some (history_len c.args.core.now)) c.requires, ap (λ (ws : List (Option ℕ)). length ws) made.worked.keeps.waiting)

pub unreachable-requires : goal.unreachable-requires
unreachable-requires g c =
    let works = subst (λ (n : ℕ). DoesWork g.S.Scorer.score_of g.D.Disk (NeedsDurable n) c.commit-made.result c.args.core.now c.commit-made.new.core) c.history_len-number.ensures.len c.commit-made.ensures.works in
    let durable = subst (λ (n : ℕ). OnOk c.commit-made.result (n ≤ c.commit-made.new.core.log.durable)) c.history_len-number.ensures.len c.commit-made.ensures.durable in
    let it = answered g.S.Scorer.score_of g.D.Disk c.args.session c.args.core.now c.commit-made.new.core c.step.new.self c.commit-made.result c.step.result c.requires works durable c.step.ensures.does in
    c.in_default.not-Said it.0 it.1
