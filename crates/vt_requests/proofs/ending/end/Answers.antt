use Rattle.std.proofs.Common.{◌≤◌, ℕ, Result, sym, ◌∙◌, ap, subst}
use Rattle.std.specs.Prelude.{OnOk}
use Rattle.vt_base.specs.declared.why.Why.{Why}
use Rattle.vt_core.specs.Core.{CoreState, devices_of, history_len}
use Rattle.vt_core.specs.Files.{all_of}
use Rattle.vt_requests.specs.Ending.{Ends, first_of}
use Rattle.vt_requests.specs.Working.{DoesWork, NeedsDurable}
use Rattle.vt_requests.proofs.EndsAll.{ended, saves_alone}
use Rattle.vt_requests.proofs.Risen.{fits_in}
use Rattle.vt_requests.proofs.ending.end.Goals as goal

pub returns : goal.returns
returns g c =
    let number = c.history_len-number.ensures.len in
    let old : CoreState g.row.D.Denot = c.args.core.now in
    let k1 : CoreState g.row.D.Denot = c.commit-committed.new.core in
    let k2 : CoreState g.row.D.Denot = c.file_all-filed.new.core in
    let new : CoreState g.row.D.Denot = c.save_filter-saved.new.core in
    subst (λ (r : Result (Unit {0}) Why). Ends g.S.Scorer.score_of g.D.Disk r old new)
    (sym (c.first_of-2.ensures ∙ ap (λ (r : Result (Unit {0}) Why). first_of r c.save_filter-saved.result) c.first_of.ensures))
    (ended g.S.Scorer.score_of g.D.Disk (λ k. fits_in g.D.Disk.faults g.met.D.Disk.faults_fit (all_of (devices_of k)))
    c.commit-committed.result c.file_all-filed.result c.save_filter-saved.result old k1 k2 new
    (subst (λ (n : ℕ). DoesWork g.S.Scorer.score_of g.D.Disk (NeedsDurable n) c.commit-committed.result old k1) number c.commit-committed.ensures.works)
    (λ done is. subst (λ (r : Result (Unit {0}) Why). OnOk r (history_len old ≤ k1.log.durable)) is
    (subst (λ (n : ℕ). OnOk c.commit-committed.result (n ≤ k1.log.durable)) number c.commit-committed.ensures.durable))
    c.file_all-filed.ensures
    c.save_filter-saved.ensures.works
    (saves_alone g.S.Scorer.score_of g.D.Disk c.save_filter-saved.result k2 new c.save_filter-saved.ensures.works)
    (λ done is b at. c.save_filter-saved.ensures.saved b is at))
