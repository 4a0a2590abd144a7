use Rattle.std.proofs.Common.{ap, ◌∙◌}
use Rattle.rayon.proofs.ToStd.{slice-AllZip}
use Rattle.vt_check.specs.declared.clumps.Cut.{Cut}
use Rattle.vt_check.specs.declared.clumps.Tested.{Tested}
use Rattle.vt_check.specs.Following.{TestsAs, cut_bytes}
use Rattle.vt_check.proofs.clumps.test_clumps.Goals as goal

pub returns-in-Ok-clause-tested : goal.returns-in-Ok-clause-tested
returns-in-Ok-clause-tested g c =
    let h = c.in-Ok.ensures in
    let chain = rw (c.map.ensures.base, c.map.ensures.f) at h.1 in
    let slice = ap (λ it. it.slice.now) c.with_min_len.ensures.base ∙ c.par_iter.ensures in
    rw h.2 (slice-AllZip chain.0 c.args.cuts.now (chain.1 ∙ slice)
    (λ (cut : Cut) (found : Tested). TestsAs g.S.Scorer.score_of (cut_bytes c.args.bytes.now cut) cut.entry found) h.0 chain.2)
