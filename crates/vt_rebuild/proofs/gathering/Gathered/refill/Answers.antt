use Rattle.std.proofs.Common.{rules}
use Rattle.std.proofs.lemmas.Result.{err_from_is_err_and}
use Rattle.std.proofs.lemmas.List.Sorted.{IsNonDecreasingBy-from_sort_by_key}
use Rattle.vt_base.specs.declared.place.Entry.{Entry}
use Rattle.vt_model.specs.Places.{bucket_of}
use Rattle.vt_rebuild.proofs.Gathers.{gathered_in_order}
use Rattle.vt_rebuild.proofs.gathering.Gathered.refill.Goals as goal

pub returns-clause-gathered : goal.returns-clause-gathered
returns-clause-gathered g c = λ setup h tells sound versions buckets.
    gathered_in_order g.S.Scorer.score_of setup h c.args.first c.range_end-end.result 0 c.gather.new.entries.items c.sort_unstable_by_key.new.self.items
    c.sort_unstable_by_key.ensures.permutation (c.in_ok-gather.ensures.gathered setup h tells sound versions buckets)

pub returns-clause-order : goal.returns-clause-order
returns-clause-order g c =
    IsNonDecreasingBy-from_sort_by_key (λ (entry : Entry). bucket_of c.args.self.now.total entry.key.score.0) c.sort_unstable_by_key.new.self.items
    c.sort_unstable_by_key.ensures.sorted (λ a r f' called. search rules)

pub returns-in_err-gather-clause-undamaged : goal.returns-in_err-gather-clause-undamaged
returns-in_err-gather-clause-undamaged g c = λ h tells sound.
    let p = err_from_is_err_and c.from_residual.result c.from_residual.ensures.1 in
    rw (p.1, p.2) (c.in_err-gather.ensures.undamaged h tells sound)
